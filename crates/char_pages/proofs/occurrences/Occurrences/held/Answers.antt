use Rattle.std.proofs.Common.{◌≡◌, ◌∙◌, Some, slice_get, sym, ap, arith}
use Rattle.std.proofs.lemmas.Option.{slice_get-get_or}
use Rattle.char_pages.proofs.Occurring.{indices_more, few_known, few_of}
use Rattle.char_pages.proofs.occurrences.Occurrences.held.Goals as goal

there : (c : goal.After-many_in-held)
    → slice_get c.args.self.now.known.items c.loop-known.known-index ≡ Some c.known-item.result
there c =
    ap (λ l. slice_get l c.loop-known.known-index) (sym c.deref-known-items.ensures.value)
    ∙ slice_get-get_or c.deref-known-items.result.now c.loop-known.known-index c.known-item.result c.loop-known-test.true
    ∙ ap Some (sym c.known-item.is)

pub loop-known-preserved : goal.loop-known-preserved
loop-known-preserved c = record {
  so_far =
      let more = indices_more c.args.self.now.known.items c.loop-known.known-index c.known-item.result (there c) in
      let before = c.loop-known.invariant.so_far in
      let is = c.many_in-held.ensures in omega (arith, more, before, is);
  few =
      let known = few_known c.args.self.now.known.items c.loop-known.known-index c.known-item.result c.args.self.now.real
      (there c) in
      let most = few_of c.known-item.result known in
      let before = c.loop-known.invariant.few in
      let is = c.many_in-held.ensures in omega (arith, most, before, is);
}
