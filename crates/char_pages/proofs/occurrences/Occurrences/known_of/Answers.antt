use Rattle.std.proofs.Common.{◌≡◌, ◌+◌, ◌∙◌, Some, slice_get, subst, sym, ap, arith}
use Rattle.std.proofs.lemmas.Bool.Decides.{nat_tests}
use Rattle.std.proofs.lemmas.Option.{slice_get-get_or}
use Rattle.char_pages.specs.Occurrences.{AreFew, AreIndices}
use Rattle.char_pages.proofs.Occurring.{is_known}
use Rattle.char_pages.proofs.occurrences.Occurrences.known_of.Goals as goal

there : (c : goal.After-as_slice)
    → slice_get c.args.self.now.known.items c.place_of.result ≡ Some (Some c.in-Some.counted)
there c =
    let told = c.in_ok-counted.ensures.lookup in
    let less = told.0 in
    ap (λ l. slice_get l c.place_of.result) (sym c.deref.ensures.value)
    ∙ slice_get-get_or c.deref.result.now c.place_of.result c.in_ok-counted.field-0.now (grind (arith, nat_tests, less))
    ∙ ap Some (sym told.1 ∙ c.in-Some.is)

pub returns-in-Some-clause-found : goal.returns-in-Some-clause-found
returns-in-Some-clause-found c = λ content base found.
    subst (λ l. AreIndices c.args.self.now.wanted (content (base + c.args.n)) l) (sym c.as_slice.ensures.value)
    (is_known (λ n indices. AreIndices c.args.self.now.wanted (content (base + n)) indices) c.args.self.now.known.items
    c.place_of.result c.args.n c.in-Some.counted found (there c) c.if-counted-n.true)

pub returns-in-Some-clause-few : goal.returns-in-Some-clause-few
returns-in-Some-clause-few c = subst AreFew (sym c.as_slice.ensures.value)
    (is_known (λ n. AreFew) c.args.self.now.known.items c.place_of.result c.args.n c.in-Some.counted c.args.self.now.real
    (there c) c.if-counted-n.true)
