use Rattle.std.proofs.Common.{◌≡◌, ◌+◌, refl, sym, subst, ◌-◌, ◌/◌, length, ◌∙◌, ap, arith}
use Rattle.std.proofs.lemmas.List.{length-drop}
use Rattle.sector_disk.specs.declared.disk.TheConstants.{SECTOR_BYTES}
use Rattle.char_pages.specs.Occurrences.{AreIndices}
use Rattle.char_pages.proofs.Caching.{below_moved}
use Rattle.char_pages.proofs.pages.Pages.settle.Goals as goal

pub invariant_of-self-clause-few : goal.invariant_of-self-clause-few
invariant_of-self-clause-few c =
    let p = c.args.self.now in
    let left : length c.drop_front.new.bytes.items ≡ length p.rest.items - (c.args.saved - p.saved) =
    ap length c.drop_front.ensures ∙ length-drop (c.args.saved - p.saved) p.rest.items in
    omega (arith, left, c.requires.more.0, c.requires.more.1, p.few)

pub invariant_of-self-clause-below : goal.invariant_of-self-clause-below
invariant_of-self-clause-below c =
    let p = c.args.self.now in
    below_moved {many = p.saved / SECTOR_BYTES} {more = c.args.saved / SECTOR_BYTES} (omega (arith, c.requires.more.0))
    (λ some. c.requires.place (omega (arith, some))) p.below

pub invariant_of-self-clause-known : goal.invariant_of-self-clause-known
invariant_of-self-clause-known c = λ k counted there.
    let less = c.args.self.now.known k counted there in omega (arith, less, c.requires.more.0)

-- of no sector anything is known where none holds characters
pub returns-clause-read : goal.returns-clause-read
returns-clause-read c = record {
  cached = refl;
  told = λ content was. record {
    cached = was.cached;
    found = λ k counted there.
        let less = c.args.self.now.known k counted there in
        subst (λ base. AreIndices c.args.self.now.occurrences.wanted (content (base + counted.number)) counted.indices.items)
        (sym (c.requires.place (omega (arith, less)))) (was.found k counted there);
  };
}
