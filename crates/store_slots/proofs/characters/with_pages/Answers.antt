use Rattle.std.proofs.Common.{◌≡◌, ◌%◌, ◌*◌, ◌++◌, length, take, ◌∙◌, ap, sym, subst, arith}
use Rattle.std.proofs.lemmas.List.{length-take-le}
use Rattle.sector_disk.specs.declared.disk.TheConstants.{SECTOR_BYTES}
use Rattle.sector_disk.specs.Stored.{stored}
use Rattle.char_pages.specs.declared.pages.Pages.{Pages}
use Rattle.char_pages.specs.Pages.{paged_characters, IsTrueOf}
use Rattle.store_layout.specs.Layout.{area_start}
use Rattle.store_layout.specs.Meaning.{full_sectors, left_over}
use Rattle.store_slots.proofs.Counting.{few_written, over_pages}
use Rattle.store_slots.proofs.characters.with_pages.Goals as goal

pub new-requires-clause-few : goal.new-requires-clause-few
new-requires-clause-few c =
    let few = few_written c.args.desktop c.requires.whole in
    let long = length-take-le (c.args.head.now.written % SECTOR_BYTES) c.args.tail.now (omega (arith, c.told-tail)) in
    omega (arith, few, c.requires.count, long)

pub over-requires-clause-over : goal.over-requires-clause-over
over-requires-clause-over c =
    let pages = c.in_ok-pages.pages in
    let e = c.in_ok-pages.ensures in
    let long : length pages.rest.items ≡ c.args.head.now.written % SECTOR_BYTES = ap length e.rest
    ∙ length-take-le (c.args.head.now.written % SECTOR_BYTES) c.args.tail.now (omega (arith, c.told-tail)) in
    over_pages pages c.args.desktop c.requires.whole (omega (arith, c.requires.count, long, e.saved))

pub returns-clause-characters : goal.returns-clause-characters
returns-clause-characters c = λ content.
    let p = c.in_ok-pages.pages in
    let e = c.in_ok-pages.ensures in
    let base : p.base ≡ area_start c.args.head.now.area = e.base ∙ c.area_start.ensures in
    let full : p.saved ≡ SECTOR_BYTES * full_sectors c.args.head.now.written = omega (arith, e.saved) in
    let rest : p.rest.items ≡ take (left_over c.args.head.now.written) c.args.tail.now = e.rest in
    ap (λ (x : Pages). paged_characters content x) c.over.ensures.pages
    ∙ (λ i. stored content (base i) (full i) ++ rest i)

pub returns-clause-empty : goal.returns-clause-empty
returns-clause-empty c = record {
  told = λ content. subst (IsTrueOf content) (sym c.over.ensures.pages) (c.in_ok-pages.ensures.told content);
  lines = c.over.ensures.lines;
}
