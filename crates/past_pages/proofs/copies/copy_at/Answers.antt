use Rattle.std.proofs.Common.{◌≡◌, ◌∙◌, ap, arith, drop, sym}
use Rattle.std.proofs.lemmas.Bool.{false≢true}
use Rattle.sector_disk.specs.Trail.{now}
use Rattle.past_pages.proofs.CopyReads.{shown_of_copy}
use Rattle.past_pages.proofs.copies.copy_at.Goals as goal

pub returns-in_default-clause-shown : goal.returns-in_default-clause-shown
returns-in_default-clause-shown g c = λ honest other to has.
    (rw c.in_default.is at c.in_ok-copied.ensures.found) honest to has

pub returns-then-not-branch-clause-shown : goal.returns-then-not-branch-clause-shown
returns-then-not-branch-clause-shown g c = λ honest other to has.
    let found = (rw c.in-Some.is at c.in_ok-copied.ensures.found) honest to has in
    let laid = c.in_ok-lay_sectors.ensures.laid other has.sectors found.1.0 has.page.good.valid.are (sym found.0)
    (c.split_at.ensures.back ∙ ap (drop 16) c.as_slice.ensures.value ∙ found.1.1) in
    absurd (false≢true (sym c.if-not-branch.true ∙ laid.0))

pub returns-clause-shown : goal.returns-clause-shown
returns-clause-shown g c = λ honest other to has.
    let found = (rw c.in-Some.is at c.in_ok-copied.ensures.found) honest to has in
    let laid = c.in_ok-lay_sectors.ensures.laid other has.sectors found.1.0 has.page.good.valid.are (sym found.0)
    (c.split_at.ensures.back ∙ ap (drop 16) c.as_slice.ensures.value ∙ found.1.1) in
    c.in_ok-opened_copy.ensures to (shown_of_copy g.E.Disk has.sectors to has.page.good.valid c.requires.blank
    (c.lay_sectors.ensures.device.still other) c.lay_sectors.ensures.device.as_large laid.1)
