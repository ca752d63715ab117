use Rattle.std.proofs.Common.{◌≡◌, ◌∙◌, ap, length, rules, sym}
use Rattle.std.specs.Cmp.Lexicographic.{same_text}
use Rattle.sector_disk.specs.declared.disk.TheConstants.{SECTOR_BYTES}
use Rattle.past_pages.proofs.StillReads.{still_looked, still_none, still_reads}
use Rattle.past_pages.proofs.Alike.{equal_sectors, held_as}
use Rattle.past_pages.proofs.sectors.are_alike.Goals as goal

pub returns-in_err-copy-clause-still : goal.returns-in_err-copy-clause-still
returns-in_err-copy-clause-still g c =
    still_looked g.D.Disk c.sector_at-2.result
    (still_looked g.D.Disk c.sector_at.result (still_none g.D.Disk c.args.store.now c.requires.usable)
    c.sector_at.ensures.looks)
    c.sector_at-2.ensures.looks

pub returns-clause-same : goal.returns-clause-same
returns-clause-same g c = λ is honest.
    let first = still_looked g.D.Disk c.sector_at.result (still_none g.D.Disk c.args.store.now c.requires.usable)
    c.sector_at.ensures.looks in
    let same = still_reads g.D.Disk first (c.shows_what_crashes_leave.ensures.quiet c.requires.usable honest) honest in
    ap (λ r. r c.args.other) (sym same)
    ∙ sym (c.in_ok-copy.ensures.bytes (first.left.disk.device.still honest))
    ∙ same_text c.in_ok-copy.copy c.in_ok-sector.sector (sym is ∙ c.eq.ensures)
    ∙ c.in_ok-sector.ensures.bytes honest

pub returns-clause-still : goal.returns-clause-still
returns-clause-still g c =
    still_looked g.D.Disk c.sector_at-2.result
    (still_looked g.D.Disk c.sector_at.result (still_none g.D.Disk c.args.store.now c.requires.usable)
    c.sector_at.ensures.looks)
    c.sector_at-2.ensures.looks

pub returns-clause-all : goal.returns-clause-all
returns-clause-all g c = λ honest alike.
    let first = still_looked g.D.Disk c.sector_at.result (still_none g.D.Disk c.args.store.now c.requires.usable)
    c.sector_at.ensures.looks in
    let same = still_reads g.D.Disk first (c.shows_what_crashes_leave.ensures.quiet c.requires.usable honest) honest in
    let left : length c.in_ok-copy.copy ≡ SECTOR_BYTES = search rules in
    let right : length c.in_ok-sector.sector ≡ SECTOR_BYTES = search rules in
    c.eq.ensures ∙ equal_sectors c.in_ok-copy.copy c.in_ok-sector.sector left right
    (held_as (c.in_ok-copy.ensures.bytes (first.left.disk.device.still honest) ∙ ap (λ r. r c.args.other) same)
    (c.in_ok-sector.ensures.bytes honest) alike)
