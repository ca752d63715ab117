use Rattle.std.proofs.Common.{◌≡◌, ◌∙◌, ℕ, arith, subst, sym}
use Rattle.sector_disk.specs.Trail.{Content}
use Rattle.past_pages.specs.Laying.{StandsFrom}
use Rattle.past_pages.proofs.StillReads.{still_both, still_reads}
use Rattle.desk_past.proofs.Apart.{part_far, part_room}
use Rattle.former_stores.specs.Former.{SaysOfStart}
use Rattle.former_stores.proofs.Formers.{goes_there, not_older, part_found}
use Rattle.former_stores.proofs.former.stretch_before.Goals as goal

pub told_of-requires-2-clause-start : goal.told_of-requires-2-clause-start
told_of-requires-2-clause-start g c =
    let room = part_room c.sectors.result c.in-Some-part_at.part.base c.in-Some-part_at.part.end (omega arith) c.in-Some-part_at.ensures.is in
    let high = room.room in
    record { numbered = room.numbered; room = omega (arith, high, c.sectors.ensures) }

-- ---- nothing is found

pub returns-in_default-clause-found : goal.returns-in_default-clause-found
returns-in_default-clause-found g c = λ honest has.
    (rw c.in_default.is at c.in_ok-told.ensures.told) honest has.standing has.stands

pub returns-in_default-part_at-clause-found : goal.returns-in_default-part_at-clause-found
returns-in_default-part_at-clause-found g c = λ honest has.
    let says = (rw c.in-Some.is at c.in_ok-told.ensures.told) honest in
    let large : c.sectors.result ≡ g.D.Disk.size c.args.store.now.disk =
    c.sectors.ensures ∙ c.told_of.ensures.still.left.disk.device.as_large in
    let there = goes_there c.standing_law.ensures c.sectors.result c.in-Some.told large says has in
    c.in_default-part_at.ensures.all has.from has.end there.0 there.1 there.2

pub returns-in_default-2-clause-found : goal.returns-in_default-2-clause-found
returns-in_default-2-clause-found g c = λ honest has.
    let says = (rw c.in-Some.is at c.in_ok-told.ensures.told) honest in
    let still = c.told_of.ensures.still in
    let large : c.sectors.result ≡ g.D.Disk.size c.args.store.now.disk = c.sectors.ensures ∙ still.left.disk.device.as_large in
    let there = goes_there c.standing_law.ensures c.sectors.result c.in-Some.told large says has in
    let found = c.in-Some-part_at.ensures.all has.from has.end there.0 there.1 there.2 in
    let same = still_reads g.D.Disk still (c.shows_what_crashes_leave.ensures.quiet c.requires.usable honest) honest in
    (rw c.in_default-2.is at c.in_ok-first.ensures.told) (still.left.disk.device.still honest) has.first
    (subst (λ (x : Content × ℕ). StandsFrom x.0 x.1 has.first) (λ i. (sym same i, sym found.0 i)) has.begins)

pub returns-in_default-2-clause-still : goal.returns-in_default-2-clause-still
returns-in_default-2-clause-still g c = still_both g.D.Disk c.told_of.ensures.still c.told_of-2.ensures.still

pub returns-in_err-first-clause-still : goal.returns-in_err-first-clause-still
returns-in_err-first-clause-still g c = still_both g.D.Disk c.told_of.ensures.still c.told_of-2.ensures.still

pub returns-then-first-told-clause-found : goal.returns-then-first-told-clause-found
returns-then-first-told-clause-found g c = λ honest has.
    let says = (rw c.in-Some.is at c.in_ok-told.ensures.told) honest in
    let still = c.told_of.ensures.still in
    let large : c.sectors.result ≡ g.D.Disk.size c.args.store.now.disk = c.sectors.ensures ∙ still.left.disk.device.as_large in
    let there = goes_there c.standing_law.ensures c.sectors.result c.in-Some.told large says has in
    let found = c.in-Some-part_at.ensures.all has.from has.end there.0 there.1 there.2 in
    let same = still_reads g.D.Disk still (c.shows_what_crashes_leave.ensures.quiet c.requires.usable honest) honest in
    not_older c.standing_law.ensures c.in-Some.told c.in-Some-2.first c.in-Some-part_at.part.base says has found.0
    (subst (λ r. SaysOfStart r c.in-Some-part_at.part.base c.in-Some-2.first) same
    ((rw c.in-Some-2.is at c.in_ok-first.ensures.told) (still.left.disk.device.still honest)))
    (omega (arith, c.if-first-told.true))

pub returns-then-first-told-clause-still : goal.returns-then-first-told-clause-still
returns-then-first-told-clause-still g c = still_both g.D.Disk c.told_of.ensures.still c.told_of-2.ensures.still

-- ---- what is found

pub returns-clause-found : goal.returns-clause-found
returns-clause-found g c = λ honest.
    let says = (rw c.in-Some.is at c.in_ok-told.ensures.told) honest in
    let still = c.told_of.ensures.still in
    let large : c.sectors.result ≡ g.D.Disk.size c.args.store.now.disk = c.sectors.ensures ∙ still.left.disk.device.as_large in
    let same = still_reads g.D.Disk still (c.shows_what_crashes_leave.ensures.quiet c.requires.usable honest) honest in
    part_found c.in-Some.told c.in-Some-2.first c.in-Some-part_at.part.base c.in-Some-part_at.part.end large c.requires.start.room says
    c.in-Some-part_at.ensures.is c.in-Some-part_at.ensures.within
    (subst (λ r. SaysOfStart r c.in-Some-part_at.part.base c.in-Some-2.first) same
    ((rw c.in-Some-2.is at c.in_ok-first.ensures.told) (still.left.disk.device.still honest)))
    (omega (arith, c.if-first-told.false))

pub returns-clause-inside : goal.returns-clause-inside
returns-clause-inside g c =
    let within = c.in-Some-part_at.ensures.within in
    let end = c.in-Some-part_at.ensures.is.room in
    let large = c.told_of.ensures.still.left.disk.device.as_large in
    record {
      behind = part_far c.sectors.result c.in-Some-part_at.part.base c.in-Some-part_at.part.end c.in-Some-part_at.ensures.is;
      numbered = omega (arith, within.0);
      room = omega (arith, within.0, within.1, end, large, c.sectors.ensures);
    }

pub returns-clause-still : goal.returns-clause-still
returns-clause-still g c = still_both g.D.Disk c.told_of.ensures.still c.told_of-2.ensures.still
