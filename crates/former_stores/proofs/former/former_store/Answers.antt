use Rattle.std.proofs.Common.{◌≡◌, ◌∙◌, arith, false, rules, sym}
use Rattle.std.specs.Prelude.{None}
use Rattle.std.proofs.lemmas.Bool.{false≢true}
use Rattle.std.proofs.lemmas.Result.{IfOk-weaker}
use Rattle.sector_disk.specs.Trail.{now}
use Rattle.sector_disk.specs.contracts.memory.MemoryDiskDisk.TheImpl.{ghosts as in_memory}
use Rattle.past_pages.proofs.Failing.{closed_of, looks_closed, looks_none, looks_read}
use Rattle.past_pages.proofs.StillReads.{still_none}
use Rattle.desk_past.proofs.InMemory.{whatever}
use Rattle.former_stores.proofs.Formers.{former_kept, former_part, kept_former}
use Rattle.former_stores.proofs.Laid.{if_some_where, some_where}
use Rattle.former_stores.proofs.former.former_store.Goals as goal

pub laid_before-requires-clause-start : goal.laid_before-requires-clause-start
laid_before-requires-clause-start g c =
    let has = c.has_store_room.ensures.0 c.if-not-has_store_room.false in
    let room = has.room in
    record { numbered = has.numbered; room = omega (arith, room, c.sectors.ensures) }

-- ---- it must be opened again

pub returns-then-is_err-clause-looks : goal.returns-then-is_err-clause-looks
returns-then-is_err-clause-looks g c = looks_closed g.D.Disk c.args.store.now
    (closed_of c.args.store.now.must_reopen c.info.result c.info.ensures.value
    (sym c.is_err.ensures.value ∙ c.if-is_err.true))

-- ---- there is no room

pub returns-then-not-has_store_room-clause-found : goal.returns-then-not-has_store_room-clause-found
returns-then-not-has_store_room-clause-found g c = λ honest has.
    let room = has.room in
    false≢true (sym c.if-not-has_store_room.true ∙ c.has_store_room.ensures.1 (record {
      numbered = omega (arith, room, c.sectors.ensures);
      room = omega (arith, room, c.sectors.ensures);
    }))

pub returns-then-not-has_store_room-clause-former : goal.returns-then-not-has_store_room-clause-former
returns-then-not-has_store_room-clause-former g c = λ honest start deeds desktop is.
    let room = is.has.room in
    absurd (false≢true (sym c.if-not-has_store_room.true ∙ c.has_store_room.ensures.1 (record {
      numbered = omega (arith, room, c.sectors.ensures);
      room = omega (arith, room, c.sectors.ensures);
    })))

pub returns-then-not-has_store_room-clause-still : goal.returns-then-not-has_store_room-clause-still
returns-then-not-has_store_room-clause-still g c =
    let usable : c.args.store.now.must_reopen ≡ false = search rules in
    still_none g.D.Disk c.args.store.now usable

pub returns-then-not-has_store_room-clause-looks : goal.returns-then-not-has_store_room-clause-looks
returns-then-not-has_store_room-clause-looks g c =
    let usable : c.args.store.now.must_reopen ≡ false = search rules in
    looks_none g.D.Disk None c.args.store.now usable

-- ---- what is found

pub returns-clause-former : goal.returns-clause-former
returns-clause-former g c = IfOk-weaker c.laid_before.result _ _ (λ found fact honest start deeds desktop is.
    some_where found (fact honest) (λ none. none (former_part c.standing_law.ensures is))
    (λ shown there. former_kept c.standing_law.ensures in_memory (now (g.D.Disk.trail c.args.store.now.disk)).reads shown
    there is)) c.laid_before.ensures.found

pub returns-clause-no_other : goal.returns-clause-no_other
returns-clause-no_other g c = IfOk-weaker c.laid_before.result _ _ (λ found fact. if_some_where _ found fact
    (λ shown there honest start deeds desktop whole. kept_former c.standing_law.ensures in_memory
    (now (g.D.Disk.trail c.args.store.now.disk)).reads shown (there honest) whole)) c.laid_before.ensures.found

pub returns-clause-still : goal.returns-clause-still
returns-clause-still g c = whatever c.laid_before.result c.laid_before.ensures.still

pub returns-clause-looks : goal.returns-clause-looks
returns-clause-looks g c =
    let usable : c.args.store.now.must_reopen ≡ false = search rules in
    looks_read g.D.Disk c.laid_before.result usable c.laid_before.ensures.still c.laid_before.ensures.faults
