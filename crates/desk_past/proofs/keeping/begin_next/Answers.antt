use Rattle.std.proofs.Common.{◌≡◌, ◌+◌, ◌⊎◌, inl, inr, ◌∙◌, ap, arith, refl, rules, subst, sym, true, false}
use Rattle.std.proofs.lemmas.Bool.{false≢true}
use Rattle.store_layout.proofs.Bits.{true_or_false}
use Rattle.sector_disk.specs.Trail.{now}
use Rattle.sector_disk.proofs.Touching.{weakened}
use Rattle.std.specs.Prelude.{Err, Result}
use Rattle.std.proofs.lemmas.Result.{err_from_is_err_and}
use Rattle.sector_disk.specs.declared.disk.Disk.{Ghosts}
use Rattle.sector_disk.specs.Faults.{FailsAs}
use Rattle.store_slots.specs.Errors.{OfDesktop}
use Rattle.store_slots.specs.declared.error.Error.{Error}
use Rattle.store_slots.specs.declared.error.Error.TheVariants.{Fault}
use Rattle.desk_journal.specs.View.{StoreView}
use Rattle.past_pages.specs.Parts.{HasParts, IsPastPart, LiesBeside}
use Rattle.past_pages.specs.declared.parts.TheConstants.{PART_SECTORS}
use Rattle.past_pages.proofs.Failing.{error_from, none_failed}
use Rattle.past_pages.proofs.StillReads.{still_none, still_shows}
use Rattle.desk_past.specs.Beginning.{HasStartRoom, IsBegunOrAside, IsStoppedBy}
use Rattle.desk_past.specs.Keeping.{CanTurn}
use Rattle.desk_past.proofs.Apart.{lies_beside, part_far, part_room}
use Rattle.desk_past.proofs.Begun.{aside_none, renewed_aside, same_both}
use Rattle.desk_past.proofs.GoingOn.{forgets_begun, leaves_begun, leaves_read}
use Rattle.desk_past.proofs.InMemory.{fails_none}
use Rattle.desk_past.proofs.Over.{apart_next, begun_behind_it, can_still, counted_still, over_still, used_fails, way_begun}
use Rattle.desk_past.proofs.Remembering.{read_moments}
use Rattle.desk_past.proofs.Sparing.{only_begun, only_none, only_read, uses_only}
use Rattle.desk_past.proofs.Ways.{room_renewed, way_aside}
use Rattle.desk_past.proofs.keeping.begin_next.Goals as goal

pub oldest_base-requires-clause-parts : goal.oldest_base-requires-clause-parts
oldest_base-requires-clause-parts g c =
    subst HasParts c.sectors.ensures (c.has_parts.ensures.0 c.if-not-has_parts.false)

pub begin-requires : goal.begin-requires
begin-requires g c =
    let room = part_room c.sectors.result c.in_ok-base.base _ (omega arith)
    (subst (λ n. IsPastPart n c.in_ok-base.base (c.in_ok-base.base + PART_SECTORS)) (sym c.sectors.ensures)
    c.in_ok-base.ensures.beside.part) in
    subst (λ n. HasStartRoom n c.in_ok-base.base)
    (c.sectors.ensures ∙ sym c.oldest_base.ensures.still.left.disk.device.as_large) room

-- ---- nothing is written

pub returns-then-not-has_parts-clause-none_forgotten : goal.returns-then-not-has_parts-clause-none_forgotten
returns-then-not-has_parts-clause-none_forgotten g c = λ honest start deeds desktop keeps is lies.
    weakened (read_moments g.D.Disk keeps honest (c.shows_what_crashes_leave.ensures.quiet keeps.usable honest)
    c.args.store.now (still_none g.D.Disk c.args.store.now keeps.usable).left.disk) (λ c was. inl was)

pub returns-then-not-has_parts-clause-begun : goal.returns-then-not-has_parts-clause-begun
returns-then-not-has_parts-clause-begun g c = λ honest start deeds desktop keeps is can.
    absurd (false≢true (sym c.if-not-has_parts.true
    ∙ c.has_parts.ensures.1 (subst HasParts (sym c.sectors.ensures) can.parts)))

pub returns-then-not-has_parts-clause-moments : goal.returns-then-not-has_parts-clause-moments
returns-then-not-has_parts-clause-moments g c = leaves_read g.D.Disk c.args.store.now c.args.store.now
    c.shows_what_crashes_leave.ensures.durable c.shows_what_crashes_leave.ensures.quiet
    (still_none g.D.Disk c.args.store.now c.requires.able.0)

pub returns-then-not-has_parts-clause-made : goal.returns-then-not-has_parts-clause-made
returns-then-not-has_parts-clause-made g c = way_aside g.D.Disk c.requires.able
    (aside_none g.D.Disk c.args.store.now c.requires.able.0)

pub returns-then-not-has_parts-clause-device : goal.returns-then-not-has_parts-clause-device
returns-then-not-has_parts-clause-device g c =
    uses_only g.D.Disk (search rules) (only_none g.D.Disk c.shows_what_crashes_leave.ensures.quiet)

pub returns-in_err-base-clause-none_forgotten : goal.returns-in_err-base-clause-none_forgotten
returns-in_err-base-clause-none_forgotten g c = λ honest start deeds desktop keeps is lies.
    weakened (read_moments g.D.Disk keeps honest (c.shows_what_crashes_leave.ensures.quiet keeps.usable honest)
    c.oldest_base.new.store c.oldest_base.ensures.still.left.disk) (λ c was. inl was)

pub returns-in_err-base-clause-moments : goal.returns-in_err-base-clause-moments
returns-in_err-base-clause-moments g c = leaves_read g.D.Disk c.args.store.now c.oldest_base.new.store
    c.shows_what_crashes_leave.ensures.durable c.shows_what_crashes_leave.ensures.quiet
    c.oldest_base.ensures.still

pub returns-in_err-base-clause-device : goal.returns-in_err-base-clause-device
returns-in_err-base-clause-device g c = uses_only g.D.Disk (search rules)
    (only_read g.D.Disk c.oldest_base.ensures.still.left.disk c.shows_what_crashes_leave.ensures.quiet)

-- ---- a past begins

pub returns-in_err-_begun-clause-none_forgotten : goal.returns-in_err-_begun-clause-none_forgotten
returns-in_err-_begun-clause-none_forgotten g c = λ honest start deeds desktop keeps is lies.
    let d = g.D.Disk in
    forgets_begun d c.begin.new.store keeps honest (c.shows_what_crashes_leave.ensures.quiet keeps.usable honest)
    c.oldest_base.ensures.still c.in_ok-base.base c.begin.ensures.none_forgotten
    (apart_next d keeps (d.size c.args.store.now.disk) c.args.next c.in_ok-base.base refl is lies
    (lies_beside _ _ _ c.in_ok-base.ensures.beside))

pub returns-clause-none_forgotten : goal.returns-clause-none_forgotten
returns-clause-none_forgotten g c = λ honest start deeds desktop keeps is lies.
    let d = g.D.Disk in
    forgets_begun d c.begin.new.store keeps honest (c.shows_what_crashes_leave.ensures.quiet keeps.usable honest)
    c.oldest_base.ensures.still c.in_ok-base.base c.begin.ensures.none_forgotten
    (apart_next d keeps (d.size c.args.store.now.disk) c.args.next c.in_ok-base.base refl is lies
    (lies_beside _ _ _ c.in_ok-base.ensures.beside))

pub returns-in_err-_begun-clause-moments : goal.returns-in_err-_begun-clause-moments
returns-in_err-_begun-clause-moments g c = leaves_begun g.D.Disk c.begin.new.store
    c.shows_what_crashes_leave.ensures.durable c.shows_what_crashes_leave.ensures.quiet
    c.oldest_base.ensures.still c.begin.ensures.any_moment

pub returns-clause-moments : goal.returns-clause-moments
returns-clause-moments g c = leaves_begun g.D.Disk c.begin.new.store
    c.shows_what_crashes_leave.ensures.durable c.shows_what_crashes_leave.ensures.quiet
    c.oldest_base.ensures.still c.begin.ensures.any_moment

pub returns-clause-made : goal.returns-clause-made
returns-clause-made g c = way_begun g.D.Disk c.begin.new.store c.in_ok-_begun._begun c.requires.able c.requires.due
    c.oldest_base.ensures.still c.in_ok-_begun.ensures.turned

pub returns-clause-begun : goal.returns-clause-begun
returns-clause-begun g c = λ honest start deeds desktop keeps is can.
    let d = g.D.Disk in
    let still = c.oldest_base.ensures.still in
    let quiet = c.shows_what_crashes_leave.ensures.quiet keeps.usable honest in
    let second = still.left.disk.device.still honest in
    let base = c.in_ok-base.base in
    elim (true_or_false c.in_ok-_begun._begun) [
      | inl done ↦
          let renewed = subst (λ b. IsBegunOrAside d b c.oldest_base.new.store c.begin.new.store) done
          c.in_ok-_begun.ensures.turned in
          over_still d keeps honest quiet c.oldest_base.new.store still.left.disk still.usable still.left.epoch can
          (λ mid same over. (
            begun_behind_it d c.oldest_base.new.store base c.begin.ensures.device.same.as_large renewed.usable
                (part_far _ _ _ c.in_ok-base.ensures.beside.part)
                ((c.in_ok-_begun.ensures.begun done).behind second start deeds desktop mid
                (apart_next d mid (d.size c.oldest_base.new.store.disk) c.args.next base refl (same ∙ is) over.lies
                (subst (λ n. LiesBeside n c.args.next base) (sym still.left.disk.device.as_large)
                (lies_beside _ _ _ c.in_ok-base.ensures.beside)))),
            room_renewed d renewed,
          ))
      | inr not ↦ absurd (counted_still d keeps honest quiet c.oldest_base.new.store still can
          (still_shows d still quiet honest keeps.remembers.standing keeps.remembers.past.stands)
          (c.in_ok-_begun.ensures.refused not second))
    ]

-- the errors of a store in use
used_here : {D T : Type 0} (d : Ghosts D) {mid new : StoreView D} (answer : Result T Error)
    → IsStoppedBy d answer mid new
    → CanTurn mid → FailsAs Fault OfDesktop answer (d.failures mid.disk) (d.failures new.disk)
used_here d answer stopped can = used_fails answer stopped.faults (λ is. can.1 (stopped.worn is))
    (λ is. false≢true (sym can.0 ∙ stopped.reopen is))

pub returns-in_err-_begun-clause-device : goal.returns-in_err-_begun-clause-device
returns-in_err-_begun-clause-device g c =
    let d = g.D.Disk in
    let still = c.oldest_base.ensures.still in
    let p = err_from_is_err_and c.from_residual-in_err-_begun.result c.from_residual-in_err-_begun.ensures.1 in
    let failed : c.begin.result ≡ Err p.0 = cc (p.1, p.2, c.in_err-_begun.was) in
    record {
      same = same_both d still.left.disk.device c.begin.ensures.device.same;
      faults = error_from (used_here d c.begin.result c.begin.ensures.device (can_still d still c.requires.able))
          (λ e named. named) (none_failed c.in_ok-base.ensures.faults) failed p.1;
      others = only_begun d c.begin.new.store c.args.next c.in_ok-base.base still
          c.shows_what_crashes_leave.ensures.quiet c.in_ok-base.ensures.oldest c.begin.ensures.others;
    }

pub returns-clause-device : goal.returns-clause-device
returns-clause-device g c =
    let d = g.D.Disk in
    let still = c.oldest_base.ensures.still in
    record {
      same = same_both d still.left.disk.device c.begin.ensures.device.same;
      faults = fails_none (none_failed c.in_ok-_begun.ensures.device.faults ∙ none_failed c.in_ok-base.ensures.faults);
      others = only_begun d c.begin.new.store c.args.next c.in_ok-base.base still
          c.shows_what_crashes_leave.ensures.quiet c.in_ok-base.ensures.oldest c.begin.ensures.others;
    }
