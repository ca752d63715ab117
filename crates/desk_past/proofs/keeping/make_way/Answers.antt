use Rattle.store_layout.specs.declared.layout.TheConstants.{STORE_SECTORS}
use Rattle.std.proofs.Common.{inl, inr, arith, rules}
use Rattle.std.proofs.lemmas.Result.{on_ok_weaker}
use Rattle.sector_disk.proofs.Touching.{weakened}
use Rattle.past_pages.proofs.StillReads.{still_none}
use Rattle.desk_past.proofs.Begun.{desktop_spared, spared_none}
use Rattle.desk_past.proofs.Remembering.{read_moments}
use Rattle.desk_past.proofs.Ways.{room_or_due, way_none}
use Rattle.desk_past.proofs.Sparing.{only_none, uses_only}
use Rattle.desk_past.proofs.keeping.make_way.Goals as goal

-- ---- nothing is due, or can be made

pub returns-then-not-can_turn-clause-any_moment : goal.returns-then-not-can_turn-clause-any_moment
returns-then-not-can_turn-clause-any_moment g c = λ honest start deeds desktop keeps can.
    read_moments g.D.Disk keeps honest (c.shows_what_crashes_leave.ensures.quiet keeps.usable honest)
    c.args.store.now (still_none g.D.Disk c.args.store.now keeps.usable).left.disk

pub returns-then-not-can_turn-clause-none_forgotten : goal.returns-then-not-can_turn-clause-none_forgotten
returns-then-not-can_turn-clause-none_forgotten g c = λ honest start deeds desktop keeps lies.
    weakened (read_moments g.D.Disk keeps honest (c.shows_what_crashes_leave.ensures.quiet keeps.usable honest)
    c.args.store.now (still_none g.D.Disk c.args.store.now keeps.usable).left.disk) (λ c was. inl was)

pub returns-then-not-can_turn-clause-moments : goal.returns-then-not-can_turn-clause-moments
returns-then-not-can_turn-clause-moments g c = desktop_spared g.D.Disk STORE_SECTORS 0
    c.args.store.now c.args.store.now (omega arith) c.shows_what_crashes_leave.ensures.durable
    (spared_none g.D.Disk STORE_SECTORS 0 c.shows_what_crashes_leave.ensures.quiet)

pub returns-then-not-can_turn-clause-made : goal.returns-then-not-can_turn-clause-made
returns-then-not-can_turn-clause-made g c = way_none g.D.Disk c.args.store.now

pub returns-then-not-can_turn-clause-ended : goal.returns-then-not-can_turn-clause-ended
returns-then-not-can_turn-clause-ended g c = λ honest start deeds desktop keeps can. (
  keeps,
  elim (room_or_due c.args.store.now) [
    | inl room ↦ room
    | inr due ↦ c.can_turn.ensures.free c.if-not-can_turn.true keeps.usable (can due).later
  ],
)

pub returns-then-not-can_turn-clause-gone_over : goal.returns-then-not-can_turn-clause-gone_over
returns-then-not-can_turn-clause-gone_over g c = λ honest start deeds desktop keeps can. (
  inl keeps,
  elim (room_or_due c.args.store.now) [
    | inl room ↦ room
    | inr due ↦ c.can_turn.ensures.free c.if-not-can_turn.true keeps.usable (can due).later
  ],
)

pub returns-then-not-can_turn-clause-device : goal.returns-then-not-can_turn-clause-device
returns-then-not-can_turn-clause-device g c =
    uses_only g.D.Disk (search rules) (only_none g.D.Disk c.shows_what_crashes_leave.ensures.quiet)

-- ---- a checkpoint is due

pub turn_over-requires : goal.turn_over-requires
turn_over-requires g c =
    let can = c.can_turn.ensures.able c.if-not-can_turn.false in record { able = can.0; due = can.1 }

pub returns-clause-any_moment : goal.returns-clause-any_moment
returns-clause-any_moment g c = λ honest start deeds desktop keeps can.
    c.turn_over.ensures.any_moment honest start deeds desktop keeps
    (can (c.can_turn.ensures.able c.if-not-can_turn.false).1)

pub returns-clause-none_forgotten : goal.returns-clause-none_forgotten
returns-clause-none_forgotten g c = λ honest start deeds desktop keeps lies.
    c.turn_over.ensures.none_forgotten honest start deeds desktop keeps
    (lies (c.can_turn.ensures.able c.if-not-can_turn.false).1)

pub returns-clause-ended : goal.returns-clause-ended
returns-clause-ended g c = on_ok_weaker c.turn_over.result (λ kept honest start deeds desktop keeps can.
    kept honest start deeds desktop keeps (can (c.can_turn.ensures.able c.if-not-can_turn.false).1))
    c.turn_over.ensures.ended

pub returns-clause-gone_over : goal.returns-clause-gone_over
returns-clause-gone_over g c = on_ok_weaker c.turn_over.result (λ gone honest start deeds desktop keeps can.
    gone honest start deeds desktop keeps (can (c.can_turn.ensures.able c.if-not-can_turn.false).1))
    c.turn_over.ensures.gone_over
