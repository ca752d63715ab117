use Rattle.std.proofs.lemmas.Result.{on_ok_weaker}
use Rattle.sector_disk.specs.Trail.{now}
use Rattle.store_slots.specs.Live.{seen_live}
use Rattle.store_slots.proofs.Renewing.{one_step, one_step_at, two_steps, two_steps_at, three_steps, three_steps_at}
use Rattle.store_slots.proofs.Renewing.{left_beside, shows_anew, now_new, filled_still, front_still}
use Rattle.store_slots.proofs.checkpoint.change_slot.Goals as goal

pub returns-in_err-close_slot-clause-any_moment : goal.returns-in_err-close_slot-clause-any_moment
returns-in_err-close_slot-clause-any_moment g c =
    let shown = seen_live (now (g.D.Disk.trail c.args.disk.now)).reads c.args.desktop.now in
    record {
      shown = λ honest live version number count before was.
          one_step shown was (c.close_slot.ensures.kept.moments honest);
      standings = λ honest live version number count before was.
          one_step_at shown was (c.close_slot.ensures.kept.moments honest);
    }

pub returns-in_err-write_slot-clause-any_moment : goal.returns-in_err-write_slot-clause-any_moment
returns-in_err-write_slot-clause-any_moment g c =
    let shown = seen_live (now (g.D.Disk.trail c.args.disk.now)).reads c.args.desktop.now in
    record {
      shown = λ honest live version number count before was.
          two_steps shown was (c.close_slot.ensures.kept.moments honest) (c.in_ok-close_slot.ensures.closed honest)
          (c.write_slot.ensures.kept.moments (c.close_slot.ensures.kept.still honest));
      standings = λ honest live version number count before was.
          two_steps_at shown was (c.close_slot.ensures.kept.moments honest) (c.in_ok-close_slot.ensures.closed honest)
          (c.write_slot.ensures.kept.moments (c.close_slot.ensures.kept.still honest));
    }

pub returns-clause-any_moment : goal.returns-clause-any_moment
returns-clause-any_moment g c =
    let shown = seen_live (now (g.D.Disk.trail c.args.disk.now)).reads c.args.desktop.now in
    record {
      shown = λ honest live version number count before was.
          let first = c.close_slot.ensures.kept.moments honest in
          let second = c.close_slot.ensures.kept.still honest in
          three_steps shown was first (c.in_ok-close_slot.ensures.closed honest) (c.write_slot.ensures.kept.moments second)
          (filled_still _ _ _ c.args.place.epoch c.args.place c.args.desktop.now c.requires.live first
          (c.in_ok-write_slot.ensures.filled second))
          (c.open_slot.ensures.kept.moments (c.write_slot.ensures.kept.still second));
      standings = λ honest live version number count before was.
          let first = c.close_slot.ensures.kept.moments honest in
          let second = c.close_slot.ensures.kept.still honest in
          three_steps_at shown was first (c.in_ok-close_slot.ensures.closed honest)
          (c.write_slot.ensures.kept.moments second)
          (filled_still _ _ _ c.args.place.epoch c.args.place c.args.desktop.now c.requires.live first
          (c.in_ok-write_slot.ensures.filled second))
          (c.open_slot.ensures.kept.moments (c.write_slot.ensures.kept.still second));
    }

pub returns-clause-renewed : goal.returns-clause-renewed
returns-clause-renewed g c = on_ok_weaker c.open_slot.result (λ opened.
    let shown = seen_live (now (g.D.Disk.trail c.args.disk.now)).reads c.args.desktop.now in
    record {
      shown = λ honest live version number count before was.
          let first = c.close_slot.ensures.kept.moments honest in
          let second = c.close_slot.ensures.kept.still honest in
          let third = c.write_slot.ensures.kept.still second in
          now_new shown was first (c.in_ok-close_slot.ensures.closed honest) (c.write_slot.ensures.kept.moments second)
          (filled_still _ _ _ c.args.place.epoch c.args.place c.args.desktop.now c.requires.live first
          (c.in_ok-write_slot.ensures.filled second))
          (c.open_slot.ensures.kept.moments third) (opened third);
      stands = λ honest live version number count before was.
          let first = c.close_slot.ensures.kept.moments honest in
          let second = c.close_slot.ensures.kept.still honest in
          let third = c.write_slot.ensures.kept.still second in
          shows_anew shown was first (c.in_ok-close_slot.ensures.closed honest) (c.write_slot.ensures.kept.moments second)
          (filled_still _ _ _ c.args.place.epoch c.args.place c.args.desktop.now c.requires.live first
          (c.in_ok-write_slot.ensures.filled second))
          (c.open_slot.ensures.kept.moments third) (opened third);
      beside = λ honest live version number count before was.
          let first = c.close_slot.ensures.kept.moments honest in
          let second = c.close_slot.ensures.kept.still honest in
          let third = c.write_slot.ensures.kept.still second in
          left_beside shown was first (c.in_ok-close_slot.ensures.closed honest) (c.write_slot.ensures.kept.moments second)
          (filled_still _ _ _ c.args.place.epoch c.args.place c.args.desktop.now c.requires.live first
          (c.in_ok-write_slot.ensures.filled second))
          (c.open_slot.ensures.kept.moments third);
    }) c.open_slot.ensures.opened

pub returns-clause-front : goal.returns-clause-front
returns-clause-front g c = on_ok_weaker c.open_slot.result (λ opened honest.
    let first = c.close_slot.ensures.kept.moments honest in
    let second = c.close_slot.ensures.kept.still honest in
    let filled = filled_still _ _ _ c.args.place.epoch c.args.place c.args.desktop.now c.requires.live first
    (c.in_ok-write_slot.ensures.filled second) in
    front_still _ _ c.args.place.slot _ _ _ c.args.place.two
    (c.open_slot.ensures.kept.moments (c.write_slot.ensures.kept.still second)) filled.front)
    c.open_slot.ensures.opened
