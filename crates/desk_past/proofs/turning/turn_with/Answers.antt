use Rattle.std.proofs.Common.{◌∙◌, Err, ap, rules, sym, true}
use Rattle.std.proofs.lemmas.Bool.{false≢true}
use Rattle.std.proofs.lemmas.Result.{err_from_is_err_and}
use Rattle.past_pages.specs.Page.{copy_of}
use Rattle.desk_past.proofs.Begun.{same_both}
use Rattle.desk_past.proofs.FarTurns.{far_keeps, far_moments, none_far}
use Rattle.desk_past.proofs.Sparing.{only_behind_reads, only_read, uses_only}
use Rattle.desk_past.proofs.TurnWays.{err_then, fault_on, is_fault, none_shown, shown_behind, turned_then}
use Rattle.desk_past.proofs.turning.turn_with.Goals as goal

-- ---- nothing is written

pub returns-in_err-ahead-clause-any_store : goal.returns-in_err-ahead-clause-any_store
returns-in_err-ahead-clause-any_store g c =
    none_shown g.D.Disk c.page_ahead.ensures.still c.shows_what_crashes_leave.ensures.durable
    c.shows_what_crashes_leave.ensures.quiet c.args.to.desktop

pub returns-in_err-ahead-clause-any_moment : goal.returns-in_err-ahead-clause-any_moment
returns-in_err-ahead-clause-any_moment g c = none_far g.D.Disk c.page_ahead.ensures.still
    c.shows_what_crashes_leave.ensures.quiet c.args.to.desktop

pub returns-in_err-ahead-clause-device : goal.returns-in_err-ahead-clause-device
returns-in_err-ahead-clause-device g c = uses_only g.D.Disk (search rules)
    (only_read g.D.Disk c.page_ahead.ensures.still.left.disk c.shows_what_crashes_leave.ensures.quiet)

pub returns-in_default-clause-any_store : goal.returns-in_default-clause-any_store
returns-in_default-clause-any_store g c =
    none_shown g.D.Disk c.page_ahead.ensures.still c.shows_what_crashes_leave.ensures.durable
    c.shows_what_crashes_leave.ensures.quiet c.args.to.desktop

pub returns-in_default-clause-any_moment : goal.returns-in_default-clause-any_moment
returns-in_default-clause-any_moment g c = none_far g.D.Disk c.page_ahead.ensures.still
    c.shows_what_crashes_leave.ensures.quiet c.args.to.desktop

pub returns-in_default-clause-not_done : goal.returns-in_default-clause-not_done
returns-in_default-clause-not_done g c = λ _. record {
  still = c.page_ahead.ensures.still;
  none = λ can.
      let copy = c.requires.0 in
      (rw c.in_default.is at c.in_ok-ahead.ensures.none) can.0.honest can.0.start can.0.deeds can.0.desktop
      (copy_of true copy.sectors c.args.to.desktop) can.0.keeps (c.as_slice.ensures.value ∙ copy.are) copy.good
      (can.1 copy.sectors copy.few copy.good);
}

pub returns-in_default-clause-device : goal.returns-in_default-clause-device
returns-in_default-clause-device g c = uses_only g.D.Disk (search rules)
    (only_read g.D.Disk c.page_ahead.ensures.still.left.disk c.shows_what_crashes_leave.ensures.quiet)

-- ---- the desktop is exchanged

pub returns-in_err-turn_behind-clause-any_store : goal.returns-in_err-turn_behind-clause-any_store
returns-in_err-turn_behind-clause-any_store g c =
    shown_behind g.D.Disk c.page_ahead.ensures.still c.shows_what_crashes_leave.ensures.durable
    c.shows_what_crashes_leave.ensures.quiet c.args.to.desktop c.turn_behind.new.self
    c.turn_behind.ensures.any_moment

pub returns-in_err-turn_behind-clause-any_moment : goal.returns-in_err-turn_behind-clause-any_moment
returns-in_err-turn_behind-clause-any_moment g c =
    far_moments g.D.Disk c.page_ahead.ensures.still c.shows_what_crashes_leave.ensures.quiet c.args.to.desktop
    c.requires.0 c.as_slice.ensures.value c.in-Some.ahead.past c.in-Some.ahead.from c.in-Some.ahead.limit
    c.turn_behind.new.self c.shows_what_crashes_leave-2.ensures.quiet c.turn_behind.ensures.behaves.within
    c.as_slice-bytes.ensures.value (rw c.in-Some.is at c.in_ok-ahead.ensures.ahead) c.turn_behind.ensures.comes.moments

pub returns-in_err-turn_behind-clause-left : goal.returns-in_err-turn_behind-clause-left
returns-in_err-turn_behind-clause-left g c =
    let fault = is_fault g.D.Disk c.page_ahead.ensures.still c.requires.1.1 c.turn_behind.result _
    c.in_err-turn_behind.was c.turn_behind.ensures.behaves.faults.errors c.turn_behind.ensures.behaves.reopen
    c.turn_behind.ensures.worn in
    err_then c.from_residual-in_err-turn_behind.result (λ in_use.
    absurd (false≢true (sym in_use ∙ c.turn_behind.ensures.fault (c.in_err-turn_behind.was ∙ ap Err fault))))

pub returns-in_err-turn_behind-clause-device : goal.returns-in_err-turn_behind-clause-device
returns-in_err-turn_behind-clause-device g c =
    let p = err_from_is_err_and c.from_residual-in_err-turn_behind.result
    c.from_residual-in_err-turn_behind.ensures.1 in
    let fault = is_fault g.D.Disk c.page_ahead.ensures.still c.requires.1.1 c.turn_behind.result _
    c.in_err-turn_behind.was c.turn_behind.ensures.behaves.faults.errors c.turn_behind.ensures.behaves.reopen
    c.turn_behind.ensures.worn in
    record {
      same = same_both g.D.Disk c.page_ahead.ensures.still.left.disk.device c.turn_behind.ensures.behaves.device;
      faults = fault_on c.page_ahead.result _ c.turn_behind.result c.in_ok-ahead.was c.page_ahead.ensures.faults
          c.turn_behind.ensures.behaves.faults (c.in_err-turn_behind.was ∙ ap Err fault) (cc (p.1, p.2, fault));
      others = only_behind_reads g.D.Disk c.page_ahead.new.store c.turn_behind.new.self c.in-Some.ahead.from
          c.in-Some.ahead.limit c.page_ahead.ensures.still.left.disk c.shows_what_crashes_leave.ensures.quiet
          (λ _. c.page_ahead.ensures.still.usable) (rw c.in-Some.is at c.in_ok-ahead.ensures.inside)
          c.turn_behind.ensures.behaves.within;
    }

-- ---- and is another one then

pub returns-clause-any_store : goal.returns-clause-any_store
returns-clause-any_store g c =
    shown_behind g.D.Disk c.page_ahead.ensures.still c.shows_what_crashes_leave.ensures.durable
    c.shows_what_crashes_leave.ensures.quiet c.args.to.desktop c.turn_behind.new.self
    c.turn_behind.ensures.any_moment

pub returns-clause-any_moment : goal.returns-clause-any_moment
returns-clause-any_moment g c =
    far_moments g.D.Disk c.page_ahead.ensures.still c.shows_what_crashes_leave.ensures.quiet c.args.to.desktop
    c.requires.0 c.as_slice.ensures.value c.in-Some.ahead.past c.in-Some.ahead.from c.in-Some.ahead.limit
    c.turn_behind.new.self c.shows_what_crashes_leave-2.ensures.quiet c.turn_behind.ensures.behaves.within
    c.as_slice-bytes.ensures.value (rw c.in-Some.is at c.in_ok-ahead.ensures.ahead) c.turn_behind.ensures.comes.moments

pub returns-clause-done : goal.returns-clause-done
returns-clause-done g c = λ _. (
  turned_then g.D.Disk c.page_ahead.ensures.still c.args.to c.in_ok-turn_behind.ensures.ok,
  far_keeps g.D.Disk c.page_ahead.ensures.still c.shows_what_crashes_leave.ensures.quiet c.args.to.desktop
      c.requires.0 c.as_slice.ensures.value c.in-Some.ahead.past c.in-Some.ahead.from c.in-Some.ahead.limit
      c.turn_behind.new.self c.shows_what_crashes_leave-2.ensures.quiet c.turn_behind.ensures.behaves.within
      c.as_slice-bytes.ensures.value (rw c.in-Some.is at c.in_ok-ahead.ensures.ahead)
      c.in_ok-turn_behind.ensures.ok.usable c.in_ok-turn_behind.ensures.comes.done,
)

pub returns-clause-device : goal.returns-clause-device
returns-clause-device g c = uses_only g.D.Disk (search rules)
    (only_behind_reads g.D.Disk c.page_ahead.new.store c.turn_behind.new.self c.in-Some.ahead.from c.in-Some.ahead.limit
    c.page_ahead.ensures.still.left.disk c.shows_what_crashes_leave.ensures.quiet
    (λ _. c.page_ahead.ensures.still.usable) (rw c.in-Some.is at c.in_ok-ahead.ensures.inside)
    c.turn_behind.ensures.behaves.within)
