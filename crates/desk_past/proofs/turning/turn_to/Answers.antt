use Rattle.std.proofs.Common.{◌∙◌, Err, ap, rules, sym}
use Rattle.std.proofs.lemmas.Bool.{false≢true}
use Rattle.std.proofs.lemmas.Result.{err_from_is_err_and}
use Rattle.store_slots.specs.declared.error.Error.TheVariants.{MustReopen}
use Rattle.past_pages.proofs.StillReads.{still_none, usable_of}
use Rattle.desk_past.proofs.Begun.{same_both}
use Rattle.desk_past.proofs.ImportWays.{none_reopen, not_last, told_epoch}
use Rattle.desk_past.proofs.TurnWays.{err_then, fault_on, is_fault, none_shown, none_turned, shown_behind, turned_behind, turned_then}
use Rattle.desk_past.proofs.TurnWays.{turns_behind}
use Rattle.desk_past.proofs.Ways.{never, not_reopen}
use Rattle.desk_past.proofs.Sparing.{only_behind_reads, only_none, only_read, uses_only}
use Rattle.desk_past.proofs.turning.turn_to.Goals as goal

-- ---- in the last epoch

pub returns-then-info-clause-any_store : goal.returns-then-info-clause-any_store
returns-then-info-clause-any_store g c =
    let usable = usable_of c.args.store.now.must_reopen c.info.ensures.reopen c.in_ok-info.was in
    none_shown g.D.Disk (still_none g.D.Disk c.args.store.now usable) c.shows_what_crashes_leave.ensures.durable
    c.shows_what_crashes_leave.ensures.quiet c.args.to.desktop

pub returns-then-info-clause-any_moment : goal.returns-then-info-clause-any_moment
returns-then-info-clause-any_moment g c =
    let usable = usable_of c.args.store.now.must_reopen c.info.ensures.reopen c.in_ok-info.was in
    none_turned g.D.Disk (still_none g.D.Disk c.args.store.now usable) c.shows_what_crashes_leave.ensures.durable
    c.shows_what_crashes_leave.ensures.quiet c.args.k c.args.to.desktop

pub returns-then-info-clause-not_done : goal.returns-then-info-clause-not_done
returns-then-info-clause-not_done g c = λ _.
    let usable = usable_of c.args.store.now.must_reopen c.info.ensures.reopen c.in_ok-info.was in
    record {
      still = still_none g.D.Disk c.args.store.now usable;
      none = λ can. can.add.later (sym (told_epoch c.in_ok-info.was (c.info.ensures.value usable)) ∙ c.if-info.true);
    }

-- ---- the pages can't be made

pub returns-in_err-ahead-clause-any_store : goal.returns-in_err-ahead-clause-any_store
returns-in_err-ahead-clause-any_store g c =
    none_shown g.D.Disk c.turn_ahead.ensures.still c.shows_what_crashes_leave.ensures.durable
    c.shows_what_crashes_leave.ensures.quiet c.args.to.desktop

pub returns-in_err-ahead-clause-any_moment : goal.returns-in_err-ahead-clause-any_moment
returns-in_err-ahead-clause-any_moment g c =
    none_turned g.D.Disk c.turn_ahead.ensures.still c.shows_what_crashes_leave.ensures.durable
    c.shows_what_crashes_leave.ensures.quiet c.args.k c.args.to.desktop

pub returns-in_err-ahead-clause-reopen : goal.returns-in_err-ahead-clause-reopen
returns-in_err-ahead-clause-reopen g c =
    let usable = usable_of c.args.store.now.must_reopen c.info.ensures.reopen c.in_ok-info.was in
    let later = not_last c.in_ok-info.was (c.info.ensures.value usable) c.if-info.false in
    let p = err_from_is_err_and c.from_residual-in_err-ahead.result c.from_residual-in_err-ahead.ensures.1 in
    none_reopen c.turn_ahead.new.store c.from_residual-in_err-ahead.result (usable, later) (λ is.
    never c.turn_ahead.result MustReopen c.turn_ahead.ensures.faults.errors not_reopen
    (cc (p.1, p.2, is, c.in_err-ahead.was)))

pub returns-in_default-clause-any_store : goal.returns-in_default-clause-any_store
returns-in_default-clause-any_store g c =
    none_shown g.D.Disk c.turn_ahead.ensures.still c.shows_what_crashes_leave.ensures.durable
    c.shows_what_crashes_leave.ensures.quiet c.args.to.desktop

pub returns-in_default-clause-any_moment : goal.returns-in_default-clause-any_moment
returns-in_default-clause-any_moment g c =
    none_turned g.D.Disk c.turn_ahead.ensures.still c.shows_what_crashes_leave.ensures.durable
    c.shows_what_crashes_leave.ensures.quiet c.args.k c.args.to.desktop

pub returns-in_default-clause-not_done : goal.returns-in_default-clause-not_done
returns-in_default-clause-not_done g c = λ _. record {
  still = c.turn_ahead.ensures.still;
  none = λ can. (rw c.in_default.is at c.in_ok-ahead.ensures.none) c.args.to.desktop can;
}

-- ---- the desktop is exchanged

pub returns-in_err-turn_behind-clause-any_store : goal.returns-in_err-turn_behind-clause-any_store
returns-in_err-turn_behind-clause-any_store g c =
    shown_behind g.D.Disk c.turn_ahead.ensures.still c.shows_what_crashes_leave.ensures.durable
    c.shows_what_crashes_leave.ensures.quiet c.args.to.desktop c.turn_behind.new.self
    c.turn_behind.ensures.any_moment

pub returns-in_err-turn_behind-clause-any_moment : goal.returns-in_err-turn_behind-clause-any_moment
returns-in_err-turn_behind-clause-any_moment g c =
    turns_behind g.D.Disk c.turn_ahead.ensures.still c.shows_what_crashes_leave.ensures.durable
    c.shows_what_crashes_leave.ensures.quiet c.args.k c.args.to.desktop c.in-Some.ahead.past c.in-Some.ahead.from
    c.in-Some.ahead.limit c.turn_behind.new.self c.shows_what_crashes_leave-2.ensures.quiet
    c.turn_behind.ensures.behaves.within c.as_slice.ensures.value
    (rw c.in-Some.is at c.in_ok-ahead.ensures.ahead) c.turn_behind.ensures.comes.moments

pub returns-in_err-turn_behind-clause-memory : goal.returns-in_err-turn_behind-clause-memory
returns-in_err-turn_behind-clause-memory g c = λ is.
    let usable = usable_of c.args.store.now.must_reopen c.info.ensures.reopen c.in_ok-info.was in
    let later = not_last c.in_ok-info.was (c.info.ensures.value usable) c.if-info.false in
    let p = err_from_is_err_and c.from_residual-in_err-turn_behind.result
    c.from_residual-in_err-turn_behind.ensures.1 in
    let fault = is_fault g.D.Disk c.turn_ahead.ensures.still later c.turn_behind.result _ c.in_err-turn_behind.was
    c.turn_behind.ensures.behaves.faults.errors c.turn_behind.ensures.behaves.reopen c.turn_behind.ensures.worn in
    absurd (let wrong : ⊥ = cc (p.1, p.2, fault, is) in wrong)

pub returns-in_err-turn_behind-clause-left : goal.returns-in_err-turn_behind-clause-left
returns-in_err-turn_behind-clause-left g c =
    let usable = usable_of c.args.store.now.must_reopen c.info.ensures.reopen c.in_ok-info.was in
    let later = not_last c.in_ok-info.was (c.info.ensures.value usable) c.if-info.false in
    let fault = is_fault g.D.Disk c.turn_ahead.ensures.still later c.turn_behind.result _ c.in_err-turn_behind.was
    c.turn_behind.ensures.behaves.faults.errors c.turn_behind.ensures.behaves.reopen c.turn_behind.ensures.worn in
    err_then c.from_residual-in_err-turn_behind.result (λ in_use.
    absurd (false≢true (sym in_use ∙ c.turn_behind.ensures.fault (c.in_err-turn_behind.was ∙ ap Err fault))))

pub returns-in_err-turn_behind-clause-reopen : goal.returns-in_err-turn_behind-clause-reopen
returns-in_err-turn_behind-clause-reopen g c =
    let usable = usable_of c.args.store.now.must_reopen c.info.ensures.reopen c.in_ok-info.was in
    let later = not_last c.in_ok-info.was (c.info.ensures.value usable) c.if-info.false in
    let p = err_from_is_err_and c.from_residual-in_err-turn_behind.result
    c.from_residual-in_err-turn_behind.ensures.1 in
    let fault = is_fault g.D.Disk c.turn_ahead.ensures.still later c.turn_behind.result _ c.in_err-turn_behind.was
    c.turn_behind.ensures.behaves.faults.errors c.turn_behind.ensures.behaves.reopen c.turn_behind.ensures.worn in
    none_reopen c.turn_behind.new.self c.from_residual-in_err-turn_behind.result (usable, later) (λ is.
    let wrong : ⊥ = cc (p.1, p.2, fault, is) in wrong)

pub returns-in_err-turn_behind-clause-device : goal.returns-in_err-turn_behind-clause-device
returns-in_err-turn_behind-clause-device g c =
    let usable = usable_of c.args.store.now.must_reopen c.info.ensures.reopen c.in_ok-info.was in
    let later = not_last c.in_ok-info.was (c.info.ensures.value usable) c.if-info.false in
    let p = err_from_is_err_and c.from_residual-in_err-turn_behind.result
    c.from_residual-in_err-turn_behind.ensures.1 in
    let fault = is_fault g.D.Disk c.turn_ahead.ensures.still later c.turn_behind.result _ c.in_err-turn_behind.was
    c.turn_behind.ensures.behaves.faults.errors c.turn_behind.ensures.behaves.reopen c.turn_behind.ensures.worn in
    record {
      same = same_both g.D.Disk c.turn_ahead.ensures.still.left.disk.device c.turn_behind.ensures.behaves.device;
      faults = fault_on c.turn_ahead.result _ c.turn_behind.result c.in_ok-ahead.was c.turn_ahead.ensures.faults
          c.turn_behind.ensures.behaves.faults (c.in_err-turn_behind.was ∙ ap Err fault) (cc (p.1, p.2, fault));
      others = only_behind_reads g.D.Disk c.turn_ahead.new.store c.turn_behind.new.self c.in-Some.ahead.from
          c.in-Some.ahead.limit
          c.turn_ahead.ensures.still.left.disk c.shows_what_crashes_leave.ensures.quiet
          (λ _. c.turn_ahead.ensures.still.usable) (rw c.in-Some.is at c.in_ok-ahead.ensures.inside)
          c.turn_behind.ensures.behaves.within;
    }

-- ---- and is another one then

pub returns-clause-any_store : goal.returns-clause-any_store
returns-clause-any_store g c =
    shown_behind g.D.Disk c.turn_ahead.ensures.still c.shows_what_crashes_leave.ensures.durable
    c.shows_what_crashes_leave.ensures.quiet c.args.to.desktop c.turn_behind.new.self
    c.turn_behind.ensures.any_moment

pub returns-clause-any_moment : goal.returns-clause-any_moment
returns-clause-any_moment g c =
    turns_behind g.D.Disk c.turn_ahead.ensures.still c.shows_what_crashes_leave.ensures.durable
    c.shows_what_crashes_leave.ensures.quiet c.args.k c.args.to.desktop c.in-Some.ahead.past c.in-Some.ahead.from
    c.in-Some.ahead.limit c.turn_behind.new.self c.shows_what_crashes_leave-2.ensures.quiet
    c.turn_behind.ensures.behaves.within c.as_slice.ensures.value
    (rw c.in-Some.is at c.in_ok-ahead.ensures.ahead) c.turn_behind.ensures.comes.moments

pub returns-clause-done : goal.returns-clause-done
returns-clause-done g c = λ _. record {
  shows = turned_then g.D.Disk c.turn_ahead.ensures.still c.args.to c.in_ok-turn_behind.ensures.ok;
  past = turned_behind g.D.Disk c.turn_ahead.ensures.still c.shows_what_crashes_leave.ensures.durable
      c.shows_what_crashes_leave.ensures.quiet c.args.k c.args.to.desktop c.in-Some.ahead.past c.in-Some.ahead.from
      c.in-Some.ahead.limit c.turn_behind.new.self c.shows_what_crashes_leave-2.ensures.quiet
      c.turn_behind.ensures.behaves.within c.as_slice.ensures.value
      (rw c.in-Some.is at c.in_ok-ahead.ensures.ahead)
      c.in_ok-turn_behind.ensures.ok.usable c.in_ok-turn_behind.ensures.comes.done;
}

pub returns-clause-device : goal.returns-clause-device
returns-clause-device g c = uses_only g.D.Disk (search rules)
    (only_behind_reads g.D.Disk c.turn_ahead.new.store c.turn_behind.new.self c.in-Some.ahead.from c.in-Some.ahead.limit
    c.turn_ahead.ensures.still.left.disk c.shows_what_crashes_leave.ensures.quiet
    (λ _. c.turn_ahead.ensures.still.usable) (rw c.in-Some.is at c.in_ok-ahead.ensures.inside)
    c.turn_behind.ensures.behaves.within)

-- ---- nothing is written

pub returns-in_err-info-clause-device : goal.returns-in_err-info-clause-device
returns-in_err-info-clause-device g c =
    uses_only g.D.Disk (search rules) (only_none g.D.Disk c.shows_what_crashes_leave.ensures.quiet)

pub returns-then-info-clause-device : goal.returns-then-info-clause-device
returns-then-info-clause-device g c =
    uses_only g.D.Disk (search rules) (only_none g.D.Disk c.shows_what_crashes_leave.ensures.quiet)

pub returns-in_err-ahead-clause-device : goal.returns-in_err-ahead-clause-device
returns-in_err-ahead-clause-device g c = uses_only g.D.Disk (search rules)
    (only_read g.D.Disk c.turn_ahead.ensures.still.left.disk c.shows_what_crashes_leave.ensures.quiet)

pub returns-in_default-clause-device : goal.returns-in_default-clause-device
returns-in_default-clause-device g c = uses_only g.D.Disk (search rules)
    (only_read g.D.Disk c.turn_ahead.ensures.still.left.disk c.shows_what_crashes_leave.ensures.quiet)
