use Rattle.std.proofs.Common.{◌≡◌, ◌∙◌, Err, ap, refl, sym, subst, arith}
use Rattle.std.specs.Prelude.{None}
use Rattle.std.proofs.lemmas.Result.{err_from_is_err_and}
use Rattle.sector_disk.specs.Faults.{FailsAs}
use Rattle.desk_journal.specs.Errors.{Fault}
use Rattle.desk_journal.specs.Undoing.{OfUndo}
use Rattle.past_pages.proofs.Failing.{error_from, none_failed}
use Rattle.past_pages.proofs.StillReads.{usable_of}
use Rattle.past_pages.proofs.Told.{ok_of}
use Rattle.desk_past.proofs.InMemory.{fails_none, undo_none, undo_refused}
use Rattle.desk_past.proofs.Sparing.{only_none, only_within, uses_only}
use Rattle.desk_past.proofs.Undoing.{none_undone, others_kept, some_undone}
use Rattle.desk_past.proofs.keeping.undo.Goals as goal

pub returns-then-info-count-clause-any_moment : goal.returns-then-info-count-clause-any_moment
returns-then-info-count-clause-any_moment g c = λ honest start deeds desktop keeps.
    none_undone g.D.Disk keeps honest (c.shows_what_crashes_leave.ensures.quiet keeps.usable honest) c.args.count

pub returns-in_err-events-clause-any_moment : goal.returns-in_err-events-clause-any_moment
returns-in_err-events-clause-any_moment g c = λ honest start deeds desktop keeps.
    let told = ap (λ x. x.events) (ap (ok_of c.in_ok-info.info)
    (sym c.in_ok-info.was ∙ c.info.ensures.value keeps.usable)) in
    some_undone g.D.Disk keeps honest (c.shows_what_crashes_leave.ensures.quiet keeps.usable honest) c.undo.new.self
    c.standing_law.ensures (c.shows_what_crashes_leave.ensures.durable keeps.usable) c.args.count
    (omega (arith, c.if-info-count.false, told)) c.undo.ensures.behaves.within c.undo.ensures.any_moment

pub returns-clause-any_moment : goal.returns-clause-any_moment
returns-clause-any_moment g c = λ honest start deeds desktop keeps.
    let told = ap (λ x. x.events) (ap (ok_of c.in_ok-info.info)
    (sym c.in_ok-info.was ∙ c.info.ensures.value keeps.usable)) in
    some_undone g.D.Disk keeps honest (c.shows_what_crashes_leave.ensures.quiet keeps.usable honest) c.undo.new.self
    c.standing_law.ensures (c.shows_what_crashes_leave.ensures.durable keeps.usable) c.args.count
    (omega (arith, c.if-info-count.false, told)) c.undo.ensures.behaves.within c.undo.ensures.any_moment

pub returns-clause-kept : goal.returns-clause-kept
returns-clause-kept g c = λ honest start deeds desktop keeps.
    let told = ap (λ x. x.events) (ap (ok_of c.in_ok-info.info)
    (sym c.in_ok-info.was ∙ c.info.ensures.value keeps.usable)) in
    others_kept g.D.Disk keeps honest (c.shows_what_crashes_leave.ensures.quiet keeps.usable honest) c.undo.new.self
    c.standing_law.ensures (c.shows_what_crashes_leave.ensures.durable keeps.usable) c.args.count
    (omega (arith, c.if-info-count.false, told)) c.undo.ensures.behaves.within c.in_ok-events.ensures.ok

pub returns-in_err-info-clause-device : goal.returns-in_err-info-clause-device
returns-in_err-info-clause-device g c =
    let p = err_from_is_err_and c.from_residual.result c.from_residual.ensures.1 in
    let failed : c.info.result ≡ Err p.0 = cc (p.2, c.in_err-info.was) in
    uses_only g.D.Disk (undo_refused g.D.Disk c.args.store.now c.info.ensures.value c.info.ensures.reopen failed p.1)
    (only_none g.D.Disk c.shows_what_crashes_leave.ensures.quiet)

pub returns-then-info-count-clause-device : goal.returns-then-info-count-clause-device
returns-then-info-count-clause-device g c = uses_only g.D.Disk (undo_none g.D.Disk None c.args.store.now
    (usable_of c.args.store.now.must_reopen c.info.ensures.reopen c.in_ok-info.was))
    (only_none g.D.Disk c.shows_what_crashes_leave.ensures.quiet)

pub returns-in_err-events-clause-device : goal.returns-in_err-events-clause-device
returns-in_err-events-clause-device g c =
    let p = err_from_is_err_and c.from_residual-in_err-events.result c.from_residual-in_err-events.ensures.1 in
    let failed : c.undo.result ≡ Err p.0 = cc (p.2, c.in_err-events.was) in record {
      same = c.undo.ensures.behaves.device;
      faults = error_from c.undo.ensures.behaves.faults (λ e named. named) refl failed p.1;
      others = only_within g.D.Disk c.undo.ensures.behaves.within c.shows_what_crashes_leave.ensures.quiet;
    }

pub returns-clause-device : goal.returns-clause-device
returns-clause-device g c = record {
  same = c.undo.ensures.behaves.device;
  faults = fails_none (none_failed (subst (λ r. FailsAs Fault OfUndo r (g.D.Disk.failures c.args.store.now.disk)
      (g.D.Disk.failures c.undo.new.self.disk)) c.in_ok-events.was c.undo.ensures.behaves.faults));
  others = only_within g.D.Disk c.undo.ensures.behaves.within c.shows_what_crashes_leave.ensures.quiet;
}
