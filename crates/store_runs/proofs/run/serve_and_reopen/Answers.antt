use Rattle.std.proofs.Common.{◌≡◌, [], refl, sym, ◌∙◌, ap, subst, arith, take}
use Rattle.std.proofs.lemmas.List.{take_all}
use Rattle.std.proofs.lemmas.Result.{IfOk-weaker}
use Rattle.sector_disk.specs.Trail.{LeavesOnly}
use Rattle.desktop_definitions.specs.Step.{steps}
use Rattle.desk_journal.specs.Device.{IsOnlyRead, disk_after}
use Rattle.desk_journal.proofs.Passing.{at_start, shows_means}
use Rattle.desk_journal.specs.Opening.{IsOpened}
use Rattle.desk_journal.specs.Prefixes.{MeansPrefix}
use Rattle.store_runs.specs.Reopening.{StoreCounts, all_counted, counts_of, events_in}
use Rattle.store_runs.proofs.Reopening.{same_device, went_on, counts_next, desktop_next}
use Rattle.store_runs.proofs.Reopening.{after_some, call_more, then_read, call_stops, call_worn, result_stops, result_not_worn}
use Rattle.store_runs.proofs.run.serve_and_reopen.Goals as goal

pub loop-call-init : goal.loop-call-init
loop-call-init g c =
    let store = c.args.store in
    let durable = c.shows_what_crashes_leave.ensures.durable c.requires in
    record {
      within = omega arith;
      usable = c.requires;
      durable = durable;
      device = record { as_large = refl; still = λ h. h; already = λ h. h };
      calm = refl;
      counts = refl;
      so_far = λ h. refl;
      images = λ h. at_start (g.D.Disk.trail store.disk) _ (λ content image.
          after_some (g.D.Disk.size store.disk) store.desktop c.args.calls.now 0 content
          (shows_means (g.D.Disk.size store.disk) store.epoch store.events store.desktop content
          (durable h content image)));
    }

pub loop-call-preserved : goal.loop-call-preserved
loop-call-preserved g c =
    let i = c.loop-call.invariant in
    let first = c.args.store in
    let old = c.loop-call.store in
    let new = c.serve.new.store in
    let calls = c.args.calls.now in
    let k = c.loop-call.call-index in
    let call = c.call-item.result in
    let room = c.loop-call-test.true in
    let here = c.call-item.is in
    let on = went_on g.D.Disk call _ old new c.in_default.ensures in
    record {
      within = omega (arith, room);
      usable = on.usable;
      durable = on.durable;
      device = same_device g.D.Disk _ _ _ i.device on.device;
      calm = on.calm ∙ i.calm;
      counts = counts_next calls k call room here (counts_of first) (counts_of old) (counts_of new) i.counts on.counts;
      so_far = λ h. desktop_next calls k call room here first.desktop old.desktop new.desktop (i.so_far h)
          (on.desktop (i.device.still h));
      images = λ h. call_more (g.D.Disk.size first.disk) first.desktop calls g.D.Disk k call _
          (g.D.Disk.trail first.disk) old new room here i.usable (i.device.still h) i.device.as_large (i.so_far h)
          (i.images h) c.serve.ensures;
    }

pub returns-in-Err-clause-any_moment : goal.returns-in-Err-clause-any_moment
returns-in-Err-clause-any_moment g c = λ h.
    let i = c.loop-call.invariant in
    let first = c.args.store in
    let old = c.loop-call.store in
    let calls = c.args.calls.now in
    let size = g.D.Disk.size first.disk in
    subst (λ disk. LeavesOnly (g.D.Disk.trail first.disk) (g.D.Disk.trail disk)
    (MeansPrefix size first.desktop [] (events_in calls))) (sym c.close.ensures)
    (call_more size first.desktop calls g.D.Disk c.loop-call.call-index c.call-item.result c.serve.result
    (g.D.Disk.trail first.disk) old c.serve.new.store c.loop-call-test.true c.call-item.is i.usable
    (i.device.still h) i.device.as_large (i.so_far h) (i.images h) c.serve.ensures)

pub returns-in-Err-clause-stops : goal.returns-in-Err-clause-stops
returns-in-Err-clause-stops g c = λ h.
    call_stops g.D.Disk c.call-item.result c.in-Err.error c.loop-call.store c.serve.new.store
    c.loop-call.invariant.usable c.in-Err.ensures

pub returns-in-Err-clause-worn : goal.returns-in-Err-clause-worn
returns-in-Err-clause-worn g c = λ is. (
  c.loop-call.call-index,
  sym (ap (λ (n : StoreCounts). n.epoch) c.loop-call.invariant.counts)
      ∙ call_worn g.D.Disk c.call-item.result c.in-Err.error c.loop-call.store c.serve.new.store
      c.in-Err.ensures is,
)

pub returns-clause-ok : goal.returns-clause-ok
returns-clause-ok g c = IfOk-weaker c.open.result _ _ (λ reopened found.
    let i = c.loop-call.invariant in
    let first = c.args.store in
    let store = c.loop-call.store in
    let calls = c.args.calls.now in
    let k = c.loop-call.call-index in
    let all : take k calls ≡ calls = take_all k calls c.loop-call-test.false in
    let opened : IsOpened g.D.Disk store.disk reopened = subst
    (λ disk. IsOpened g.D.Disk disk reopened) c.close-2.ensures found in
    record {
      desktop = λ h. (c.reopening_law.ensures store reopened (i.device.still h) i.durable opened).0 ∙ i.so_far h
          ∙ ap (λ cs. steps first.desktop (events_in cs)) all;
      counts = λ h. (c.reopening_law.ensures store reopened (i.device.still h) i.durable opened).1 ∙ i.counts
          ∙ ap (λ cs. all_counted cs (counts_of first)) all;
      durable = found.durable;
      settled = λ h. opened.settled (i.device.still h);
      usable = found.usable;
    }) c.open.ensures.ok

pub returns-clause-any_moment : goal.returns-clause-any_moment
returns-clause-any_moment g c = λ h.
    let i = c.loop-call.invariant in
    let first = c.args.store in
    let store = c.loop-call.store in
    let last = disk_after (λ s. s.disk) c.open.result in
    let read : IsOnlyRead g.D.Disk store.disk last = subst
    (λ disk. IsOnlyRead g.D.Disk disk last) c.close-2.ensures c.open.ensures.any_moment in
    then_read (g.D.Disk.size first.disk) first.desktop c.args.calls.now (g.D.Disk.trail first.disk)
    (g.D.Disk.trail store.disk) (g.D.Disk.trail last) (i.images h) (read.unwritten (i.device.still h))

pub returns-clause-stops : goal.returns-clause-stops
returns-clause-stops g c = λ h.
    let i = c.loop-call.invariant in
    result_stops g.D.Disk c.loop-call.store c.finding_law.ensures (i.device.still h) i.durable c.close-2.result
    c.close-2.ensures c.open.result c.open.ensures.no_store c.open.ensures.faults.errors

pub returns-clause-worn : goal.returns-clause-worn
returns-clause-worn g c = result_not_worn _ c.open.result c.open.ensures.faults.errors
