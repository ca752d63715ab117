use Rattle.std.proofs.Common.{rules, ◌≡◌, ◌∙◌, ap, sym, subst, true, false, arith}
use Rattle.std.proofs.lemmas.Result.{err_from_is_err_and}
use Rattle.event_bytes.specs.declared.event.Event.{Event}
use Rattle.event_bytes.specs.Spelling.{BeginsWithEvent}
use Rattle.sector_disk.specs.Trail.{Content, now}
use Rattle.desktop_definitions.specs.Step.{step_in, Outcome}
use Rattle.command_table.specs.Versions.{version_number}
use Rattle.sector_disk.proofs.Touching.{still_all}
use Rattle.sector_disk.proofs.Confinement as confined
use Rattle.store_layout.specs.Layout.{is_open, gate, body}
use Rattle.store_slots.specs.Live.{seen_live}
use Rattle.store_slots.specs.Load.{IsJournalReadTo}
use Rattle.store_slots.proofs.Loading.{one_read, not_read}
use Rattle.store_slots.proofs.Staying.{apart_nowhere, live_stays}
use Rattle.store_slots.proofs.loaded.replay_to.Goals as goal

pub returns-in_err-event-clause-damaged : goal.returns-in_err-event-clause-damaged
returns-in_err-event-clause-damaged g c =
    let p = err_from_is_err_and c.from_residual.result c.from_residual.ensures.1 in
    λ n is honest.
    let i = c.loop-k.invariant in
    let k = c.loop-k.k in
    let same = still_all (g.D.Disk.trail c.args.disk.now) (g.D.Disk.trail c.loop-k.disk) (i.kept.moments honest) in
    let found = c.in_err-event.ensures.damaged n (cc (p.1, p.2, is)) (i.kept.still honest) in (
      k,
      found.0,
      not_read (now (g.D.Disk.trail c.args.disk.now)).reads c.args.slot (version_number c.args.version) k _ _
          (i.read honest) (omega (arith, c.loop-k-test.true))
          (subst (λ r. is_open (r (gate c.args.slot k)) ≡ true) same found.1)
          (subst (λ r. (event : Event) → BeginsWithEvent (r (body c.args.slot k)) event → ⊥) same found.2),
    )

pub returns-in-None-clause-read : goal.returns-in-None-clause-read
returns-in-None-clause-read g c = λ honest.
    let i = c.loop-k.invariant in
    let same = still_all (g.D.Disk.trail c.args.disk.now) (g.D.Disk.trail c.loop-k.disk) (i.kept.moments honest) in
    let mid = i.kept.still honest in
    let closed = (rw c.in-None.is at c.in_ok-event.ensures.none) mid in
    let there = subst (λ (r : Content). IsJournalReadTo (now (g.D.Disk.trail c.args.disk.now)).reads c.args.slot
    (version_number c.args.version) c.loop-k.k
    (seen_live (now (g.D.Disk.trail c.args.disk.now)).reads c.args.desktop.now) (seen_live r c.loop-k.desktop))
    (sym (still_all (g.D.Disk.trail c.loop-k.disk) (g.D.Disk.trail c.read_event.new.disk)
    (c.read_event.ensures.kept.moments mid))) in
    record {
      read = there (i.read honest);
      ended = λ _. subst (λ r. is_open (r (gate c.args.slot c.loop-k.k)) ≡ false) same closed;
    }

pub returns-in-None-clause-left : goal.returns-in-None-clause-left
returns-in-None-clause-left g c = record {
  live = c.loop-k.invariant.live;
  told = live_stays g.D.Disk c.loop-k.desktop c.read_event.ensures.kept (apart_nowhere c.loop-k.desktop.pages)
      c.loop-k.invariant.told;
  area = c.loop-k.invariant.area;
  counted = c.loop-k.invariant.counted;
}

pub step-requires-clause-on : goal.step-requires-clause-on
step-requires-clause-on g c = record {
  live = c.loop-k.invariant.live;
  told = live_stays g.D.Disk c.loop-k.desktop c.read_event.ensures.kept (apart_nowhere c.loop-k.desktop.pages)
      c.loop-k.invariant.told;
}

pub loop-k-preserved : goal.loop-k-preserved
loop-k-preserved g c =
    let i = c.loop-k.invariant in
    let k = c.loop-k.k in
    record {
      kept = confined.joined g.D.Disk.size g.D.Disk.honest g.D.Disk.trail
          (confined.joined g.D.Disk.size g.D.Disk.honest g.D.Disk.trail i.kept c.read_event.ensures.kept)
          c.step.ensures.reads.confined;
      calm = search rules;
      read = λ honest.
          let same = still_all (g.D.Disk.trail c.args.disk.now) (g.D.Disk.trail c.loop-k.disk)
          (i.kept.moments honest) in
          let mid = i.kept.still honest in
          let found = (rw c.in-Some.is at c.in_ok-event.ensures.some) mid in
          let read = still_all (g.D.Disk.trail c.loop-k.disk) (g.D.Disk.trail c.read_event.new.disk)
          (c.read_event.ensures.kept.moments mid) in
          one_read (now (g.D.Disk.trail c.args.disk.now)).reads c.args.slot (version_number c.args.version) k _ _ _
          c.in-Some.event (i.read honest) (omega (arith, c.loop-k-test.true))
          (subst (λ r. is_open (r (gate c.args.slot k)) ≡ true) same found.0)
          (subst (λ r. BeginsWithEvent (r (body c.args.slot k)) c.in-Some.event) same found.1)
          (ap (λ (o : Outcome). o.desktop) (c.in_ok-step-in-Some.ensures.stepped.done (c.read_event.ensures.kept.still mid))
          ∙ ap (λ (r : Content).
          (step_in (version_number c.args.version) (seen_live r c.loop-k.desktop) c.in-Some.event).desktop)
          read);
      live = c.in_ok-step-in-Some.ensures.left.live;
      told = c.in_ok-step-in-Some.ensures.left.told;
      area = c.step.ensures.area ∙ i.area;
      counted = λ not. c.step.ensures.reads.counted not ∙ i.counted (c.step.ensures.reads.before not);
    }

pub returns-clause-read : goal.returns-clause-read
returns-clause-read g c = λ honest.
    let i = c.loop-k.invariant in
    let R = (now (g.D.Disk.trail c.args.disk.now)).reads in
    let last : c.loop-k.k ≡ c.args.most = omega (arith, c.loop-k-test.false, c.loop-k.auto.k-end) in
    record {
      read = subst (λ n. IsJournalReadTo R c.args.slot (version_number c.args.version) n (seen_live R c.args.desktop.now)
          (seen_live (now (g.D.Disk.trail c.loop-k.disk)).reads c.loop-k.desktop)) last (i.read honest);
      ended = λ less. absurd (omega (arith, less));
    }
