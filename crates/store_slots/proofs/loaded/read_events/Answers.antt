use Rattle.std.proofs.Common.{rules, ◌≡◌, ◌<◌, ◌∙◌, sym, subst, arith, List, drop, take}
use Rattle.std.proofs.lemmas.Result.{err_from_is_err_and}
use Rattle.event_bytes.specs.declared.event.Event.{Event}
use Rattle.sector_disk.proofs.Confinement as confined
use Rattle.store_slots.proofs.TakingBack.{none_of, all_of, one_more, events_still}
use Rattle.store_slots.proofs.loaded.read_events.Goals as goal

pub loop-at-init : goal.loop-at-init
loop-at-init g c = record {
  kept = search rules;
  calm = search rules;
  count = search rules;
  others = λ honest all has. none_of c.args.k all (omega (arith, c.requires.some, has.long)) ∙ search rules;
}

pub loop-at-preserved : goal.loop-at-preserved
loop-at-preserved g c =
    let i = c.loop-at.invariant in
    let low : c.loop-at.at < c.args.end = omega (arith, c.loop-at-test.true) in
    record {
      kept = confined.joined g.D.Disk.size g.D.Disk.honest g.D.Disk.trail i.kept c.event_under.ensures.kept;
      calm = search rules;
      count = search rules;
      others = λ honest all has.
          one_more (events_still g.D.Disk i.kept honest has) c.loop-at.at low c.at_most_one_begins.ensures c.args.k
          c.loop-at.events.items c.in_ok-event.event (omega (arith, i.count))
          (c.in_ok-event.ensures.begins (i.kept.still honest)) (i.others honest all has)
          ∙ sym {A = List Event} c.push_reserved.ensures.items;
    }

pub returns-in_err-event-clause-damaged : goal.returns-in_err-event-clause-damaged
returns-in_err-event-clause-damaged g c =
    let p = err_from_is_err_and c.from_residual-in_err-event.result c.from_residual-in_err-event.ensures.1 in
    λ n is honest all has.
    let i = c.loop-at.invariant in
    c.in_err-event.ensures.damaged n (cc (p.1, p.2, is)) (i.kept.still honest) c.args.end all
    (omega (arith, c.loop-at-test.true)) (events_still g.D.Disk i.kept honest has)

pub returns-clause-others : goal.returns-clause-others
returns-clause-others g c = λ honest all has.
    let i = c.loop-at.invariant in
    let last : c.loop-at.at ≡ c.args.end = omega (arith, c.loop-at-test.false, c.loop-at.auto.at-end) in
    all_of c.args.k c.args.end all c.loop-at.events.items has.long
    (subst (λ n. drop c.args.k (take n all) ≡ c.loop-at.events.items) last (i.others honest all has))
