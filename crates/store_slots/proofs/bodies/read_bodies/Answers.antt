use Rattle.std.proofs.Common.{rules, ◌≡◌, ◌<◌, ◌∙◌, refl, sym, ap, subst, arith, ℕ, List, take}
use Rattle.std.proofs.lemmas.Result.{err_from_is_err_and}
use Rattle.sector_disk.proofs.Confinement as confined
use Rattle.store_slots.specs.Bodies.{spellings}
use Rattle.store_slots.proofs.Spelled.{all_spelled, one_spelled}
use Rattle.store_slots.proofs.TakingBack.{events_still}
use Rattle.store_slots.proofs.bodies.read_bodies.Goals as goal

pub loop-k-init : goal.loop-k-init
loop-k-init g c = record {
  kept = search rules;
  calm = search rules;
  bytes = λ honest all has. search rules;
}

pub loop-k-preserved : goal.loop-k-preserved
loop-k-preserved g c =
    let i = c.loop-k.invariant in
    record {
      kept = confined.joined g.D.Disk.size g.D.Disk.honest g.D.Disk.trail i.kept c.event_under.ensures.kept;
      calm = search rules;
      bytes = λ honest all has.
          ◌∙◌ {A = List ℕ} c.in_ok-spell.ensures
          (one_spelled (events_still g.D.Disk i.kept honest has) c.loop-k.k c.loop-k-test.true
          c.at_most_one_begins.ensures c.loop-k.bytes.items c.in_ok-event.event
          (c.in_ok-event.ensures.begins (i.kept.still honest)) (i.bytes honest all has));
    }

pub returns-in_err-event-clause-damaged : goal.returns-in_err-event-clause-damaged
returns-in_err-event-clause-damaged g c =
    let p = err_from_is_err_and c.from_residual.result c.from_residual.ensures.1 in
    λ n is honest all has.
    let i = c.loop-k.invariant in
    c.in_err-event.ensures.damaged n (cc (p.1, p.2, is)) (i.kept.still honest) c.args.end all
    c.loop-k-test.true (events_still g.D.Disk i.kept honest has)

pub returns-clause-bytes : goal.returns-clause-bytes
returns-clause-bytes g c = λ honest all has.
    c.loop-k.invariant.bytes honest all has ∙ ap spellings (all_spelled c.loop-k.k c.args.end all has.long
    (omega (arith, c.loop-k-test.false, c.loop-k.auto.k-end)))
