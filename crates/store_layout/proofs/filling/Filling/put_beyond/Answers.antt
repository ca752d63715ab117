use Rattle.std.proofs.Common.{◌∙◌, ◌++◌, subst, take, length, arith}
use Rattle.std.proofs.lemmas.List.{take_all}
use Rattle.std.proofs.lemmas.List.Edits.{length-between}
use Rattle.sector_disk.specs.Trail.{now}
use Rattle.sector_disk.proofs.Confinement.{joined}
use Rattle.store_layout.specs.Filling.{HasTaken}
use Rattle.store_layout.proofs.FillingLaws.{sectors_are}
use Rattle.store_layout.proofs.Filled.{carried, goes_on}
use Rattle.store_layout.proofs.filling.Filling.put_beyond.Goals as goal

pub loop-at-preserved : goal.loop-at-preserved
loop-at-preserved g c =
    let l = c.loop-at in
    let i = l.invariant in
    let t = c.turn_over.ensures in
    let some = c.take_some-at in
    let reads = (now (g.D.Disk.trail c.turn_over.new.disk)).reads in
    record {
      calm = c.in_ok-turn_over.ensures.cause ∙ i.calm;
      from = some.ensures.from ∙ t.from ∙ i.from;
      limit = some.ensures.limit ∙ t.limit ∙ i.limit;
      kept = joined g.D.Disk.size g.D.Disk.honest g.D.Disk.trail i.kept
          (sectors_are g.D.Disk l.self i.from i.limit t.kept);
      within = omega (arith, some.ensures.within, length-between c.args.bytes.now l.at (length c.args.bytes.now));
      taken = λ h before was. goes_on reads some.new.self before c.args.bytes.now l.at some.result
          (some.ensures.taken reads (before ++ take l.at c.args.bytes.now) c.in_ok-turn_over.ensures.turned
          (carried _ _ l.self c.turn_over.new.self _ t.from t.limit
          (c.in_ok-turn_over.ensures.spread (i.kept.still h) _) (i.taken h before was)));
    }

pub returns-clause-taken : goal.returns-clause-taken
returns-clause-taken g c = λ h before was.
    let l = c.loop-at in
    subst (λ bytes. HasTaken (now (g.D.Disk.trail l.disk)).reads l.self (before ++ bytes))
    (take_all l.at c.args.bytes.now c.loop-at-test.false) (l.invariant.taken h before was)
