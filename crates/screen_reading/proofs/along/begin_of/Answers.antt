use Rattle.std.proofs.Common.{◌≡◌, sym, ap, ◌∙◌, arith}
use Rattle.screen_reading.specs.Along.{begin_of}
use Rattle.screen_reading.proofs.Stretches.{step_back, stop_back, begin_zero}
use Rattle.screen_reading.proofs.along.begin_of.Goals as goal

pub loop-first-preserved : goal.loop-first-preserved
loop-first-preserved c =
    let before = c.loop-first.invariant in record {
      within = omega (arith, before.within);
      same = step_back c.args.kind c.args.row.now c.args.x c.loop-first.first c.loop-first-test.true
          (sym c.is_at.ensures ∙ c.if-is_at.true) before.same;
    }

pub returns-else-is_at-clause-value : goal.returns-else-is_at-clause-value
returns-else-is_at-clause-value c =
    sym (stop_back c.args.kind c.args.row.now c.args.x c.loop-first.first c.loop-first-test.true (sym c.is_at.ensures
    ∙ c.if-is_at.false) c.loop-first.invariant.same)

pub returns-after-loop-first-clause-value : goal.returns-after-loop-first-clause-value
returns-after-loop-first-clause-value c =
    let none : c.loop-first.first ≡ 0 = omega (arith, c.loop-first-test.false) in
    none ∙ sym (c.loop-first.invariant.same ∙ (ap (begin_of c.args.kind c.args.row.now) none
    ∙ begin_zero c.args.kind c.args.row.now))
