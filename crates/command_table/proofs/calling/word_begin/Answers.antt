use Rattle.std.proofs.Common.{◌≡◌, sym, ap, ◌∙◌, arith}
use Rattle.command_table.specs.Call.{word_begin}
use Rattle.command_table.proofs.Runs.{step_back, stop_back, begin_zero}
use Rattle.command_table.proofs.calling.word_begin.Goals as goal

pub loop-begin-preserved : goal.loop-begin-preserved
loop-begin-preserved c =
    let before = c.loop-begin.invariant in record {
      within = omega (arith, before.within);
      same = step_back c.args.bytes.now c.args.at c.loop-begin.begin c.loop-begin-test.true
          (sym c.is_name_byte.ensures ∙ c.if-is_name_byte.true) before.same;
    }

pub returns-else-is_name_byte-clause-begin : goal.returns-else-is_name_byte-clause-begin
returns-else-is_name_byte-clause-begin c =
    sym (stop_back c.args.bytes.now c.args.at c.loop-begin.begin c.loop-begin-test.true (sym c.is_name_byte.ensures
    ∙ c.if-is_name_byte.false) c.loop-begin.invariant.same)

pub returns-after-loop-begin-clause-begin : goal.returns-after-loop-begin-clause-begin
returns-after-loop-begin-clause-begin c =
    let none : c.loop-begin.begin ≡ 0 = omega (arith, c.loop-begin-test.false) in
    none ∙ sym (c.loop-begin.invariant.same ∙ (ap (word_begin c.args.bytes.now) none ∙ begin_zero c.args.bytes.now))
