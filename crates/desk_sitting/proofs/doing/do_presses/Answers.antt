use Rattle.std.proofs.Common.{refl, Ok}
use Rattle.std.proofs.lemmas.Result.{err_from_is_err_and}
use Rattle.terminal_presses.specs.declared.press.Heard.TheVariants.{Byte}
use Rattle.desk_sitting.proofs.Done.{none_taken, parser_next, next_taken, next_broken}
use Rattle.desk_sitting.proofs.doing.do_presses.Goals as goal

pub loop-heard-init : goal.loop-heard-init
loop-heard-init g c = record {
  parser = refl;
  takes = none_taken g.D.Disk c.args.sitting.now c.args.store.now c.requires;
}

pub loop-heard-preserved : goal.loop-heard-preserved
loop-heard-preserved g c =
    let i = c.loop-heard.invariant in
    record {
      parser = parser_next c.args.parser.now c.loop-heard.parser c.args.hearing.now c.loop-heard.heard-index (Byte 0)
          c.loop-heard-test.true i.parser c.take.new.self c.take.ensures.state;
      takes = next_taken g.D.Disk c.args.parser.now c.loop-heard.parser c.args.hearing.now c.loop-heard.heard-index
          (Byte 0) c.take.result (Ok tt) c.loop-heard-test.true i.parser c.take.ensures.answer i.takes
          c.in_ok-do_each.ensures;
    }

pub returns-in_err-do_each-clause-broke : goal.returns-in_err-do_each-clause-broke
returns-in_err-do_each-clause-broke g c =
    let p = err_from_is_err_and c.from_residual.result c.from_residual.ensures.1 in
    let i = c.loop-heard.invariant in
    rw (p.1, p.2) (next_broken g.D.Disk c.args.parser.now c.loop-heard.parser c.args.hearing.now
    c.loop-heard.heard-index (Byte 0) c.take.result c.loop-heard-test.true i.parser c.take.ensures.answer i.takes
    c.in_err-do_each.ensures).broke
