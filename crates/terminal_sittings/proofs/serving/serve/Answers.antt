use Rattle.std.proofs.Common.{◌≡◌, ◌∙◌, arith, refl}
use Rattle.std.proofs.lemmas.Bool.{true≢false}
use Rattle.desk_sitting.specs.declared.sitting.TheConstants.{MOST_TURNS}
use Rattle.desk_sitting.specs.TheDesk.{the_desk}
use Rattle.terminal_sittings.proofs.Turning.{output_calm, output_ends, too_long_no_output}
use Rattle.terminal_sittings.proofs.Whole.{come_none, come_more, sat_to_end, sat_too_long}
use Rattle.terminal_sittings.proofs.serving.serve.Goals as goal

pub loop-count-init : goal.loop-count-init
loop-count-init g c = record {
  come = rw (c.new-parser.ensures, c.new-sitting.ensures, c.new-painter.ensures)
      (come_none g.D.Disk (c.shows_what_crashes_leave.ensures.durable c.requires) c.requires
      (λ due. absurd (true≢false due)));
  calm = refl;
}

pub loop-count-preserved : goal.loop-count-preserved
loop-count-preserved g c = record {
  come = come_more g.D.Disk (c.sittings_survive.ensures.turns the_desk)
      (c.sittings_survive.ensures.ends the_desk) c.loop-count.invariant.come tt c.in_default.ensures.steps;
  calm = c.in_default.ensures.output ∙ c.loop-count.invariant.calm;
}

pub returns-in-Err-clause-sat : goal.returns-in-Err-clause-sat
returns-in-Err-clause-sat g c = sat_to_end g.D.Disk (c.sittings_survive.ensures.turns the_desk)
    (c.sittings_survive.ensures.ends the_desk) c.loop-count.invariant.come c.in-Err.end c.in-Err.ensures.steps

pub returns-clause-sat : goal.returns-clause-sat
returns-clause-sat g c =
    let most : c.loop-count._count ≡ MOST_TURNS = omega arith in
    sat_too_long g.D.Disk (c.sittings_survive.ensures.turns the_desk) (c.sittings_survive.ensures.ends the_desk)
    c.loop-count.invariant.come most

pub returns-in-Err-clause-output : goal.returns-in-Err-clause-output
returns-in-Err-clause-output g c = output_ends _ _ _ _ c.loop-count.invariant.calm c.in-Err.ensures.output

pub returns-clause-output : goal.returns-clause-output
returns-clause-output g c = output_calm _ _ _ too_long_no_output c.loop-count.invariant.calm
