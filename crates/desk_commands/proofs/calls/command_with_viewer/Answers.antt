use Rattle.std.proofs.Common.{rules}
use Rattle.desktop_definitions.specs.Limits.{no_viewer}
use Rattle.desktop_definitions.proofs.KeyLaws.{refusal_answered}
use Rattle.desktop_definitions.proofs.RowLaws.{known_no_viewer}
use Rattle.desk_core.proofs.ArmLemmas.{outcome_as}
use Rattle.desk_commands.proofs.CallLemmas.{meant_some, meant_none}
use Rattle.desk_commands.proofs.calls.command_with_viewer.Goals as goal

pub returns-in_default : goal.returns-in_default
returns-in_default g c = record {
  answered =
      refusal_answered _ _ _ _ no_viewer c.requires.over known_no_viewer
      (meant_none _ _ c.args.command c.args.call _ c.in_default.is c.meant.ensures.viewer);
  uses = search (rules, g.met.S.CharSource.ground_self, g.met.S.CharSource.ground_through);
}

pub returns : goal.returns
returns g c = record {
  answered =
      outcome_as _ _ _ _ _ c.do_with_viewer.result
      (meant_some _ _ c.args.command c.args.call _ _ c.in-Some.is c.meant.ensures.viewer)
      c.do_with_viewer.ensures.answered;
  uses = search (rules, g.met.S.CharSource.ground_self, g.met.S.CharSource.ground_through);
}
