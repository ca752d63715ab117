use Rattle.std.proofs.Common.{rules, sym, ◌∙◌}
use Rattle.desktop_definitions.proofs.LookLaws.{none_set_answered, none_selected_answered, selection_set_answered}
use Rattle.desktop_definitions.proofs.RowLaws.{over_built}
use Rattle.desk_core.specs.Kept.{kept_desktop}
use Rattle.desk_commands.proofs.looks.change_look.Goals as goal

pub returns-in_default : goal.returns-in_default
returns-in_default g c = record {
  answered =
      none_set_answered _ _ _ c.requires.over _ _ c.in_default.is;
  uses = search (rules, g.met.S.CharSource.ground_self, g.met.S.CharSource.ground_through);
}

pub returns-in_default-selection : goal.returns-in_default-selection
returns-in_default-selection g c = record {
  answered =
      none_selected_answered _ _ _ c.requires.over _ c.in-Some.change c.in-Some.is
      (sym c.selection.ensures.is ∙ c.in_default-selection.is);
  uses = search (rules, g.met.S.CharSource.ground_self, g.met.S.CharSource.ground_through);
}

pub set_looks-requires-clause-look : goal.set_looks-requires-clause-look
set_looks-requires-clause-look g c = c.requires.sets c.in-Some.change c.in-Some.is

pub returns : goal.returns
returns g c = record {
  answered =
      selection_set_answered _ _ _ c.requires.over _ c.in-Some.change _ _ c.in-Some.is
      (sym c.in-Some-selection.ensures.is)
      (c.in_ok-set_looks.ensures.changed _ (over_built _ (kept_desktop c.args.desk.now) c.requires.over));
  uses = search (rules, g.met.S.CharSource.ground_self, g.met.S.CharSource.ground_through);
}
