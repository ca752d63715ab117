use Rattle.std.proofs.Common.{rules, sym, ◌∙◌}
use Rattle.desktop_definitions.specs.Gesture.{is_on_display}
use Rattle.desktop_definitions.specs.Step.{marked}
use Rattle.desk_core.specs.Kept.{kept_desktop}
use Rattle.std.specs.Prelude.{⊤}
use Rattle.desk_core.proofs.MarkLemmas.{outside_answered, mark_answered}
use Rattle.desk_core.proofs.UnreadLemmas.{over_all}
use Rattle.desk_core.proofs.desk.Desk.mark.Goals as goal

pub returns-then-not-is_on_display : goal.returns-then-not-is_on_display
returns-then-not-is_on_display g c = record {
  answered =
      outside_answered _ _ (kept_desktop c.args.self.now) c.requires.over (is_on_display c.args.x c.args.y) _
      (sym c.is_on_display.ensures ∙ c.if-not-is_on_display.true);
  unread = λ calm all long.
      (outside_answered ⊤ all (kept_desktop c.args.self.now) (over_all c.requires.over all long)
      (is_on_display c.args.x c.args.y) _ (sym c.is_on_display.ensures ∙ c.if-not-is_on_display.true)).exact tt;
  uses = search (rules, g.met.S.CharSource.ground_self, g.met.S.CharSource.ground_through);
}

pub returns : goal.returns
unfolding marked
returns g c = record {
  answered =
      mark_answered _ _ (kept_desktop c.args.self.now) c.requires.over c.args.x c.args.y
      (sym c.is_on_display.ensures ∙ c.if-not-is_on_display.false);
  unread = λ calm all long.
      (mark_answered ⊤ all (kept_desktop c.args.self.now) (over_all c.requires.over all long)
      c.args.x c.args.y (sym c.is_on_display.ensures ∙ c.if-not-is_on_display.false)).exact tt;
  uses = search (rules, g.met.S.CharSource.ground_self, g.met.S.CharSource.ground_through);
}
