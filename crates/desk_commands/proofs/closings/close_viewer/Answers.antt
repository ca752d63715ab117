use Rattle.std.proofs.Common.{rules, ◌==◌, Some, subst, ◌∙◌}
use Rattle.desktop_definitions.specs.Opening.{without_unshown}
use Rattle.desktop_definitions.specs.Viewers.{unmarked, without_viewer}
use Rattle.desktop_definitions.specs.Sound.{IsClosedPlace}
use Rattle.desktop_definitions.proofs.PlacedLaws.{over_columns}
use Rattle.desktop_definitions.proofs.ClosingLaws.{closed_answered}
use Rattle.desk_core.specs.Kept.{kept_desktop}
use Rattle.desk_commands.proofs.closings.close_viewer.Goals as goal

pub returns : goal.returns
returns g c = record {
  answered =
      let d = kept_desktop c.args.desk.now in
      let v = c.args.id in
      let hold = over_columns _ d c.requires.over in
      closed_answered _ _ d c.requires.over v c.requires.placed
      (c.edits_keep_columns.ensures.closed d.columns v hold c.requires.placed)
      (λ w. c.edits_place_viewers.ensures.closed d.columns v w hold c.requires.placed)
      (subst IsClosedPlace c.place_closed.ensures.value c.place_closed.ensures.place)
      (kept_desktop c.let_go.new.self)
      (c.let_go.ensures ∙ (λ k. without_unshown (without_viewer
      ((c.unmark_viewer.ensures ∙ (λ i. unmarked (λ w. w == v) (record d {
        columns = c.close.ensures.closed i;
        closed = Some (c.place_closed.ensures.value i);
      }))) k) (c.viewer_closed-gone.ensures k))));
  uses = search (rules, g.met.S.CharSource.ground_self, g.met.S.CharSource.ground_through);
}
