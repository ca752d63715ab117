use Rattle.std.proofs.Common.{rules, ℕ, None, ◌∙◌, ap}
use Rattle.viewer_tracks.specs.Display.{left_of}
use Rattle.desktop_definitions.specs.Opening.{without_unshown}
use Rattle.desktop_definitions.specs.Viewers.{opened_at}
use Rattle.desktop_definitions.specs.Effects.{brought_back}
use Rattle.desktop_definitions.proofs.PlacedLaws.{over_columns}
use Rattle.desktop_definitions.proofs.ClosingLaws.{recalled_fresh, none_closed_answered, recalled_answered}
use Rattle.desk_core.specs.Kept.{kept_desktop}
use Rattle.desk_commands.proofs.closings.recall_viewer.Goals as goal

pub returns-in_default : goal.returns-in_default
returns-in_default g c = record {
  answered =
      none_closed_answered _ _ (kept_desktop c.args.desk.now) c.requires.over c.in_default.is;
  uses = search (rules, g.met.S.CharSource.ground_self, g.met.S.CharSource.ground_through);
}

pub open_at-requires-clause-fresh : goal.open_at-requires-clause-fresh
open_at-requires-clause-fresh g c =
    recalled_fresh (g.S.CharSource.characters c.args.source.now) (kept_desktop c.args.desk.now) c.in-Some.viewer
    c.requires.over c.in-Some.is

pub returns : goal.returns
unfolding brought_back
returns g c = record {
  answered =
      let d = kept_desktop c.args.desk.now in
      let k = c.in-Some.viewer in
      let hold = over_columns _ d c.requires.over in
      recalled_answered _ _ d c.requires.over k c.in-Some.is
      (c.edits_keep_columns.ensures.opened d.columns k.viewer (left_of k.track) k.top hold
      (recalled_fresh _ d k c.requires.over c.in-Some.is))
      (λ w. c.edits_place_viewers.ensures.opened d.columns k.viewer (left_of k.track) k.top w hold)
      (kept_desktop c.open_at.new.self)
      (c.open_at.ensures
      ∙ ap (λ (x : ℕ). without_unshown (opened_at (record d { closed = None }) k.viewer (x, k.top))) c.left.ensures);
  uses = search (rules, g.met.S.CharSource.ground_self, g.met.S.CharSource.ground_through);
}
