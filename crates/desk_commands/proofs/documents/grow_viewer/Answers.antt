use Rattle.std.proofs.Common.{rules, ◌≤◌, length, sym, ap, subst, ◌∙◌, arith}
use Rattle.viewer_tracks.specs.declared.display.Track.{Track}
use Rattle.viewer_tracks.specs.declared.display.TheConstants.{DEPTH}
use Rattle.viewer_tracks.specs.Columns.{track_of, stack_of}
use Rattle.desktop_definitions.specs.Limits.{too_deep}
use Rattle.desktop_definitions.specs.Effects.{viewer_grown}
use Rattle.desktop_definitions.specs.Seen.{seen}
use Rattle.desktop_definitions.proofs.KeyLaws.{refusal_answered}
use Rattle.desktop_definitions.proofs.OpeningDone.{can_open}
use Rattle.desktop_definitions.proofs.RowLaws.{known_too_deep}
use Rattle.desktop_definitions.proofs.GrownLaws.{grown_deep, grown_answered, grown_full}
use Rattle.desk_core.specs.Kept.{kept_desktop}
use Rattle.desk_commands.proofs.OpeningLemmas.{answered_there, menu_is}
use Rattle.desk_commands.proofs.documents.grow_viewer.Goals as goal

pub returns-then-levels-eq-DEPTH : goal.returns-then-levels-eq-DEPTH
unfolding seen
returns-then-levels-eq-DEPTH g c = record {
  answered =
      let old = g.S.CharSource.characters c.args.source.now in
      let d = kept_desktop c.args.desk.now in
      let v = c.args.id in
      let track = c.track_from-track.ensures (track_of d.columns v) c.place_of.ensures.left in
      refusal_answered _ old d (viewer_grown (seen old d) v) too_deep c.requires.over known_too_deep
      (grown_deep (seen old d) v (subst (λ (k : Track). DEPTH ≤ length (stack_of d.columns k)) track
      (omega (arith, c.levels.ensures.depth, c.if-levels-eq-DEPTH.true))));
  uses = search (rules, g.met.S.CharSource.ground_self, g.met.S.CharSource.ground_through);
}

pub returns-then-not-opening_over_fits : goal.returns-then-not-opening_over_fits
returns-then-not-opening_over_fits g c = record {
  answered =
      let d = kept_desktop c.args.desk.now in
      let v = c.args.id in
      let k = c.track_from-track.result in
      let viewer = c.viewer_or_none-viewer.result in
      grown_full _ _ d v k c.text_called-menu.result.now viewer c.requires.over c.requires.placed
      (c.track_from-track.ensures (track_of d.columns v) c.place_of.ensures.left)
      (omega (arith, c.levels.ensures.depth, c.levels.ensures.few, c.if-levels-eq-DEPTH.false))
      c.viewer_or_none-viewer.ensures (menu_is d v c.viewer_or_none-viewer.ensures c.text_called-menu.ensures)
      (λ characters text long. sym (c.opening_over_fits.ensures characters text viewer.main viewer.org k
      (long ∙ sym c.len.ensures))
      ∙ c.if-not-opening_over_fits.true);
  uses = search (rules, g.met.S.CharSource.ground_self, g.met.S.CharSource.ground_through);
}

pub open_over-requires : goal.open_over-requires
open_over-requires g c = (
  can_open (kept_desktop c.args.desk.now) c.requires.over.whole,
  omega (arith, c.levels.ensures.depth, c.levels.ensures.few, c.if-levels-eq-DEPTH.false),
)

pub returns : goal.returns
returns g c = record {
  answered =
      let d = kept_desktop c.args.desk.now in
      let v = c.args.id in
      let k = c.track_from-track.result in
      let viewer = c.viewer_or_none-viewer.result in
      answered_there c.in_ok-open_over.ensures
      (grown_answered _ _ d v k c.in_ok-menu.menu viewer c.requires.over c.requires.placed
      (c.track_from-track.ensures (track_of d.columns v) c.place_of.ensures.left)
      (omega (arith, c.levels.ensures.depth, c.levels.ensures.few, c.if-levels-eq-DEPTH.false))
      c.viewer_or_none-viewer.ensures
      (c.in_ok-menu.ensures ∙ menu_is d v c.viewer_or_none-viewer.ensures c.text_called-menu.ensures)
      (λ characters text long. sym (c.opening_over_fits.ensures characters text viewer.main viewer.org k
      (long ∙ ap length c.in_ok-menu.ensures ∙ sym c.len.ensures))
      ∙ c.if-not-opening_over_fits.false));
  uses = search (rules, g.met.S.CharSource.ground_self, g.met.S.CharSource.ground_through);
}
