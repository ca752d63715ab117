use Rattle.std.proofs.Common.{rules, ◌+◌, ◌-◌, ◌/◌, length, sym, ap, ◌∙◌, inr}
use Rattle.desktop_definitions.specs.Limits.{too_low}
use Rattle.desktop_definitions.specs.Effects.{viewer_copied}
use Rattle.desktop_definitions.specs.Seen.{seen}
use Rattle.desktop_definitions.proofs.KeyLaws.{refusal_answered}
use Rattle.desktop_definitions.specs.Opening.{new_id}
use Rattle.desktop_definitions.proofs.OpeningDone.{new_fresh, can_open, whole_columns}
use Rattle.desktop_definitions.proofs.RowLaws.{known_too_low}
use Rattle.desktop_definitions.proofs.OpeningOnLaws.{half_free, copied_low, copied_full}
use Rattle.desktop_definitions.proofs.OpeningOnLaws.{copied_answered}
use Rattle.desk_core.specs.Kept.{kept_desktop}
use Rattle.desk_commands.proofs.OpeningLemmas.{answered_there, menu_is}
use Rattle.desk_commands.proofs.documents.copy_viewer.Goals as goal

pub returns-then-rows-eq1 : goal.returns-then-rows-eq1
unfolding seen
returns-then-rows-eq1 g c = record {
  answered =
      let old = g.S.CharSource.characters c.args.source.now in
      let d = kept_desktop c.args.desk.now in
      let place = c.place_of-place in
      refusal_answered _ old d (viewer_copied (seen old d) c.args.id) too_low c.requires.over known_too_low
      (copied_low (seen old d) c.args.id place.result.x place.result.bottom place.result.top place.ensures
      c.if-rows-eq1.true);
  uses = search (rules, g.met.S.CharSource.ground_self, g.met.S.CharSource.ground_through);
}

pub returns-then-not-opening_on_fits : goal.returns-then-not-opening_on_fits
returns-then-not-opening_on_fits g c = record {
  answered =
      let d = kept_desktop c.args.desk.now in
      let place = c.place_of-place in
      let viewer = c.viewer_or_none-viewer.result in
      let more = c.if-rows-eq1.false in
      copied_full _ _ d c.args.id place.result.x place.result.bottom place.result.top c.text_called-menu.result.now
      viewer c.requires.over c.requires.placed place.ensures more c.viewer_or_none-viewer.ensures
      (menu_is d c.args.id c.viewer_or_none-viewer.ensures c.text_called-menu.ensures)
      (λ characters text long. sym (c.opening_on_fits.ensures.fits characters text viewer.main viewer.org
      (long ∙ sym c.len.ensures)
      (inr (half_free d.columns c.args.id place.result.x place.result.bottom place.result.top
      (whole_columns d c.requires.over.whole) c.requires.placed place.ensures more)))
      ∙ c.if-not-opening_on_fits.true);
  uses = search (rules, g.met.S.CharSource.ground_self, g.met.S.CharSource.ground_through);
}

pub open_on-requires-clause-can : goal.open_on-requires-clause-can
open_on-requires-clause-can g c = can_open (kept_desktop c.args.desk.now) c.requires.over.whole

pub returns : goal.returns
returns g c = record {
  answered =
      let d = kept_desktop c.args.desk.now in
      let place = c.place_of-place in
      let x = place.result.x in
      let y = place.result.bottom + (place.result.top - place.result.bottom) / 2 in
      let viewer = c.viewer_or_none-viewer.result in
      let more = c.if-rows-eq1.false in
      let hold = whole_columns d c.requires.over.whole in
      answered_there c.in_ok-open_on.ensures
      (copied_answered _ _ d c.args.id x place.result.bottom place.result.top c.in_ok-menu.menu
      viewer c.requires.over c.requires.placed place.ensures more c.viewer_or_none-viewer.ensures
      (c.in_ok-menu.ensures ∙ menu_is d c.args.id c.viewer_or_none-viewer.ensures c.text_called-menu.ensures)
      (record {
        hold = c.edits_keep_columns.ensures.opened d.columns (new_id d) x y hold (new_fresh d c.requires.over.whole);
        places = λ w. c.edits_place_viewers.ensures.opened d.columns (new_id d) x y w hold;
      })
      (λ characters text long. sym (c.opening_on_fits.ensures.fits characters text viewer.main viewer.org
      (long ∙ ap length c.in_ok-menu.ensures ∙ sym c.len.ensures)
      (inr (half_free d.columns c.args.id x place.result.bottom place.result.top hold c.requires.placed place.ensures
      more)))
      ∙ c.if-not-opening_on_fits.false));
  uses = search (rules, g.met.S.CharSource.ground_self, g.met.S.CharSource.ground_through);
}
