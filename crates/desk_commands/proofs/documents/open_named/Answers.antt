use Rattle.std.specs.Prelude.{⊤}
use Rattle.std.proofs.Common.{rules, ◌≡◌, ℕ, List, Ok, false, sym, ap, subst, ◌∙◌}
use Rattle.std.proofs.lemmas.Result.{IfOk-weaker}
use Rattle.piece_ring.specs.Text.{AreWithin}
use Rattle.desktop_definitions.specs.Change.{more_written}
use Rattle.desktop_definitions.specs.Opening.{menu_line, after_opening, without_unshown}
use Rattle.desktop_definitions.specs.Seen.{seen}
use Rattle.desktop_definitions.specs.Step.{fits, outcome_of}
use Rattle.desktop_definitions.proofs.KeyLaws.{row_as}
use Rattle.desktop_definitions.proofs.OpeningOnLaws.{file_within, copy_row, copy_full}
use Rattle.desktop_definitions.specs.Unread.{characters_after}
use Rattle.desktop_definitions.specs.Step.{outcome_after}
use Rattle.desk_core.specs.Kept.{kept_desktop}
use Rattle.desk_core.proofs.UnreadLemmas.{over_all}
use Rattle.desktop_definitions.specs.Looks.{AreLooks}
use Rattle.desktop_definitions.proofs.OpeningOnLaws.{file_looks}
use Rattle.desk_commands.proofs.documents.open_named.Goals as goal

pub returns-then-not-opening_fits : goal.returns-then-not-opening_fits
returns-then-not-opening_fits g c = record {
  answered =
      let old = g.S.CharSource.characters c.args.source.now in
      let d = kept_desktop c.args.desk.now in
      let line = c.menu_line-menu.ensures ∙ ap menu_line c.as_bytes.ensures.value in
      let long = c.len.ensures.value in
      copy_full old d c.args.name.now c.menu_line-menu.result.items line (c.args.x, c.args.y) _ c.requires.over
      (λ characters menu main menu_long main_long.
      subst (λ (n : ℕ). fits (without_unshown (more_written (after_opening (seen characters d) menu main (c.args.x, c.args.y)) n))
      ≡ false) long
      (sym (c.opening_fits.ensures.fits characters menu main (menu_long ∙ sym long)
      (main_long ∙ sym c.file_len-len.ensures)) ∙ c.if-not-opening_fits.true));
  unread =
      λ all long.
      let d = kept_desktop c.args.desk.now in
      let line = c.menu_line-menu.ensures ∙ ap menu_line c.as_bytes.ensures.value in
      let sized = c.len.ensures.value in
      (copy_full all d c.args.name.now c.menu_line-menu.result.items line (c.args.x, c.args.y) ⊤
      (over_all c.requires.over all long)
      (λ characters menu main menu_long main_long.
      subst (λ (n : ℕ). fits (without_unshown (more_written (after_opening (seen characters d) menu main (c.args.x, c.args.y)) n))
      ≡ false) sized
      (sym (c.opening_fits.ensures.fits characters menu main (menu_long ∙ sym sized)
      (main_long ∙ sym c.file_len-len.ensures)) ∙ c.if-not-opening_fits.true))).exact tt;
  uses = search (rules, g.met.S.CharSource.ground_self, g.met.S.CharSource.ground_through);
}

pub open_viewer-requires-clause-within : goal.open_viewer-requires-clause-within
open_viewer-requires-clause-within g c =
    let d = kept_desktop c.args.desk.now in
    subst (AreWithin d.written) (sym c.in_ok-main.ensures) (file_within d c.args.name.now c.requires.over.whole)

pub open_viewer-requires-clause-looks : goal.open_viewer-requires-clause-looks
open_viewer-requires-clause-looks g c =
    let d = kept_desktop c.args.desk.now in
    subst AreLooks (sym c.in_ok-main.ensures) (file_looks d c.args.name.now c.requires.over.whole)

pub returns : goal.returns
returns g c = record {
  answered =
      let old = g.S.CharSource.characters c.args.source.now in
      let d = kept_desktop c.args.desk.now in
      let line = c.as_slice.ensures.value ∙ c.menu_line-menu.ensures ∙ ap menu_line c.as_bytes.ensures.value in
      IfOk-weaker c.open_viewer.result _ _ (λ reply answered. row_as (seen old d) _ answered
      (λ k. Ok (copy_row old d c.args.name.now c.as_slice.result.now line (c.args.x, c.args.y) c.in_ok-main.main
      c.in_ok-main.ensures k)))
      c.open_viewer.ensures.answered;
  unread =
      let d = kept_desktop c.args.desk.now in
      let after = kept_desktop c.open_viewer.new.desk in
      let line = c.as_slice.ensures.value ∙ c.menu_line-menu.ensures ∙ ap menu_line c.as_bytes.ensures.value in
      IfOk-weaker c.open_viewer.result _ _ (λ reply is all long.
      ap (λ (bytes : List ℕ). outcome_of (seen (characters_after all bytes reply) after) reply) (sym line) ∙ is all long
      ∙ (λ k. outcome_after (seen all d) (Ok (sym (copy_row all d c.args.name.now c.as_slice.result.now line
      (c.args.x, c.args.y) c.in_ok-main.main c.in_ok-main.ensures) k))))
      c.open_viewer.ensures.unread;
  uses = search (rules, g.met.S.CharSource.ground_self, g.met.S.CharSource.ground_through);
}
