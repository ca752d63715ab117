-- The empty desktop.
use Rattle.std.proofs.Common.{◌≡◌, ℕ, zero, suc, List, [], ◌∷◌, None, refl, sym, ap, subst, ◌∙◌, arith}
use Rattle.viewer_tracks.specs.Columns.{Columns, no_viewers}
use Rattle.desktop_definitions.specs.declared.viewer.Viewer.{Viewer}
use Rattle.desktop_definitions.specs.declared.viewer.Selection.{Selection}
use Rattle.piece_ring.specs.declared.piece.Piece.{Piece}
use Rattle.piece_ring.specs.Flat.{flat}
use Rattle.piece_ring.specs.Look.{default_look}
use Rattle.piece_ring.specs.Text.{Text, AreWithin}
use Rattle.readers_scanners.specs.Reading.{contents}
use Rattle.desktop_definitions.specs.Tables.{Texts, Files}
use Rattle.desktop_definitions.specs.Desktop.{KeptDesktop, empty_desktop}
use Rattle.desktop_definitions.specs.Seen.{seen, seen_table}
use Rattle.desktop_definitions.specs.Sound.{IsSound, IsOver, AllWithin}
use Rattle.desktop_definitions.proofs.StepLaws.{empty_sound}

module _ (texts : Texts (List Piece)) (viewers : List (ℕ × Viewer)) (columns : Columns) (selections : List Selection)
    (files : Files (List Piece)) (copied deleted : List Piece) (pattern : List ℕ) (text : List Piece)
    (texts_is : texts ≡ (0, text) ∷ []) (is : flat text ≡ []) (no_viewers_is : viewers ≡ [])
    (columns_is : columns ≡ no_viewers) (no_selections : selections ≡ []) (none : files ≡ [])
    (no_copied : flat copied ≡ []) (no_deleted : flat deleted ≡ []) (no_pattern : pattern ≡ []) where
  abbrev new_desktop : KeptDesktop
  new_desktop = record {
    texts = texts;
    viewers = viewers;
    columns = columns;
    caret = None;
    selections = selections;
    marker = None;
    closed = None;
    files = files;
    copied = copied;
    deleted = deleted;
    pattern = pattern;
    look = default_look;
    written = 0;
  }

  empty_seen : (characters : List ℕ) → seen characters new_desktop ≡ empty_desktop
  unfolding seen empty_desktop
  empty_seen characters = λ k. record (seen characters new_desktop) {
    texts = (ap (seen_table characters) texts_is ∙ ap (λ (t : Text ℕ). (0, contents characters t) ∷ []) is) k;
    viewers = no_viewers_is k;
    columns = columns_is k;
    selections = no_selections k;
    files = (ap (seen_table characters) none) k;
    copied = (ap (contents characters) no_copied) k;
    deleted = (ap (contents characters) no_deleted) k;
    pattern = no_pattern k;
  }

  nothing : (text : List Piece) → flat text ≡ [] → AreWithin 0 (flat text)
  nothing text is = subst (AreWithin 0) (sym is) (λ i d low. absurd (omega (arith, low)))

  one : AllWithin {K = ℕ} 0 ((0, text) ∷ [])
  one zero d low = nothing text is
  one (suc i) d low = absurd (omega (arith, low))

  no_files : AllWithin {K = List ℕ} 0 []
  no_files i d low = absurd (omega (arith, low))

  empty_over : IsOver [] new_desktop
  empty_over = record {
    counted = refl;
    whole = record {
      within = record {
        texts = subst (AllWithin 0) (sym texts_is) one;
        files = subst (AllWithin 0) (sym none) no_files;
        copied = nothing copied no_copied;
        deleted = nothing deleted no_deleted;
      };
      sound = λ characters. subst IsSound (sym (empty_seen characters)) empty_sound;
    };
  }

  pub are_empty : ((characters : List ℕ) → seen characters new_desktop ≡ empty_desktop) × IsOver [] new_desktop
  are_empty = (empty_seen, empty_over)
