-- Laws of looks that commands set: of what is typed, and of the newest selection.
use Rattle.std.specs.Prelude.{◌≡◌, ⊤, ℕ, List, length, Option, Some, None, option_map, Result, Ok}
use Rattle.std.specs.List.{position}
use Rattle.std.specs.Str.{bytes_eq}
use Rattle.std.proofs.Common.{refl, sym, ap, subst, ◌∙◌, arith}
use Rattle.piece_ring.specs.declared.piece.Look.{Look}
use Rattle.piece_ring.specs.Look.{default_look, relooked}
use Rattle.desktop_definitions.specs.declared.look_change.LookChange.{LookChange}
use Rattle.desktop_definitions.specs.declared.viewer.Selection.{Selection}
use Rattle.desktop_definitions.specs.declared.reply.Reply.TheVariants.{Done, No}
use Rattle.desktop_definitions.specs.Limits.{no_selection, bad_value}
use Rattle.desktop_definitions.specs.Needs.{needs}
use Rattle.desktop_definitions.specs.Desktop.{DesktopOf, Desktop, KeptDesktop, characters_held}
use Rattle.desktop_definitions.specs.Viewers.{newest}
use Rattle.desktop_definitions.specs.Change.{looks_set}
use Rattle.desktop_definitions.specs.Looks.{fonts, font_set}
use Rattle.desktop_definitions.specs.Effects.{look_set, selection_set}
use Rattle.desktop_definitions.specs.Seen.{seen}
use Rattle.desktop_definitions.specs.Step.{outcome_after}
use Rattle.desktop_definitions.specs.Sound.{IsSound, IsOver}
use Rattle.desktop_definitions.specs.Changed.{IsChanged}
use Rattle.desktop_definitions.specs.Outcome.{IsAnswered}
use Rattle.desktop_definitions.proofs.RowLaws.{known_no_selection, row_answered, over_built, changed_under}
use Rattle.desktop_definitions.proofs.RowPartLaws.{less_answered}
use Rattle.desktop_definitions.proofs.KeyLaws.{refusal_answered, row_as}
use Rattle.desktop_definitions.proofs.RowLaws.{known_bad_value}
use Rattle.desktop_definitions.specs.Looks.{IsLook, SetsLook}
use Rattle.desktop_definitions.proofs.LookedLaws.{relooked_is_look, typed_looks, shape_stays, kept_look, within_stays}

-- ---- what is typed

-- a desktop in which that look is typed
abbrev pub in_typed : {T : Type 0} → DesktopOf T → Look → DesktopOf T
in_typed d look = record d { look = look }

typed_sound : (d : Desktop) (look : Look) → IsLook look → IsSound d → IsSound (in_typed d look)
unfolding characters_held
typed_sound d look is sound = record {
  shaped = shape_stays sound.shaped refl sound.shaped.pattern (typed_looks d sound.shaped.looks look is);
  shown = sound.shown;
  written_within = sound.written_within;
  held_within = sound.held_within;
}

typed_over : (old : List ℕ) (d : KeptDesktop) (look : Look) → IsLook look → IsOver old d
    → IsOver old (in_typed d look)
unfolding seen
typed_over old d look is over = record {
  counted = over.counted;
  whole = record {
    within = within_stays over.whole.within refl;
    sound = λ all. typed_sound (seen all d) look is (over.whole.sound all);
  };
}

module _ (H : Type 0) (old : List ℕ) (d : KeptDesktop) (over : IsOver old d) where
  -- a refusal where no field is set
  pub none_set_answered : (new : Option LookChange) (row : LookChange → Result Desktop ℕ) → new ≡ None
      → IsAnswered H old old d d (outcome_after (seen old d) (needs new bad_value row)) (No bad_value)
  none_set_answered new row is = refusal_answered H old d _ bad_value over known_bad_value
      (ap (λ (o : Option LookChange). needs o bad_value row) is)

  pub look_set_answered : (new : Option LookChange) (set : LookChange) (look : Look) → SetsLook new → new ≡ Some set
      → look ≡ relooked set.selector set.look d.look
      → IsAnswered H old old d (in_typed d look)
      (outcome_after (seen old d) (needs new bad_value (λ set. Ok (look_set (seen old d) set)))) Done
  unfolding seen look_set
  look_set_answered new set look sets is look_is =
      row_as (seen old d) _
      (row_answered H old old d (in_typed d look) (look_set (seen old d) set)
      (typed_over old d look (subst IsLook (sym look_is) (relooked_is_look set.selector set.look d.look (sets set is)
      (kept_look (length old) d (over_built old d over)))) over)
      (λ h k. in_typed (seen old d) (look_is k)))
      (ap (λ (o : Option LookChange). needs o bad_value (λ set. Ok (look_set (seen old d) set))) is)

  -- ---- the newest selection

  -- a refusal without a selection
  pub none_selected_answered : (new : Option LookChange) (set : LookChange) → new ≡ Some set → newest d ≡ None
      → IsAnswered H old old d d (outcome_after (seen old d) (needs new bad_value (selection_set (seen old d))))
      (No no_selection)
  unfolding seen selection_set
  none_selected_answered new set is none = refusal_answered H old d _ no_selection over known_no_selection
      (ap (λ (o : Option LookChange). needs o bad_value (selection_set (seen old d))) is
      ∙ ap (λ (o : Option Selection). needs o no_selection (λ s. Ok (looks_set (seen old d) s set.selector set.look))) none)

  pub selection_set_answered : (new : Option LookChange) (set : LookChange) (s : Selection) (after : KeptDesktop)
      → new ≡ Some set → newest d ≡ Some s → IsChanged ⊤ old d after (looks_set (seen old d) s set.selector set.look) 0 0
      → IsAnswered H old old d after (outcome_after (seen old d) (needs new bad_value (selection_set (seen old d)))) Done
  unfolding seen selection_set
  selection_set_answered new set s after is some changed =
      row_as (seen old d) _
      (less_answered H old old d after (looks_set (seen old d) s set.selector set.look) 0 0 (omega arith) over refl (λ h. refl)
      (changed_under (λ h. tt) changed))
      (ap (λ (o : Option LookChange). needs o bad_value (selection_set (seen old d))) is
      ∙ ap (λ (o : Option Selection). needs o no_selection (λ s. Ok (looks_set (seen old d) s set.selector set.look))) some)

-- ---- fonts

-- the default look in the font of a number, to be taken of it
abbrev pub in_font : ℕ → LookChange
in_font n = record { selector = 1; look = record default_look { font = n } }

-- where the bytes of a name stand among the fonts
pub font_found : (bytes name : List ℕ) (place : Option ℕ) → place ≡ position (bytes_eq bytes) fonts → bytes ≡ name
    → option_map in_font place ≡ font_set name
font_found bytes name place found is = ap (option_map in_font) (found ∙ ap (λ b. position (bytes_eq b) fonts) is)
