-- Where a paragraph is filled: the next edit is sought in the text of the caret.
use Rattle.std.proofs.Common.{◌≡◌, ◌≢◌, arith, Bool, true, false, sym, ◌∙◌, ap, List, ℕ}
use Rattle.std.specs.Prelude.{Option, Some, None, ◌==◌}
use Rattle.std.proofs.lemmas.Bool.{cond-true, cond-false}
use Rattle.std.proofs.lemmas.Bool.Decides.{nat_tests}
use Rattle.desktop_definitions.specs.Change.{bytes_of}
use Rattle.desktop_definitions.specs.Words.{Text}
use Rattle.filled_pastes.specs.declared.edits.Edit.{Edit}
use Rattle.filled_pastes.specs.Paragraphs.{fill_edit}
use Rattle.status_line.specs.declared.saying.Saying.TheVariants.{NoCaret, NoScroll}
use Rattle.sought_words.specs.declared.seeking.SearchStart.{SearchStart}
use Rattle.sought_words.specs.Sought.{search_from}
use Rattle.desktop_definitions.specs.Desktop.{Desktop}
use Rattle.desk_journal.specs.Views.{Place as ViewerPlace, caret_text}
use Rattle.press_tasks.specs.declared.task.Task.TheVariants as kind
use Rattle.press_tasks.specs.declared.refill.Refilling.TheVariants as refilling
use Rattle.press_plans.specs.Plans.{Plan, Refused, caret_place, edit_plan, plan_of, seek_edit}

is_no_row : (n : ℕ) → n ≡ 0 → (n == 0) ≡ true
is_no_row n is = ap (λ (m : ℕ). m == 0) is

is_some_row : (n : ℕ) → n ≢ 0 → (n == 0) ≡ false
is_some_row n some = grind (arith, nat_tests)

module _ (home : ℕ) (begins : Bool) (start : SearchStart) (place : Option ViewerPlace) (d : Desktop)
    (start_is : start ≡ search_from None place false) (place_is : place ≡ caret_place d) where
  abbrev edit_there : Plan
  edit_there = plan_of (kind.Refill (refilling.Next home begins)) d

  from_text : (text : Option (Text ℕ)) → text ≡ caret_text d → seek_edit text start home begins ≡ edit_there
  unfolding plan_of
  from_text text text_is =
      let from : start ≡ search_from None (caret_place d) false = start_is ∙ ap (λ (p : Option ViewerPlace). search_from None p false) place_is in
      λ k. seek_edit (text_is k) (from k) home begins

  pub fills_nowhere : None ≡ caret_text d → Refused NoCaret ≡ edit_there
  fills_nowhere none = from_text None none

  pub fills_in_no_row : (text : Text ℕ) → Some text ≡ caret_text d → start.rows ≡ 0 → Refused NoScroll ≡ edit_there
  fills_in_no_row text text_is none =
      sym (cond-true (start.rows == 0) (Refused NoScroll) (edit_plan (fill_edit (bytes_of text) start.columns home) home begins)
      (is_no_row start.rows none))
      ∙ from_text (Some text) text_is

  pub fills : (text : Text ℕ) (bytes : List ℕ) (edit : Option Edit) → Some text ≡ caret_text d → (start.rows ≡ 0 → ⊥)
      → bytes ≡ bytes_of text → edit ≡ fill_edit bytes start.columns home → edit_plan edit home begins ≡ edit_there
  fills text bytes edit text_is some bytes_are edit_is =
      ap (λ (e : Option Edit). edit_plan e home begins)
      (edit_is ∙ ap (λ (b : List ℕ). fill_edit b start.columns home) bytes_are)
      ∙ sym (cond-false (start.rows == 0) (Refused NoScroll)
      (edit_plan (fill_edit (bytes_of text) start.columns home) home begins) (is_some_row start.rows some))
      ∙ from_text (Some text) text_is
