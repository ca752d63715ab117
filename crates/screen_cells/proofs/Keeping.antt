-- Lines that are kept: what stays of them, and what they show.
use Rattle.std.proofs.Common.{◌≡◌, ◌≢◌, ℕ, ◌+◌, ◌<◌, ◌≤◌, List, length, get_or, set, Option, Some, None, IfSome}
use Rattle.std.proofs.Common.{refl, sym, ap, subst, ◌∙◌, arith, below_more}
use Rattle.std.specs.Prelude.{All}
use Rattle.std.proofs.lemmas.List.{length-set, get_or-set_same, get_or-set_other, get_or_default}
use Rattle.piece_ring.specs.Text.{Text}
use Rattle.text_frames.specs.Row.{row_cells}
use Rattle.screen_pictures.specs.Picture.{caret_at}
use Rattle.screen_cells.specs.declared.lines.KeptLine.{KeptLine}
use Rattle.screen_cells.specs.declared.lines.CaretKey.{CaretKey}
use Rattle.screen_cells.specs.declared.lines.KeptCaret.{KeptCaret}
use Rattle.screen_cells.specs.declared.lines.KeptLines.{KeptLines}
use Rattle.screen_cells.specs.declared.shown.Shown.{Shown}
use Rattle.screen_cells.specs.Lines.{IsSlotOf, IsLineOf, IsCaretOf, AreLinesOf, IsNumbered}

-- texts are as before but for the one of that number
abbrev pub SameBut : (ℕ → Text ℕ) → (ℕ → Text ℕ) → ℕ → Type 0
SameBut before after number = (n : ℕ) → ¬ (n ≡ number) → after n ≡ before n

module _ (before after : ℕ → Text ℕ) (number : ℕ) (same : SameBut before after number) where
  -- a caret of another text is where it was
  pub caret_stays : (caret : Option KeptCaret) (kept : KeptCaret) → caret ≡ Some kept
      → ¬ (kept.key.frame.text ≡ number) → IfSome caret (IsCaretOf before) → IfSome caret (IsCaretOf after)
  caret_stays None kept is other told = tt
  caret_stays (Some k) kept is other told =
      let there : k ≡ kept = cc is in
      let apart : ¬ (k.key.frame.text ≡ number) =
      subst (λ (c : KeptCaret). ¬ (c.key.frame.text ≡ number)) (sym there) other in
      told ∙ ap (λ text. caret_at k.key.frame.width k.key.rows text k.key.frame.org (Some k.key.position))
      (sym (same k.key.frame.text apart))

  -- and so is a line
  pub line_stays : (slot : Option KeptLine) → ((line : KeptLine) → slot ≡ Some line → ¬ (line.key.frame.text ≡ number))
      → IsSlotOf before slot → IsSlotOf after slot
  line_stays None other told = tt
  line_stays (Some line) other told =
      told ∙ ap (λ text. row_cells line.key.frame.width text line.key.frame.org line.key.row)
      (sym (same line.key.frame.text (other line refl)))

-- the first n lines were gone through, and the others are as before
pub record AreForgotten (before after : ℕ → Text ℕ) (old new : List (Option KeptLine)) (n : ℕ) : Type 0 where
  pub as_long : length new ≡ length old
  pub done : (k : ℕ) → k < n → IsSlotOf before (get_or old k None) → IsSlotOf after (get_or new k None)
  pub left : (k : ℕ) → n ≤ k → get_or new k None ≡ get_or old k None

module _ (before after : ℕ → Text ℕ) (old : List (Option KeptLine)) where
  pub none_forgotten : AreForgotten before after old old 0
  none_forgotten = record {
    as_long = refl;
    done = λ k low told. absurd (omega (arith, low));
    left = λ k low. refl;
  }

  pub one_forgotten : (now : List (Option KeptLine)) (n : ℕ) (slot : Option KeptLine) → n < length old
      → AreForgotten before after old now n
      → (IsSlotOf before (get_or now n None) → IsSlotOf after slot)
      → AreForgotten before after old (set now n slot) (n + 1)
  one_forgotten now n slot inside so_far made = record {
    as_long = length-set now n slot ∙ so_far.as_long;
    done = below_more
        (λ k. IsSlotOf before (get_or old k None) → IsSlotOf after (get_or (set now n slot) k None)) n
        (λ k low told. let other : k ≢ n = omega (arith, low) in
        subst (IsSlotOf after) (sym (get_or-set_other now n k slot None other)) (so_far.done k low told))
        (λ told. let long : n < length now = omega (arith, so_far.as_long, inside) in
        subst (IsSlotOf after) (sym (get_or-set_same now n slot None long))
        (made (subst (IsSlotOf before) (sym (so_far.left n (omega arith))) told)));
    left = λ k low. let other : k ≢ n = omega (arith, low) in
        get_or-set_other now n k slot None other ∙ so_far.left k (omega (arith, low));
  }

  pub all_forgotten : (new : List (Option KeptLine)) (n : ℕ) → length new ≤ n → AreForgotten before after old new n
      → All (IsSlotOf before) old → All (IsSlotOf after) new
  all_forgotten new n all so_far told = λ i d low.
      let long : i < length old = omega (arith, low, so_far.as_long) in
      subst (IsSlotOf after) (get_or_default new i None d low)
      (so_far.done i (omega (arith, low, all)) (told i None long))

-- a caret that is kept stands where that of the same text, frame and position does
pub caret_same : (texts : ℕ → Text ℕ) (caret : Option KeptCaret) (kept : KeptCaret) (key : CaretKey) (text : Text ℕ)
    → caret ≡ Some kept → kept.key ≡ key → texts key.frame.text ≡ text → IfSome caret (IsCaretOf texts)
    → kept.cell ≡ caret_at key.frame.width key.rows text key.frame.org (Some key.position)
caret_same texts caret kept key text is named there told =
    let so : IsCaretOf texts kept = subst (λ (c : Option KeptCaret). IfSome c (IsCaretOf texts)) is told in
    so ∙ ap (λ (k : CaretKey). caret_at k.frame.width k.rows (texts k.frame.text) k.frame.org (Some k.position)) named
    ∙ ap (λ t. caret_at key.frame.width key.rows t key.frame.org (Some key.position)) there

-- texts of which the lines are, and of which viewers show those that they name
pub record AreKnown (characters : List ℕ) (shown : List Shown) (lines : KeptLines) : Type 0 where
  pub texts : ℕ → Text ℕ
  pub numbered : All (IsNumbered texts characters) shown
  pub told : AreLinesOf texts lines

-- over characters that a call has left as they were
pub numbered_still : (texts : ℕ → Text ℕ) (characters rest : List ℕ) (s : Shown) → rest ≡ characters
    → IsNumbered texts characters s → IsNumbered texts rest s
numbered_still texts characters rest s same is = subst (λ (read : List ℕ). IsNumbered texts read s) (sym same) is

pub all_numbered_still : (texts : ℕ → Text ℕ) (characters rest : List ℕ) (shown : List Shown) → rest ≡ characters
    → All (IsNumbered texts characters) shown → All (IsNumbered texts rest) shown
all_numbered_still texts characters rest shown same is =
    subst (λ (read : List ℕ). All (IsNumbered texts read) shown) (sym same) is
