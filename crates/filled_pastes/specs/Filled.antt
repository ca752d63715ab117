-- What the edits of a paragraph keep: its words, and the place of the caret among them.
use Rattle.std.specs.Prelude.{◌≡◌, ℕ, ◌+◌, ◌-◌, ◌^◌, ◌<◌, true, not, List, filter, take, IfSome}
use Rattle.filled_pastes.specs.Poured.{parts_words}
use Rattle.filled_pastes.specs.Paragraphs.{after_edit, ends_at, fill_edit, follows_blank, is_written, moved, word_length_at}
use Rattle.filled_pastes.specs.declared.edits.Edit.{Edit}
use Rattle.filled_pastes.specs.declared.edits.Edit.TheVariants.{Ends, Tears, Joins, Blanks}

-- A line ends between a blank and a word, so that no word is broken. What it goes on with is a word behind a blank, so that
-- no two become one.
abbrev pub IsEdit : List ℕ → Edit → Type 0
IsEdit bs (Ends q) = (follows_blank bs q ≡ true) × (0 < word_length_at bs q)
IsEdit bs (Tears t q) = (t < q) × (follows_blank bs q ≡ true) × (0 < word_length_at bs q)
IsEdit bs (Joins e) =
    (ends_at bs e ≡ true) × (follows_blank bs e ≡ true) × (0 < word_length_at bs (e + 1))
IsEdit bs (Blanks e) =
    (ends_at bs e ≡ true) × (is_written bs e ≡ true) × (0 < word_length_at bs (e + 1))

-- what words are made of
abbrev pub letters : List ℕ → List ℕ
letters bs = filter (λ b. not (parts_words b)) bs

-- all of them stay, before the caret and behind it
pub record KeepsLetters (bs : List ℕ) (p : ℕ) (edit : Edit) : Type 0 where
  pub all : letters (after_edit bs edit) ≡ letters bs
  pub before : letters (take (moved edit p) (after_edit bs edit)) ≡ letters (take p bs)

abbrev pub WordsStay : Type 0
WordsStay = (bs : List ℕ) (w p : ℕ) → p < 2 ^ 32 - 1
    → IfSome (fill_edit bs w p) (λ edit. IsEdit bs edit × KeepsLetters bs p edit)
