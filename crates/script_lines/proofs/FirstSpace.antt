-- The words of a line.
use Rattle.std.proofs.Common.{◌≡◌, ℕ, ◌+◌, ◌≤◌, Bool, cond, ltb, List, Option, None, Some}
use Rattle.std.proofs.Common.{take, drop, refl, ap, ◌∙◌, inl, inr}
use Rattle.std.specs.Prelude.{position, ◌==◌}
use Rattle.std.specs.Option.{option_map}
use Rattle.std.specs.List.{position_or_len}
use Rattle.std.proofs.lemmas.Bool.{cases_Bool, ltb-false, cond-true, cond-false}
use Rattle.std.proofs.lemmas.List.{take_all}
use Rattle.screen_pictures.specs.Bytes.{space}
use Rattle.script_lines.specs.Words.{first_word, argument}

abbrev is_space : ℕ → Bool
is_space b = b == space

-- where the first place is past the end, or stands
at_place : (i n : ℕ) (o : Option ℕ) → o ≡ cond (ltb i n) (Some i) None → (o ≡ None → n ≤ i) × ((k : ℕ) → o ≡ Some k
    → i ≡ k)
at_place i n o e = elim (cases_Bool (ltb i n)) [
  | inl before ↦ let some : o ≡ Some i = e ∙ cond-true (ltb i n) (Some i) None before in ((λ none. cc), λ k found. cc)
  | inr past ↦ let none : o ≡ None = e ∙ cond-false (ltb i n) (Some i) None past in
      ((λ _. ltb-false i n past), λ k found. cc)
]

pub word_whole : (line : List ℕ) → position is_space line ≡ None → first_word line ≡ line
word_whole line none = take_all (position_or_len is_space line) line ((at_place _ _ _ refl).0 none)

pub word_front : (line : List ℕ) (i : ℕ) → position is_space line ≡ Some i → first_word line ≡ take i line
word_front line i found = ap (λ n. take n line) ((at_place _ _ _ refl).1 i found)

pub argument_behind : (line : List ℕ) (i : ℕ) → position is_space line ≡ Some i
    → argument line ≡ Some (drop (i + 1) line)
argument_behind line i found = ap (option_map (λ k. drop (k + 1) line)) found

pub ruleset word_parts = (word_whole, word_front, argument_behind)
