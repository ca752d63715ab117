-- What calls promise that read a text.
use Rattle.std.specs.Prelude.{ℕ, ◌+◌, ◌≡◌, List, Some, slice_get, Result, IfOk, OnOk}
use Rattle.char_file.specs.declared.source.CharSource.{Ghosts}
use Rattle.char_file.specs.Source.{OnlyReads}
use Rattle.piece_ring.specs.Text.{Text}
use Rattle.sector_disk.specs.Trail.{CountsFault}
use Rattle.readers_scanners.specs.Reading.{Reading}

module _ {S : Type 0} (s : Ghosts S) {A E : Type 0} where
  -- What a call leaves of a source that it only reads: its error is a failure of the source.
  pub record ReadsOrFails (result : Result A E) (old new : S) : Type 0 where
    pub reads : OnlyReads s.characters s.failures s.honest s.same_ground old new
    pub cause : CountsFault result (s.failures old) (s.failures new)

  -- What a call promises that reads one character, passes it, and returns what a text's list has of it. It stands
  -- between the places `at` and `after`.
  pub record ReadsOne (list_of : List ℕ → Text ℕ → List A) (result : Result A E) (before later : S)
      (old new : Reading)
      (at after : ℕ) : Type 0 where
    pub there : IfOk result
        (λ a. s.honest before → slice_get (list_of (s.characters before) old.text) at ≡ Some a)
    pub moves : OnOk result (after ≡ at + 1)
    pub text : new.text ≡ old.text
    pub reads : OnlyReads s.characters s.failures s.honest s.same_ground before later
    pub cause : CountsFault result (s.failures before) (s.failures later)

  -- it is the character at the position
  abbrev pub ReadsNext : (List ℕ → Text ℕ → List A) → Result A E → S → S → Reading → Reading
      → Type 0
  ReadsNext list_of result before later old new =
      ReadsOne list_of result before later old new old.position new.position

  -- it is the one before the position
  abbrev pub ReadsPrevious : (List ℕ → Text ℕ → List A) → Result A E → S → S → Reading → Reading
      → Type 0
  ReadsPrevious list_of result before later old new =
      ReadsOne list_of result before later old new new.position old.position
