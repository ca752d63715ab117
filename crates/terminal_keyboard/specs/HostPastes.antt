-- A text on its way in as a paste: what frames it, and what its bytes are told as.
use Rattle.std.specs.Prelude.{ℕ, ◌+◌, ◌==◌, if◌then◌else◌, List, [], ◌∷◌, ◌++◌, map, length, Option}
use Rattle.std.specs.Io.KnownBytes.{Consumes}
use Rattle.terminal_presses.specs.declared.press.Heard.{Heard}
use Rattle.terminal_keyboard.specs.Spelling.{bytes_heard}
use Rattle.terminal_keyboard.specs.declared.paste.Stage.{Stage}
use Rattle.terminal_keyboard.specs.declared.paste.Stage.TheVariants.{Begins, GoesOn, Ended, Broken}

-- an escape byte and [200~
abbrev pub paste_begins : List ℕ
paste_begins = 27 ∷ 91 ∷ 50 ∷ 48 ∷ 48 ∷ 126 ∷ []

-- an escape byte and [201~
abbrev pub paste_ends : List ℕ
paste_ends = 27 ∷ 91 ∷ 50 ∷ 48 ∷ 49 ∷ 126 ∷ []

-- an escape byte and [202~: the file can be read no further
abbrev pub file_fails : List ℕ
file_fails = 27 ∷ 91 ∷ 50 ∷ 48 ∷ 50 ∷ 126 ∷ []

-- An escape byte of a text is told as a byte that can't be typed, of which a paste makes a question mark, and any other byte
-- as itself: so nothing of a text is a key, and nothing of it ends the paste.
unfoldable pub harmless : ℕ → ℕ
harmless b = if b == 27 then 28 else b

-- What is told of a text at one time, and the bytes that are read for it. `left` is how many bytes may still be read.
pub data TellsText : Stage → ℕ → Stage → ℕ → List ℕ → List Heard → Type 0 where
  begins : {left : ℕ} → TellsText Begins left GoesOn left [] (bytes_heard paste_begins)
  goes_on : {left : ℕ} {text : List ℕ}
      → TellsText GoesOn (left + length text) GoesOn left text (bytes_heard (map harmless text))
  ends : {left : ℕ} → TellsText GoesOn left Ended left [] (bytes_heard paste_ends)
  breaks : {left : ℕ} → TellsText GoesOn left Broken left []
      (bytes_heard (paste_ends ++ file_fails))

-- The same of a reader, whose bytes are known or not.
pub record TakesText (stage stage' : Stage) (left left' : ℕ) (known known' : Option (List ℕ))
    (told : List Heard)
    : Type 0 where
  pub text : List ℕ
  pub read : Consumes known known' text
  pub tells : TellsText stage left stage' left' text told

-- All that was told so far of a text of which so many bytes are read at most.
pub data AreTold (most : ℕ) : Stage → ℕ → List ℕ → List Heard → Type 0 where
  nothing : AreTold most Begins most [] []
  one_more : {stage stage' : Stage} {left left' : ℕ} {text piece : List ℕ} {told now : List Heard}
      → AreTold most stage left text told → TellsText stage left stage' left' piece now
      → AreTold most stage' left' (text ++ piece) (told ++ now)
