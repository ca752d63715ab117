-- What a writer has taken of a text.
use Rattle.std.specs.Prelude.{◌≡◌, ℕ, List, ◌++◌, Option, Result, OnOk, OnErr}
use Rattle.std.specs.Io.KnownBytes.{Appends}

-- known bytes grow by a front of the text, by none or all of it perhaps
pub record AppendsFront (old new : Option (List ℕ)) (text : List ℕ) : Type 0 where
  pub front : List ℕ
  pub back : List ℕ
  pub parts : text ≡ front ++ back
  pub taken : Appends old new front

-- What a call promises that sends a text: the writer takes all of it, or a front of it where the call fails.
pub record Sends {T E : Type 0} (result : Result T E) (old new : Option (List ℕ))
    (text : List ℕ) : Type 0 where
  pub sent : OnOk result (Appends old new text)
  pub front : OnErr result (AppendsFront old new text)
