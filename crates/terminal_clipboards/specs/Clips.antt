-- What gives a text to the clipboard of a terminal.
use Rattle.std.specs.Prelude.{ℕ, if◌then◌else◌, List, [], ◌∷◌, ◌++◌, length, Option, Some, None, codes}
use Rattle.base64.specs.Engines.{standard}
use Rattle.base64.specs.GeneralPurpose.{encode_of}
use Rattle.event_bytes.specs.Bytes.{lies_within}
use Rattle.terminal_clipboards.specs.declared.clips.TheConstants.{MOST_CLIPPED}

-- It is given all of a text, or nothing where that is empty or too long.
abbrev pub text_given : List ℕ → Option (List ℕ)
text_given text = if lies_within 1 MOST_CLIPPED (length text) then Some text else None

-- An escape byte and ]52;c;, then a text in base64, and a bell byte. A terminal takes the text into its clipboard by them,
-- and shows nothing.
abbrev pub clip_order : List ℕ → List ℕ
clip_order text = (27 ∷ codes "]52;c;") ++ encode_of standard text ++ 7 ∷ []

abbrev pub clip_bytes : Option (List ℕ) → List ℕ
clip_bytes None = []
clip_bytes (Some text) = clip_order text

abbrev pub clip_of : List ℕ → List ℕ
clip_of text = clip_bytes (text_given text)
