-- A text that is held for the present, and on its way in as a paste.
use Rattle.std.specs.Prelude.{◌≡◌, ℕ, ◌+◌, Bool, true, false, if◌then◌else◌, min, nat_le, List, [], ◌∷◌, ◌++◌, length, map, take, drop}
use Rattle.std.specs.Prelude.{Option, Some, None, Result, Ok, ⊤}
use Rattle.host_files.specs.declared.HostFault.{HostFault}
use Rattle.terminal_presses.specs.declared.press.Heard.{Heard}
use Rattle.terminal_keyboard.specs.declared.hearing.TheConstants.{MOST_HEARD}
use Rattle.terminal_keyboard.specs.HostPastes.{harmless, paste_begins, paste_ends}
use Rattle.terminal_keyboard.specs.Spelling.{bytes_heard}
use Rattle.past_viewer.specs.declared.held.Coming.{Coming}
use Rattle.past_viewer.specs.declared.held.Coming.TheVariants.{No, Begins, GoesOn}

-- whether it is on its way in
abbrev pub is_coming_in : Coming → Bool
is_coming_in No = false
is_coming_in Begins = true
is_coming_in (GoesOn n) = true

-- The text that is held after this one was to be, if any was. Nothing in it is a key.
abbrev pub text_held : List ℕ → Option (List ℕ) → List ℕ
text_held old None = old
text_held old (Some text) = map harmless text

-- what is told of a text of which so many bytes are told: a piece of the rest, and how far it has come then
abbrev pub next_piece : ℕ → List ℕ → List Heard × Coming
next_piece n rest = let count = min (length rest) MOST_HEARD in
    (bytes_heard (take count rest), GoesOn (n + count))

-- and its end, where there is no rest
abbrev pub piece_told : List ℕ → ℕ → List Heard × Coming
piece_told text n =
    if nat_le (length text) n then (bytes_heard paste_ends, No) else next_piece n (drop n text)

-- what is told next of a text that is on its way in, and how far it has come then
abbrev pub told_next : List ℕ → Coming → List Heard × Coming
told_next text No = ([], No)
told_next text Begins = (bytes_heard paste_begins, GoesOn 0)
told_next text (GoesOn n) = piece_told text n

-- This is told of the text that is held, where it is on its way in, and else by the other keyboard.
abbrev pub TellsHeld : Type 0 → List ℕ → List ℕ → Coming → Coming → List Heard → Type 0
TellsHeld other text text' No at' told = other × (at' ≡ No) × (text' ≡ text)
TellsHeld other text text' Begins at' told =
    ((told, at') ≡ told_next text Begins) × (text' ≡ text)
TellsHeld other text text' (GoesOn n) at' told =
    ((told, at') ≡ told_next text (GoesOn n)) × (text' ≡ text)

-- The text that is held is asked for by no name, and is told from its beginning on. Any other name the other keyboard
-- answers, and nothing more is told of the text then.
abbrev pub AnswersHeld : Type 0 → List ℕ → List ℕ → Coming → List ℕ → Result ⊤ HostFault → Type 0
AnswersHeld other text text' at' [] answer = (answer ≡ Ok tt) × (at' ≡ Begins) × (text' ≡ text)
AnswersHeld other text text' at' (b ∷ name) answer = other × (at' ≡ No) × (text' ≡ text)

-- All that was told so far of a text that is on its way in, and how far it has come.
pub data AreHeld (text : List ℕ) : Coming → List Heard → Type 0 where
  nothing : AreHeld text Begins []
  one_more : {at : Coming} {told : List Heard} → AreHeld text at told → is_coming_in at ≡ true
      → AreHeld text (told_next text at).1 (told ++ (told_next text at).0)
