-- The words of a line: how one is parted from what follows, and which numbers and keys words name.
use Rattle.std.specs.Prelude.{ℕ, ◌+◌, ◌==◌, List, [], ◌∷◌, drop, Option, Some, position, codes}
use Rattle.std.specs.Option.{option_map}
use Rattle.std.specs.List.{before_first, find, range_with_len}
use Rattle.std.specs.Fmt.{decimal}
use Rattle.std.specs.Map.{lookup}
use Rattle.std.specs.Str.{bytes_eq}
use Rattle.event_bytes.specs.declared.keys.Key.{Key}
use Rattle.event_bytes.specs.declared.keys.Key.TheVariants.{Back, Copy, Paste, Cut, Escape}
use Rattle.event_bytes.specs.declared.keys.Keys.{Keys}
use Rattle.event_bytes.specs.declared.keys.Keys.TheVariants.{Left, LeftMiddle, LeftRight, Middle, MiddleLeft}
use Rattle.event_bytes.specs.declared.keys.Keys.TheVariants.{MiddleRight, Right, RightLeft, RightMiddle}
use Rattle.screen_pictures.specs.Bytes.{space}
pub use Rattle.event_bytes.specs.Parts.{◌>>=◌}

-- what stands before the first space
abbrev pub first_word : List ℕ → List ℕ
first_word line = before_first (λ b. b == space) line

-- what stands after the first space, None where there is none
abbrev pub argument : List ℕ → Option (List ℕ)
argument line = option_map (λ i. drop (i + 1) line) (position (λ b. b == space) line)

-- what the word before a space names, and what stands after the space
abbrev pub leading : {A : Type 0} → (List ℕ → Option A) → List ℕ → Option (A × List ℕ)
leading named text = argument text >>= λ rest. named (first_word text) >>= λ x. Some (x, rest)

-- the number from 0 to 255 whose decimal digits these are
unfoldable pub to_number : List ℕ → Option ℕ
to_number text = find (λ n. bytes_eq (decimal n) text) (range_with_len 0 256)

-- a key of the keyboard by its word
unfoldable pub key_named : List ℕ → Option Key
key_named name =
    lookup (bytes_eq name) ((codes "back", Back) ∷ (codes "copy", Copy) ∷ (codes "paste", Paste)
    ∷ (codes "cut", Cut) ∷ (codes "escape", Escape) ∷ [])

-- keys of the mouse by the first letters of each, in the order in which they are pressed
unfoldable pub keys_named : List ℕ → Option Keys
keys_named name =
    lookup (bytes_eq name) ((codes "l", Left) ∷ (codes "lm", LeftMiddle) ∷ (codes "lr", LeftRight)
    ∷ (codes "m", Middle) ∷ (codes "ml", MiddleLeft) ∷ (codes "mr", MiddleRight)
    ∷ (codes "r", Right) ∷ (codes "rl", RightLeft) ∷ (codes "rm", RightMiddle) ∷ [])
