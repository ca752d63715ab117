-- The numbers of the keys of the keyboard and of the mouse.
use Rattle.std.specs.Prelude.{ℕ, List, [], ◌∷◌, Option, slice_get}
use Rattle.event_bytes.specs.declared.keys.Key.{Key}
use Rattle.event_bytes.specs.declared.keys.Key.TheVariants.{Back, Copy, Paste, Cut, Escape}
use Rattle.event_bytes.specs.declared.keys.Keys.{Keys}
use Rattle.event_bytes.specs.declared.keys.Keys.TheVariants.{Left, LeftMiddle, LeftRight, Middle, MiddleLeft}
use Rattle.event_bytes.specs.declared.keys.Keys.TheVariants.{MiddleRight, Right, RightLeft, RightMiddle}

-- all keys of the keyboard, by their numbers
abbrev pub all_of_keyboard : List Key
all_of_keyboard = Back ∷ Copy ∷ Paste ∷ Cut ∷ Escape ∷ []

abbrev pub key_numbered : ℕ → Option Key
key_numbered n = slice_get all_of_keyboard n

abbrev pub key_number : Key → ℕ
key_number Back = 0
key_number Copy = 1
key_number Paste = 2
key_number Cut = 3
key_number Escape = 4

-- all keys of the mouse, by their numbers: each alone, and with the two others while it is down
abbrev pub all_of_mouse : List Keys
all_of_mouse =
    Left ∷ LeftMiddle ∷ LeftRight ∷ Middle ∷ MiddleLeft ∷ MiddleRight ∷ Right ∷ RightLeft
    ∷ RightMiddle ∷ []

abbrev pub keys_of : ℕ → Option Keys
keys_of n = slice_get all_of_mouse n

abbrev pub keys_number : Keys → ℕ
keys_number Left = 0
keys_number LeftMiddle = 1
keys_number LeftRight = 2
keys_number Middle = 3
keys_number MiddleLeft = 4
keys_number MiddleRight = 5
keys_number Right = 6
keys_number RightLeft = 7
keys_number RightMiddle = 8
