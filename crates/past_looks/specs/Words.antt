-- What the line below says while a past is shown.
use Rattle.std.specs.Prelude.{ℕ, zero, suc, ◌-◌, ◌%◌, ◌==◌, ◌&&◌, nat_lt, if◌then◌else◌, List, [], ◌∷◌, ◌++◌}
use Rattle.std.specs.Prelude.{codes, length, slice_index_or}
use Rattle.std.specs.Fmt.{decimal}
use Rattle.past_looks.specs.declared.looker.Said.{Said}
use Rattle.past_looks.specs.declared.looker.Said.TheVariants as said

-- a digit, and before it a comma where three or six digits stand from there on, and so on, and one before
abbrev pub digit_group : List ℕ → ℕ → List ℕ
digit_group digits i =
    (if nat_lt 0 i && ((length digits - i) % 3 == 0) then codes "," else [])
    ++ slice_index_or digits i 0 ∷ []

abbrev pub grouped_front : List ℕ → ℕ → List ℕ
grouped_front digits zero = []
grouped_front digits (suc i) = grouped_front digits i ++ digit_group digits i

-- a number with a comma between three of its digits and three
abbrev pub grouped : ℕ → List ℕ
grouped n = grouped_front (decimal n) (length (decimal n))

-- which moment is shown of a past of so many, and words
abbrev pub moment_line : ℕ → ℕ → List ℕ → List ℕ
moment_line k last words =
    codes "moment " ++ (grouped k ++ (codes " of " ++ (grouped last ++ (codes ": " ++ words))))

-- the word that is asked for, as far as it is typed
abbrev pub asked_line : List ℕ → List ℕ
asked_line word = codes "Which word was it that went from the screen: " ++ word

-- that a word is sought, and up to which moment
abbrev pub seeking_line : ℕ → List ℕ
seeking_line k = codes "seeking before moment " ++ (grouped k ++ codes ", a key stops it")

-- what is said, where these words tell what led to the moment that is shown
abbrev pub said_words : Said → List ℕ → List ℕ
said_words said.Keys led = codes "Escape leaves, Left back, / seeks, Return turns back"
said_words said.Deed led = led
said_words said.Tried led = codes "this is in memory alone: Ctrl-C copies what is selected"
said_words said.Stopped led = codes "a key stopped the search"
said_words said.NotThere led = codes "that word didn't go from the screen before"
said_words said.NoWord led = codes "type the word behind / first"
said_words said.NoRoom led = codes "the past has no room for a turn"
said_words said.Unread led = codes "what was before can't be read"
