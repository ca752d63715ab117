-- The parameters of a command: a value, or a list of names.
-- T is what stands for a text, and `read` its bytes. A place is a text and a position in it.
use Rattle.std.specs.Prelude.{ℕ, zero, suc, ◌≡◌, ◌<◌, ◌≤◌, ◌⊎◌, Bool, false, ◌==◌, if◌then◌else◌, List, [], ◌∷◌}
use Rattle.std.specs.Prelude.{length, Option, Some, None, Result, Ok, Err, MatchResult, take}
use Rattle.std.specs.Option.{option_map}
use Rattle.std.specs.Result.{result_map_both}
use Rattle.std.specs.Borrow.{Bor}
use Rattle.piece_ring.specs.declared.piece.Piece.{Piece}
use Rattle.piece_ring.specs.Flat.{flat}
use Rattle.piece_ring.specs.Text.{Text, AreWithin}
use Rattle.readers_scanners.specs.Form.{symbol}
use Rattle.readers_scanners.specs.Symbol.{IsSymbolShaped}
use Rattle.readers_scanners.specs.declared.symbol.Symbol.{Symbol}
use Rattle.readers_scanners.specs.declared.symbol.Symbol.TheVariants.{Name, Special}
use Rattle.arrayvec.specs.ArrayVec.{ArrayVec}
use Rattle.command_table.specs.Codes.{no_selection, wrong_symbol, no_viewer}
use Rattle.command_table.specs.Deciding.{most_names}

-- `^`, which stands for the symbol where the selection begins
abbrev pub of_selection : ℕ
of_selection = 94

-- `*`, which stands for the first symbol of the menu at the marker
abbrev pub of_menu : ℕ
of_menu = 42

abbrev pub is_special : ℕ → Symbol → Bool
is_special b (Special c) = c == b
is_special b _ = false

abbrev pub name_in : Symbol → Option (List ℕ)
name_in (Name bytes) = Some bytes.items
name_in _ = None

-- the names from a symbol and its end on up to the first other symbol, of n symbols
unfoldable pub names_on : List ℕ → ℕ → Symbol × ℕ → List (List ℕ)
names_on bs zero found = []
names_on bs (suc n) found =
    elim (name_in found.0) [ Some name ↦ name ∷ names_on bs n (symbol bs found.1) | None ↦ [] ]

-- the same from a position on, of all symbols: there are no more names than bytes
abbrev pub names_from : List ℕ → ℕ → List (List ℕ)
names_from bs p = names_on bs (length bs) (symbol bs p)

-- a list has a name
abbrev pub some_names : List (List ℕ) → Result (List (List ℕ)) ℕ
some_names [] = Err wrong_symbol
some_names (name ∷ names) = Ok (name ∷ names)

module _ {T : Type 0} (read : T → List ℕ) where
  abbrev pub symbol_in : T × ℕ → Symbol
  symbol_in place = (symbol (read place.0) place.1).0

  abbrev pub symbol_or : ℕ → Option (T × ℕ) → Result Symbol ℕ
  symbol_or code None = Err code
  symbol_or code (Some place) = Ok (symbol_in place)

  -- the value parameter after a position
  unfoldable pub value_parameter : T → ℕ → Option (T × ℕ) → Option T → Result Symbol ℕ
  value_parameter text pos selection menu =
      let first = symbol_in (text, pos) in
      if is_special of_selection first then symbol_or no_selection selection else
      (if is_special of_menu first then symbol_or no_viewer (option_map (λ m. (m, 0)) menu)
      else Ok first)

  abbrev pub names_in : T × ℕ → Result (List (List ℕ)) ℕ
  names_in place = some_names (names_from (read place.0) place.1)

  abbrev pub names_or : ℕ → Option (T × ℕ) → Result (List (List ℕ)) ℕ
  names_or code None = Err code
  names_or code (Some place) = names_in place

  -- the list of names after a position
  unfoldable pub names : T → ℕ → Option (T × ℕ) → Result (List (List ℕ)) ℕ
  names text pos selection =
      if is_special of_selection (symbol_in (text, pos)) then names_or no_selection selection
      else names_in (text, pos)

-- ---- of texts that are lent

-- a text whose characters are in the source, and a position in it
pub record IsTextPlace (count : ℕ) (place : Text ℕ × ℕ) : Type 0 where
  pub within : place.1 ≤ length place.0
  pub offsets : AreWithin count place.0

-- the text and the position of a place that is lent
abbrev pub place_lent : Bor (List Piece) × ℕ → Text ℕ × ℕ
place_lent lent = (flat lent.0.now, lent.1)

abbrev pub text_lent : Bor (List Piece) → Text ℕ
text_lent lent = flat lent.now

-- the names of a list that was returned
abbrev pub listed_names : Result (ArrayVec (List ℕ)) ℕ → Result (List (List ℕ)) ℕ
listed_names r = result_map_both (λ names. names.items) (λ code. code) r

-- the first names of a list, which are read
abbrev pub first_names : Result (List (List ℕ)) ℕ → Result (List (List ℕ)) ℕ
first_names r = result_map_both (take most_names) (λ code. code) r

-- whatever a source tells, a value is a symbol that can be, or one of two codes, each for its reason
abbrev pub IsValue : {A B : Type 0} → Option A → Option B → Result Symbol ℕ → Type 0
IsValue selection menu r =
    MatchResult r IsSymbolShaped (λ code. ((code ≡ no_selection) × (selection ≡ None))
    ⊎ ((code ≡ no_viewer) × (menu ≡ None)))

-- a list has 1 to 257 names, or none and so a code
abbrev pub IsList : Result (List (List ℕ)) ℕ → Type 0
IsList r = MatchResult r (λ names. (0 < length names) × (length names ≤ most_names))
    (λ code. code ≡ wrong_symbol)

-- the same where the selection can be asked for and is missing
abbrev pub IsNames : {A : Type 0} → Option A → Result (List (List ℕ)) ℕ → Type 0
IsNames selection r = ((r ≡ Err no_selection) × (selection ≡ None)) ⊎ IsList r
