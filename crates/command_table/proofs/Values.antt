-- What the value parameter is, by its first symbol.
use Rattle.std.specs.Prelude.{◌≡◌, ℕ, Bool, true, false, List, Option, Ok}
use Rattle.std.specs.Option.{option_map}
use Rattle.std.proofs.Common.{refl, sym, ap, ◌∙◌}
use Rattle.readers_scanners.specs.Form.{symbol}
use Rattle.readers_scanners.specs.declared.symbol.Symbol.{Symbol}
use Rattle.command_table.specs.Codes.{no_selection, no_viewer}
use Rattle.command_table.specs.Parameters.{of_selection, of_menu, is_special, symbol_in, symbol_or, value_parameter, names}
use Rattle.command_table.specs.Deciding.{most_names}
use Rattle.command_table.specs.Parameters.{names_or, names_in, names_on, names_from, some_names, first_names}
use Rattle.command_table.proofs.FirstNames.{first_of_some}

module _ {T : Type 0} (read : T → List ℕ) (text : T) (pos : ℕ) (selection : Option (T × ℕ)) where
  -- the test of the first symbol
  tested : (byte : ℕ) (first : Symbol) (r b : Bool) → first ≡ symbol_in read (text, pos) → r ≡ is_special byte first
      → r ≡ b → is_special byte (symbol_in read (text, pos)) ≡ b
  tested byte first r b is e t = ap (is_special byte) (sym is) ∙ (sym e ∙ t)

  pub value_of_selection : (menu : Option T) (first : Symbol) (r : Bool) → first ≡ symbol_in read (text, pos)
      → r ≡ is_special of_selection first → r ≡ true
      → value_parameter read text pos selection menu ≡ symbol_or read no_selection selection
  unfolding value_parameter
  value_of_selection menu first r is e t = let at = tested of_selection first r true is e t in rw at refl

  pub value_of_menu : (menu : Option T) (first : Symbol) (r q : Bool) → first ≡ symbol_in read (text, pos)
      → r ≡ is_special of_selection first → r ≡ false → q ≡ is_special of_menu first → q ≡ true
      → value_parameter read text pos selection menu ≡ symbol_or read no_viewer (option_map (λ m. (m, 0)) menu)
  unfolding value_parameter
  value_of_menu menu first r q is e f d t = let no = tested of_selection first r false is e f in
      let at = tested of_menu first q true is d t in rw (no, at) refl

  pub value_itself : (menu : Option T) (first : Symbol) (r q : Bool) → first ≡ symbol_in read (text, pos)
      → r ≡ is_special of_selection first → r ≡ false → q ≡ is_special of_menu first → q ≡ false
      → value_parameter read text pos selection menu ≡ Ok first
  unfolding value_parameter
  value_itself menu first r q is e f d t = let no = tested of_selection first r false is e f in
      let at = tested of_menu first q false is d t in rw (no, at) (ap Ok (sym is))

  pub list_of_selection : (first : Symbol) (r : Bool) → first ≡ symbol_in read (text, pos)
      → r ≡ is_special of_selection first → r ≡ true
      → names read text pos selection ≡ names_or read no_selection selection
  unfolding names
  list_of_selection first r is e t = let at = tested of_selection first r true is e t in rw at refl

  pub list_itself : (first : Symbol) (r : Bool) → first ≡ symbol_in read (text, pos)
      → r ≡ is_special of_selection first → r ≡ false → names read text pos selection ≡ names_in read (text, pos)
  unfolding names
  list_itself first r is e t = let no = tested of_selection first r false is e t in rw no refl

-- what was scanned at a place, read from another state with the same bytes
pub first_is : (bs cs : List ℕ) (p q end : ℕ) (s : Symbol) → cs ≡ bs → q ≡ p → symbol cs q ≡ (s, end)
    → s ≡ (symbol bs p).0
first_is bs cs p q end s same place there = sym (ap (λ x. x.0) (sym (λ k. symbol (same k) (place k)) ∙ there))

-- the first names of the list that begins there
pub list_is : (bs cs ds : List ℕ) (p q end : ℕ) (s : Symbol) → cs ≡ bs → q ≡ p → symbol cs q ≡ (s, end) → ds ≡ bs
    → some_names (names_on ds most_names (s, end)) ≡ first_names (some_names (names_from bs p))
list_is bs cs ds p q end s same place there after =
    let pair : (s, end) ≡ symbol bs p = sym there ∙ (λ k. symbol (same k) (place k)) in
    (λ k. some_names (names_on (after k) most_names (pair k))) ∙ first_of_some bs p
