-- Documents that are open twice, as they are read.
use Rattle.std.specs.Prelude.{◌≡◌, ℕ, zero, suc, ◌+◌, ◌<◌, ◌≤◌, ◌==◌, ◌&&◌, ◌||◌, not, Bool, true, false, List, [], ◌∷◌, length}
use Rattle.std.specs.Prelude.{drop, Option, Some}
use Rattle.std.specs.List.{list_any, slice_index_or}
use Rattle.std.proofs.Common.{refl, sym, ap, subst, ◌∙◌, arith}
use Rattle.std.proofs.lemmas.Bool.{ne_eqb}
use Rattle.piece_ring.specs.declared.piece.Piece.{Piece}
use Rattle.piece_ring.specs.Flat.{flat}
use Rattle.piece_ring.specs.Text.{Text, AreWithin}
use Rattle.readers_scanners.specs.Form.{symbol}
use Rattle.readers_scanners.specs.Reading.{bytes_of_text}
use Rattle.command_table.specs.Parameters.{name_in}
use Rattle.desktop_definitions.specs.declared.viewer.Viewer.{Viewer}
use Rattle.desktop_definitions.specs.Desktop.{Desktop, KeptDesktop, file_of}
use Rattle.desktop_definitions.specs.Viewers.{viewer_or_none, text_in, text_of, main_of}
use Rattle.desktop_definitions.specs.Call.{text_called}
use Rattle.desktop_definitions.specs.Change.{bytes_of}
use Rattle.desktop_definitions.specs.Effects.{menu_name}
use Rattle.desktop_definitions.specs.Seen.{seen}
use Rattle.desktop_definitions.specs.Sound.{IsOver}
use Rattle.desktop_definitions.proofs.CallLaws.{called_text_seen}
use Rattle.desktop_definitions.proofs.SeenLaws.{within_counted}
use Rattle.desktop_definitions.proofs.TextLaws.{text_in_seen, text_within}
use Rattle.desk_views.specs.Unstored.{is_in_file, was_closed, closed_id}
use Rattle.desk_views.specs.Losses.{is_named, is_rival, is_stored_over, is_rivalled}

-- the document that a text names, as it is read
abbrev named_by : List ℕ → List Piece → Option (List ℕ)
named_by characters text = name_in (symbol (bytes_of_text characters (flat text)) 0).0

module _ (characters : List ℕ) (d : KeptDesktop) where
  pub menu_named : (v : ℕ) (text : List Piece) → text ≡ text_called d v true
      → named_by characters text ≡ menu_name (seen characters d) v
  unfolding seen
  menu_named v text is =
      ap (named_by characters) is
      ∙ ap (λ (t : Text ℕ). name_in (symbol (bytes_of t) 0).0) (sym (called_text_seen characters d v true))

  -- ---- one viewer

  module _ (number : ℕ) (name : List ℕ) (e : ℕ × Viewer) where
    and_none : (b : Bool) → false ≡ (b && false)
    and_none true = refl
    and_none false = refl

    pub gone_one : was_closed (closed_id d) e.0 ≡ true → false ≡ is_rival (seen characters d) number name e
    unfolding seen
    gone_one is = and_none (not (e.1.main == number))
        ∙ sym (ap (λ b. not (e.1.main == number) && (not b
        && is_named (name_in (symbol (bytes_of (text_of (seen characters d) e.1.menu)) 0).0) name)) is)

    pub named_so : (text : List Piece) (named : Option (List ℕ)) → ¬ (e.1.main ≡ number)
        → was_closed (closed_id d) e.0 ≡ false → text ≡ text_in d.texts e.1.menu
        → named ≡ named_by characters text → is_named named name ≡ is_rival (seen characters d) number name e
    unfolding seen
    named_so text named other open_still text_is is =
        ap (λ (o : Option (List ℕ)). is_named o name)
        (is ∙ ap (named_by characters) text_is
        ∙ ap (λ (t : Text ℕ). name_in (symbol (bytes_of t) 0).0) (sym (text_in_seen characters d.texts e.1.menu)))
        ∙ (λ k. not (sym (ne_eqb _ _ other) k) && (not (sym open_still k)
        && is_named (name_in (symbol (bytes_of (text_of (seen characters d) e.1.menu)) 0).0) name))

    pub menu_within : IsOver characters d → (text : List Piece) → text ≡ text_in d.texts e.1.menu
        → AreWithin (length characters) (flat text)
    menu_within over text is = subst (λ (t : List Piece). AreWithin (length characters) (flat t)) (sym is)
        (text_within (length characters) d.texts e.1.menu (within_counted characters d over).texts)

-- ---- one of all viewers

-- what isn't there
abbrev pub no_entry : ℕ × Viewer
no_entry = (0, record { menu = 0; main = 0; org = 0 })

module _ {X : Type 0} (test : X → Bool) where
  any_from : (xs : List X) (at : ℕ) (other : X) → at < length xs
      → list_any test (drop at xs) ≡ (test (slice_index_or xs at other) || list_any test (drop (suc at) xs))
  any_from [] at other low = absurd (omega (arith, low))
  any_from (x ∷ xs) zero other low = refl
  any_from (x ∷ xs) (suc at) other low = any_from xs at other (omega (arith, low))

  -- the one at a place passes the test, or those behind it decide
  module _ (xs : List X) (at : ℕ) (other : X) (b : Bool) (low : at < length xs)
      (so_far : list_any test xs ≡ list_any test (drop at xs)) (is : b ≡ test (slice_index_or xs at other)) where
    pub any_here : b ≡ true → true ≡ list_any test xs
    any_here passes = sym (so_far ∙ any_from xs at other low
        ∙ (λ k. (sym is ∙ passes) k || list_any test (drop (suc at) xs)))

    pub any_later : b ≡ false → list_any test xs ≡ list_any test (drop (at + 1) xs)
    any_later fails = so_far ∙ any_from xs at other low
        ∙ (λ k. (sym is ∙ fails) k || list_any test (drop (suc at) xs))
        ∙ (let e : suc at ≡ at + 1 = omega arith in ap (λ n. list_any test (drop n xs)) e)

  pub none_from : (xs : List X) (at : ℕ) → length xs ≤ at → list_any test (drop at xs) ≡ false
  none_from [] zero high = refl
  none_from [] (suc at) high = refl
  none_from (x ∷ xs) zero high = absurd (omega (arith, high))
  none_from (x ∷ xs) (suc at) high = none_from xs at (omega (arith, high))

-- ---- what is stored over

module _ (characters : List ℕ) (d : KeptDesktop) (v : ℕ) where
  pub over_by : (number : ℕ) (name : List ℕ) (stored : Bool) → number ≡ (viewer_or_none d.viewers v).main
      → stored ≡ is_in_file (main_of (seen characters d) v) (file_of (seen characters d) name) → stored ≡ false
      → list_any (is_rival (seen characters d) number name) (seen characters d).viewers
      ≡ is_stored_over (seen characters d) v (Some name)
  unfolding seen
  over_by number name stored number_is is not_stored =
      ap (λ (n : ℕ). list_any (is_rival (seen characters d) n name) d.viewers) number_is
      ∙ ap (λ (b : Bool). not b && list_any (is_rival (seen characters d) (viewer_or_none d.viewers v).main name) d.viewers)
      (sym not_stored ∙ is)

pub rivalled_by : (d : Desktop) (v : ℕ) (named : Option (List ℕ)) → named ≡ menu_name d v
    → is_stored_over d v named ≡ is_rivalled d v
unfolding is_rivalled
rivalled_by d v named is = ap (is_stored_over d v) is
