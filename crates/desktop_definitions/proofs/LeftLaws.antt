-- Laws of what a desktop holds without a viewer and without the texts that nobody shows then.
use Rattle.std.specs.Prelude.{◌≡◌, ℕ, ◌+◌, ◌≤◌, ◌==◌, ◌||◌, ◌&&◌, not, Bool, true, false, cond, List, [], ◌∷◌, length}
use Rattle.std.specs.Prelude.{filter}
use Rattle.std.specs.Prelude.{if◌then◌else◌, Option, Some, None}
use Rattle.std.specs.List.{AllByRecursion, list_any}
use Rattle.std.specs.List.Sorted.{IsStrictlySortedBy}
use Rattle.std.specs.Map.{keys_of, values_of, remove_entry}
use Rattle.std.specs.Ordering.{nat_cmp}
use Rattle.std.specs.declared.cmp.Ordering.TheVariants.{Less}
use Rattle.std.specs.BTreeMap.{is_at}
use Rattle.std.proofs.Common.{refl, sym, ap, subst, ◌∙◌, arith}
use Rattle.std.proofs.lemmas.Bool.{eqb-true}
use Rattle.std.proofs.lemmas.Bool.Decides.{nat_tests}
use Rattle.std.proofs.lemmas.List.Sums.{sum_by-cons}
use Rattle.piece_ring.specs.declared.piece.Piece.{Piece}
use Rattle.piece_ring.specs.Flat.{flat}
use Rattle.piece_ring.specs.Text.{Text}
use Rattle.desktop_definitions.specs.declared.viewer.Viewer.{Viewer}
use Rattle.desktop_definitions.specs.Tables.{Texts, lengths}
use Rattle.desktop_definitions.proofs.TableLaws.{length_seen_text, kept_lengths}
use Rattle.desktop_definitions.specs.Desktop.{Desktop, DesktopOf, KeptDesktop, characters_held}
use Rattle.desktop_definitions.specs.Viewers.{without_viewer}
use Rattle.desktop_definitions.specs.Opening.{is_shown, without_unshown}
use Rattle.desktop_definitions.specs.Seen.{seen, seen_text, seen_table}
use Rattle.desktop_definitions.proofs.PlaceLaws.{at_is}
use Rattle.desktop_definitions.specs.DeskWords.{still_shown, kept_left}

-- ---- who shows a text

module _ (test : Viewer → Bool) (g : ℕ) where
  apart_above : (k : ℕ) → nat_cmp g k ≡ Less → (g == k) ≡ false
  apart_above k less = grind (arith, nat_tests, less)

  any_above : (es : List (ℕ × Viewer)) → AllByRecursion (λ y. nat_cmp g y ≡ Less) (keys_of es)
      → list_any (λ e. test e.1) es ≡ list_any (λ e. not (g == e.0) && test e.1) es
  any_above [] above = refl
  any_above (e ∷ es) above = λ k. (not (sym (apart_above e.0 above.0) k) && test e.1) || any_above es above.1 k

  same_way : (a b : ℕ) → (a == b) ≡ (b == a)
  same_way a b = grind (arith, nat_tests)

  any_removed : (es : List (ℕ × Viewer)) → IsStrictlySortedBy nat_cmp (keys_of es)
      → list_any (λ e. test e.1) (remove_entry (is_at (nat_cmp g)) es)
      ≡ list_any (λ e. not (g == e.0) && test e.1) es
  unfolding IsStrictlySortedBy
  any_removed [] rising = refl
  any_removed (e ∷ es) rising = (elim (g == e.0) as (λ b. (g == e.0) ≡ b
      → list_any (λ e. test e.1) (remove_entry (is_at (nat_cmp g)) (e ∷ es))
      ≡ (not b && test e.1) || list_any (λ e. not (g == e.0) && test e.1) es) [
        | true ↦ λ is.
            (let here : is_at (nat_cmp g) e.0 ≡ true = at_is g e.0 ∙ same_way e.0 g ∙ is in
            let number : g ≡ e.0 = eqb-true g e.0 is in
            rw here (any_above es (subst (λ (n : ℕ). AllByRecursion (λ y. nat_cmp n y ≡ Less) (keys_of es)) (sym number)
            rising.0)))
        | false ↦ λ not_it.
            (let here : is_at (nat_cmp g) e.0 ≡ false = at_is g e.0 ∙ same_way e.0 g ∙ not_it in
            rw here (ap (λ b. test e.1 || b) (any_removed es rising.1)))
      ]) refl

pub still_is : {T : Type 0} (d : DesktopOf T) (taken : Option ℕ) (n : ℕ)
    → IsStrictlySortedBy nat_cmp (keys_of d.viewers)
    → is_shown (without_viewer d taken).viewers n ≡ (n == 0) || still_shown taken d.viewers n
still_is d None n rising = refl
still_is d (Some g) n rising =
    ap (λ b. (n == 0) || b) (any_removed (λ viewer. (viewer.menu == n) || (viewer.main == n)) g d.viewers rising)

-- ---- what it holds

pub left_seen : (characters : List ℕ) (test : ℕ → Bool) (es : Texts (List Piece))
    → lengths (filter (λ e. test e.0) (seen_table characters es)) ≡ kept_left test es
left_seen characters test [] = refl
left_seen characters test (e ∷ es) =
    let rest = left_seen characters test es in
    let all = sum_by-cons (λ (x : ℕ × List Piece). (let n : ℕ = if test x.0 then length (flat x.1) else 0 in n)) e es in
    let step : lengths (filter (λ e. test e.0) (seen_table characters (e ∷ es)))
    ≡ (if test e.0 then length (flat e.1) else 0) + kept_left test es =
    elim (test e.0) as
    (λ b. lengths (let l : Texts (Text ℕ) = cond b
    ((e.0, seen_text characters e.1) ∷ filter (λ e. test e.0) (seen_table characters es))
    (filter (λ e. test e.0) (seen_table characters es)) in l)
    ≡ (let n : ℕ = cond b (length (flat e.1)) 0 in n) + kept_left test es) [
      | true ↦ (let first = sum_by-cons length (seen_text characters e.1)
          (values_of (filter (λ e. test e.0) (seen_table characters es))) in
          let long = length_seen_text characters e.1 in
          omega (arith, first, long, rest))
      | false ↦ omega (arith, rest)
    ] in
    step ∙ sym all

pub left_fewer : (test : ℕ → Bool) (es : Texts (List Piece)) → kept_left test es ≤ kept_lengths es
left_fewer test [] = omega arith
left_fewer test (e ∷ es) =
    let rest = left_fewer test es in
    let all = sum_by-cons (λ (x : ℕ × List Piece). (let n : ℕ = if test x.0 then length (flat x.1) else 0 in n)) e es in
    let whole = sum_by-cons (λ (pieces : List Piece). length (flat pieces)) e.1 (values_of es) in
    let first : (if test e.0 then length (flat e.1) else 0) ≤ length (flat e.1) = elim (test e.0) as
    (λ b. (let n : ℕ = cond b (length (flat e.1)) 0 in n) ≤ length (flat e.1)) [
      | true ↦ omega arith
      | false ↦ omega arith
    ] in
    omega (arith, rest, all, whole, first)

without_texts : {T : Type 0} (d : DesktopOf T) (taken : Option ℕ) → (without_viewer d taken).texts ≡ d.texts
without_texts d None = refl
without_texts d (Some g) = refl

held_dropped : (d : Desktop) (taken : Option ℕ) (texts : Texts (Text ℕ))
    → filter (λ e. is_shown (without_viewer d taken).viewers e.0) d.texts ≡ texts
    → characters_held (without_unshown (without_viewer d taken))
    ≡ lengths texts + lengths d.files + length d.copied + length d.deleted
unfolding characters_held without_unshown
held_dropped d None texts is = λ k. lengths (is k) + lengths d.files + length d.copied + length d.deleted
held_dropped d (Some g) texts is = λ k. lengths (is k) + lengths d.files + length d.copied + length d.deleted

pub held_left : (d : KeptDesktop) (taken : Option ℕ) (characters : List ℕ)
    → IsStrictlySortedBy nat_cmp (keys_of d.viewers)
    → characters_held (without_unshown (without_viewer (seen characters d) taken))
    ≡ kept_left (λ n. (n == 0) || still_shown taken d.viewers n) d.texts
    + lengths (seen_table characters d.files) + length (flat d.copied) + length (flat d.deleted)
unfolding seen
held_left d taken characters rising =
    let texts = filter (λ e. (e.0 == 0) || still_shown taken d.viewers e.0) (seen_table characters d.texts) in
    let all = held_dropped (seen characters d) taken texts
    (λ k. filter (λ e. still_is (seen characters d) taken e.0 rising k) (seen_table characters d.texts)) in
    let left = left_seen characters (λ n. (n == 0) || still_shown taken d.viewers n) d.texts in
    let copied = length_seen_text characters d.copied in
    let deleted = length_seen_text characters d.deleted in
    omega (arith, all, left, copied, deleted)
