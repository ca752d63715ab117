-- Pieces ahead of a reader that are passed whole, their bytes counted.
use Rattle.std.specs.Prelude.{◌≡◌, ℕ, ◌+◌, ◌-◌, ◌<◌, ◌≤◌, ◌==◌, List, [], ◌∷◌, ◌++◌, length, take, drop, map, count_by, slice_get}
use Rattle.std.specs.Prelude.{◌^◌, slice_range, Option, None, Some, MatchOption}
use Rattle.std.proofs.Common.{refl, sym, ap, ◌∙◌, subst, arith, length-drop}
use Rattle.std.proofs.lemmas.List.{drop-map}
use Rattle.std.proofs.lemmas.List.Elements.{All-drop}
use Rattle.std.proofs.lemmas.Option.{same_Some}
use Rattle.char_file.specs.Source.{IsCountedFrom}
use Rattle.piece_ring.specs.declared.piece.Piece.{Piece}
use Rattle.piece_ring.specs.Flat.{flat, characters_of, IsWhole}
use Rattle.piece_ring.specs.Text.{Text, AreWithin}
use Rattle.readers_scanners.specs.Reading.{bytes_of_text, contents, Reading, IsReading, IsPassedOver}
use Rattle.readers_scanners.proofs.Counting.{run_end, counted_here, counts_on}
use Rattle.readers_scanners.proofs.Upcoming.{drop_more, drop_whole, enough, point}

-- the pieces behind the first, which a cursor has passed
pub behind_first : (old new : List Piece) (o : Option Piece) (p : Piece) → slice_get old 0 ≡ Some p
    → MatchOption o ((old ≡ []) × (new ≡ [])) (λ q. old ≡ q ∷ new) → flat old ≡ characters_of p ++ flat new
behind_first old new None p first none =
    let bad : None ≡ Some p = sym (ap (λ l. slice_get l 0) none.0) ∙ first in absurd (cc)
behind_first old new (Some q) p first is =
    ap flat is ∙ ap (λ x. characters_of x ++ flat new)
    (same_Some q p (sym (ap (λ l. slice_get l 0) is) ∙ first))

-- where the characters of the first end
pub first_end : (n : ℕ) (pieces : List Piece) (p : Piece) → slice_get pieces 0 ≡ Some p → AreWithin n (flat pieces)
    → 0 < p.len → p.off + p.len ≤ n
first_end n [] p first all some = absurd (cc)
first_end n (q ∷ behind) p first all some =
    run_end n p.off p.len p.look (flat behind) some
    (subst (λ x. AreWithin n (characters_of x ++ flat behind)) (same_Some q p first) all)

-- a piece that stands at a place
pub stands_at : (text : Text ℕ) (at left : ℕ) (p : Piece) (behind : Text ℕ) → at + left ≡ length text → IsWhole p
    → drop at text ≡ characters_of p ++ behind → IsReading text at left p behind
stands_at text at left p behind counted whole rest = record {
  counted = counted;
  rest = rest;
  last = λ none. absurd (omega (arith, none, whole.0));
  fits = whole.1;
}

-- a piece more
module _ (text : Text ℕ) (at left : ℕ) (here : Piece) (behind : Text ℕ) (is : IsReading text at left here behind) where
  pub behind_it : drop (at + here.len) text ≡ behind
  behind_it = drop_more text at here.len ∙ ap (drop here.len) is.rest
      ∙ drop_whole here.off here.len here.len here.look behind refl

  pub behind_left : here.len + length behind ≡ left
  behind_left =
      let long = ap length behind_it in let high = enough text at left here behind is in let counted = is.counted in
      omega (arith, long, length-drop (at + here.len) text, high, counted)

  -- the reader behind pieces that were passed
  pub passed_behind : (many : ℕ) (rest more : Text ℕ) (next : Piece) → many ≤ length behind → drop many behind ≡ rest
      → rest ≡ characters_of next ++ more → (next.len ≡ 0 → more ≡ []) → next.off + next.len < 2 ^ 32
      → IsReading text (length text - (left - (here.len + many))) (left - (here.len + many)) next more
  passed_behind many rest more next within passed there last fits =
      let all = behind_left in let counted = is.counted in
      let place : length text - (left - (here.len + many)) ≡ at + here.len + many = omega (arith, all, counted, within) in
      record {
        counted = omega (arith, all, counted, within);
        rest = ap (λ p. drop p text) place ∙ drop_more text (at + here.len) many ∙ ap (drop many) behind_it ∙ passed ∙ there;
        last = last;
        fits = fits;
      }

  pub counted_with : (honest : Type 0) (characters : List ℕ) (wanted org before found : ℕ)
      → AreWithin (length characters) text → org ≤ at
      → IsCountedFrom honest characters here.off here.len wanted (here.len, found)
      → (honest → before ≡ count_by (λ b. b == wanted) (slice_range (bytes_of_text characters text) org at)) → honest
      → before + found
      ≡ count_by (λ b. b == wanted) (slice_range (bytes_of_text characters text) org (at + here.len))
  counted_with honest characters wanted org before found all from counted so_far h =
      let on = counted_here text at left here behind is honest characters wanted here.len here.len (here.len, found) all
      (omega arith) (omega arith) counted in
      (λ k. so_far h k + on.exact h k)
      ∙ sym (counts_on (λ b. b == wanted) (bytes_of_text characters text) org at here.len from)

  pub counted_first : (honest : Type 0) (characters : List ℕ) (wanted found : ℕ)
      → AreWithin (length characters) text
      → IsCountedFrom honest characters here.off here.len wanted (here.len, found) → honest
      → found ≡ count_by (λ b. b == wanted) (slice_range (bytes_of_text characters text) at (at + here.len))
  counted_first honest characters wanted found all counted =
      (counted_here text at left here behind is honest characters wanted here.len here.len (here.len, found) all
      (omega arith) (omega arith) counted).exact

-- what stands behind a place of a text
pub within_rest : (n at : ℕ) (text rest : Text ℕ) → drop at text ≡ rest → AreWithin n text → AreWithin n rest
within_rest n at text rest e all = subst (AreWithin n) e (All-drop (λ c. c.0 < n) at text all)

-- the bytes of what stands behind a place are those from there on
pub range_behind : (characters : List ℕ) (text rest : Text ℕ) (at n : ℕ) → drop at text ≡ rest
    → slice_range (bytes_of_text characters rest) 0 n ≡ slice_range (bytes_of_text characters text) at (at + n)
range_behind characters text rest at n e =
    (λ k. take ((let all : n - 0 ≡ n = omega arith in all) k) (bytes_of_text characters (sym e k)))
    ∙ ap (take n) (sym (drop-map (λ c. c.0) at (contents characters text) ∙ ap (map (λ c. c.0)) (drop-map _ at text)))
    ∙ ap (λ k. take k (drop at (bytes_of_text characters text))) (let e : n ≡ at + n - at = omega arith in e)

-- those of a stretch and of what is passed behind it
pub counted_behind : (characters : List ℕ) (text rest : Text ℕ) (wanted org at n first more : ℕ) → org ≤ at
    → drop at text ≡ rest
    → first ≡ count_by (λ b. b == wanted) (slice_range (bytes_of_text characters text) org at)
    → more ≡ count_by (λ b. b == wanted) (slice_range (bytes_of_text characters rest) 0 n)
    → first + more ≡ count_by (λ b. b == wanted) (slice_range (bytes_of_text characters text) org (at + n))
counted_behind characters text rest wanted org at n first more from e one two =
    (λ k. one k + (two ∙ ap (count_by (λ b. b == wanted)) (range_behind characters text rest at n e)) k)
    ∙ sym (counts_on (λ b. b == wanted) (bytes_of_text characters text) org at n from)

-- what a call found that passed the characters here, and then those behind them
pub passed_whole : (text : Text ℕ) (left : ℕ) (here : Piece) (behind : Text ℕ)
    → IsReading text (length text - left) left here behind → (old : Reading) → point text (length text - left) ≡ old
    → (honest : Type 0) (characters : List ℕ) (wanted bound limit first many more : ℕ)
    → AreWithin (length characters) old.text
    → IsCountedFrom honest characters here.off here.len wanted (here.len, first) → here.len ≤ limit → first < bound
    → many ≤ length behind → many ≤ limit - here.len
    → (honest → more ≡ count_by (λ b. b == wanted) (slice_range (bytes_of_text characters behind) 0 many))
    → more ≤ many → more < bound - first
    → IsPassedOver honest characters old (point text (length text - (left - (here.len + many)))) wanted bound limit
    (here.len + many, first + more)
passed_whole text left here behind is old view honest characters wanted bound limit first many more all counted high
    below within most exact few fewer =
    let at : ℕ = length text - left in
    let sum = behind_left text at left here behind is in let whole = is.counted in
    let little : first ≤ here.len = counted.few in
    let end : at + here.len + many ≡ at + (here.len + many) = omega arith in
    let inside : AreWithin (length characters) text =
    subst (λ (x : Reading). AreWithin (length characters) x.text) (sym view) all in
    subst (λ (x : Reading). IsPassedOver honest characters x (point text (length text - (left - (here.len + many)))) wanted
    bound limit (here.len + many, first + more)) view (record {
      same = refl;
      moves = omega (arith, sum, whole, within);
      within = omega arith;
      most = omega (arith, high, most);
      exact = λ h.
          counted_behind characters text behind wanted at (at + here.len) many first more (omega arith)
          (behind_it text at left here behind is)
          (counted_first text at left here behind is honest characters wanted first inside counted h) (exact h)
          ∙ ap (λ p. count_by (λ b. b == wanted) (slice_range (bytes_of_text characters text) at p)) end;
      few = omega (arith, little, few);
      fewer = omega (arith, below, fewer);
    })
