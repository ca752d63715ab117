-- What is marked in the viewers of an image, where it is what a desktop has there.
use Rattle.std.proofs.Common.{◌≡◌, ℕ, suc, zero, ◌+◌, ◌<◌, ◌≤◌, ◌∙◌, ◌==◌, ◌&&◌, Bool, true, false, cond, List, [], ◌∷◌}
use Rattle.std.proofs.Common.{length, map, min, refl, ap, subst, arith, Option, Some, None, ⊎_elim, inl, inr}
use Rattle.std.specs.Prelude.{nat_eq}
use Rattle.std.specs.Option.{option_or, option_eq}
use Rattle.std.specs.List.{list_all, count_by, filter_map, cons_option, range_with_len}
use Rattle.std.proofs.lemmas.Bool.{and_parts, eqb-true, ne_eqb, cases_lt, cases_eq}
use Rattle.std.proofs.lemmas.List.Sums.{sum_by-cons}
use Rattle.desktop_definitions.specs.declared.viewer.Caret.{Caret}
use Rattle.desktop_definitions.specs.declared.viewer.Selection.{Selection}
use Rattle.image_format.specs.declared.picture.Ranked.{Ranked}
use Rattle.image_format.specs.declared.picture.ViewerPicture.{ViewerPicture}
use Rattle.desktop_definitions.specs.Shown.{caret_position}
use Rattle.image_format.specs.Image.{ranked_in, picture_of}
use Rattle.desktop_image.specs.Images.{viewers_of, first_some, with_rank, selected_at, selected_as}
use Rattle.desktop_image.specs.Images.{most_ranks, selections_of, same_ranked, is_pictured}

pub is_position : (a b : Option ℕ) → option_eq nat_eq a b ≡ true → a ≡ b
is_position None None is = refl
is_position None (Some n) is = absurd cc
is_position (Some m) None is = absurd cc
is_position (Some m) (Some n) is = ap (λ (k : ℕ). let o : Option ℕ = Some k in o) (eqb-true m n is)

pub is_ranked : (a b : Option Ranked) → same_ranked a b ≡ true → a ≡ b
is_ranked None None is = refl
is_ranked None (Some n) is = absurd cc
is_ranked (Some m) None is = absurd cc
is_ranked (Some r) (Some s) is =
    let parts = and_parts (r.rank == s.rank) ((r.beg == s.beg) && (r.end == s.end)) is in
    let ends = and_parts (r.beg == s.beg) (r.end == s.end) parts.1 in
    λ k. Some (record {
      rank = eqb-true r.rank s.rank parts.0 k;
      beg = eqb-true r.beg s.beg ends.0 k;
      end = eqb-true r.end s.end ends.1 k;
    })

module _ (caret : Option Caret) (selections : List Selection) where
  -- What a picture tells that is one.
  pub record IsPicture (p : ViewerPicture) : Type 0 where
    pub position : caret_position p.id caret ≡ p.caret
    pub ranked : ranked_in 1 selections p.id ≡ p.selection

  pub picture_is : (p : ViewerPicture) → is_pictured caret selections p ≡ true → IsPicture p
  unfolding is_pictured
  picture_is p is =
      let parts = and_parts (option_eq nat_eq (caret_position p.id caret) p.caret)
      (same_ranked (ranked_in 1 selections p.id) p.selection) is in
      record {
        position = is_position (caret_position p.id caret) p.caret parts.0;
        ranked = is_ranked (ranked_in 1 selections p.id) p.selection parts.1;
      }

  pub pictures_are : (ps : List ViewerPicture) → list_all (is_pictured caret selections) ps ≡ true
      → map (picture_of caret selections) (viewers_of ps) ≡ ps
  pictures_are [] all = refl
  pictures_are (p ∷ ps) all =
      let parts = and_parts (is_pictured caret selections p) (list_all (is_pictured caret selections) ps) all in
      let here = picture_is p parts.0 in
      λ k. record {
        id = p.id;
        viewer = p.viewer;
        caret = here.position k;
        selection = here.ranked k;
      } ∷ pictures_are ps parts.1 k

  -- ---- one selection in each viewer

  abbrev rank_of : Option Ranked → ℕ
  rank_of None = 0
  rank_of (Some r) = r.rank

  abbrev rank_in : ℕ → ℕ
  rank_in v = rank_of (ranked_in 1 selections v)

  found_rank : (rank : ℕ) (p : ViewerPicture) (o : Option Ranked) (s : Selection) → p.selection ≡ o
      → with_rank rank p o ≡ Some s → IsPicture p → rank_in s.viewer ≡ rank
  found_rank rank p None s here is picture = absurd cc
  found_rank rank p (Some r) s here is picture = (elim (r.rank == rank) as (λ b. (r.rank == rank) ≡ b
      → (let o : Option Selection = cond b (Some (record { viewer = p.id; beg = r.beg; end = r.end })) None in o)
      ≡ Some s → rank_in s.viewer ≡ rank) [
        | true ↦ λ same is.
            let viewer : p.id ≡ s.viewer = ap (λ (o : Option Selection). viewer_or o) is in
            subst (λ (v : ℕ). rank_in v ≡ rank) viewer
            (ap rank_of (picture.ranked ∙ here) ∙ eqb-true r.rank rank same)
        | false ↦ λ same is. absurd cc
      ]) refl is
    where
      viewer_or : Option Selection → ℕ
      viewer_or None = 0
      viewer_or (Some s) = s.viewer

  next_rank : (rank : ℕ) (p : ViewerPicture) (s : Selection) (later o : Option Selection) → selected_at rank p ≡ o
      → option_or o later ≡ Some s → IsPicture p → (later ≡ Some s → rank_in s.viewer ≡ rank)
      → rank_in s.viewer ≡ rank
  next_rank rank p s later None none is picture rest = rest is
  next_rank rank p s later (Some t) some is picture rest = found_rank rank p p.selection s refl (some ∙ is) picture

  pub selected_rank : (rank : ℕ) (ps : List ViewerPicture) (s : Selection)
      → list_all (is_pictured caret selections) ps ≡ true → first_some (selected_at rank) ps ≡ Some s
      → rank_in s.viewer ≡ rank
  selected_rank rank [] s all is = absurd cc
  selected_rank rank (p ∷ ps) s all is =
      let parts = and_parts (is_pictured caret selections p) (list_all (is_pictured caret selections) ps) all in
      next_rank rank p s (first_some (selected_at rank) ps) (selected_at rank p) refl is (picture_is p parts.0)
      (λ later. selected_rank rank ps s parts.1 later)

  module _ (v : ℕ) (h : ℕ → Option Selection) (ranks : (k : ℕ) (s : Selection) → h k ≡ Some s → rank_in s.viewer ≡ k)
    where
      abbrev count : List Selection → ℕ
      count l = count_by (λ s. s.viewer == v) l

      abbrev one_if : Bool → ℕ
      one_if b = cond b 1 0

      count_first : (s : Selection) (l : List Selection) → count (s ∷ l) ≡ one_if (s.viewer == v) + count l
      count_first s l = sum_by-cons (λ (t : Selection). one_if (t.viewer == v)) s l

      from_step : (a : ℕ) (later : List Selection) (o : Option Selection) → h a ≡ o
          → (0 < count later → a + 1 ≤ rank_in v) → 0 < count (cons_option o later) → a ≤ rank_in v
      from_step a later None is rest some = (let after = rest some in omega (arith, after))
      from_step a later (Some s) is rest some =
          elim (cases_eq s.viewer v) [
            | inl same ↦ (let here = ranks a s is in let at = ap rank_in same in omega (arith, here, at))
            | inr other ↦ (let first = count_first s later in let no = ap one_if (ne_eqb s.viewer v other) in
                let after = rest (omega (arith, some, first, no)) in omega (arith, after))
          ]

      -- where one is found from a rank on, it has at least that
      from_rank : (a n : ℕ) → 0 < count (filter_map h (range_with_len a n)) → a ≤ rank_in v
      from_rank a zero some = absurd (omega (arith, some))
      from_rank a (suc n) some = from_step a (filter_map h (range_with_len (a + 1) n)) (h a) refl
          (λ later. from_rank (a + 1) n later) some

      one_small : (b : Bool) → one_if b ≤ 1
      one_small true = omega arith
      one_small false = omega arith

      once_step : (a : ℕ) (later : List Selection) (o : Option Selection) → h a ≡ o
          → (0 < count later → a + 1 ≤ rank_in v) → count later ≤ 1 → count (cons_option o later) ≤ 1
      once_step a later None is from rest = rest
      once_step a later (Some s) is from rest =
          let first = count_first s later in
          let small = one_small (s.viewer == v) in
          elim (cases_eq s.viewer v) [
            | inl same ↦ (let here = ranks a s is in let at = ap rank_in same in
                ⊎_elim (λ some. (let more = from some in absurd (omega (arith, more, here, at))))
                (λ none. omega (arith, first, small, none)) (cases_lt 0 (count later)))
            | inr other ↦ (let no = ap one_if (ne_eqb s.viewer v other) in omega (arith, first, no, rest))
          ]

      pub once_ranked : (a n : ℕ) → count (filter_map h (range_with_len a n)) ≤ 1
      once_ranked a zero = omega arith
      once_ranked a (suc n) = once_step a (filter_map h (range_with_len (a + 1) n)) (h a) refl
          (λ later. from_rank (a + 1) n later) (once_ranked (a + 1) n)

-- the selections of an image: one in each viewer at most
pub one_in_each : (caret : Option Caret) (ps : List ViewerPicture) (v : ℕ)
    → list_all (is_pictured caret (selections_of ps)) ps ≡ true
    → count_by (λ s. s.viewer == v) (selections_of ps) ≤ 1
unfolding selections_of selected_as
one_in_each caret ps v all = once_ranked caret (selections_of ps) v (selected_as ps)
    (λ k s is. selected_rank caret (selections_of ps) k ps s all is) 1 (min (length ps) most_ranks)
