-- The tracks of a column, from the lowest up as an image has them and with the topmost first as a desktop has them.
use Rattle.std.proofs.Common.{◌≡◌, ℕ, ◌-◌, ◌<◌, ◌∙◌, true, false, cond, ◌==◌, List, [], ◌∷◌}
use Rattle.std.proofs.Common.{length, refl, sym, ap, arith, get_or}
use Rattle.std.specs.Prelude.{reverse}
use Rattle.std.specs.List.{list_all}
use Rattle.std.proofs.lemmas.Bool.{and_parts, eq-eqb, ne_eqb}
use Rattle.std.proofs.lemmas.List.{reverse-reverse, get_or-reverse}
use Rattle.std.proofs.lemmas.List.Sorted.{IsPermutation-reverse, sum_by-IsPermutation}
use Rattle.std.proofs.lemmas.List.Sums.{list_all-from_AllPass, sum_by-cons, get_or-le-sum_by}
use Rattle.viewer_tracks.specs.Viewers.{Entry, times_in}
use Rattle.viewer_tracks.specs.Columns.{topmost, times_on, times_placed, no_viewers}
use Rattle.desktop_definitions.specs.declared.viewer.Viewer.{Viewer}
use Rattle.image_format.proofs.Lists.{all_reversed}
use Rattle.desktop_image.specs.Images.{Levels, has_id, are_known, highest}

pub times_reversed : (v : ℕ) (s : Levels) → times_on v (reverse s) ≡ times_on v s
times_reversed v s = sum_by-IsPermutation (times_in v) s (reverse s) (IsPermutation-reverse s)

pub nothing_placed : (v : ℕ) → times_placed v no_viewers ≡ 0
nothing_placed v = let one = sum_by-cons (times_in v) [] [] in omega (arith, one)

pub highest_reversed : (s : Levels) → highest (reverse s) ≡ topmost s
highest_reversed s = ap topmost (reverse-reverse s)

-- the highest track is the last
pub highest_is : (s : Levels) → 0 < length s → highest s ≡ get_or s (length s - 1) []
highest_is s some =
    let place : length s - 1 - 0 ≡ length s - 1 = omega arith in
    first (reverse s) ∙ get_or-reverse s 0 [] (omega (arith, some)) ∙ ap (λ i. get_or s i []) place
  where
    first : (r : Levels) → topmost r ≡ get_or r 0 []
    first [] = refl
    first (t ∷ r) = refl

-- who stands in a track, stands there once at least
pub named_once : (t : List Entry) (i : ℕ) (d : Entry) → i < length t → 0 < times_in (get_or t i d).viewer t
named_once t i d low =
    let e = get_or t i d in
    let sum = get_or-le-sum_by (λ (x : Entry). (let n : ℕ = cond (x.viewer == e.viewer) 1 0 in n)) t i d low in
    let one = ap (λ b. (let n : ℕ = cond b 1 0 in n)) (eq-eqb e.viewer e.viewer refl) in
    omega (arith, sum, one)

-- where all who stand in tracks are viewers, what is no viewer stands in none
module _ (viewers : List (ℕ × Viewer)) where
  not_in_track : (v : ℕ) (track : List Entry) → has_id viewers v ≡ false
      → list_all (λ e. has_id viewers e.viewer) track ≡ true → times_in v track ≡ 0
  not_in_track v [] none all = refl
  not_in_track v (e ∷ track) none all =
      let parts = and_parts (has_id viewers e.viewer) (list_all (λ x. has_id viewers x.viewer) track) all in
      let rest = not_in_track v track none parts.1 in
      let sum = sum_by-cons (λ (x : Entry). (let n : ℕ = cond (x.viewer == v) 1 0 in n)) e track in
      let other : ¬ (e.viewer ≡ v) =
      λ same. (let there : has_id viewers v ≡ true = ap (has_id viewers) (sym same) ∙ parts.0 in
      absurd (cc (there, none)))
      in
      let no = ap (λ b. (let n : ℕ = cond b 1 0 in n)) (ne_eqb e.viewer v other) in
      omega (arith, rest, sum, no)

  pub not_in_tracks : (v : ℕ) (stack : Levels) → has_id viewers v ≡ false → are_known viewers stack ≡ true
      → times_on v stack ≡ 0
  not_in_tracks v [] none all = refl
  not_in_tracks v (t ∷ stack) none all =
      let parts = and_parts (list_all (λ (e : Entry). has_id viewers e.viewer) t) (are_known viewers stack) all in
      let here = not_in_track v t none parts.0 in
      let rest = not_in_tracks v stack none parts.1 in
      let sum = sum_by-cons (times_in v) t stack in
      omega (arith, here, rest, sum)

  -- all are viewers, where each that stands there is
  pub all_known : (s : Levels) → ((v : ℕ) → 0 < times_on v s → has_id viewers v ≡ true)
      → are_known viewers (reverse s) ≡ true
  all_known s each =
      list_all-from_AllPass (list_all (λ e. has_id viewers e.viewer)) (reverse s)
      (all_reversed (λ t. list_all (λ e. has_id viewers e.viewer) t ≡ true) s []
      (λ i d low. list_all-from_AllPass (λ e. has_id viewers e.viewer) (get_or s i d)
      (λ k e within. each (get_or (get_or s i d) k e).viewer
      (let here = named_once (get_or s i d) k e within in
      let there = get_or-le-sum_by (times_in (get_or (get_or s i d) k e).viewer) s i d low in
      omega (arith, here, there)))))
