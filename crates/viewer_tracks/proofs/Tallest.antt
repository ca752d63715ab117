-- The tallest viewer, found on the way up.
use Rattle.std.proofs.Common.{◌≡◌, ℕ, suc, zero, ◌+◌, ◌-◌, ◌/◌, ◌<◌, ◌≤◌, Bool, true, false, cond, not, ◌==◌, max, List}
use Rattle.std.proofs.Common.{[], ◌∷◌, ◌++◌, length, take, get_or, refl, ap, sym, subst, ◌∙◌, inl, inr, ◌⊎◌, ⊎_elim}
use Rattle.std.proofs.Common.{add-one, arith, sum_by}
use Rattle.std.specs.Prelude.{fold}
use Rattle.std.specs.List.{position_or_len}
use Rattle.std.proofs.lemmas.List.{take_at, take_all, take-append-le}
use Rattle.std.proofs.lemmas.List.Sums.{sum_by_push, fold_push, prefix_len-le-length}
use Rattle.std.proofs.lemmas.List.Folds.{position_or_len_push}
use Rattle.std.proofs.lemmas.Bool.{ne_eqb, eq-eqb, le-leb, lt-leb, cases_lt}
use Rattle.std.proofs.lemmas.Bool.Decides.{nat_tests}
use Rattle.viewer_tracks.specs.declared.edges.Edge.{Edge}
use Rattle.viewer_tracks.specs.Viewers.{Entry, bottom_of}
use Rattle.viewer_tracks.specs.Room.{greatest_height, tallest, free_row}
use Rattle.viewer_tracks.specs.Edges.{entries_from, Rises}
use Rattle.viewer_tracks.proofs.EdgeLemmas.{bottom_of-cons, bottom_of-le, length-entries_from}
use Rattle.viewer_tracks.proofs.Opening.{bottom_of-grows}
use Rattle.viewer_tracks.specs.declared.display.TheConstants.{ROWS}

-- the first entry of a height
abbrev first_of : ℕ → List Entry → ℕ
first_of h t = position_or_len (λ e. e.height == h) t

-- no entry is higher than the greatest height
past : (a : ℕ) (t : List Entry) (h : ℕ) → fold (λ n e. max n e.height) a t < h → (a < h) × (first_of h t ≡ length t)
past a [] h less = (less, refl)
past a (x ∷ t) h less =
    let rest = past (max a x.height) t h less in
    let lower = rest.0 in
    let other : (x.height == h) ≡ false = ne_eqb x.height h (λ same. omega arith) in
    let count = rest.1 in
    (omega arith, ap (λ b. cond (not b) (1 + first_of h t) 0) other ∙ omega arith)

within_more : (b : Bool) (n l : ℕ) → n < l → cond (not b) (1 + n) 0 < suc l
within_more true n l less = omega arith
within_more false n l less = omega arith

-- some entry has it, unless there is none
attained : (a : ℕ) (t : List Entry)
    → (fold (λ n e. max n e.height) a t ≡ a) ⊎ (first_of (fold (λ n e. max n e.height) a t) t < length t)
attained a [] = inl refl
attained a (x ∷ t) =
    let g = fold (λ n (e : Entry). max n e.height) (max a x.height) t in
    ⊎_elim
    (λ same. ⊎_elim
    (λ up. inr (subst (λ b. cond (not b) (1 + first_of g t) 0 < suc (length t))
    (sym (eq-eqb x.height g (omega arith))) (omega arith)))
    (λ low. inl (omega arith))
    (cases_lt a x.height))
    (λ less. inr (within_more (x.height == g) (first_of g t) (length t) less))
    (attained (max a x.height) t)

-- what is known of the viewers so far
pub record IsTallest (t : List Entry) (bottom greatest middle : ℕ) : Type 0 where
  pub sum : bottom ≡ sum_by (λ e. e.height) t
  pub most : greatest ≡ greatest_height t
  pub half : middle ≡ bottom_of t (tallest t) + greatest_height t / 2
  pub within : middle ≤ bottom

-- the middle of the tallest, of which the height is known, its place, and what is below it
middle_of : (t below : List Entry) (h n : ℕ) → greatest_height t ≡ h → first_of h t ≡ n → take n t ≡ below
    → bottom_of t (tallest t) + greatest_height t / 2 ≡ sum_by (λ e. e.height) below + h / 2
middle_of t below h n is at front =
    (λ i. bottom_of t (first_of (is i) t) + is i / 2) ∙ ap (λ k. bottom_of t k + h / 2) at
    ∙ ap (λ (l : List Entry). sum_by (λ (x : Entry). x.height) l + h / 2) front

pub tallest_none : IsTallest [] 0 0 0
tallest_none = record { sum = refl; most = refl; half = refl; within = omega arith }

pub tallest_more : (t : List Entry) (e : Entry) (b g m : ℕ) → IsTallest t b g m → g < e.height
    → IsTallest (t ++ e ∷ []) (b + e.height) e.height (b + e.height / 2)
tallest_more t e b g m so more =
    let most = fold_push (λ n (x : Entry). max n x.height) 0 t e in
    let is : greatest_height (t ++ e ∷ []) ≡ e.height = omega (arith, so.most) in
    let none = (past 0 t e.height (omega (arith, so.most))).1 in
    let at : first_of e.height (t ++ e ∷ []) ≡ length t =
    position_or_len_push (λ (x : Entry). x.height == e.height) t e
    ∙ (let here : (e.height == e.height) ≡ true = eq-eqb e.height e.height refl in grind (arith, nat_tests)) in
    record {
      sum = omega (arith, so.sum, sum_by_push (λ (x : Entry). x.height) t e);
      most = sym is;
      half =
          omega (
            arith,
            so.sum,
            middle_of (t ++ e ∷ []) t e.height (length t) is at (take_at t (e ∷ []) (length t) refl),
          );
      within = omega (arith, so.within);
    }

pub tallest_same : (t : List Entry) (e : Entry) (b g m : ℕ) → IsTallest t b g m → e.height ≤ g
    → IsTallest (t ++ e ∷ []) (b + e.height) g m
tallest_same t e b g m so less =
    let most = fold_push (λ n (x : Entry). max n x.height) 0 t e in
    let same : greatest_height (t ++ e ∷ []) ≡ greatest_height t = omega (arith, so.most) in
    let g' = greatest_height t in
    let short = prefix_len-le-length (λ (x : Entry). not (x.height == g')) t in
    let at : first_of g' (t ++ e ∷ []) ≡ first_of g' t =
    position_or_len_push (λ (x : Entry). x.height == g') t e
    ∙ ⊎_elim
    (λ zero. let here : (e.height == g') ≡ true = eq-eqb e.height g' (omega (arith, so.most)) in
    grind (arith, nat_tests))
    (λ found. grind (arith, nat_tests))
    (attained 0 t) in
    record {
      sum = omega (arith, so.sum, sum_by_push (λ (x : Entry). x.height) t e);
      most = so.most ∙ sym same;
      half =
          omega (
            arith,
            so.half,
            middle_of (t ++ e ∷ []) (take (first_of g' t) t) g' (first_of g' t) same at
                (take-append-le (first_of g' t) t (e ∷ []) short),
          );
      within = omega (arith, so.within);
    }

-- one edge more, with its height over the edges before it
pub take-entries_from : (b : ℕ) (es : List Edge) (n at : ℕ) (d : Edge) → n < length es → Rises b es
    → b + bottom_of (entries_from b es) n ≡ at
    → take (suc n) (entries_from b es)
    ≡ take n (entries_from b es) ++ record { viewer = (get_or es n d).viewer.0; height = (get_or es n d).top - at } ∷ []
take-entries_from b [] n at d within rising begins = absurd (omega arith)
take-entries_from b (e ∷ es) zero at d within rising begins =
    let same : b ≡ at = omega arith in
    ap (λ n. record { viewer = e.viewer.0; height = e.top - n } ∷ []) same
take-entries_from b (e ∷ es) (suc n) at d within rising begins =
    let first = bottom_of-cons (record { viewer = e.viewer.0; height = e.top - b }) (entries_from e.top es) n in
    ap (λ t. record { viewer = e.viewer.0; height = e.top - b } ∷ t)
    (take-entries_from e.top es n at d (omega arith) rising.1 (omega arith))

-- the next edge in the loop
pub tallest_step : (es : List Edge) (n b g m : ℕ) (d : Edge) → n < length es → Rises 0 es
    → IsTallest (take n (entries_from 0 es)) b g m
    → (b < (get_or es n d).top)
    × (g < (get_or es n d).top - b
    → IsTallest (take (n + 1) (entries_from 0 es)) (get_or es n d).top ((get_or es n d).top - b)
    (b + ((get_or es n d).top - b) / 2))
    × ((get_or es n d).top - b ≤ g
    → IsTallest (take (n + 1) (entries_from 0 es)) (get_or es n d).top g m)
tallest_step es n b g m d within rising so =
    let t = take n (entries_from 0 es) in
    let e : Entry = record { viewer = (get_or es n d).viewer.0; height = (get_or es n d).top - b } in
    let grows = bottom_of-grows 0 es n d rising within in
    let longer = ap (λ k. take k (entries_from 0 es)) (add-one n) ∙ take-entries_from 0 es n b d within rising
    (omega (arith, so.sum)) in
    let up : b + e.height ≡ (get_or es n d).top = omega (arith, so.sum) in (
      omega (arith, so.sum),
      λ more. subst (λ (u : List Entry). IsTallest u (get_or es n d).top e.height (b + e.height / 2)) (sym longer)
          (subst (λ (k : ℕ). IsTallest (t ++ e ∷ []) k e.height (b + e.height / 2)) up
          (tallest_more t e b g m so more)),
      λ less. subst (λ (u : List Entry). IsTallest u (get_or es n d).top g m) (sym longer)
          (subst (λ (k : ℕ). IsTallest (t ++ e ∷ []) k g m) up (tallest_same t e b g m so less)),
    )

-- after the last edge
pub tallest_all : (es : List Edge) (n b g m : ℕ) → length es ≤ n → Rises 0 es
    → IsTallest (take n (entries_from 0 es)) b g m
    → (m ≡ bottom_of (entries_from 0 es) (tallest (entries_from 0 es)) + greatest_height (entries_from 0 es) / 2)
    × (m ≤ ROWS)
tallest_all es n b g m end rising so =
    let t = entries_from 0 es in
    let many = length-entries_from 0 es in
    let all : take n t ≡ t = take_all n t (omega arith) in
    let top = bottom_of-le es (length es) rising (omega arith) in
    let whole : take (length es) t ≡ t = take_all (length es) t (omega arith) in (
      so.half ∙ ap (λ u. bottom_of u (tallest u) + greatest_height u / 2) all,
      omega (arith, so.sum, so.within, ap (sum_by (λ (e : Entry). e.height)) (all ∙ sym whole)),
    )

-- where a new viewer finds room, in the filler or in the middle of the tallest viewer
pub free_row_filler : (es : List Edge) → bottom_of (entries_from 0 es) (length es) + 4 ≤ ROWS
    → free_row (entries_from 0 es) ≡ ROWS
unfolding free_row
free_row_filler es room =
    let t = entries_from 0 es in
    let same : bottom_of t (length t) ≡ bottom_of t (length es) = ap (bottom_of t) (length-entries_from 0 es) in
    ap (λ b. cond b ROWS (bottom_of t (tallest t) + greatest_height t / 2)) (le-leb _ _ (omega arith))

pub free_row_divided : (es : List Edge) → ROWS < bottom_of (entries_from 0 es) (length es) + 4
    → free_row (entries_from 0 es) ≡ bottom_of (entries_from 0 es) (tallest (entries_from 0 es)) + greatest_height
    (entries_from 0 es) / 2
unfolding free_row
free_row_divided es full =
    let t = entries_from 0 es in
    let same : bottom_of t (length t) ≡ bottom_of t (length es) = ap (bottom_of t) (length-entries_from 0 es) in
    ap (λ b. cond b ROWS (bottom_of t (tallest t) + greatest_height t / 2)) (lt-leb _ _ (omega arith))
