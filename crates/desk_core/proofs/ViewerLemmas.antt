-- Viewers that are sought one after another, and frames that follow one by one.
use Rattle.std.proofs.Common.{◌≡◌, ℕ, zero, suc, ◌+◌, ◌<◌, ◌≤◌, List, [], ◌∷◌, ◌++◌, length, get_or, set, take, drop}
use Rattle.std.proofs.Common.{cond}
use Rattle.std.proofs.Common.{true, false, Option, Some, None, refl, sym, ap, subst, ◌∙◌, arith, add-one, append-nil}
use Rattle.std.proofs.Common.{inl, inr}
use Rattle.std.specs.Option.{unwrap_or}
use Rattle.std.specs.Map.{set_value}
use Rattle.std.specs.Ordering.{nat_cmp}
use Rattle.std.specs.BTreeMap.{is_at}
use Rattle.std.proofs.Math.Seq.{drop-cons}
use Rattle.std.proofs.lemmas.Bool.{cases_eq}
use Rattle.std.proofs.lemmas.List.{length-set, get_or-set_same, get_or-set_other, get_or_read, take_all, drop_all}
use Rattle.desktop_definitions.specs.declared.viewer.Viewer.{Viewer}
use Rattle.desktop_definitions.specs.Viewers.{bare_viewer, viewer_in, viewer_or_none}
use Rattle.desktop_definitions.proofs.ShapeLaws.{at_here, at_other}
use Rattle.desktop_definitions.specs.DeskWords.{IsMoved, AreMoved}

abbrev pub Entries : Type 0
Entries = List (ℕ × Viewer)

-- None of the first entries has that id.
pub record IsBefore (xs : Entries) (at id : ℕ) : Type 0 where
  pub found : viewer_in (drop at xs) id ≡ viewer_in xs id
  pub front : (w : Viewer) → set_value (is_at (nat_cmp id)) xs w
      ≡ take at xs ++ set_value (is_at (nat_cmp id)) (drop at xs) w

pub before_first : (xs : Entries) (id : ℕ) → IsBefore xs 0 id
before_first xs id = record { found = refl; front = λ w. refl }

take_on : (xs : Entries) (at : ℕ) (d : ℕ × Viewer) (ys : Entries) → at < length xs
    → take at xs ++ get_or xs at d ∷ ys ≡ take (suc at) xs ++ ys
take_on [] at d ys low = absurd (omega (arith, low))
take_on (x ∷ xs) zero d ys low = refl
take_on (x ∷ xs) (suc at) d ys low = ap (λ (l : Entries). x ∷ l) (take_on xs at d ys (omega (arith, low)))

set_is : (xs : Entries) (at : ℕ) (x : ℕ × Viewer) → at < length xs
    → set xs at x ≡ take at xs ++ x ∷ drop (suc at) xs
set_is [] at x low = absurd (omega (arith, low))
set_is (y ∷ xs) zero x low = refl
set_is (y ∷ xs) (suc at) x low = ap (λ (l : Entries). y ∷ l) (set_is xs at x (omega (arith, low)))

module _ (xs : Entries) (at id : ℕ) (d : ℕ × Viewer) (low : at < length xs) (is : IsBefore xs at id) where
  split : drop at xs ≡ get_or xs at d ∷ drop (suc at) xs
  split = drop-cons xs at d low

  before_suc : ¬ (id ≡ (get_or xs at d).0) → IsBefore xs (suc at) id
  before_suc other =
      let test : is_at (nat_cmp id) (get_or xs at d).0 ≡ false = at_other id (get_or xs at d).0 other in
      record {
        found = sym (ap (λ (l : Entries). viewer_in l id) split
            ∙ ap (λ b. cond b (Some (get_or xs at d).1) (viewer_in (drop (suc at) xs) id)) test) ∙ is.found;
        front = λ w. is.front w
            ∙ ap (λ (l : Entries). take at xs ++ set_value (is_at (nat_cmp id)) l w) split
            ∙ ap (λ b. take at xs ++ cond b (((get_or xs at d).0, w) ∷ drop (suc at) xs)
            (get_or xs at d ∷ set_value (is_at (nat_cmp id)) (drop (suc at) xs) w)) test
            ∙ take_on xs at d (set_value (is_at (nat_cmp id)) (drop (suc at) xs) w) low;
      }

  pub before_next : ¬ (id ≡ (get_or xs at d).0) → IsBefore xs (at + 1) id
  before_next other = subst (λ n. IsBefore xs n id) (sym (add-one at)) (before_suc other)

  module _ (here : id ≡ (get_or xs at d).0) where
    found_test : is_at (nat_cmp id) (get_or xs at d).0 ≡ true
    found_test = subst (λ n. is_at (nat_cmp id) n ≡ true) here (at_here id)

    pub found_there : viewer_in xs id ≡ Some (get_or xs at d).1
    found_there = sym is.found ∙ ap (λ (l : Entries). viewer_in l id) split
        ∙ ap (λ b. cond b (Some (get_or xs at d).1) (viewer_in (drop (suc at) xs) id)) found_test

    pub set_there : (w : Viewer) → set xs at ((get_or xs at d).0, w) ≡ set_value (is_at (nat_cmp id)) xs w
    set_there w = set_is xs at ((get_or xs at d).0, w) low
        ∙ sym (is.front w
        ∙ ap (λ (l : Entries). take at xs ++ set_value (is_at (nat_cmp id)) l w) split
        ∙ ap (λ b. take at xs ++ cond b (((get_or xs at d).0, w) ∷ drop (suc at) xs)
        (get_or xs at d ∷ set_value (is_at (nat_cmp id)) (drop (suc at) xs) w)) found_test)

    pub org_there : (org : ℕ) → set xs at ((get_or xs at d).0, record (get_or xs at d).1 { org = org })
        ≡ set_value (is_at (nat_cmp id)) xs (record (viewer_or_none xs id) { org = org })
    org_there org = set_there (record (get_or xs at d).1 { org = org })
        ∙ ap (λ (o : Option Viewer). set_value (is_at (nat_cmp id)) xs (record (unwrap_or o bare_viewer) { org = org }))
        (sym found_there)

-- the viewer of an id was found, and shows its text from elsewhere on
pub found_set : (xs ys : Entries) (at id org : ℕ) (e f : ℕ × Viewer) → ys ≡ xs → at < length ys → IsBefore xs at id
    → e ≡ get_or ys at e → f ≡ get_or ys at f → f.0 ≡ id
    → set ys at (e.0, record e.1 { org = org })
    ≡ set_value (is_at (nat_cmp id)) xs (record (viewer_or_none xs id) { org = org })
found_set xs ys at id org e f same low is there read here =
    subst (λ (zs : Entries). at < length zs → e ≡ get_or zs at e → f ≡ get_or zs at f
    → set zs at (e.0, record e.1 { org = org })
    ≡ set_value (is_at (nat_cmp id)) xs (record (viewer_or_none xs id) { org = org })) (sym same)
    (λ low there read. ap (λ (x : ℕ × Viewer). set xs at (x.0, record x.1 { org = org })) there
    ∙ org_there xs at id e low is (sym here ∙ ap (λ (x : ℕ × Viewer). x.0) (get_or_read xs at f low read e)) org)
    low there read

-- at the end none has it
pub none_left : (xs : Entries) (at id : ℕ) → length xs ≤ at → IsBefore xs at id → viewer_in xs id ≡ None
none_left xs at id end is = sym is.found ∙ ap (λ (l : Entries). viewer_in l id) (drop_all at xs end)

pub none_set : (xs : Entries) (at id : ℕ) (w : Viewer) → length xs ≤ at → IsBefore xs at id
    → xs ≡ set_value (is_at (nat_cmp id)) xs w
none_set xs at id w end is = sym (is.front w
    ∙ ap (λ (l : Entries). take at xs ++ set_value (is_at (nat_cmp id)) l w) (drop_all at xs end)
    ∙ append-nil (take at xs) ∙ take_all at xs end)

-- ---- frames that follow

-- those before `at` have followed, and the others are as they were
pub record HaveMoved (n long at : ℕ) (olds nows : Entries) : Type 0 where
  pub as_long : length nows ≡ length olds
  pub done : (k : ℕ) (d : ℕ × Viewer) → k < at → IsMoved n long (get_or olds k d) (get_or nows k d)
  pub rest : (k : ℕ) (d : ℕ × Viewer) → at ≤ k → get_or nows k d ≡ get_or olds k d

pub none_moved : (n long : ℕ) (olds : Entries) → HaveMoved n long 0 olds olds
none_moved n long olds = record {
  as_long = refl;
  done = λ k d low. absurd (omega (arith, low));
  rest = λ k d high. refl;
}

pub moved_more : (n long at : ℕ) (olds nows : Entries) (old new : ℕ × Viewer) → HaveMoved n long at olds nows
    → at < length nows → old ≡ get_or nows at old → IsMoved n long old new
    → HaveMoved n long (at + 1) olds (set nows at new)
moved_more n long at olds nows old new is low here moved = record {
  as_long = length-set nows at new ∙ is.as_long;
  done = λ k d before. elim (cases_eq k at) [
    | inl same ↦ subst (λ j. IsMoved n long (get_or olds j d) (get_or (set nows at new) j d)) (sym same)
        (subst (λ (e : ℕ × Viewer). IsMoved n long (get_or olds at d) e) (sym (get_or-set_same nows at new d low))
        (subst (λ (e : ℕ × Viewer). IsMoved n long e new)
        (get_or_read nows at old low here d ∙ is.rest at d (omega arith)) moved))
    | inr other ↦ subst (λ (e : ℕ × Viewer). IsMoved n long (get_or olds k d) e)
        (sym (get_or-set_other nows at k new d other)) (is.done k d (omega (arith, before, other)))
  ];
  rest = λ k d high.
      get_or-set_other nows at k new d (λ e. let no : ⊥ = omega (arith, high, e) in no)
      ∙ is.rest k d (omega (arith, high));
}

pub all_moved : (n long at : ℕ) (olds nows : Entries) → length olds ≤ at → HaveMoved n long at olds nows
    → AreMoved n long olds nows
all_moved n long at olds nows end is = record {
  as_long = is.as_long;
  each = λ k d low. is.done k d (omega (arith, low, end));
}
