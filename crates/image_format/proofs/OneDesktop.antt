-- Desktops that hold together are told apart by their parts.
use Rattle.std.specs.Prelude.{◌≡◌, ℕ, ◌+◌, ◌≤◌, ◌==◌, true, false, cond, Bool, List, [], ◌∷◌, map, reverse}
use Rattle.std.specs.Prelude.{count_by, All, IsSome, Option, Some, None}
use Rattle.std.specs.List.{slice_index_or}
use Rattle.std.specs.Ordering.{nat_cmp}
use Rattle.std.specs.BTreeMap.{is_at}
use Rattle.std.proofs.Common.{refl, sym, ap, subst, ◌∙◌, arith}
use Rattle.std.proofs.lemmas.Bool.{eq-eqb, eqb-true}
use Rattle.std.proofs.lemmas.List.{reverse-reverse}
use Rattle.std.proofs.lemmas.List.Elements.{All-head, All-tail}
use Rattle.std.proofs.lemmas.List.Sums.{sum_by-cons}
use Rattle.event_bytes.proofs.PartLaws.{some_is}
use Rattle.viewer_tracks.specs.declared.display.Track.TheVariants.{User, System}
use Rattle.viewer_tracks.specs.Viewers.{Entry}
use Rattle.viewer_tracks.specs.Columns.{Columns, IsOnTop, stack_of}
use Rattle.desktop_definitions.specs.declared.viewer.Viewer.{Viewer}
use Rattle.desktop_definitions.specs.declared.viewer.Caret.{Caret}
use Rattle.desktop_definitions.specs.declared.viewer.Selection.{Selection}
use Rattle.desktop_definitions.specs.Desktop.{KeptDesktop}
use Rattle.desktop_definitions.specs.Seen.{seen}
use Rattle.desktop_definitions.specs.Viewers.{viewer_in}
use Rattle.desktop_definitions.specs.Sound.{IsKeptWhole, IsShaped}
use Rattle.desktop_definitions.proofs.PlaceLaws.{at_same, on_top_placed}
use Rattle.desktop_definitions.proofs.ViewLaws.{placed_there}
use Rattle.image_format.specs.declared.picture.Ranked.{Ranked}
use Rattle.image_format.specs.declared.picture.ViewerPicture.{ViewerPicture}
use Rattle.desktop_definitions.specs.Shown.{caret_position}
use Rattle.image_format.specs.Image.{Image, image_of, ranked_in, picture_of}

-- ---- columns

pub same_stack : (a b : List (List Entry)) → reverse a ≡ reverse b → a ≡ b
same_stack a b same = sym (reverse-reverse a) ∙ ap reverse same ∙ reverse-reverse b

pub same_columns : (c e : Columns) → reverse (stack_of c User) ≡ reverse (stack_of e User)
    → reverse (stack_of c System) ≡ reverse (stack_of e System) → c ≡ e
same_columns c e user system = λ k. record {
  user = same_stack c.user e.user user k;
  system = same_stack c.system e.system system k;
}

-- ---- viewers

id_and_viewer : ViewerPicture → ℕ × Viewer
id_and_viewer p = (p.id, p.viewer)

-- a picture tells the viewer and its id
pictured_viewers : (caret : Option Caret) (selections : List Selection) (viewers : List (ℕ × Viewer))
    → map id_and_viewer (map (picture_of caret selections) viewers) ≡ viewers
unfolding id_and_viewer
pictured_viewers caret selections [] = refl
pictured_viewers caret selections (v ∷ viewers) = λ k. v ∷ pictured_viewers caret selections viewers k

pub same_viewers : (caret other : Option Caret) (selections others : List Selection) (viewers those : List (ℕ × Viewer))
    → map (picture_of caret selections) viewers ≡ map (picture_of other others) those → viewers ≡ those
same_viewers caret other selections others viewers those same =
    sym (pictured_viewers caret selections viewers) ∙ ap (map id_and_viewer) same
    ∙ pictured_viewers other others those

-- What two desktops with the same pictures have in common in a viewer.
pub record SameIn (caret other : Option Caret) (selections others : List Selection) (v : ℕ) : Type 0 where
  pub caret_same : caret_position v caret ≡ caret_position v other
  pub selection_same : ranked_in 1 selections v ≡ ranked_in 1 others v

first_picture : (p q : ViewerPicture) (ps qs : List ViewerPicture) → p ∷ ps ≡ q ∷ qs → p ≡ q
first_picture p q ps qs same = cc

other_pictures : (p q : ViewerPicture) (ps qs : List ViewerPicture) → p ∷ ps ≡ q ∷ qs → ps ≡ qs
other_pictures p q ps qs same = cc

same_in : (caret other : Option Caret) (selections others : List Selection) (v : ℕ) (viewers : List (ℕ × Viewer))
    → map (picture_of caret selections) viewers ≡ map (picture_of other others) viewers
    → IsSome (viewer_in viewers v) → SameIn caret other selections others v
same_in caret other selections others v [] same found = absurd cc
same_in caret other selections others v (e ∷ viewers) same found = (elim (is_at (nat_cmp v) e.0) as
    (λ b. is_at (nat_cmp v) e.0 ≡ b → IsSome (let o : Option Viewer = cond b (Some e.1) (viewer_in viewers v) in o)
    → SameIn caret other selections others v) [
      | true ↦ λ here found.
          let first = first_picture (picture_of caret selections e) (picture_of other others e)
          (map (picture_of caret selections) viewers) (map (picture_of other others) viewers) same in
          subst (λ (n : ℕ). SameIn caret other selections others n) (sym (at_same v e.0 here)) (record {
            caret_same = ap (λ (p : ViewerPicture). p.caret) first;
            selection_same = ap (λ (p : ViewerPicture). p.selection) first;
          })
      | false ↦ λ not_here found. same_in caret other selections others v viewers (other_pictures _ _ _ _ same) found
    ]) refl found

-- ---- the caret

caret_there : (c : Caret) → caret_position c.viewer (Some c) ≡ Some c.position
caret_there c = ap (λ b. let o : Option ℕ = cond b (Some c.position) None in o) (eq-eqb c.viewer c.viewer refl)

-- where a caret stands says which it is
caret_is : (c other : Caret) (b : Bool) → (other.viewer == c.viewer) ≡ b
    → (let o : Option ℕ = cond b (Some other.position) None in o) ≡ Some c.position → c ≡ other
caret_is c other true here same =
    let position : other.position ≡ c.position = cc same in
    let viewer = eqb-true other.viewer c.viewer here in
    λ k. record { viewer = sym viewer k; position = sym position k }
caret_is c other false here same = absurd cc

pub same_caret : (caret other : Option Caret)
    → ((c : Caret) → caret ≡ Some c → caret_position c.viewer caret ≡ caret_position c.viewer other)
    → ((c : Caret) → other ≡ Some c → caret_position c.viewer caret ≡ caret_position c.viewer other)
    → caret ≡ other
same_caret None None here there = refl
same_caret None (Some c) here there = let same = there c refl in let is = caret_there c in absurd (cc (same, is))
same_caret (Some c) None here there = let same = here c refl in let is = caret_there c in absurd (cc (same, is))
same_caret (Some c) (Some other) here there =
    ap (λ (x : Caret). let o : Option Caret = Some x in o)
    (caret_is c other (other.viewer == c.viewer) refl (sym (here c refl) ∙ caret_there c))

-- ---- selections

-- how many selections are in a viewer
abbrev times_selected : ℕ → List Selection → ℕ
times_selected v selections = count_by (λ s. s.viewer == v) selections

times_cons : (v : ℕ) (s : Selection) (later : List Selection)
    → times_selected v (s ∷ later) ≡ (let n : ℕ = cond (s.viewer == v) 1 0 in n) + times_selected v later
times_cons v s later = sum_by-cons (λ (o : Selection). let n : ℕ = cond (o.viewer == v) 1 0 in n) s later

abbrev or_later : Ranked → Option Ranked → Bool → Option Ranked
or_later first later b = cond b (Some first) later

-- a selection has the rank n at least
rank_from : (n v : ℕ) (selections : List Selection) (r : Ranked) → ranked_in n selections v ≡ Some r → n ≤ r.rank
rank_from n v [] r is = absurd cc
rank_from n v (s ∷ later) r is = (elim (s.viewer == v) as
    (λ b. or_later (record { rank = n; beg = s.beg; end = s.end }) (ranked_in (n + 1) later v) b ≡ Some r
    → n ≤ r.rank) [
      | true ↦ λ is.
          let same : n ≡ r.rank = cc is in
          omega (arith, same)
      | false ↦ λ is. let rest = rank_from (n + 1) v later r is in omega (arith, rest)
    ]) is

none_ranked : (n v : ℕ) (selections : List Selection) → times_selected v selections ≡ 0
    → ranked_in n selections v ≡ None
none_ranked n v [] none = refl
none_ranked n v (s ∷ later) none =
    let sum = times_cons v s later in
    (elim (s.viewer == v) as (λ b. (let n : ℕ = cond b 1 0 in n) + times_selected v later ≡ 0
    → or_later (record { rank = n; beg = s.beg; end = s.end }) (ranked_in (n + 1) later v) b ≡ None) [
      | true ↦ λ none. absurd (omega (arith, none))
      | false ↦ λ none. none_ranked (n + 1) v later (omega (arith, none))
    ]) (omega (arith, sum, none))

-- the first one has the rank n in its viewer
first_ranked : (n : ℕ) (s : Selection) (later : List Selection)
    → ranked_in n (s ∷ later) s.viewer ≡ Some (record { rank = n; beg = s.beg; end = s.end })
first_ranked n s later =
    ap (or_later (record { rank = n; beg = s.beg; end = s.end }) (ranked_in (n + 1) later s.viewer))
    (eq-eqb s.viewer s.viewer refl)

-- no later one is in the viewer of the first
none_later : (s : Selection) (later : List Selection) → ((v : ℕ) → times_selected v (s ∷ later) ≤ 1)
    → times_selected s.viewer later ≡ 0
none_later s later one =
    let here = one s.viewer in
    let sum = times_cons s.viewer s later in
    let counts : (let n : ℕ = cond (s.viewer == s.viewer) 1 0 in n)
    ≡ 1 = ap (λ b. let n : ℕ = cond b 1 0 in n) (eq-eqb s.viewer s.viewer refl) in
    omega (arith, here, sum, counts)

one_later : (s : Selection) (later : List Selection) → ((v : ℕ) → times_selected v (s ∷ later) ≤ 1) → (v : ℕ)
    → times_selected v later ≤ 1
one_later s later one v = let here = one v in let sum = times_cons v s later in omega (arith, here, sum)

-- what the first ranks tell of the first selections
first_is : (n : ℕ) (s t : Selection) (later : List Selection) (b : Bool) → (t.viewer == s.viewer) ≡ b
    → or_later (record { rank = n; beg = t.beg; end = t.end }) (ranked_in (n + 1) later s.viewer) b
    ≡ Some (record { rank = n; beg = s.beg; end = s.end }) → s ≡ t
first_is n s t later true here same =
    let viewer = eqb-true t.viewer s.viewer here in
    let ranked = some_is {A = Ranked} (record { rank = n; beg = t.beg; end = t.end })
    (record { rank = n; beg = s.beg; end = s.end }) same in
    let beg : t.beg ≡ s.beg = ap (λ (r : Ranked). r.beg) ranked in
    let end : t.end ≡ s.end = ap (λ (r : Ranked). r.end) ranked in
    λ k. record { viewer = sym viewer k; beg = sym beg k; end = sym end k }
first_is n s t later false here same =
    let rank = rank_from (n + 1) s.viewer later (record { rank = n; beg = s.beg; end = s.end }) same in
    absurd (omega (arith, rank))

-- what the other ranks tell
later_same : (n v w : ℕ) (a b : Ranked) (xs ys : List Selection) (test : Bool) → (w == v) ≡ test
    → (w ≡ v → ranked_in (n + 1) xs v ≡ ranked_in (n + 1) ys v)
    → or_later a (ranked_in (n + 1) xs v) test ≡ or_later b (ranked_in (n + 1) ys v) test
    → ranked_in (n + 1) xs v ≡ ranked_in (n + 1) ys v
later_same n v w a b xs ys true here both same = both (eqb-true w v here)
later_same n v w a b xs ys false here both same = same

-- the selections of viewers of which Q holds are told apart by their ranks
pub same_selections : (Q : ℕ → Type 0) (n : ℕ) (xs ys : List Selection) → All (λ s. Q s.viewer) xs
    → All (λ s. Q s.viewer) ys → ((v : ℕ) → times_selected v xs ≤ 1) → ((v : ℕ) → times_selected v ys ≤ 1)
    → ((v : ℕ) → Q v → ranked_in n xs v ≡ ranked_in n ys v) → xs ≡ ys
same_selections Q n [] [] all those one other same = refl
same_selections Q n [] (t ∷ ys) all those one other same =
    let is = first_ranked n t ys in
    let none = same t.viewer (All-head (λ (s : Selection). Q s.viewer) t ys those) in
    absurd (cc (is, none))
same_selections Q n (s ∷ xs) [] all those one other same =
    let is = first_ranked n s xs in
    let none = same s.viewer (All-head (λ (o : Selection). Q o.viewer) s xs all) in
    absurd (cc (is, none))
same_selections Q n (s ∷ xs) (t ∷ ys) all those one other same =
    let first : s ≡ t = first_is n s t ys (t.viewer == s.viewer) refl
    (sym (same s.viewer (All-head (λ (o : Selection). Q o.viewer) s xs all)) ∙ first_ranked n s xs) in
    let viewer : t.viewer ≡ s.viewer = ap (λ (o : Selection). o.viewer) (sym first) in
    let rest = same_selections Q (n + 1) xs ys (All-tail (λ (o : Selection). Q o.viewer) s xs all)
    (All-tail (λ (o : Selection). Q o.viewer) t ys those) (one_later s xs one) (one_later t ys other)
    (λ v holds. later_same n v s.viewer (record { rank = n; beg = s.beg; end = s.end })
    (record { rank = n; beg = t.beg; end = t.end }) xs ys (s.viewer == v) refl
    (λ here. none_ranked (n + 1) v xs (subst (λ (w : ℕ). times_selected w xs ≡ 0) here (none_later s xs one))
    ∙ sym (none_ranked (n + 1) v ys (subst (λ (w : ℕ). times_selected w ys ≡ 0) (viewer ∙ here)
    (none_later t ys other))))
    (subst (λ (w : ℕ). ranked_in n (s ∷ xs) v
    ≡ or_later (record { rank = n; beg = t.beg; end = t.end }) (ranked_in (n + 1) ys v) (w == v)) viewer
    (same v holds))) in
    λ k. first k ∷ rest k

-- ---- the whole

pub same_desktop : (d e : KeptDesktop) → IsKeptWhole d → IsKeptWhole e → d.written ≡ e.written → image_of d ≡ image_of e
    → d ≡ e
unfolding image_of seen
same_desktop d e one other count same =
    let shaped : IsShaped (seen [] d) = (one.sound []).shaped in
    let those : IsShaped (seen [] e) = (other.sound []).shaped in
    let all : map (picture_of d.caret d.selections) d.viewers ≡ map (picture_of e.caret e.selections) e.viewers =
    ap (λ (i : Image). i.viewers) same in
    let viewers = same_viewers d.caret e.caret d.selections e.selections d.viewers e.viewers all in
    let columns = same_columns d.columns e.columns (ap (λ (i : Image). i.user) same)
    (ap (λ (i : Image). i.system) same) in
    let agree : (v : ℕ) → IsSome (viewer_in d.viewers v) → SameIn d.caret e.caret d.selections e.selections v =
    λ v found. same_in d.caret e.caret d.selections e.selections v d.viewers
    (all ∙ ap (map (picture_of e.caret e.selections)) (sym viewers)) found in
    let here : (v : ℕ) → IsOnTop v d.columns → IsSome (viewer_in d.viewers v) =
    λ v shown. placed_there d.viewers d.columns d.closed v shaped.places (on_top_placed d.columns v shown) in
    let there : (v : ℕ) → IsOnTop v e.columns → IsSome (viewer_in d.viewers v) =
    λ v shown. subst (λ (vs : List (ℕ × Viewer)). IsSome (viewer_in vs v)) (sym viewers)
    (placed_there e.viewers e.columns e.closed v those.places (on_top_placed e.columns v shown)) in
    let caret = same_caret d.caret e.caret
    (λ c is. (agree c.viewer (here c.viewer (shaped.marks.caret_stands c is).placed)).caret_same)
    (λ c is. (agree c.viewer (there c.viewer (those.marks.caret_stands c is).placed)).caret_same) in
    let selections = same_selections (λ v. IsSome (viewer_in d.viewers v)) 1 d.selections e.selections
    (λ i s low. here (slice_index_or d.selections i s).viewer (shaped.marks.all_stand i s low).placed)
    (λ i s low. there (slice_index_or e.selections i s).viewer (those.marks.all_stand i s low).placed)
    shaped.marks.one_each those.marks.one_each (λ v found. (agree v found).selection_same) in
    λ k. record {
      texts = (same k).texts;
      viewers = viewers k;
      columns = columns k;
      caret = caret k;
      selections = selections k;
      marker = (same k).marker;
      closed = (same k).closed;
      files = (same k).files;
      copied = (same k).copied;
      deleted = (same k).deleted;
      pattern = (same k).pattern;
      look = (same k).look;
      written = count k;
    }
