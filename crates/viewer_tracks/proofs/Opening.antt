-- Where a viewer opens, read off the edges.
use Rattle.std.proofs.Common.{◌≡◌, ◌≢◌, ℕ, suc, zero, ◌+◌, ◌-◌, ◌<◌, ◌≤◌, true, false, cond, not, nat_le, List, [], ◌∷◌}
use Rattle.std.proofs.Common.{length, get_or, set, refl, ap, sym, subst, ◌∙◌, arith, min, max, Some, None, ⊎_elim, eqb}
use Rattle.std.specs.Prelude.{insert}
use Rattle.std.specs.List.{position_or_len}
use Rattle.std.proofs.lemmas.List.Sums.{prefix_len-le-length, fails_before_first, passes_at_first}
use Rattle.std.proofs.lemmas.List.Edits.{length-insert}
use Rattle.std.proofs.lemmas.Bool.{leb-true, leb-false, eqb-true, eq-eqb, cases_lt, false≢true}
use Rattle.std.proofs.lemmas.Bool.Decides.{nat_tests}
use Rattle.std.proofs.lemmas.Grind.{common_steps}
use Rattle.viewer_tracks.specs.declared.viewer_id.ViewerId.{ViewerId}
use Rattle.viewer_tracks.specs.declared.edges.Edge.{Edge}
use Rattle.viewer_tracks.specs.declared.display.TheConstants.{ROWS}
use Rattle.viewer_tracks.specs.Viewers.{bottom_of, entry_viewer}
use Rattle.viewer_tracks.specs.Edits.{with_entry, with_height, entry_with_viewer, open_entry, open_top, takes_place, put_into}
use Rattle.viewer_tracks.specs.Edits.{opened, replaced}
use Rattle.viewer_tracks.specs.Edges.{entries_from, Rises}
use Rattle.viewer_tracks.proofs.EdgeLemmas.{length-entries_from, bottom_of-cons, bottom_of-entries_from, bottom_of_edge}
use Rattle.viewer_tracks.proofs.EdgeLemmas.{bottom_of-le, lowest_reaching-entries_from, Rises-within}
use Rattle.viewer_tracks.proofs.EdgeLemmas.{entries_from-insert, Rises-insert, entries_from-with_viewer}
use Rattle.viewer_tracks.proofs.EdgeLemmas.{Rises-with_viewer}

-- the viewer whose top is put at row `top` goes to edge i
pub record Opening (es : List Edge) (y i top : ℕ) : Type 0 where
  pub rising : Rises 0 es
  pub entry : i ≡ open_entry (entries_from 0 es) y
  pub raised : top ≡ open_top (entries_from 0 es) y
  pub within : i ≤ length es
  pub above : bottom_of (entries_from 0 es) i < top
  pub below : (d : Edge) → i < length es → top ≤ (get_or es i d).top
  pub fits : top ≤ ROWS

abbrev pub no_edge : Edge
no_edge = record { viewer = record { 0 = 0 }; top = 0 }

pub reaches : (es : List Edge) (z i : ℕ) (d : Edge) → i ≡ position_or_len (λ e. nat_le z e.top) es
    → i < length es → z ≤ (get_or es i d).top
reaches es z i d lowest within =
    let at : (get_or es i d).top ≡ (get_or es (position_or_len (λ (e : Edge). nat_le z e.top) es) d).top =
    ap (λ k. (get_or es k d).top) lowest in
    let up = leb-true z _ (passes_at_first (λ (e : Edge). nat_le z e.top) es d (omega arith)) in
    omega arith

passed : (es : List Edge) (z i k : ℕ) (d : Edge) → i ≡ position_or_len (λ e. nat_le z e.top) es
    → k < i → (get_or es k d).top < z
passed es z i k d lowest less =
    leb-false z _ (fails_before_first (λ (e : Edge). nat_le z e.top) es k d (omega arith))

pub begins_below : (es : List Edge) (z i : ℕ) → Rises 0 es → i ≡ position_or_len (λ e. nat_le z e.top) es
    → i ≤ length es → 0 < i → bottom_of (entries_from 0 es) i < z
begins_below es z i rising lowest within more =
    let edge = bottom_of_edge es i no_edge rising more within in
    let less = passed es z i (i - 1) no_edge lowest (omega arith) in
    omega arith

pub bottom_of-grows : (b : ℕ) (es : List Edge) (i : ℕ) (d : Edge) → Rises b es → i < length es
    → b + bottom_of (entries_from b es) i < (get_or es i d).top
bottom_of-grows b [] i d rising within = absurd (omega arith)
bottom_of-grows b (e ∷ es) zero d rising within = omega arith
bottom_of-grows b (e ∷ es) (suc i) d rising within =
    let first = bottom_of-cons (record { viewer = e.viewer.0; height = e.top - b }) (entries_from e.top es) i in
    let rest = bottom_of-grows e.top es i d rising.1 (omega arith) in
    omega arith

top_fits : (es : List Edge) (i top z : ℕ) → top ≡ max z (bottom_of (entries_from 0 es) i + 1) → z ≤ ROWS
    → (0 < i → bottom_of (entries_from 0 es) i < z) → top ≤ ROWS
top_fits es zero top z raised fits below = omega arith
top_fits es (suc i) top z raised fits below = let less = below (omega arith) in omega arith

pub opening : (es : List Edge) (y i top : ℕ) → Rises 0 es
    → i ≡ position_or_len (λ e. nat_le (min y ROWS) e.top) es
    → top ≡ max (min y ROWS) (bottom_of (entries_from 0 es) i + 1)
    → Opening es y i top
opening es y i top rising lowest raised =
    let t = entries_from 0 es in
    let here : i ≡ open_entry t y = lowest ∙ sym (lowest_reaching-entries_from es (min y ROWS) rising) in
    let p = λ (e : Edge). nat_le (min y ROWS) e.top in
    let inside : i ≤ length es = omega (arith, prefix_len-le-length (λ e. not (p e)) es) in
    let begins = bottom_of-le es i rising inside in
    let below = begins_below es (min y ROWS) i rising lowest inside in
    record {
      rising = rising;
      entry = here;
      raised = raised ∙ ap (λ k. max (min y ROWS) (bottom_of t k + 1)) here;
      within = inside;
      above = omega arith;
      below = λ d more.
          let reached = reaches es (min y ROWS) i d lowest more in
          let ends = bottom_of-entries_from 0 es i d rising more in
          let grows = bottom_of-grows 0 es i d rising more in
          omega arith;
      fits = top_fits es i top (min y ROWS) raised (omega arith) below;
    }

pub viewer_of-entries_from : (b : ℕ) (es : List Edge) (i : ℕ) (d : Edge) → i < length es
    → entry_viewer (entries_from b es) i ≡ Some (get_or es i d).viewer.0
viewer_of-entries_from b [] i d within = absurd (omega arith)
viewer_of-entries_from b (e ∷ es) zero d within = refl
viewer_of-entries_from b (e ∷ es) (suc i) d within = viewer_of-entries_from e.top es i d (omega arith)

takes : (es : List Edge) (y i top : ℕ) (d : Edge) → Opening es y i top → i < length es → (get_or es i d).top ≡ top
    → takes_place (entries_from 0 es) i top ≡ true
takes es y i top d o within same =
    let ends = bottom_of-entries_from 0 es i d o.rising within in
    let many = length-entries_from 0 es in
    grind (arith, nat_tests)

leaves : (es : List Edge) (y i top : ℕ) (d : Edge) → Opening es y i top → (i < length es → (get_or es i d).top ≢ top)
    → takes_place (entries_from 0 es) i top ≡ false
leaves es y i top d o other =
    let many = length-entries_from 0 es in
    let ends : i < length es → 0 + bottom_of (entries_from 0 es) (suc i) ≡ (get_or es i d).top =
    λ within. bottom_of-entries_from 0 es i d o.rising within in
    grind (arith, nat_tests)

-- v replaces the viewer at edge i
pub opened-taking : (es : List Edge) (y i top : ℕ) (v : ViewerId) (d : Edge) → Opening es y i top → i < length es
    → (get_or es i d).top ≡ top
    → (entries_from 0 (set es i (record { viewer = v; top = (get_or es i d).top })) ≡ opened (entries_from 0 es) v.0 y)
    × (Some (get_or es i d).viewer.0 ≡ replaced (entries_from 0 es) y)
unfolding opened replaced
opened-taking es y i top v d o within same =
    let t = entries_from 0 es in
    let h = top - bottom_of t i in
    let lower = insert (with_entry (λ e. with_height (e.height - h) e) t i) i (record { viewer = v.0; height = h }) in
    let yes = takes es y i top d o within same in (
      entries_from-with_viewer 0 es i v d
          ∙ sym (ap (λ b. cond b (with_entry (entry_with_viewer v.0) t i) lower) yes)
          ∙ (λ k. put_into t v.0 (o.entry k) (o.raised k)),
      sym (viewer_of-entries_from 0 es i d within)
          ∙ sym (ap (λ b. cond b (entry_viewer t i) None) yes)
          ∙ (λ k. cond (takes_place t (o.entry k) (o.raised k)) (entry_viewer t (o.entry k)) None),
    )

-- v takes the lower rows of the entry at edge i
pub opened-inserting : (es : List Edge) (y i top : ℕ) (v : ViewerId) (d : Edge) → Opening es y i top
    → (i < length es → (get_or es i d).top ≢ top)
    → (entries_from 0 (insert es i (record { viewer = v; top = top })) ≡ opened (entries_from 0 es) v.0 y)
    × (None ≡ replaced (entries_from 0 es) y)
unfolding opened replaced
opened-inserting es y i top v d o other =
    let t = entries_from 0 es in
    let h = top - bottom_of t i in
    let no = leaves es y i top d o other in
    let above = o.above in (
      entries_from-insert 0 es i h v top o.within (omega arith) o.rising
          ∙ sym (ap (λ b. cond b (with_entry (entry_with_viewer v.0) t i)
          (insert (with_entry (λ e. with_height (e.height - h) e) t i) i (record { viewer = v.0; height = h }))) no)
          ∙ (λ k. put_into t v.0 (o.entry k) (o.raised k)),
      sym (ap (λ b. cond b (entry_viewer t i) None) no)
          ∙ (λ k. cond (takes_place t (o.entry k) (o.raised k)) (entry_viewer t (o.entry k)) None),
    )

-- the edges still rise, and there was room for one more
pub opening-Rises : (es : List Edge) (y i top : ℕ) (v : ViewerId) (d : Edge) → Opening es y i top
    → (i < length es → (get_or es i d).top ≢ top)
    → Rises 0 (insert es i (record { viewer = v; top = top })) × (length es < ROWS)
opening-Rises es y i top v d o other =
    let rising = Rises-insert 0 es i v top d o.within (omega (arith, o.above))
    (λ within. let differ = other within in let below = o.below d within in omega arith) o.fits o.rising in
    let fits = Rises-within 0 (insert es i (record { viewer = v; top = top })) rising in
    let longer = length-insert es i (record { viewer = v; top = top }) o.within in
    (rising, omega arith)

pub viewer_of-past : (b : ℕ) (es : List Edge) (i : ℕ) → length es ≤ i → entry_viewer (entries_from b es) i ≡ None
viewer_of-past b [] i past = refl
viewer_of-past b (e ∷ es) zero past = absurd (omega arith)
viewer_of-past b (e ∷ es) (suc i) past = viewer_of-past e.top es i (omega arith)

-- in the words of the contracts, for the checks of `open` and what it calls
pub lowest_entry : (es : List Edge) (y : ℕ) → Rises 0 es
    → open_entry (entries_from 0 es) y ≡ position_or_len (λ e. nat_le (min y ROWS) e.top) es
lowest_entry es y rising = lowest_reaching-entries_from es (min y ROWS) rising

pub edge_taken : (es : List Edge) (i top : ℕ) (d : Edge) → Rises 0 es → i < length es
    → takes_place (entries_from 0 es) i top ≡ eqb (get_or es i d).top top
edge_taken es i top d rising within =
    let ends = bottom_of-entries_from 0 es i d rising within in
    let many = length-entries_from 0 es in
    grind (arith, nat_tests)

pub filler_left : (es : List Edge) (i top : ℕ) → length es ≤ i → takes_place (entries_from 0 es) i top ≡ false
filler_left es i top past =
    let many = length-entries_from 0 es in
    grind (arith, nat_tests)

pub opening_at : (es : List Edge) (y : ℕ) → Rises 0 es → Opening es y (open_entry (entries_from 0 es) y)
    (open_top (entries_from 0 es) y)
opening_at es y rising =
    let t = entries_from 0 es in
    opening es y (open_entry t y) (open_top t y) rising (lowest_entry es y rising) refl

pub entry_within : (es : List Edge) (y : ℕ) → Rises 0 es → open_entry (entries_from 0 es) y ≤ length es
entry_within es y rising = (opening_at es y rising).within

pub taken_within : (es : List Edge) (i top : ℕ) → takes_place (entries_from 0 es) i top ≡ true → i < length es
taken_within es i top whole =
    let many = length-entries_from 0 es in
    ⊎_elim (λ within. within) (λ past. absurd (false≢true (sym (filler_left es i top past) ∙ whole)))
    (cases_lt i (length es))

-- the edge of the viewer that one opening at row y replaces ends where the new one does
pub same_top : (es : List Edge) (y : ℕ) (d : Edge) → Rises 0 es
    → takes_place (entries_from 0 es) (open_entry (entries_from 0 es) y) (open_top (entries_from 0 es) y) ≡ true
    → (get_or es (open_entry (entries_from 0 es) y) d).top ≡ open_top (entries_from 0 es) y
same_top es y d rising whole =
    let t = entries_from 0 es in
    let i = open_entry t y in
    let within = taken_within es i (open_top t y) whole in
    eqb-true _ _ (sym (edge_taken es i (open_top t y) d rising within) ∙ whole)

pub taken_track : (es : List Edge) (y : ℕ) (v : ViewerId) → Rises 0 es
    → takes_place (entries_from 0 es) (open_entry (entries_from 0 es) y) (open_top (entries_from 0 es) y) ≡ true
    → opened (entries_from 0 es) v.0 y ≡ entries_from 0 (set es (open_entry (entries_from 0 es) y)
    (record { viewer = v; top = open_top (entries_from 0 es) y }))
taken_track es y v rising whole =
    let t = entries_from 0 es in
    let i = open_entry t y in
    let within = taken_within es i (open_top t y) whole in
    let same = same_top es y no_edge rising whole in
    let both = opened-taking es y i (open_top t y) v no_edge (opening_at es y rising) within same in
    sym both.0 ∙ ap (λ (n : ℕ). entries_from 0 (set es i (record { viewer = v; top = n }))) same

pub taken_replaced : (es : List Edge) (y : ℕ) (d : Edge) → Rises 0 es
    → takes_place (entries_from 0 es) (open_entry (entries_from 0 es) y) (open_top (entries_from 0 es) y) ≡ true
    → replaced (entries_from 0 es) y ≡ Some (get_or es (open_entry (entries_from 0 es) y) d).viewer.0
taken_replaced es y d rising whole =
    let t = entries_from 0 es in
    let i = open_entry t y in
    let within = taken_within es i (open_top t y) whole in
    sym (opened-taking es y i (open_top t y) (record { 0 = 0 }) d (opening_at es y rising) within
    (same_top es y d rising whole)).1

pub taken_rises : (es : List Edge) (y : ℕ) (v : ViewerId) → Rises 0 es
    → takes_place (entries_from 0 es) (open_entry (entries_from 0 es) y) (open_top (entries_from 0 es) y) ≡ true
    → Rises 0 (set es (open_entry (entries_from 0 es) y) (record { viewer = v; top = open_top (entries_from 0 es) y }))
taken_rises es y v rising whole =
    let t = entries_from 0 es in
    let i = open_entry t y in
    subst (λ (n : ℕ). Rises 0 (set es i (record { viewer = v; top = n }))) (same_top es y no_edge rising whole)
    (Rises-with_viewer 0 es i v no_edge rising)

pub inserted : (es : List Edge) (y : ℕ) (v : ViewerId) → Rises 0 es
    → takes_place (entries_from 0 es) (open_entry (entries_from 0 es) y) (open_top (entries_from 0 es) y) ≡ false
    → (opened (entries_from 0 es) v.0 y ≡ entries_from 0 (insert es (open_entry (entries_from 0 es) y)
    (record { viewer = v; top = open_top (entries_from 0 es) y })))
    × (replaced (entries_from 0 es) y ≡ None)
    × Rises 0 (insert es (open_entry (entries_from 0 es) y)
    (record { viewer = v; top = open_top (entries_from 0 es) y }))
inserted es y v rising part =
    let t = entries_from 0 es in
    let i = open_entry t y in
    let o = opening_at es y rising in
    let other : i < length es → (get_or es i no_edge).top ≢ open_top t y =
    λ within same. false≢true (sym part ∙ edge_taken es i (open_top t y) no_edge rising within ∙ eq-eqb _ _ same) in
    let both = opened-inserting es y i (open_top t y) v no_edge o other in
    (sym both.0, sym both.1, (opening-Rises es y i (open_top t y) v no_edge o other).0)

pub room : (es : List Edge) (y : ℕ) → Rises 0 es
    → takes_place (entries_from 0 es) (open_entry (entries_from 0 es) y) (open_top (entries_from 0 es) y) ≡ false
    → length es < ROWS
room es y rising part =
    let t = entries_from 0 es in
    let i = open_entry t y in
    let other : i < length es → (get_or es i no_edge).top ≢ open_top t y =
    λ within same. false≢true (sym part ∙ edge_taken es i (open_top t y) no_edge rising within ∙ eq-eqb _ _ same) in
    (opening-Rises es y i (open_top t y) (record { 0 = 0 }) no_edge (opening_at es y rising) other).1

pub inserted_replaced : (es : List Edge) (y : ℕ) → Rises 0 es
    → takes_place (entries_from 0 es) (open_entry (entries_from 0 es) y) (open_top (entries_from 0 es) y) ≡ false
    → replaced (entries_from 0 es) y ≡ None
inserted_replaced es y rising part = (inserted es y (record { 0 = 0 }) rising part).1

pub inserted_rises : (es : List Edge) (y : ℕ) (v : ViewerId) → Rises 0 es
    → takes_place (entries_from 0 es) (open_entry (entries_from 0 es) y) (open_top (entries_from 0 es) y) ≡ false
    → Rises 0 (insert es (open_entry (entries_from 0 es) y)
    (record { viewer = v; top = open_top (entries_from 0 es) y }))
inserted_rises es y v rising part = (inserted es y v rising part).2

-- what closes the goals of Viewers::open
pub ruleset opening_steps = (
  taken_track,
  taken_replaced,
  taken_within,
  taken_rises,
  inserted,
  inserted_replaced,
  inserted_rises,
  room,
  entry_within,
  common_steps,
)

-- what closes the goals of takes_place
pub ruleset place_tests = (edge_taken, filler_left, nat_tests)
