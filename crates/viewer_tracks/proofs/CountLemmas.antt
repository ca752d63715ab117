-- Who stands in a track after an edit, and at which rows.
use Rattle.std.proofs.Common.{◌≡◌, ℕ, suc, zero, ◌+◌, ◌-◌, ◌<◌, ◌≤◌, Bool, true, false, cond, not, ◌==◌, ◌&&◌, nat_le}
use Rattle.std.proofs.Common.{List, [], ◌∷◌, length, refl, ap, sym, ◌∙◌, arith, Some, None, ⊎_elim}
use Rattle.std.specs.Prelude.{insert, remove}
use Rattle.std.specs.List.{position_or_len}
use Rattle.std.proofs.lemmas.List.Sums.{sum_by-insert}
use Rattle.std.proofs.lemmas.Bool.{le-ltb, cases_lt, eqb-true, eq-eqb, false≢true}
use Rattle.viewer_tracks.specs.declared.edges.Edge.{Edge}
use Rattle.viewer_tracks.specs.Viewers.{Entry, IsTrack, bottom_of, top_of, lowest_reaching, entry_viewer, viewer_at}
use Rattle.viewer_tracks.specs.Viewers.{times_in, entry_of}
use Rattle.viewer_tracks.specs.Edits.{with_entry, with_height, entry_with_viewer, open_entry, open_top, takes_place, opened}
use Rattle.viewer_tracks.specs.Edits.{replaced, changed, closed}
use Rattle.viewer_tracks.specs.Columns.{times_meant}
use Rattle.viewer_tracks.specs.Edges.{entries_from, Rises}
use Rattle.viewer_tracks.proofs.Positions.{counted}
use Rattle.viewer_tracks.proofs.Once.{one_if, times_in-cons, times_in-with_height, times_in-changed}
use Rattle.viewer_tracks.proofs.EdgeLemmas.{lowest_reaching-entries_from}
use Rattle.viewer_tracks.proofs.Opening.{no_edge, viewer_of-past, reaches, begins_below}
use Rattle.viewer_tracks.proofs.Moving.{top_of-entries_from}
use Rattle.viewer_tracks.proofs.TrackLemmas.{for_tracks}
use Rattle.viewer_tracks.proofs.RowLemmas.{opens}

-- the number of viewers and who they are, under edits of one entry
length-with_entry : (f : Entry → Entry) (t : List Entry) (i : ℕ) → length (with_entry f t i) ≡ length t
length-with_entry f [] i = refl
length-with_entry f (e ∷ t) zero = refl
length-with_entry f (e ∷ t) (suc i) = ap suc (length-with_entry f t i)

viewer_of-with_height : (h : Entry → ℕ) (t : List Entry) (i j : ℕ)
    → entry_viewer (with_entry (λ e. with_height (h e) e) t j) i ≡ entry_viewer t i
viewer_of-with_height h [] i j = refl
viewer_of-with_height h (e ∷ t) zero zero = refl
viewer_of-with_height h (e ∷ t) zero (suc j) = refl
viewer_of-with_height h (e ∷ t) (suc i) zero = refl
viewer_of-with_height h (e ∷ t) (suc i) (suc j) = viewer_of-with_height h t i j

renamed : (v w : ℕ) (t : List Entry) (i : ℕ) → i < length t
    → times_in w (with_entry (entry_with_viewer v) t i) + times_meant w (entry_viewer t i) ≡ times_in w t + times_meant w
    (Some v)
renamed v w [] i within = absurd (omega arith)
renamed v w (e ∷ t) zero within =
    let after = times_in-cons w (entry_with_viewer v e) t in
    let before = times_in-cons w e t in
    omega arith
renamed v w (e ∷ t) (suc i) within =
    let after = times_in-cons w e (with_entry (entry_with_viewer v) t i) in
    let before = times_in-cons w e t in
    let rest = renamed v w t i (omega arith) in
    omega arith

taken_out : (w : ℕ) (t : List Entry) (i : ℕ) → i < length t → times_in w (remove t i) + times_meant w (entry_viewer t i)
    ≡ times_in w t
taken_out w [] i within = absurd (omega arith)
taken_out w (e ∷ t) zero within = let before = times_in-cons w e t in omega arith
taken_out w (e ∷ t) (suc i) within =
    let after = times_in-cons w e (remove t i) in
    let before = times_in-cons w e t in
    let rest = taken_out w t i (omega arith) in
    omega arith

-- opening and closing in a track
taken_inside : (t : List Entry) (i top : ℕ) → takes_place t i top ≡ true → i < length t
taken_inside t i top whole =
    ⊎_elim (λ within. within)
    (λ past. absurd (false≢true (sym (ap (λ b. b && (top == top_of t i)) (le-ltb i (length t) past)) ∙ whole)))
    (cases_lt i (length t))

pub opened_counts : (v w : ℕ) (t : List Entry) (y : ℕ) (b : Bool) → takes_place t (open_entry t y) (open_top t y) ≡ b
    → times_in w (opened t v y) + times_meant w (replaced t y) ≡ times_in w t + times_meant w (Some v)
unfolding opened replaced
opened_counts v w t y true whole =
    let i = open_entry t y in
    let h = open_top t y - bottom_of t i in
    let named = with_entry (entry_with_viewer v) t i in
    let lower = insert (with_entry (λ e. with_height (e.height - h) e) t i) i (record { viewer = v; height = h }) in
    let track : opened t v y ≡ named = ap (λ b. cond b named lower) whole in
    let gone : replaced t y ≡ entry_viewer t i = ap (λ b. cond b (entry_viewer t i) None) whole in
    omega (
      arith,
      ap (times_in w) track,
      ap (times_meant w) gone,
      renamed v w t i (taken_inside t i (open_top t y) whole),
    )
opened_counts v w t y false part =
    let i = open_entry t y in
    let h = open_top t y - bottom_of t i in
    let named = with_entry (entry_with_viewer v) t i in
    let divided = with_entry (λ e. with_height (e.height - h) e) t i in
    let lower = insert divided i (record { viewer = v; height = h }) in
    let track : opened t v y ≡ lower = ap (λ b. cond b named lower) part in
    let gone : replaced t y ≡ None = ap (λ b. cond b (entry_viewer t i) None) part in
    omega (
      arith,
      ap (times_in w) track,
      ap (times_meant w) gone,
      sum_by-insert (λ (x : Entry). one_if x.viewer w) divided i (record { viewer = v; height = h }),
      times_in-with_height w (λ e. e.height - h) t i,
    )

closed_counts : (w : ℕ) (t : List Entry) (i : ℕ) → i < length t
    → times_in w (closed t i) + times_meant w (entry_viewer t i) ≡ times_in w t
unfolding closed
closed_counts w t i within =
    let h = top_of t i - bottom_of t i in
    let grown = with_entry (λ e. with_height (e.height + h) e) t (i + 1) in
    omega (
      arith,
      taken_out w grown i (omega (arith, length-with_entry (λ e. with_height (e.height + h) e) t (i + 1))),
      times_in-with_height w (λ e. e.height + h) t (i + 1),
      ap (times_meant w) (viewer_of-with_height (λ e. e.height + h) t i (i + 1)),
    )

-- a viewer stands at its entry
found_first : (x : Entry) (t : List Entry) (v n : ℕ) (b : Bool) → (x.viewer == v) ≡ b
    → (b ≡ false → entry_viewer t n ≡ Some v)
    → entry_viewer (x ∷ t) (cond (not b) (1 + n) 0) ≡ Some v
found_first x t v n true same rest = ap (λ (k : ℕ). Some k) (eqb-true x.viewer v same)
found_first x t v n false other rest = let next : 1 + n ≡ suc n = omega arith in ap (entry_viewer (x ∷ t)) next
    ∙ rest refl

at_its_entry : (v : ℕ) (t : List Entry) → 0 < times_in v t → entry_viewer t (entry_of t v) ≡ Some v
at_its_entry v [] some = absurd (omega arith)
at_its_entry v (e ∷ t) some =
    found_first e t v (entry_of t v) (e.viewer == v) refl
    (λ other. at_its_entry v t (omega (arith, times_in-cons v e t, ap {B = ℕ} (λ b. cond b 1 0) other)))

pub closed_one : (v w : ℕ) (t : List Entry) → 0 < times_in v t → times_in w (closed t (entry_of t v)) + times_meant w
    (Some v) ≡ times_in w t
closed_one v w t some =
    omega (
      arith,
      closed_counts w t (entry_of t v) (counted (λ (e : Entry). e.viewer == v) t some),
      ap (times_meant w) (at_its_entry v t some),
    )

-- a viewer that an entry has stands in the track, and if it does so once then at that entry
pub there : (v : ℕ) (t : List Entry) (i : ℕ) → entry_viewer t i ≡ Some v → 0 < times_in v t
there v [] i is = absurd (cc)
there v (e ∷ t) zero is =
    let same : e.viewer ≡ v = cc in
    omega (arith, times_in-cons v e t, ap {B = ℕ} (λ b. cond b 1 0) (eq-eqb e.viewer v same))
there v (e ∷ t) (suc i) is = omega (arith, times_in-cons v e t, there v t i is)

first_case : (b : Bool) (n i c : ℕ) → cond b 1 0 + c ≤ 1 → 0 < c → n ≡ i → cond (not b) (1 + n) 0 ≡ suc i
first_case true n i c once some is = absurd (omega arith)
first_case false n i c once some is = omega arith

only_there : (v : ℕ) (t : List Entry) (i : ℕ) → times_in v t ≤ 1 → entry_viewer t i ≡ Some v → entry_of t v ≡ i
only_there v [] i once is = absurd (cc)
only_there v (e ∷ t) zero once is =
    let same : e.viewer ≡ v = cc in
    ap (λ b. cond (not b) (1 + entry_of t v) 0) (eq-eqb e.viewer v same)
only_there v (e ∷ t) (suc i) once is =
    let count = times_in-cons v e t in
    let some = there v t i is in
    first_case (e.viewer == v) (entry_of t v) i (times_in v t) (omega arith) some (only_there v t i (omega arith) is)

-- the entry that is seen at a row has that row
seen_edges : (v r : ℕ) (es : List Edge) → Rises 0 es
    → entry_viewer (entries_from 0 es) (lowest_reaching (entries_from 0 es) (r + 1)) ≡ Some v
    → (bottom_of (entries_from 0 es) (lowest_reaching (entries_from 0 es) (r + 1)) ≤ r)
    × (r < top_of (entries_from 0 es) (lowest_reaching (entries_from 0 es) (r + 1)))
seen_edges v r es rising is =
    let t = entries_from 0 es in
    let i = lowest_reaching t (r + 1) in
    let lowest : i ≡ position_or_len (λ e. nat_le (r + 1) e.top) es = lowest_reaching-entries_from es (r + 1) rising in
    let within : i < length es =
    ⊎_elim (λ less. less) (λ past. let none = viewer_of-past 0 es i past in absurd (cc)) (cases_lt i (length es)) in
    let up = reaches es (r + 1) i no_edge lowest within in
    let low : bottom_of t i ≤ r =
    at_bottom i (λ more. begins_below es (r + 1) i rising lowest (omega arith) more) in
    (low, omega (arith, top_of-entries_from es i no_edge rising within))
  where
    at_bottom : (j : ℕ) → (0 < j → bottom_of (entries_from 0 es) j < r + 1) → bottom_of (entries_from 0 es) j ≤ r
    at_bottom zero below = omega arith
    at_bottom (suc j) below = let less = below (omega arith) in omega arith

pub record Seen (t : List Entry) (v r : ℕ) : Type 0 where
  pub some : 0 < times_in v t
  pub from : times_in v t ≤ 1 → bottom_of t (entry_of t v) ≤ r
  pub before : times_in v t ≤ 1 → r < top_of t (entry_of t v)

pub seen_in : (t : List Entry) (v r : ℕ) → IsTrack t → viewer_at t r ≡ Some v → Seen t v r
unfolding viewer_at
seen_in t v r track is =
    let i = lowest_reaching t (r + 1) in
    let rows = for_tracks
    (λ t. entry_viewer t (lowest_reaching t (r + 1)) ≡ Some v
    → (bottom_of t (lowest_reaching t (r + 1)) ≤ r) × (r < top_of t (lowest_reaching t (r + 1))))
    (seen_edges v r) t track is in
    record {
      some = there v t i is;
      from = λ once. omega (arith, rows.0, ap (bottom_of t) (only_there v t i once is));
      before = λ once. omega (arith, rows.1, ap (top_of t) (only_there v t i once is));
    }

-- a track in which a viewer stands has one
pub some_there : (v : ℕ) (t : List Entry) → 0 < times_in v t → 0 < length t
some_there v [] some = absurd (omega (arith, some))
some_there v (e ∷ t) some = omega arith

pub some_opened : (t : List Entry) (v y : ℕ) → IsTrack t → 0 < length (opened t v y)
unfolding viewer_at
some_opened t v y track =
    let rows = opens t v y track in
    some_there v (opened t v y)
    (there v (opened t v y) _ (rows.own (bottom_of t (open_entry t y)) (omega arith) rows.some))

pub some_changed : (t : List Entry) (v y : ℕ) → 0 < times_in v t → 0 < length (changed t (entry_of t v) y)
some_changed t v y some =
    some_there v (changed t (entry_of t v) y) (omega (arith, times_in-changed v t (entry_of t v) y, some))

-- a viewer that has a place in a track stands there
pub there_at : (v : ℕ) (t : List Entry) (i : ℕ) → Some v ≡ entry_viewer t i → 0 < times_in v t
there_at v t i is = there v t i (sym is)
