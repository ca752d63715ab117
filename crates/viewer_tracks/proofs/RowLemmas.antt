-- Which viewer has a row, read off the edges, and what edits change of it.
use Rattle.std.proofs.Common.{◌≡◌, ℕ, suc, zero, ◌+◌, ◌-◌, ◌<◌, ◌≤◌, Bool, true, false, cond, not, nat_le, List, []}
use Rattle.std.proofs.Common.{◌∷◌, ◌++◌, length, get_or, set, take, drop, refl, ap, sym, ◌∙◌, add-one, arith, Option}
use Rattle.std.proofs.Common.{Some, None, ⊎_elim}
use Rattle.std.specs.Prelude.{insert, remove}
use Rattle.std.specs.List.{position_or_len}
use Rattle.std.proofs.lemmas.List.{take-append-drop, set_split, drop_all, drop_more}
use Rattle.std.proofs.lemmas.Bool.{le-leb, lt-leb, le-ltb, cases_lt}
use Rattle.viewer_tracks.specs.declared.edges.Edge.{Edge}
use Rattle.viewer_tracks.specs.declared.display.TheConstants.{ROWS}
use Rattle.viewer_tracks.specs.Viewers.{Entry, IsTrack, bottom_of, top_of, entry_viewer, viewer_at}
use Rattle.viewer_tracks.specs.Edits.{open_entry, open_top, takes_place, opened, change_top, changed, closed}
use Rattle.viewer_tracks.specs.Edges.{entries_from, Rises}
use Rattle.viewer_tracks.specs.Rows.{OpensRows, ChangesRows, ClosesRows}
use Rattle.viewer_tracks.proofs.EdgeLemmas.{length-entries_from, lowest_reaching-entries_from, bottom_of-cons}
use Rattle.viewer_tracks.proofs.EdgeLemmas.{bottom_of-entries_from, Rises-top, Rises-remove}
use Rattle.viewer_tracks.proofs.Opening.{no_edge, bottom_of-grows, viewer_of-entries_from, viewer_of-past, opening_at}
use Rattle.viewer_tracks.proofs.Opening.{taken_within, same_top, taken_track, taken_rises, inserted, inserted_rises}
use Rattle.viewer_tracks.proofs.Moving.{moving_to, top_of-entries_from, changed_up, rises_changed, closed_edges}
use Rattle.viewer_tracks.proofs.TrackLemmas.{for_tracks}

-- the viewer of the lowest edge above row r
abbrev pub first_over : List Edge → ℕ → Option ℕ
first_over [] r = None
first_over (e ∷ es) r = cond (nat_le (r + 1) e.top) (Some e.viewer.0) (first_over es r)

here : (e : Edge) (es : List Edge) (r : ℕ) → r < e.top → first_over (e ∷ es) r ≡ Some e.viewer.0
here e es r less = ap (λ b. cond b (Some e.viewer.0) (first_over es r)) (le-leb _ _ (omega arith))

skipped : (e : Edge) (es : List Edge) (r : ℕ) → e.top ≤ r → first_over (e ∷ es) r ≡ first_over es r
skipped e es r past = ap (λ b. cond b (Some e.viewer.0) (first_over es r)) (lt-leb _ _ (omega arith))

found_case : (x : Entry) (t : List Entry) (b : Bool) (n : ℕ) (rest : Option ℕ) → entry_viewer t n ≡ rest
    → entry_viewer (x ∷ t) (cond (not b) (1 + n) 0) ≡ cond b (Some x.viewer) rest
found_case x t true n rest is = refl
found_case x t false n rest is = let next : 1 + n ≡ suc n = omega arith in ap (entry_viewer (x ∷ t)) next ∙ is

found : (b : ℕ) (es : List Edge) (r : ℕ)
    → entry_viewer (entries_from b es) (position_or_len (λ e. nat_le (r + 1) e.top) es) ≡ first_over es r
found b [] r = refl
found b (e ∷ es) r =
    found_case (record { viewer = e.viewer.0; height = e.top - b }) (entries_from e.top es) (nat_le (r + 1) e.top)
    (position_or_len (λ x. nat_le (r + 1) x.top) es) (first_over es r) (found e.top es r)

pub viewer_at-first_over : (es : List Edge) (r : ℕ) → Rises 0 es → viewer_at (entries_from 0 es) r ≡ first_over es r
unfolding viewer_at
viewer_at-first_over es r rising =
    ap (entry_viewer (entries_from 0 es)) (lowest_reaching-entries_from es (r + 1) rising) ∙ found 0 es r

-- edges that end below a row are passed, and what follows an edge above it doesn't count
passed : (b : ℕ) (es : List Edge) (i : ℕ) (rest : List Edge) (r : ℕ) → Rises b es
    → b + bottom_of (entries_from b es) i ≤ r
    → first_over (take i es ++ rest) r ≡ first_over rest r
passed b es zero rest r rising low = refl
passed b [] (suc i) rest r rising low = refl
passed b (e ∷ es) (suc i) rest r rising low =
    let first = bottom_of-cons (record { viewer = e.viewer.0; height = e.top - b }) (entries_from e.top es) i in
    skipped e (take i es ++ rest) r (omega arith) ∙ passed e.top es i rest r rising.1 (omega arith)

same_under : (b : ℕ) (es : List Edge) (i : ℕ) (rest others : List Edge) (r : ℕ) → Rises b es → b ≤ r
    → r < b + bottom_of (entries_from b es) i
    → first_over (take i es ++ rest) r ≡ first_over (take i es ++ others) r
same_under b es zero rest others r rising from low = absurd (omega arith)
same_under b [] (suc i) rest others r rising from low = absurd (omega arith)
same_under b (e ∷ es) (suc i) rest others r rising from low =
    let first = bottom_of-cons (record { viewer = e.viewer.0; height = e.top - b }) (entries_from e.top es) i in
    ⊎_elim
    (λ less. here e (take i es ++ rest) r less ∙ sym (here e (take i es ++ others) r less))
    (λ past. skipped e (take i es ++ rest) r past
    ∙ same_under e.top es i rest others r rising.1 past (omega arith)
    ∙ sym (skipped e (take i es ++ others) r past))
    (cases_lt r e.top)

-- under entry i all edges count as before, and from it on those from i on
under_entry : (es : List Edge) (i : ℕ) (rest : List Edge) (r : ℕ) → Rises 0 es → r < bottom_of (entries_from 0 es) i
    → first_over (take i es ++ rest) r ≡ first_over es r
under_entry es i rest r rising low =
    same_under 0 es i rest (drop i es) r rising (omega arith) (omega arith) ∙ ap (λ (l : List Edge). first_over l r)
    (take-append-drop i es)

from_entry : (es : List Edge) (i r : ℕ) → Rises 0 es → bottom_of (entries_from 0 es) i ≤ r
    → first_over es r ≡ first_over (drop i es) r
from_entry es i r rising low =
    sym (ap (λ (l : List Edge). first_over l r) (take-append-drop i es))
    ∙ passed 0 es i (drop i es) r rising (omega arith)

first_left : (es : List Edge) (i : ℕ) (d : Edge) → i < length es → drop i es ≡ get_or es i d ∷ drop (suc i) es
first_left es i d within = drop_more es i d within ∙ ap (λ (j : ℕ). get_or es i d ∷ drop j es) (add-one i)

past_entry : (es : List Edge) (i r : ℕ) (d : Edge) → i < length es → (get_or es i d).top ≤ r
    → first_over (drop i es) r ≡ first_over (drop (suc i) es) r
past_entry es i r d within past =
    ap (λ (l : List Edge). first_over l r) (first_left es i d within) ∙ skipped (get_or es i d) (drop (suc i) es) r past

at_entry : (es : List Edge) (i r : ℕ) (d : Edge) → (i < length es → r < (get_or es i d).top)
    → first_over (drop i es) r ≡ entry_viewer (entries_from 0 es) i
at_entry es i r d less =
    ⊎_elim
    (λ within. ap (λ (l : List Edge). first_over l r) (first_left es i d within)
    ∙ here (get_or es i d) (drop (suc i) es) r (less within)
    ∙ sym (viewer_of-entries_from 0 es i d within))
    (λ end. ap (λ (l : List Edge). first_over l r) (drop_all i es end) ∙ sym (viewer_of-past 0 es i end))
    (cases_lt i (length es))

-- the next entry ends above this one
next_above : (es : List Edge) (i : ℕ) (d : Edge) → Rises 0 es → suc i < length es
    → (get_or es i d).top < (get_or es (suc i) d).top
next_above es i d rising within =
    let begins = bottom_of-entries_from 0 es i d rising (omega arith) in
    let ends = bottom_of-grows 0 es (suc i) d rising within in
    omega arith

-- the top of the next entry is above this one's
top_of_filler : (es : List Edge) (i : ℕ) → length es ≤ i → top_of (entries_from 0 es) i ≡ ROWS
top_of_filler es i past =
    let t = entries_from 0 es in
    ap (λ b. cond b (bottom_of t (i + 1)) ROWS) (le-ltb _ _ (omega (arith, length-entries_from 0 es)))

next_top : (es : List Edge) (i : ℕ) (d : Edge) → Rises 0 es → i < length es
    → (get_or es i d).top ≤ top_of (entries_from 0 es) (suc i)
next_top es i d rising within =
    ⊎_elim
    (λ more. let above = next_above es i d rising more in omega (arith, top_of-entries_from es (suc i) d rising more))
    (λ end. let fits = Rises-top 0 es i d rising within in omega (arith, top_of_filler es (suc i) end))
    (cases_lt (suc i) (length es))

moved_top : (es : List Edge) (i y : ℕ) → Rises 0 es → i < length es → change_top (entries_from 0 es) i y ≤ top_of
    (entries_from 0 es) (suc i)
moved_top es i y rising within =
    let m = moving_to es i y rising within in
    ⊎_elim
    (λ more. let below = m.below no_edge (omega arith) in
    let same = ap (λ (j : ℕ). (get_or es j no_edge).top) (add-one i) in
    omega (arith, top_of-entries_from es (suc i) no_edge rising more))
    (λ end. let fits = m.fits in omega (arith, top_of_filler es (suc i) end))
    (cases_lt (suc i) (length es))

-- the rows after a viewer opened: x stands for it, and the edges in `rest` follow it
opens_rows : (v y : ℕ) (es rest after : List Edge) → Rises 0 es → Rises 0 after
    → after ≡ take (open_entry (entries_from 0 es) y) es ++ record {
      viewer = record { 0 = v };
      top = open_top (entries_from 0 es) y;
    } ∷ rest
    → opened (entries_from 0 es) v y ≡ entries_from 0 after
    → ((r : ℕ) → open_top (entries_from 0 es) y ≤ r
    → first_over rest r ≡ first_over (drop (open_entry (entries_from 0 es) y) es) r)
    → OpensRows (entries_from 0 es) v y
opens_rows v y es rest after rising rises is made same =
    let t = entries_from 0 es in
    let i = open_entry t y in
    let top = open_top t y in
    let x : Edge = record { viewer = record { 0 = v }; top = top } in
    let o = opening_at es y rising in
    let above : bottom_of t i < top = o.above in
    let seen : (r : ℕ) → viewer_at (opened t v y) r ≡ first_over (take i es ++ x ∷ rest) r =
    λ r. ap (λ (u : List Entry). viewer_at u r) made ∙ viewer_at-first_over after r rises
    ∙ ap (λ (l : List Edge). first_over l r) is in
    record {
      some = above;
      of_one =
          ⊎_elim
          (λ within. let below = o.below no_edge within in
          omega (arith, top_of-entries_from es i no_edge rising within))
          (λ end. let fits = o.fits in omega (arith, top_of_filler es i end))
          (cases_lt i (length es));
      own = λ r low less. seen r ∙ passed 0 es i (x ∷ rest) r rising (omega arith) ∙ here x rest r less;
      under = λ r low. seen r ∙ under_entry es i (x ∷ rest) r rising low ∙ sym (viewer_at-first_over es r rising);
      over =
          λ r high. seen r ∙ passed 0 es i (x ∷ rest) r rising (omega arith) ∙ skipped x rest r high ∙ same r high
          ∙ sym (from_entry es i r rising (omega arith)) ∙ sym (viewer_at-first_over es r rising);
    }

opens_case : (v y : ℕ) (es : List Edge) (b : Bool) → Rises 0 es
    → takes_place (entries_from 0 es) (open_entry (entries_from 0 es) y) (open_top (entries_from 0 es) y) ≡ b
    → OpensRows (entries_from 0 es) v y
opens_case v y es true rising whole =
    let t = entries_from 0 es in
    let i = open_entry t y in
    let x : Edge = record { viewer = record { 0 = v }; top = open_top t y } in
    let within = taken_within es i (open_top t y) whole in
    let same = same_top es y no_edge rising whole in
    opens_rows v y es (drop (suc i) es) (set es i x) rising (taken_rises es y (record { 0 = v }) rising whole)
    (set_split es i x within) (taken_track es y (record { 0 = v }) rising whole)
    (λ r high. sym (past_entry es i r no_edge within (omega arith)))
opens_case v y es false rising part =
    let t = entries_from 0 es in
    let i = open_entry t y in
    let x : Edge = record { viewer = record { 0 = v }; top = open_top t y } in
    opens_rows v y es (drop i es) (insert es i x) rising (inserted_rises es y (record { 0 = v }) rising part)
    refl (inserted es y (record { 0 = v }) rising part).0 (λ r high. refl)

opens_edges : (v y : ℕ) (es : List Edge) → Rises 0 es → OpensRows (entries_from 0 es) v y
opens_edges v y es rising = opens_case v y es _ rising refl

pub opens : (t : List Entry) (v y : ℕ) → IsTrack t → OpensRows t v y
opens t v y = for_tracks (λ t. OpensRows t v y) (opens_edges v y) t

-- the rows after the top of a viewer moved
changes_edges : (i y : ℕ) (es : List Edge) → Rises 0 es → i < length (entries_from 0 es)
    → bottom_of (entries_from 0 es) i < change_top (entries_from 0 es) i y
    → ChangesRows (entries_from 0 es) i y
changes_edges i y es rising inside up =
    let t = entries_from 0 es in
    let within : i < length es = omega (arith, length-entries_from 0 es) in
    let z = change_top t i y in
    let old = get_or es i no_edge in
    let x : Edge = record { viewer = old.viewer; top = z } in
    let rest = drop (suc i) es in
    let next : top_of t (i + 1) ≡ top_of t (suc i) = ap (top_of t) (add-one i) in
    let upper : old.top ≤ top_of t (suc i) = next_top es i no_edge rising within in
    let moved : z ≤ top_of t (suc i) = moved_top es i y rising within in
    let seen : (r : ℕ) → viewer_at (changed t i y) r ≡ first_over (take i es ++ x ∷ rest) r =
    λ r. ap (λ (u : List Entry). viewer_at u r) (sym (changed_up es i y no_edge rising within up))
    ∙ viewer_at-first_over (set es i x) r (rises_changed es i y no_edge rising within up)
    ∙ ap (λ (l : List Edge). first_over l r) (set_split es i x within) in
    record {
      own =
          λ r low less. seen r ∙ passed 0 es i (x ∷ rest) r rising (omega arith) ∙ here x rest r less
          ∙ sym (viewer_of-entries_from 0 es i no_edge within);
      next =
          λ r high less. seen r ∙ passed 0 es i (x ∷ rest) r rising (omega arith) ∙ skipped x rest r high
          ∙ at_entry es (suc i) r no_edge (λ more. omega (arith, top_of-entries_from es (suc i) no_edge rising more))
          ∙ ap (entry_viewer t) (sym (add-one i));
      under = λ r low. seen r ∙ under_entry es i (x ∷ rest) r rising low ∙ sym (viewer_at-first_over es r rising);
      over =
          λ r high. seen r ∙ passed 0 es i (x ∷ rest) r rising (omega arith) ∙ skipped x rest r (omega arith)
          ∙ sym (past_entry es i r no_edge within (omega arith)) ∙ sym (from_entry es i r rising (omega arith))
          ∙ sym (viewer_at-first_over es r rising);
    }

pub changes : (t : List Entry) (i y : ℕ) → IsTrack t → i < length t → bottom_of t i < change_top t i y
    → ChangesRows t i y
changes t i y = for_tracks (λ t. i < length t → bottom_of t i < change_top t i y → ChangesRows t i y)
    (changes_edges i y) t

-- the rows after a viewer was closed
closes_edges : (i : ℕ) (es : List Edge) → Rises 0 es → i < length (entries_from 0 es) → ClosesRows (entries_from 0 es) i
closes_edges i es rising inside =
    let t = entries_from 0 es in
    let within : i < length es = omega (arith, length-entries_from 0 es) in
    let old = get_or es i no_edge in
    let rest = drop (suc i) es in
    let ends : top_of t i ≡ old.top = top_of-entries_from es i no_edge rising within in
    let grows = bottom_of-grows 0 es i no_edge rising within in
    let seen : (r : ℕ) → viewer_at (closed t i) r ≡ first_over (take i es ++ rest) r =
    λ r. ap (λ (u : List Entry). viewer_at u r) (sym (closed_edges es i rising within))
    ∙ viewer_at-first_over (remove es i) r (Rises-remove 0 es i within rising) in
    record {
      given =
          λ r low less. seen r ∙ passed 0 es i rest r rising (omega arith)
          ∙ at_entry es (suc i) r no_edge (λ more. let above = next_above es i no_edge rising more in omega arith)
          ∙ ap (entry_viewer t) (sym (add-one i));
      under = λ r low. seen r ∙ under_entry es i rest r rising low ∙ sym (viewer_at-first_over es r rising);
      over =
          λ r high. seen r ∙ passed 0 es i rest r rising (omega arith)
          ∙ sym (past_entry es i r no_edge within (omega arith)) ∙ sym (from_entry es i r rising (omega arith))
          ∙ sym (viewer_at-first_over es r rising);
    }

pub closes : (t : List Entry) (i : ℕ) → IsTrack t → i < length t → ClosesRows t i
closes t i = for_tracks (λ t. i < length t → ClosesRows t i) (closes_edges i) t
