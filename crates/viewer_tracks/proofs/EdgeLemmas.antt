-- What an edit of the edges makes of the viewers with their heights.
use Rattle.std.proofs.Common.{◌≡◌, ℕ, suc, zero, ◌+◌, ◌-◌, ◌<◌, ◌≤◌, nat_le, List, [], ◌∷◌, length, take, get_or, set}
use Rattle.std.proofs.Common.{map, refl, ap, sym, ◌∙◌, add-one, zero-add, sub-one, arith, sum_by}
use Rattle.std.specs.Prelude.{insert, remove}
use Rattle.std.specs.List.{position_or_len}
use Rattle.std.proofs.lemmas.List.{ext_get_or, get_or-map, length-map}
use Rattle.std.proofs.lemmas.List.FromFn.{length-map-range_with_len, get_or-map-range_with_len}
use Rattle.std.proofs.lemmas.List.Sums.{sum_by-cons}
use Rattle.viewer_tracks.specs.declared.viewer_id.ViewerId.{ViewerId}
use Rattle.viewer_tracks.specs.declared.edges.Edge.{Edge}
use Rattle.viewer_tracks.specs.declared.display.TheConstants.{ROWS}
use Rattle.viewer_tracks.specs.Viewers.{Entry, IsTrack, bottom_of, tops, lowest_reaching}
use Rattle.viewer_tracks.specs.Edits.{with_entry, with_height, entry_with_viewer}
use Rattle.viewer_tracks.specs.Edges.{entries_from, Rises}
use Rattle.viewer_tracks.proofs.Positions.{position_or_len_map}

pub length-entries_from : (b : ℕ) (es : List Edge) → length (entries_from b es) ≡ length es
length-entries_from b [] = refl
length-entries_from b (e ∷ es) = ap suc (length-entries_from e.top es)

pub bottom_of-cons : (x : Entry) (t : List Entry) (i : ℕ) → bottom_of (x ∷ t) (suc i) ≡ x.height + bottom_of t i
bottom_of-cons x t i = sum_by-cons (λ e. e.height) x (take i t)

-- a viewer ends at its edge
pub bottom_of-entries_from : (b : ℕ) (es : List Edge) (i : ℕ) (d : Edge) → Rises b es → i < length es
    → b + bottom_of (entries_from b es) (suc i) ≡ (get_or es i d).top
bottom_of-entries_from b [] i d rising within = absurd (omega arith)
bottom_of-entries_from b (e ∷ es) zero d rising within = omega arith
bottom_of-entries_from b (e ∷ es) (suc i) d rising within =
    let first = bottom_of-cons (record { viewer = e.viewer.0; height = e.top - b }) (entries_from e.top es) (suc i) in
    let rest = bottom_of-entries_from e.top es i d rising.1 (omega arith) in
    omega arith

-- a viewer above another begins at the edge of that one
pub bottom_of_edge : (es : List Edge) (i : ℕ) (d : Edge) → Rises 0 es → 0 < i → i ≤ length es
    → (get_or es (i - 1) d).top ≡ bottom_of (entries_from 0 es) i
bottom_of_edge es zero d rising above within = absurd (omega arith)
bottom_of_edge es (suc i) d rising above within =
    rw sub-one (sym (bottom_of-entries_from 0 es i d rising (omega arith)) ∙ zero-add _)

-- the tops of the viewers are the edges
pub tops-entries_from : (es : List Edge) → Rises 0 es → tops (entries_from 0 es) ≡ map (λ e. e.top) es
tops-entries_from es rising =
    let t = entries_from 0 es in
    let as_many = length-entries_from 0 es in
    let f = λ (i : ℕ). bottom_of t (i + 1) in
    let many = length-map-range_with_len f 0 (length t) in
    let edges = length-map es (λ e. e.top) in
    ext_get_or 0 _ _ (omega arith)
    (λ i within.
    let no_edge : Edge = record { viewer = record { 0 = 0 }; top = 0 } in
    let here : i < length es = omega arith in
    get_or-map-range_with_len f 0 (length t) i i 0 (omega arith) (zero-add i)
    ∙ rw add-one (sym (zero-add _) ∙ bottom_of-entries_from 0 es i no_edge rising here)
    ∙ sym (get_or-map (λ (e : Edge). e.top) es i no_edge 0 here))

-- the lowest entry that reaches a row is the lowest edge there
pub lowest_reaching-entries_from : (es : List Edge) (z : ℕ) → Rises 0 es
    → lowest_reaching (entries_from 0 es) z ≡ position_or_len (λ e. nat_le z e.top) es
lowest_reaching-entries_from es z rising =
    ap (position_or_len (λ top. nat_le z top)) (tops-entries_from es rising)
    ∙ position_or_len_map (λ e. e.top) (λ top. nat_le z top) es

-- no edge is above the display, and there are at most as many as rows
pub Rises-within : (b : ℕ) (es : List Edge) → Rises b es → b + length es ≤ ROWS
Rises-within b [] rising = omega arith
Rises-within b (e ∷ es) rising = let rest = Rises-within e.top es rising.1 in omega arith

pub Rises-top : (b : ℕ) (es : List Edge) (i : ℕ) (d : Edge) → Rises b es → i < length es
    → (b < (get_or es i d).top) × ((get_or es i d).top ≤ ROWS)
Rises-top b [] i d rising within = absurd (omega arith)
Rises-top b (e ∷ es) zero d rising within =
    let rest = Rises-within e.top es rising.1 in (rising.0, omega arith)
Rises-top b (e ∷ es) (suc i) d rising within =
    let rest = Rises-top e.top es i d rising.1 (omega arith) in (omega arith, rest.1)

-- a new edge: its viewer takes the lower rows of the entry there
pub entries_from-insert : (b : ℕ) (es : List Edge) (i h : ℕ) (v : ViewerId) (top : ℕ) → i ≤ length es
    → b + bottom_of (entries_from b es) i + h ≡ top → Rises b es
    → entries_from b (insert es i (record { viewer = v; top = top }))
    ≡ insert (with_entry (λ e. with_height (e.height - h) e) (entries_from b es) i) i
    (record { viewer = v.0; height = h })
entries_from-insert b [] zero h v top within at rising =
    let height : top - b ≡ h = omega arith in rw height refl
entries_from-insert b [] (suc i) h v top within at rising = absurd (omega arith)
entries_from-insert b (e ∷ es) zero h v top within at rising =
    let height : top - b ≡ h = omega arith in
    let rest : e.top - top ≡ e.top - b - h = omega arith in
    rw (height, rest) refl
entries_from-insert b (e ∷ es) (suc i) h v top within at rising =
    let first = bottom_of-cons (record { viewer = e.viewer.0; height = e.top - b }) (entries_from e.top es) i in
    ap (λ t. record { viewer = e.viewer.0; height = e.top - b } ∷ t)
    (entries_from-insert e.top es i h v top (omega arith) (omega arith) rising.1)

pub Rises-insert : (b : ℕ) (es : List Edge) (i : ℕ) (v : ViewerId) (top : ℕ) (d : Edge) → i ≤ length es
    → b + bottom_of (entries_from b es) i < top → (i < length es → top < (get_or es i d).top) → top ≤ ROWS → Rises b es
    → Rises b (insert es i (record { viewer = v; top = top }))
Rises-insert b [] zero v top d within above below fits rising = (omega arith, fits)
Rises-insert b [] (suc i) v top d within above below fits rising = absurd (omega arith)
Rises-insert b (e ∷ es) zero v top d within above below fits rising = (omega arith, (below (omega arith), rising.1))
Rises-insert b (e ∷ es) (suc i) v top d within above below fits rising =
    let first = bottom_of-cons (record { viewer = e.viewer.0; height = e.top - b }) (entries_from e.top es) i in
    (rising.0, Rises-insert e.top es i v top d (omega arith) (omega arith) (λ less. below (omega arith)) fits rising.1)

-- another viewer at an edge
pub entries_from-with_viewer : (b : ℕ) (es : List Edge) (i : ℕ) (v : ViewerId) (d : Edge)
    → entries_from b (set es i (record { viewer = v; top = (get_or es i d).top })) ≡ with_entry (entry_with_viewer v.0)
    (entries_from b es) i
entries_from-with_viewer b [] i v d = refl
entries_from-with_viewer b (e ∷ es) zero v d = refl
entries_from-with_viewer b (e ∷ es) (suc i) v d =
    ap (λ t. record { viewer = e.viewer.0; height = e.top - b } ∷ t) (entries_from-with_viewer e.top es i v d)

pub Rises-with_viewer : (b : ℕ) (es : List Edge) (i : ℕ) (v : ViewerId) (d : Edge) → Rises b es
    → Rises b (set es i (record { viewer = v; top = (get_or es i d).top }))
Rises-with_viewer b [] i v d rising = rising
Rises-with_viewer b (e ∷ es) zero v d rising = rising
Rises-with_viewer b (e ∷ es) (suc i) v d rising = (rising.0, Rises-with_viewer e.top es i v d rising.1)

-- an edge moved to row z: its entry gets the height h, and the one above the height k
pub entries_from-with_top : (b : ℕ) (es : List Edge) (i h k z : ℕ) (d : Edge) → i < length es
    → b + bottom_of (entries_from b es) i + h ≡ z → (suc i < length es → z + k ≡ (get_or es (suc i) d).top) → Rises b es
    → entries_from b (set es i (record { viewer = (get_or es i d).viewer; top = z }))
    ≡ with_entry (with_height k) (with_entry (with_height h) (entries_from b es) i) (suc i)
entries_from-with_top b [] i h k z d within at above rising = absurd (omega arith)
entries_from-with_top b (e ∷ []) zero h k z d within at above rising =
    let height : z - b ≡ h = omega arith in rw height refl
entries_from-with_top b (e ∷ e' ∷ es) zero h k z d within at above rising =
    let height : z - b ≡ h = omega arith in
    let next = above (omega arith) in
    let rest : e'.top - z ≡ k = omega arith in
    rw (height, rest) refl
entries_from-with_top b (e ∷ es) (suc i) h k z d within at above rising =
    let first = bottom_of-cons (record { viewer = e.viewer.0; height = e.top - b }) (entries_from e.top es) i in
    ap (λ t. record { viewer = e.viewer.0; height = e.top - b } ∷ t)
    (entries_from-with_top e.top es i h k z d (omega arith) (omega arith) (λ less. above (omega arith)) rising.1)

pub Rises-with_top : (b : ℕ) (es : List Edge) (i z : ℕ) (v : ViewerId) (d : Edge) → i < length es
    → b + bottom_of (entries_from b es) i < z → (suc i < length es → z < (get_or es (suc i) d).top) → z ≤ ROWS
    → Rises b es
    → Rises b (set es i (record { viewer = v; top = z }))
Rises-with_top b [] i z v d within below above fits rising = absurd (omega arith)
Rises-with_top b (e ∷ []) zero z v d within below above fits rising = (omega arith, fits)
Rises-with_top b (e ∷ e' ∷ es) zero z v d within below above fits rising =
    (omega arith, (above (omega arith), rising.1.1))
Rises-with_top b (e ∷ es) (suc i) z v d within below above fits rising =
    let first = bottom_of-cons (record { viewer = e.viewer.0; height = e.top - b }) (entries_from e.top es) i in
    (rising.0, Rises-with_top e.top es i z v d (omega arith) (omega arith) (λ less. above (omega arith)) fits rising.1)

-- an edge taken out: the entry above gains the height h of its viewer
pub entries_from-remove : (b : ℕ) (es : List Edge) (i h : ℕ) (d : Edge) → i < length es
    → b + bottom_of (entries_from b es) i + h ≡ (get_or es i d).top → Rises b es
    → entries_from b (remove es i)
    ≡ remove (with_entry (λ e. with_height (e.height + h) e) (entries_from b es) (suc i)) i
entries_from-remove b [] i h d within at rising = absurd (omega arith)
entries_from-remove b (e ∷ []) zero h d within at rising = refl
entries_from-remove b (e ∷ e' ∷ es) zero h d within at rising =
    let height : e'.top - b ≡ e'.top - e.top + h = omega arith in rw height refl
entries_from-remove b (e ∷ es) (suc i) h d within at rising =
    let first = bottom_of-cons (record { viewer = e.viewer.0; height = e.top - b }) (entries_from e.top es) i in
    ap (λ t. record { viewer = e.viewer.0; height = e.top - b } ∷ t)
    (entries_from-remove e.top es i h d (omega arith) (omega arith) rising.1)

pub Rises-remove : (b : ℕ) (es : List Edge) (i : ℕ) → i < length es → Rises b es → Rises b (remove es i)
Rises-remove b [] i within rising = absurd (omega arith)
Rises-remove b (e ∷ []) zero within rising = omega arith
Rises-remove b (e ∷ e' ∷ es) zero within rising = (omega arith, rising.1.1)
Rises-remove b (e ∷ es) (suc i) within rising = (rising.0, Rises-remove e.top es i (omega arith) rising.1)

-- an entry begins in the display
pub bottom_of-le : (es : List Edge) (i : ℕ) → Rises 0 es → i ≤ length es → bottom_of (entries_from 0 es) i ≤ ROWS
bottom_of-le es zero rising within = omega arith
bottom_of-le es (suc i) rising within =
    let no_edge : Edge = record { viewer = record { 0 = 0 }; top = 0 } in
    let edge = bottom_of-entries_from 0 es i no_edge rising (omega arith) in
    let fits = Rises-top 0 es i no_edge rising (omega arith) in
    omega arith

-- edges that rise are a track
heights : (b : ℕ) (es : List Edge) (k : ℕ) (d : Entry) → Rises b es → k < length es
    → 0 < (get_or (entries_from b es) k d).height
heights b [] k d rising within = absurd (omega arith)
heights b (e ∷ es) zero d rising within = omega arith
heights b (e ∷ es) (suc k) d rising within = heights e.top es k d rising.1 (omega arith)

heights_fit : (b : ℕ) (es : List Edge) → Rises b es → b + sum_by (λ e. e.height) (entries_from b es) ≤ ROWS
heights_fit b [] rising = omega arith
heights_fit b (e ∷ es) rising =
    let first = sum_by-cons (λ (x : Entry). x.height) (record { viewer = e.viewer.0; height = e.top - b })
    (entries_from e.top es) in
    let rest = heights_fit e.top es rising.1 in
    omega arith

pub is_track : (es : List Edge) → Rises 0 es → IsTrack (entries_from 0 es)
is_track es rising =
    record {
      some = λ k d within. heights 0 es k d rising (omega (arith, length-entries_from 0 es));
      fits = omega (arith, heights_fit 0 es rising);
    }
