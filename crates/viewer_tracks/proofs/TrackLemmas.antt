-- Every track is made by edges that rise, so what edits do to tracks is read off what they do to edges.
use Rattle.std.proofs.Common.{◌≡◌, ℕ, suc, zero, ◌+◌, ◌-◌, ◌<◌, ◌≤◌, Bool, true, false, List, [], ◌∷◌, length, refl}
use Rattle.std.proofs.Common.{sym, subst, arith, ⊎_elim, sum_by}
use Rattle.std.specs.Prelude.{All}
use Rattle.std.proofs.lemmas.List.Sums.{sum_by-cons}
use Rattle.std.proofs.lemmas.Bool.{cases_lt}
use Rattle.viewer_tracks.specs.declared.edges.Edge.{Edge}
use Rattle.viewer_tracks.specs.declared.display.TheConstants.{ROWS}
use Rattle.viewer_tracks.specs.Viewers.{Entry, IsTrack, bottom_of}
use Rattle.viewer_tracks.specs.Edits.{open_entry, open_top, takes_place, opened, change_top, changed, closed}
use Rattle.viewer_tracks.specs.Edges.{entries_from, Rises}
use Rattle.viewer_tracks.proofs.EdgeLemmas.{length-entries_from, is_track, Rises-remove}
use Rattle.viewer_tracks.proofs.Opening.{no_edge, taken_track, taken_rises, inserted, inserted_rises}
use Rattle.viewer_tracks.proofs.Moving.{changed_up, changed_not, rises_changed, closed_edges}

-- the edges of a track whose lowest viewer begins at row b
abbrev pub edges_of : ℕ → List Entry → List Edge
edges_of b [] = []
edges_of b (e ∷ t) = record { viewer = record { 0 = e.viewer }; top = b + e.height } ∷ edges_of (b + e.height) t

pub entries_from-edges_of : (b : ℕ) (t : List Entry) → entries_from b (edges_of b t) ≡ t
entries_from-edges_of b [] = refl
entries_from-edges_of b (e ∷ t) =
    let height : b + e.height - b ≡ e.height = omega arith in
    let rest = entries_from-edges_of (b + e.height) t in
    λ k. record { viewer = e.viewer; height = height k } ∷ rest k

Rises-edges_of : (b : ℕ) (t : List Entry) → All (λ e. 0 < e.height) t → b + sum_by (λ e. e.height) t ≤ ROWS
    → Rises b (edges_of b t)
Rises-edges_of b [] some fits = omega arith
Rises-edges_of b (e ∷ t) some fits =
    let here : 0 < e.height = some zero e (omega arith) in
    let all = sum_by-cons (λ (x : Entry). x.height) e t in
    (omega arith, Rises-edges_of (b + e.height) t (λ k d within. some (suc k) d (omega arith)) (omega arith))

-- what holds of all rising edges holds of all tracks
pub for_tracks : (P : List Entry → Type 0) → ((es : List Edge) → Rises 0 es → P (entries_from 0 es))
    → (t : List Entry) → IsTrack t → P t
for_tracks P each t track =
    subst P (entries_from-edges_of 0 t)
    (each (edges_of 0 t) (Rises-edges_of 0 t track.some (omega (arith, track.fits))))

-- an edit of a track leaves a track
opened_case : (v y : ℕ) (es : List Edge) (b : Bool) → Rises 0 es
    → takes_place (entries_from 0 es) (open_entry (entries_from 0 es) y) (open_top (entries_from 0 es) y) ≡ b
    → IsTrack (opened (entries_from 0 es) v y)
opened_case v y es true rising whole =
    subst IsTrack (sym (taken_track es y (record { 0 = v }) rising whole))
    (is_track _ (taken_rises es y (record { 0 = v }) rising whole))
opened_case v y es false rising part =
    subst IsTrack (sym (inserted es y (record { 0 = v }) rising part).0)
    (is_track _ (inserted_rises es y (record { 0 = v }) rising part))

opened_edges : (v y : ℕ) (es : List Edge) → Rises 0 es → IsTrack (opened (entries_from 0 es) v y)
opened_edges v y es rising = opened_case v y es _ rising refl

pub IsTrack-opened : (t : List Entry) (v y : ℕ) → IsTrack t → IsTrack (opened t v y)
IsTrack-opened t v y = for_tracks (λ t. IsTrack (opened t v y)) (opened_edges v y) t

changed_edges : (i y : ℕ) (es : List Edge) → Rises 0 es → i < length (entries_from 0 es)
    → IsTrack (changed (entries_from 0 es) i y)
changed_edges i y es rising here =
    let t = entries_from 0 es in
    let within : i < length es = omega (arith, length-entries_from 0 es) in
    ⊎_elim
    (λ up. subst IsTrack (changed_up es i y no_edge rising within up)
    (is_track _ (rises_changed es i y no_edge rising within up)))
    (λ low. subst IsTrack (sym (changed_not es i y rising within low)) (is_track es rising))
    (cases_lt (bottom_of t i) (change_top t i y))

pub IsTrack-changed : (t : List Entry) (i y : ℕ) → IsTrack t → i < length t → IsTrack (changed t i y)
IsTrack-changed t i y = for_tracks (λ t. i < length t → IsTrack (changed t i y)) (changed_edges i y) t

closed_track : (i : ℕ) (es : List Edge) → Rises 0 es → i < length (entries_from 0 es)
    → IsTrack (closed (entries_from 0 es) i)
closed_track i es rising here =
    let within : i < length es = omega (arith, length-entries_from 0 es) in
    subst IsTrack (closed_edges es i rising within) (is_track _ (Rises-remove 0 es i within rising))

pub IsTrack-closed : (t : List Entry) (i : ℕ) → IsTrack t → i < length t → IsTrack (closed t i)
IsTrack-closed t i = for_tracks (λ t. i < length t → IsTrack (closed t i)) (closed_track i) t
