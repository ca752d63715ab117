-- Viewers of a track with their heights, read off the edges.
use Rattle.std.proofs.Common.{◌≡◌, ℕ, suc, zero, ◌+◌, ◌-◌, ◌<◌, ◌≤◌, List, [], ◌∷◌, length, get_or, ap, ◌∙◌, arith}
use Rattle.std.specs.Prelude.{slice_get, Some}
use Rattle.viewer_tracks.specs.declared.edges.Edge.{Edge}
use Rattle.viewer_tracks.specs.declared.display.TheConstants.{ROWS}
use Rattle.viewer_tracks.specs.Viewers.{Entry, bottom_of}
use Rattle.viewer_tracks.specs.Edges.{entries_from, Rises}
use Rattle.viewer_tracks.proofs.EdgeLemmas.{bottom_of-cons, length-entries_from}

-- the viewer of an edge, and its rows above those below it
abbrev entry_to : Edge → ℕ → Entry
entry_to e below = record { viewer = e.viewer.0; height = e.top - below }

-- the rows below a viewer and those of the one under it
below_next : (b : ℕ) (e : Edge) (es : List Edge) (i : ℕ) → b < e.top
    → e.top + bottom_of (entries_from e.top es) i ≡ b + bottom_of (entries_from b (e ∷ es)) (suc i)
below_next b e es i above =
    let more = bottom_of-cons (record { viewer = e.viewer.0; height = e.top - b }) (entries_from e.top es) i in
    omega (arith, more, above)

pub entry_there : (b : ℕ) (es : List Edge) (i : ℕ) (d : Edge) → Rises b es → i < length es
    → slice_get (entries_from b es) i ≡ Some (entry_to (get_or es i d) (b + bottom_of (entries_from b es) i))
entry_there b [] i d rising within = absurd (omega (arith, within))
entry_there b (e ∷ es) zero d rising within =
    let none : b ≡ b + 0 = omega arith in ap (λ (below : ℕ). Some (entry_to e below)) none
entry_there b (e ∷ es) (suc i) d rising within =
    entry_there e.top es i d rising.1 (omega (arith, within))
    ∙ ap (λ (below : ℕ). Some (entry_to (get_or es i d) below)) (below_next b e es i rising.0)

pub begins_below : (b : ℕ) (es : List Edge) (i : ℕ) (d : Edge) → Rises b es → i < length es
    → b + bottom_of (entries_from b es) i < (get_or es i d).top
begins_below b [] i d rising within = absurd (omega (arith, within))
begins_below b (e ∷ es) zero d rising within = let above : b < e.top = rising.0 in omega (arith, above)
begins_below b (e ∷ es) (suc i) d rising within =
    let rest = begins_below e.top es i d rising.1 (omega (arith, within)) in
    let same = below_next b e es i rising.0 in
    omega (arith, rest, same)

-- each viewer has a row
pub few_edges : (b : ℕ) (es : List Edge) → Rises b es → b + length es ≤ ROWS
few_edges b [] rising = let here : b ≤ ROWS = rising in omega (arith, here)
few_edges b (e ∷ es) rising =
    let rest = few_edges e.top es rising.1 in
    let above : b < e.top = rising.0 in
    omega (arith, rest, above)

pub few_viewers : (es : List Edge) → Rises 0 es → length es ≤ ROWS
few_viewers es rising = let few = few_edges 0 es rising in omega (arith, few)

pub as_many_edges : (es : List Edge) → length (entries_from 0 es) ≡ length es
as_many_edges es = length-entries_from 0 es
