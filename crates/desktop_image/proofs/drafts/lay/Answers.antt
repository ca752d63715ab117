use Rattle.std.proofs.Common.{◌≡◌, ◌∷◌, ◌∙◌, ◌+◌, ◌≤◌, ℕ, List, map, ap, subst, sym}
use Rattle.viewer_tracks.specs.Viewers.{Entry, IsTrack, times_in}
use Rattle.viewer_tracks.specs.Columns.{stack_of, with_stack, times_placed}
use Rattle.image_format.specs.declared.picture.Stretch.{Stretch}
use Rattle.image_format.specs.Pictures.{entry_of_stretch}
use Rattle.desktop_image.proofs.Building.{first_fresh, first_fits, rest_heights, rest_bottom, rest_once, laid}
use Rattle.desktop_image.proofs.drafts.lay.Goals as goal

-- what is asked of a track, of its first viewer and those on it
heights_in : (ss : List Stretch) (s : Stretch) (above : List Stretch) → ss ≡ s ∷ above → IsTrack (map entry_of_stretch ss)
    → IsTrack (entry_of_stretch s ∷ map entry_of_stretch above)
heights_in ss s above front track = subst IsTrack (ap (map entry_of_stretch) front) track

once_in : (placed : ℕ → ℕ) (ss : List Stretch) (s : Stretch) (above : List Stretch) → ss ≡ s ∷ above
    → ((v : ℕ) → placed v + times_in v (map entry_of_stretch ss) ≤ 1) → (v : ℕ)
    → placed v + times_in v (entry_of_stretch s ∷ map entry_of_stretch above) ≤ 1
once_in placed ss s above front once v =
    subst (λ (t : List Entry). placed v + times_in v t ≤ 1) (ap (map entry_of_stretch) front) (once v)

pub lay_lowest-requires-clause-fresh : goal.lay_lowest-requires-clause-fresh
lay_lowest-requires-clause-fresh c =
    let t = c.args.tracks.now in
    let s = c.in-Some.lowest.now in
    let above = c.in-Some.above.now in
    first_fresh t (entry_of_stretch s) (map entry_of_stretch above)
    (once_in (λ v. times_placed v t) c.args.stretches.now s above c.in-Some.ensures.cases.0 c.requires.once s.viewer)

pub lay_lowest-requires-clause-fits : goal.lay_lowest-requires-clause-fits
lay_lowest-requires-clause-fits c =
    let s = c.in-Some.lowest.now in
    let above = c.in-Some.above.now in
    first_fits (entry_of_stretch s) (map entry_of_stretch above)
    (heights_in c.args.stretches.now s above c.in-Some.ensures.cases.0 c.requires.heights)

pub pile-requires-clause-heights : goal.pile-requires-clause-heights
pile-requires-clause-heights c =
    let s = c.in-Some.lowest.now in
    let above = c.in-Some.above.now in
    rest_heights c.args.tracks.now c.lay_lowest.new.tracks c.args.track (entry_of_stretch s) (map entry_of_stretch above)
    c.lay_lowest.ensures.laid
    (heights_in c.args.stretches.now s above c.in-Some.ensures.cases.0 c.requires.heights)

pub pile-requires-clause-bottom : goal.pile-requires-clause-bottom
pile-requires-clause-bottom c =
    rest_bottom c.args.tracks.now c.lay_lowest.new.tracks c.args.track (entry_of_stretch c.in-Some.lowest.now)
    (map entry_of_stretch c.in-Some.above.now) c.lay_lowest.ensures.laid

pub pile-requires-clause-once : goal.pile-requires-clause-once
pile-requires-clause-once c =
    let t = c.args.tracks.now in
    let s = c.in-Some.lowest.now in
    let above = c.in-Some.above.now in
    rest_once t c.lay_lowest.new.tracks c.args.track (entry_of_stretch s) (map entry_of_stretch above) c.lay_lowest.ensures.laid
    (once_in (λ v. times_placed v t) c.args.stretches.now s above c.in-Some.ensures.cases.0 c.requires.once)

pub returns-clause-laid : goal.returns-clause-laid
returns-clause-laid c =
    let t = c.args.tracks.now in
    let k = c.args.track in
    c.pile.ensures.piled
    ∙ laid t c.lay_lowest.new.tracks k (entry_of_stretch c.in-Some.lowest.now) (map entry_of_stretch c.in-Some.above.now)
    c.lay_lowest.ensures.laid
    ∙ ap (λ (ss : List Stretch). with_stack t k (map entry_of_stretch ss ∷ stack_of t k)) (sym c.in-Some.ensures.cases.0)
