-- Columns that are built of tracks, from the lowest up.
use Rattle.std.proofs.Common.{◌≡◌, ℕ, ◌+◌, ◌-◌, ◌<◌, ◌≤◌, ◌∙◌, ◌==◌, cond, List, [], ◌∷◌, ◌++◌, length, take, get_or, map}
use Rattle.std.proofs.Common.{refl, sym, ap, subst, arith}
use Rattle.std.specs.Prelude.{All, reverse}
use Rattle.std.proofs.lemmas.Bool.{eq-eqb}
use Rattle.std.proofs.lemmas.List.{length-reverse, reverse-reverse, reverse-append, take_more, length-take, get_or-map}
use Rattle.std.proofs.lemmas.List.Elements.{All-get_or}
use Rattle.std.proofs.lemmas.List.Sums.{sum_by-cons, sum_by_more_le, get_or-le-sum_by}
use Rattle.arrayvec.specs.ArrayVec.{ArrayVec}
use Rattle.viewer_tracks.specs.declared.display.Track.{Track}
use Rattle.viewer_tracks.specs.declared.display.Track.TheVariants.{User, System}
use Rattle.viewer_tracks.specs.declared.display.TheConstants.{ROWS, DEPTH}
use Rattle.viewer_tracks.specs.Display.{track_at, left_of}
use Rattle.viewer_tracks.specs.Viewers.{Entry, IsTrack, bottom_of, times_in}
use Rattle.viewer_tracks.specs.Columns.{Columns, IsColumns, IsPlaced, IsOnTop, shown_track, with_shown, stack_of}
use Rattle.viewer_tracks.specs.Columns.{topmost, with_topmost, with_stack, times_placed, after_open_track, columns_changed}
use Rattle.viewer_tracks.proofs.ColumnLemmas.{change_lowers, times-with_stack}
use Rattle.image_format.specs.declared.picture.Stretch.{Stretch}
use Rattle.image_format.specs.Pictures.{entry_of_stretch, track_of_stretches, stack_of_stretches as levels_of}
use Rattle.image_format.proofs.Lists.{all_reversed}
use Rattle.desktop_image.specs.Images.{Levels, CanBuild}
use Rattle.desktop_image.proofs.Stacks.{times_reversed}

-- ---- a viewer in a track of its own

pub its_track : (k : Track) → track_at (left_of k) ≡ k
its_track User = refl
its_track System = refl

-- it is shown
pub on_top : (c : Columns) (k : Track) (v : ℕ) → IsOnTop v (after_open_track c v (left_of k))
unfolding after_open_track
on_top c User v =
    let itself : cond (v == v) 1 0 ≡ 1 = ap (λ b. (let n : ℕ = cond b 1 0 in n)) (eq-eqb v v refl) in
    omega (arith, itself)
on_top c System v =
    let itself : cond (v == v) 1 0 ≡ 1 = ap (λ b. (let n : ℕ = cond b 1 0 in n)) (eq-eqb v v refl) in
    omega (arith, itself)

pub lowered : (c : Columns) (k : Track) (v h : ℕ) → IsColumns c → ¬ IsPlaced v c → length (stack_of c k) < DEPTH
    → 0 < h → h ≤ ROWS → columns_changed (after_open_track c v (left_of k)) v h
    ≡ with_stack c k ((record { viewer = v; height = h } ∷ []) ∷ stack_of c k)
lowered c User v h sound fresh room some within = change_lowers c v (left_of User) h sound fresh room some within
lowered c System v h sound fresh room some within = change_lowers c v (left_of System) h sound fresh room some within

-- ---- a track over others

module _ (c d : Columns) (k : Track) (e : Entry) (rest : List Entry)
    (is : d ≡ with_stack c k ((e ∷ []) ∷ stack_of c k)) where
  lowest_shown : shown_track d k ≡ e ∷ []
  lowest_shown = ap (λ (x : Columns). shown_track x k) is ∙ on_side k
    where
      on_side : (j : Track) → shown_track (with_stack c j ((e ∷ []) ∷ stack_of c j)) j ≡ e ∷ []
      on_side User = refl
      on_side System = refl

  pub rest_heights : IsTrack (e ∷ rest) → IsTrack (shown_track d k ++ rest)
  rest_heights track = subst (λ (t : List Entry). IsTrack (t ++ rest)) (sym lowest_shown) track

  pub rest_bottom : e.height ≡ bottom_of (shown_track d k) (length (shown_track d k))
  rest_bottom =
      let one : bottom_of (e ∷ []) 1 ≡ e.height = sum_by-cons (λ (x : Entry). x.height) e [] ∙ omega arith in
      sym one ∙ ap (λ (t : List Entry). bottom_of t (length t)) (sym lowest_shown)

  pub rest_once : ((v : ℕ) → times_placed v c + times_in v (e ∷ rest) ≤ 1) → (v : ℕ)
      → times_placed v d + times_in v rest ≤ 1
  rest_once once v =
      let same = ap (times_placed v) is in
      let placed = times-with_stack v c k ((e ∷ []) ∷ stack_of c k) in
      let over = sum_by-cons (times_in v) (e ∷ []) (stack_of c k) in
      let count = λ (t : List Entry). sum_by-cons (λ (x : Entry). (let n : ℕ = cond (x.viewer == v) 1 0 in n)) e t in
      let alone = count [] in
      let all = count rest in
      let one = once v in
      omega (arith, same, placed, over, alone, all, one)

  pub laid : with_shown d k (shown_track d k ++ rest) ≡ with_stack c k ((e ∷ rest) ∷ stack_of c k)
  laid = ap (λ (x : Columns). with_shown x k (shown_track x k ++ rest)) is ∙ on_side k
    where
      on_side : (j : Track) → with_shown (with_stack c j ((e ∷ []) ∷ stack_of c j)) j
          (shown_track (with_stack c j ((e ∷ []) ∷ stack_of c j)) j ++ rest) ≡ with_stack c j ((e ∷ rest) ∷ stack_of c j)
      on_side User = refl
      on_side System = refl

-- the first viewer of a track is placed nowhere yet
pub first_fresh : (c : Columns) (e : Entry) (rest : List Entry)
    → times_placed e.viewer c + times_in e.viewer (e ∷ rest) ≤ 1 → ¬ IsPlaced e.viewer c
first_fresh c e rest once placed =
    let all = sum_by-cons (λ (x : Entry). (let n : ℕ = cond (x.viewer == e.viewer) 1 0 in n)) e rest in
    let itself : cond (e.viewer == e.viewer) 1 0 ≡ 1 =
    ap (λ b. (let n : ℕ = cond b 1 0 in n)) (eq-eqb e.viewer e.viewer refl) in
    omega (arith, once, placed, all, itself)

pub first_fits : (e : Entry) (rest : List Entry) → IsTrack (e ∷ rest) → (0 < e.height) × (e.height ≤ ROWS)
first_fits e rest track =
    let fits = track.fits in
    let sum = sum_by-cons (λ (x : Entry). x.height) e rest in
    let some : 0 < e.height = track.some 0 e (omega arith) in
    (some, omega (arith, fits, sum))

-- the track of a level, as an image has it
pub level_is : (stack : List (ArrayVec Stretch)) (n : ℕ) (x : ArrayVec Stretch) (ss : List Stretch) → n < length stack
    → x ≡ get_or stack n x → ss ≡ x.items → map entry_of_stretch ss ≡ get_or (levels_of stack) n []
level_is stack n x ss low is items =
    ap (map entry_of_stretch) items ∙ ap track_of_stretches is ∙ sym (get_or-map track_of_stretches stack n x [] low)

-- ---- one track after another

module _ (c : Columns) (k : Track) (levels : Levels) where
  -- with n tracks
  abbrev pub built : ℕ → Columns
  built n = with_stack c k (reverse (take n levels))

  stack_built : (n : ℕ) → stack_of (built n) k ≡ reverse (take n levels)
  stack_built n = on_side k
    where
      on_side : (j : Track) → stack_of (with_stack c j (reverse (take n levels))) j ≡ reverse (take n levels)
      on_side User = refl
      on_side System = refl

  reversed_more : (n : ℕ) → n < length levels
      → get_or levels n [] ∷ reverse (take n levels) ≡ reverse (take (n + 1) levels)
  reversed_more n low = sym (ap reverse (take_more levels n [] low)
      ∙ reverse-append (take n levels) (get_or levels n [] ∷ []))

  pub built_more : (n : ℕ) → n < length levels
      → with_stack (built n) k (get_or levels n [] ∷ stack_of (built n) k) ≡ built (n + 1)
  built_more n low = on_side k
      ∙ ap (with_stack c k) (ap (λ (s : Levels). get_or levels n [] ∷ s) (stack_built n) ∙ reversed_more n low)
    where
      on_side : (j : Track) → with_stack (with_stack c j (reverse (take n levels))) j
          (get_or levels n [] ∷ stack_of (with_stack c k (reverse (take n levels))) k)
          ≡ with_stack c j (get_or levels n [] ∷ stack_of (with_stack c k (reverse (take n levels))) k)
      on_side User = refl
      on_side System = refl

  module _ (can : CanBuild c k levels) where
    pub some_levels : 0 < length levels
    some_levels = let same = length-reverse levels in let some = can.stack.some in omega (arith, same, some)

    pub room : (n : ℕ) → n < length levels → length (stack_of (built n) k) < DEPTH
    room n low =
        let few = can.stack.few in
        let same = length-reverse levels in
        let here = ap length (stack_built n) in
        let turned = length-reverse (take n levels) in
        let front = length-take n levels in
        omega (arith, few, same, here, turned, front, low)

    pub track_there : (n : ℕ) → n < length levels → IsTrack (get_or levels n [])
    track_there n low =
        All-get_or IsTrack levels n [] low
        (subst (All IsTrack) (reverse-reverse levels) (all_reversed IsTrack (reverse levels) [] can.stack.tracks))

    pub some_there : (n : ℕ) → 0 < n → n < length levels → 0 < length (get_or levels n [])
    some_there n above low =
        let same = length-reverse levels in
        let place : n + 1 - 1 ≡ n = omega arith in
        subst (λ (m : ℕ). 0 < length (get_or levels m [])) place
        (subst (λ (s : Levels). 0 < length (get_or s (n + 1 - 1) [])) (reverse-reverse levels)
        (can.stack.overlays (n + 1) (omega (arith, above)) (omega (arith, low, same))))

    pub once_more : (n : ℕ) → n < length levels → (v : ℕ)
        → times_placed v (built n) + times_in v (get_or levels n []) ≤ 1
    once_more n low v =
        let placed = times-with_stack v c k (reverse (take n levels)) in
        let turned = times_reversed v (take n levels) in
        let part = sum_by_more_le (times_in v) levels n [] low in
        let one = can.once v in
        omega (arith, placed, turned, part, one)

    -- the lowest one, in the track that is all filler
    nothing_shown : shown_track c k ≡ []
    nothing_shown = on_side k can.empty
      where
        on_side : (j : Track) → stack_of c j ≡ [] ∷ [] → shown_track c j ≡ []
        on_side User is = ap topmost is
        on_side System is = ap topmost is

    pub lowest_heights : IsTrack (shown_track c k ++ get_or levels 0 [])
    lowest_heights =
        subst (λ (t : List Entry). IsTrack (t ++ get_or levels 0 [])) (sym nothing_shown) (track_there 0 some_levels)

    pub lowest_bottom : 0 ≡ bottom_of (shown_track c k) (length (shown_track c k))
    lowest_bottom = ap (λ (t : List Entry). bottom_of t (length t)) (sym nothing_shown)

    pub lowest_once : (v : ℕ) → times_placed v c + times_in v (get_or levels 0 []) ≤ 1
    lowest_once v =
        let part = get_or-le-sum_by (times_in v) levels 0 [] some_levels in
        let one = can.once v in
        omega (arith, part, one)

    pub lowest_built : with_shown c k (shown_track c k ++ get_or levels 0 []) ≡ built 1
    lowest_built = ap (λ (t : List Entry). with_shown c k (t ++ get_or levels 0 [])) nothing_shown ∙ on_side k can.empty
        ∙ ap (with_stack c k) (reversed_more 0 some_levels)
      where
        on_side : (j : Track) → stack_of c j ≡ [] ∷ [] → with_shown c j (get_or levels 0 [])
            ≡ with_stack c j (get_or levels 0 [] ∷ [])
        on_side User is = ap (λ (s : Levels). with_stack c User (with_topmost s (get_or levels 0 []))) is
        on_side System is = ap (λ (s : Levels). with_stack c System (with_topmost s (get_or levels 0 []))) is
