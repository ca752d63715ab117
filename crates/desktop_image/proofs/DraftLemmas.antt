-- What is read from the viewers of an image one after another, and viewers that are put on one another in a track.
use Rattle.std.proofs.Common.{◌≡◌, ℕ, suc, zero, ◌+◌, ◌-◌, ◌<◌, ◌≤◌, ◌∙◌, Bool, true, false, cond, nat_le, ◌&&◌}
use Rattle.std.proofs.Common.{◌==◌, List, [], ◌∷◌, ◌++◌, length, take, drop, get_or, map, sum_by}
use Rattle.std.proofs.Common.{refl, sym, ap, subst, arith}
use Rattle.std.proofs.Common.{Option, Some, None, add-one, min, max, append_assoc, append-nil}
use Rattle.std.specs.Prelude.{insert, All}
use Rattle.std.specs.Option.{option_or, option_to_list}
use Rattle.std.proofs.lemmas.List.Elements.{All-tail, filter_map-append}
use Rattle.std.specs.List.{cons_option, filter_map, range_with_len}
use Rattle.std.proofs.Math.Seq.{drop-cons}
use Rattle.std.proofs.lemmas.Bool.{le-ltb, lt-leb, eq-eqb}
use Rattle.std.proofs.lemmas.List.{drop_all, take_more, take-map, map-append, length-map, get_or-map}
use Rattle.std.proofs.lemmas.List.Sums.{sum_by-cons, sum_by-append, sum_by-take-le, sum_by_more_le}
use Rattle.std.proofs.lemmas.List.Sums.{position_or_len_is}
use Rattle.std.proofs.lemmas.List.FromFn.{get_or-map-range_with_len, length-map-range_with_len}
use Rattle.arrayvec.specs.ArrayVec.{ArrayVec}
use Rattle.viewer_tracks.specs.declared.display.Track.{Track}
use Rattle.viewer_tracks.specs.declared.display.Track.TheVariants.{User, System}
use Rattle.viewer_tracks.specs.declared.display.TheConstants.{ROWS}
use Rattle.viewer_tracks.specs.Display.{left_of}
use Rattle.viewer_tracks.specs.Viewers.{Entry, IsTrack, bottom_of, top_of, tops, lowest_reaching, times_in}
use Rattle.viewer_tracks.specs.Edits.{with_entry, with_height, entry_with_viewer, open_entry, open_top, takes_place, put_into}
use Rattle.viewer_tracks.specs.Edits.{opened}
use Rattle.viewer_tracks.specs.Columns.{Columns, IsColumns, times_on, topmost, with_topmost, shown_track, with_shown, times_placed}
use Rattle.viewer_tracks.specs.Columns.{IsPlaced, after_open}
use Rattle.viewer_tracks.proofs.StackLemmas.{times-with_topmost}
use Rattle.image_format.specs.declared.picture.Stretch.{Stretch}
use Rattle.image_format.specs.Pictures.{entry_of_stretch, track_of_stretches, stack_of_stretches}
use Rattle.desktop_image.specs.Images.{first_some}

-- ---- the first that gives something

module _ {A B : Type 0} (f : A → Option B) (xs : List A) (i : ℕ) (d : A) (low : i < length xs) where
  first_step : (o : Option B) → f (get_or xs i d) ≡ o
      → first_some f (drop i xs) ≡ option_or o (first_some f (drop (suc i) xs))
  first_step o is = ap (first_some f) (drop-cons xs i d low)
      ∙ ap (λ p. option_or p (first_some f (drop (suc i) xs))) is

  pub first_skips : f (get_or xs i d) ≡ None → first_some f (drop (i + 1) xs) ≡ first_some f (drop i xs)
  first_skips none = ap (λ n. first_some f (drop n xs)) (add-one i) ∙ sym (first_step None none)

  pub first_is : (b : B) → f (get_or xs i d) ≡ Some b → first_some f (drop i xs) ≡ Some b
  first_is b some = first_step (Some b) some

pub first_none : {A B : Type 0} (f : A → Option B) (xs : List A) (i : ℕ) → length xs ≤ i
    → first_some f (drop i xs) ≡ None
first_none f xs i end = ap (first_some f) (drop_all i xs end)

range_more : (a n : ℕ) → range_with_len a (suc n) ≡ range_with_len a n ++ (a + n) ∷ []
range_more a zero = ap (λ (m : ℕ). m ∷ []) (omega arith)
range_more a (suc n) = ap (λ (l : List ℕ). a ∷ l) (range_more (a + 1) n
    ∙ ap (λ (m : ℕ). range_with_len (a + 1) n ++ m ∷ []) (omega arith))

-- what a range gives that is one longer
pub range_gives : {B : Type 0} (h : ℕ → Option B) (a n : ℕ)
    → filter_map h (range_with_len a (n + 1)) ≡ filter_map h (range_with_len a n) ++ option_to_list (h (a + n))
range_gives h a n =
    ap (λ m. filter_map h (range_with_len a m)) (add-one n) ∙ ap (filter_map h) (range_more a n)
    ∙ filter_map-append h (range_with_len a n) ((a + n) ∷ [])
    ∙ ap (λ l. filter_map h (range_with_len a n) ++ l) (one_gives (h (a + n)))
  where
    one_gives : {B : Type 0} (o : Option B) → cons_option o [] ≡ option_to_list o
    one_gives None = refl
    one_gives (Some b) = refl

-- ---- viewers on one another

pub times_are : (v : ℕ) (ss : List Stretch) → sum_by (λ s. cond (s.viewer == v) 1 0) ss ≡ times_in v (map entry_of_stretch ss)
times_are v [] = refl
times_are v (s ∷ ss) = sum_by-cons (λ (s : Stretch). (let n : ℕ = cond (s.viewer == v) 1 0 in n)) s ss
    ∙ ap (λ n. cond (s.viewer == v) 1 0 + n) (times_are v ss)
    ∙ sym (sum_by-cons (λ (e : Entry). (let n : ℕ = cond (e.viewer == v) 1 0 in n)) (entry_of_stretch s) (map entry_of_stretch ss))

pub times_over : (v : ℕ) (stack : List (ArrayVec Stretch))
    → sum_by (λ track. times_in v (track_of_stretches track)) stack ≡ times_on v (stack_of_stretches stack)
times_over v [] = refl
times_over v (t ∷ stack) = sum_by-cons (λ (track : ArrayVec Stretch). times_in v (track_of_stretches track)) t stack
    ∙ ap (λ n. times_in v (track_of_stretches t) + n) (times_over v stack)
    ∙ sym (sum_by-cons (times_in v) (track_of_stretches t) (stack_of_stretches stack))

one_small : (b : Bool) → (let n : ℕ = cond b 1 0 in n) ≤ 1
one_small true = omega arith
one_small false = omega arith

-- no more often than there are viewers
pub times_few : (v : ℕ) (t : List Entry) → times_in v t ≤ length t
times_few v [] = omega arith
times_few v (e ∷ t) =
    let sum = sum_by-cons (λ (x : Entry). (let n : ℕ = cond (x.viewer == v) 1 0 in n)) e t in
    let one = one_small (e.viewer == v) in
    let rest = times_few v t in
    omega (arith, sum, one, rest)

past_the_end : (f : Entry → Entry) (t : List Entry) → with_entry f t (length t) ≡ t
past_the_end f [] = refl
past_the_end f (e ∷ t) = ap (λ (l : List Entry). e ∷ l) (past_the_end f t)

insert_last : (t : List Entry) (e : Entry) → insert t (length t) e ≡ t ++ e ∷ []
insert_last [] e = refl
insert_last (x ∷ t) e = ap (λ (l : List Entry). x ∷ l) (insert_last t e)

abbrev pub heights : List Entry → ℕ
heights t = sum_by (λ e. e.height) t

take_whole : (t : List Entry) → take (length t) t ≡ t
take_whole [] = refl
take_whole (e ∷ t) = ap (λ (l : List Entry). e ∷ l) (take_whole t)

module _ (t : List Entry) (v h : ℕ) (some : 0 < h) (fits : heights t + h ≤ ROWS) where
  abbrev row : ℕ
  row = heights t + h

  no_top : (k : ℕ) → k < length t → nat_le row (get_or (tops t) k 0) ≡ false
  no_top k low =
      let is : get_or (tops t) k 0 ≡ bottom_of t (k + 1) =
      get_or-map-range_with_len (λ i. bottom_of t (i + 1)) 0 (length t) k k 0 low (omega arith) in
      let less : bottom_of t (k + 1) ≤ heights t = sum_by-take-le (λ (e : Entry). e.height) t (k + 1) in
      lt-leb row (get_or (tops t) k 0) (omega (arith, is, less, some))

  long : length (tops t) ≡ length t
  long = length-map-range_with_len (λ i. bottom_of t (i + 1)) 0 (length t)

  at_top : lowest_reaching t row ≡ length t
  at_top =
      position_or_len_is (λ top. nat_le row top) (tops t) (length t) 0 (omega (arith, long))
      no_top (λ more. absurd (omega (arith, more, long)))

  all_rows : bottom_of t (length t) ≡ heights t
  all_rows = ap heights (take_whole t)

  low_row : min row ROWS ≡ row
  low_row = omega (arith, fits)

  entry : open_entry t row ≡ length t
  entry = ap (lowest_reaching t) low_row ∙ at_top

  top : open_top t row ≡ row
  top = (λ k. max (low_row k) (bottom_of t (entry k) + 1)) ∙ omega (arith, all_rows, some)

  none_there : takes_place t (length t) row ≡ false
  none_there = ap (λ b. b && (row == top_of t (length t))) (le-ltb (length t) (length t) (omega arith))

  pub opened_last : opened t v row ≡ t ++ record { viewer = v; height = h } ∷ []
  unfolding opened
  opened_last =
      let all = row - bottom_of t (length t) in
      let lower = insert (with_entry (λ e. with_height (e.height - all) e) t (length t)) (length t)
      (record { viewer = v; height = all }) in
      let size : all ≡ h = omega (arith, all_rows) in
      (λ k. put_into t v (entry k) (top k))
      ∙ ap (λ b. cond b (with_entry (entry_with_viewer v) t (length t)) lower) none_there
      ∙ ap (λ l. insert l (length t) (record { viewer = v; height = all }))
      (past_the_end (λ e. with_height (e.height - all) e) t)
      ∙ insert_last t (record { viewer = v; height = all })
      ∙ ap (λ (n : ℕ). t ++ record { viewer = v; height = n } ∷ []) size

-- ---- in a track of the columns

topmost_with : (s : List (List Entry)) (t : List Entry) → topmost (with_topmost s t) ≡ t
topmost_with [] t = refl
topmost_with (u ∷ s) t = refl

twice_with : (s : List (List Entry)) (t u : List Entry) → with_topmost (with_topmost s t) u ≡ with_topmost s u
twice_with [] t u = refl
twice_with (x ∷ s) t u = refl

module _ (t : List Entry) (v h : ℕ) (some : 0 < h) (fits : heights t + h ≤ ROWS) where
  pub opened_on : (c : Columns) (k : Track)
      → after_open (with_shown c k t) v (left_of k) (heights t + h)
      ≡ with_shown c k (t ++ record { viewer = v; height = h } ∷ [])
  unfolding after_open
  opened_on c User =
      (λ k. with_shown (with_shown c User t) User (opened (topmost_with c.user t k) v (heights t + h)))
      ∙ (λ k. record c { user = twice_with c.user t (opened_last t v h some fits k) k })
  opened_on c System =
      (λ k. with_shown (with_shown c System t) System (opened (topmost_with c.system t k) v (heights t + h)))
      ∙ (λ k. record c { system = twice_with c.system t (opened_last t v h some fits k) k })

-- the columns as they are, with what a column shows
as_topmost : (s : List (List Entry)) → 0 < length s → s ≡ with_topmost s (topmost s)
as_topmost [] some = absurd (omega (arith, some))
as_topmost (t ∷ s) some = refl

pub as_shown : (c : Columns) (k : Track) → IsColumns c → c ≡ with_shown c k (shown_track c k)
as_shown c User sound = λ k. record c { user = as_topmost c.user sound.user.some k }
as_shown c System sound = λ k. record c { system = as_topmost c.system sound.system.some k }

-- how often a viewer is placed, where another track is shown
placed_on : (v : ℕ) (c : Columns) (k : Track) (t : List Entry) → IsColumns c
    → times_placed v (with_shown c k t) + times_in v (shown_track c k) ≡ times_placed v c + times_in v t
placed_on v c User t sound = let one = times-with_topmost v c.user t sound.user.some in omega (arith, one)
placed_on v c System t sound = let one = times-with_topmost v c.system t sound.system.some in omega (arith, one)

pub full_to : (t : List Entry) → bottom_of t (length t) ≡ heights (t ++ [])
full_to t = ap heights (take_whole t ∙ sym (append-nil t))

after_those : (P : Entry → Type 0) (t more : List Entry) → All P (t ++ more) → All P more
after_those P [] more all = all
after_those P (e ∷ t) more all = after_those P t more (All-tail P e (t ++ more) all)

-- ---- the loop

module _ (c : Columns) (k : Track) (ss : List Stretch) (i : ℕ) (d : Stretch) (low : i < length ss) where
  -- what the track has before the i-th
  abbrev pub done : List Entry
  done = shown_track c k ++ map entry_of_stretch (take i ss)

  inside : i < length (map entry_of_stretch ss)
  inside = let same = length-map {B = Entry} ss entry_of_stretch in omega (arith, same, low)

  here : get_or (map entry_of_stretch ss) i (entry_of_stretch d) ≡ entry_of_stretch (get_or ss i d)
  here = get_or-map entry_of_stretch ss i d (entry_of_stretch d) low

  more : shown_track c k ++ map entry_of_stretch (take (i + 1) ss) ≡ done ++ entry_of_stretch (get_or ss i d) ∷ []
  more = ap (λ l. shown_track c k ++ l)
      (ap (map entry_of_stretch) (take_more ss i d low) ∙ map-append entry_of_stretch (take i ss) (get_or ss i d ∷ []))
      ∙ sym (append_assoc (shown_track c k) (map entry_of_stretch (take i ss)) (entry_of_stretch (get_or ss i d) ∷ []))

  part : (f : Entry → ℕ) → sum_by f (map entry_of_stretch (take i ss)) + f (entry_of_stretch (get_or ss i d))
      ≤ sum_by f (map entry_of_stretch ss)
  part f =
      let all = sum_by_more_le f (map entry_of_stretch ss) i (entry_of_stretch d) inside in
      let front : sum_by f (take i (map entry_of_stretch ss)) ≡ sum_by f (map entry_of_stretch (take i ss)) =
      ap (sum_by f) (take-map entry_of_stretch i ss) in
      let last : f (get_or (map entry_of_stretch ss) i (entry_of_stretch d)) ≡ f (entry_of_stretch (get_or ss i d)) = ap f here in
      omega (arith, all, front, last)

  pub height_more : heights (shown_track c k ++ map entry_of_stretch (take (i + 1) ss)) ≡ heights done + (get_or ss i d).height
  height_more =
      let whole = ap heights more in
      let sum = sum_by-append (λ (e : Entry). e.height) done (entry_of_stretch (get_or ss i d) ∷ []) in
      let one = sum_by-cons (λ (e : Entry). e.height) (entry_of_stretch (get_or ss i d)) [] in
      omega (arith, whole, sum, one)

  pub not_there : IsColumns c
      → times_placed (get_or ss i d).viewer c + times_in (get_or ss i d).viewer (map entry_of_stretch ss) ≤ 1
      → ¬ IsPlaced (get_or ss i d).viewer (with_shown c k done)
  not_there sound once placed =
      let v = (get_or ss i d).viewer in
      let all = placed_on v c k done sound in
      let sum = sum_by-append (λ (e : Entry). (let n : ℕ = cond (e.viewer == v) 1 0 in n)) (shown_track c k)
      (map entry_of_stretch (take i ss)) in
      let some = part (λ e. (let n : ℕ = cond (e.viewer == v) 1 0 in n)) in
      let itself : (v == v) ≡ true = eq-eqb v v refl in
      let one : cond (v == v) 1 0 ≡ 1 = ap (λ b. (let n : ℕ = cond b 1 0 in n)) itself in
      omega (arith, all, sum, some, one, once, placed)

  module _ (track : IsTrack (shown_track c k ++ map entry_of_stretch ss)) where
    here_some : 0 < (get_or ss i d).height
    here_some = subst (λ (e : Entry). 0 < e.height) here
        (after_those (λ (e : Entry). 0 < e.height) (shown_track c k) (map entry_of_stretch ss) track.some i (entry_of_stretch d) inside)

    pub rows_fit : heights done + (get_or ss i d).height ≤ ROWS
    rows_fit =
        let all = part (λ e. e.height) in
        let fits = track.fits in
        let before = sum_by-append (λ (e : Entry). e.height) (shown_track c k) (map entry_of_stretch (take i ss)) in
        let whole = sum_by-append (λ (e : Entry). e.height) (shown_track c k) (map entry_of_stretch ss) in
        omega (arith, all, fits, before, whole)

    pub piled : after_open (with_shown c k done) (get_or ss i d).viewer (left_of k)
        (heights done + (get_or ss i d).height)
        ≡ with_shown c k (shown_track c k ++ map entry_of_stretch (take (i + 1) ss))
    piled = opened_on done (get_or ss i d).viewer (get_or ss i d).height here_some rows_fit c k
        ∙ ap (with_shown c k) (sym more)
