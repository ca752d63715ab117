-- Viewers of a desktop fit, with what is marked in them, and so do its tracks.
use Rattle.std.specs.Prelude.{◌≡◌, ℕ, suc, ◌+◌, ◌-◌, ◌<◌, ◌≤◌, ◌^◌, ◌==◌, true, false, cond, Bool, List, []}
use Rattle.std.specs.Prelude.{◌∷◌, length, map, reverse, get_or, sum_by, All, IsSome, is_some, IfSome, Option, Some, None}
use Rattle.std.specs.Prelude.{if◌then◌else◌}
use Rattle.std.specs.List.{slice_index_or}
use Rattle.std.specs.List.Sorted.{IsStrictlySortedBy}
use Rattle.std.specs.Option.{ForSome, unwrap_or}
use Rattle.std.specs.Map.{lookup, keys_of, values_of}
use Rattle.std.specs.Ordering.{nat_cmp}
use Rattle.std.specs.BTreeMap.{is_at}
use Rattle.std.proofs.Common.{refl, sym, ap, subst, arith}
use Rattle.std.proofs.lemmas.Bool.{eq-eqb, le-leb}
use Rattle.std.proofs.lemmas.List.{length-map, length-reverse}
use Rattle.std.proofs.lemmas.List.Elements.{All-head, All-tail}
use Rattle.std.proofs.lemmas.List.Sums.{sum_by-cons, get_or-le-sum_by}
use Rattle.piece_ring.specs.Text.{Text}
use Rattle.viewer_tracks.specs.declared.display.TheConstants.{ROWS, DEPTH}
use Rattle.viewer_tracks.specs.declared.display.Track.{Track}
use Rattle.viewer_tracks.specs.declared.display.Track.TheVariants.{User, System}
use Rattle.viewer_tracks.specs.Viewers.{Entry, IsTrack, times_in}
use Rattle.viewer_tracks.specs.Columns.{Columns, IsStack, stack_of, times_on}
use Rattle.desktop_definitions.specs.declared.viewer.Viewer.{Viewer}
use Rattle.desktop_definitions.specs.declared.viewer.Caret.{Caret}
use Rattle.desktop_definitions.specs.declared.viewer.Selection.{Selection}
use Rattle.desktop_definitions.specs.declared.viewer.ClosedViewer.{ClosedViewer}
use Rattle.desktop_definitions.specs.Limits.{most_held}
use Rattle.desktop_definitions.specs.Tables.{Texts, text_numbered, lengths}
use Rattle.desktop_definitions.specs.Viewers.{viewer_in, viewer_or_none, text_in, main_length}
use Rattle.desktop_definitions.specs.Sound.{AreViewers, ArePlaces, AreMarks}
use Rattle.desktop_definitions.specs.Sound.{times_there}
use Rattle.desktop_definitions.proofs.FewLaws.{few_viewers, few_by_depth}
use Rattle.desktop_definitions.proofs.PlaceLaws.{at_same}
use Rattle.desktop_definitions.proofs.ViewLaws.{viewer_at_place, few_selections}
use Rattle.image_format.specs.declared.picture.Ranked.{Ranked}
use Rattle.image_format.specs.declared.picture.ViewerPicture.{ViewerPicture}
use Rattle.image_format.specs.declared.limits.TheConstants.{MOST_VIEWERS}
use Rattle.desktop_definitions.specs.Shown.{caret_position}
use Rattle.image_format.specs.Image.{InWord, InLong, InId, has_overlays, deepest, ranked_in, picture_of}
use Rattle.image_format.specs.Fitting.{Chain, FitsRanked, FitsViewer, FitsViewers, FitsEntry, FitsTrack, FitsLevel}
use Rattle.image_format.specs.Fitting.{FitsStack, FitsClosed, after_viewer, above, overlaid}
use Rattle.image_format.proofs.Lists.{all_reversed}
use Rattle.image_format.proofs.TableFits.{From, from_next, from_none}

-- ---- what is found

-- what holds of all keys of a table holds of one that is found
pub found_key : {X : Type 0} (P : ℕ → Type 0) (n : ℕ) (es : List (ℕ × X)) → All P (keys_of es)
    → IsSome (lookup (is_at (nat_cmp n)) es) → P n
found_key P n [] all found = absurd cc
found_key {X} P n (e ∷ es) all found = (elim (is_at (nat_cmp n) e.0) as (λ b. is_at (nat_cmp n) e.0 ≡ b
    → IsSome (let o : Option X = cond b (Some e.1) (lookup (is_at (nat_cmp n)) es) in o) → P n) [
      | true ↦ λ here found. subst P (sym (at_same n e.0 here)) (All-head P e.0 (keys_of es) all)
      | false ↦ λ other found. found_key P n es (All-tail P e.0 (keys_of es) all) found
    ]) refl found

-- a text of a table has no more characters than all of them
text_small : (n : ℕ) (texts : Texts (Text ℕ)) → length (text_in texts n) ≤ lengths texts
text_small n [] = omega arith
text_small n (t ∷ texts) =
    let sum = sum_by-cons length t.1 (values_of texts) in
    let rest = text_small n texts in
    elim (is_at (nat_cmp n) t.0) as (λ b. length (unwrap_or (let o : Option (Text ℕ) = cond b (Some t.1)
    (text_numbered texts n) in o) []) ≤ lengths (t ∷ texts)) [
      | true ↦ omega (arith, sum)
      | false ↦ omega (arith, sum, rest)
    ]

-- ---- ranks

-- a selection by its rank, the first having the rank n
ranks_fit : (n v : ℕ) (selections : List Selection) → All (λ s. (s.beg < s.end) × (s.end ≤ most_held)) selections
    → n + length selections ≤ 2 ^ 8 → IfSome (ranked_in n selections v) FitsRanked
ranks_fit n v [] all few = tt
ranks_fit n v (s ∷ later) all few =
    let here : (s.beg < s.end) × (s.end ≤ most_held) = all 0 s (omega arith) in
    let low = here.0 in
    let high = here.1 in
    let this : Ranked = record { rank = n; beg = s.beg; end = s.end } in
    elim (s.viewer == v) as (λ b. IfSome (let o : Option Ranked = cond b (Some this) (ranked_in (n + 1) later v) in o)
    FitsRanked) [
      | true ↦ (omega (arith, few), (omega (arith, low, high), omega (arith, high)))
      | false ↦ ranks_fit (n + 1) v later
          (All-tail (λ (o : Selection). (o.beg < o.end) × (o.end ≤ most_held)) s later all) (omega (arith, few))
    ]

-- ---- tracks

named_entries : (t : List Entry) → All (λ e. 0 < times_in e.viewer t) t
named_entries t i d low =
    let e = slice_index_or t i d in
    let count = get_or-le-sum_by (λ (x : Entry). (let n : ℕ = cond (x.viewer == e.viewer) 1 0 in n)) t i d low in
    let one : (let n : ℕ = cond (e.viewer == e.viewer) 1 0 in n)
    ≡ 1 = ap (λ b. let n : ℕ = cond b 1 0 in n) (eq-eqb e.viewer e.viewer refl) in
    omega (arith, count, one)

-- ---- one viewer

-- the facts of a picture but that its id rises
abbrev FitsAlone : ℕ → ViewerPicture → Type 0
FitsAlone version p = InId version p.id × (InWord p.viewer.menu × (InWord p.viewer.main × (InLong p.viewer.org
    × (IfSome p.caret InLong × IfSome p.selection FitsRanked))))

caret_fits : (caret : Option Caret) (v : ℕ) → ForSome caret (λ c. c.position ≤ most_held)
    → IfSome (caret_position v caret) InLong
caret_fits None v small = tt
caret_fits (Some c) v small =
    let low : c.position ≤ most_held = small c refl in
    elim (c.viewer == v) as (λ b. IfSome (let o : Option ℕ = cond b (Some c.position) None in o) InLong) [
      | true ↦ omega (arith, low)
      | false ↦ tt
    ]

-- What is known of the texts, viewers and marks of a desktop.
pub record AreSmall (version : ℕ) (texts : Texts (Text ℕ)) (viewers : List (ℕ × Viewer)) (columns : Columns)
    (closed : Option ClosedViewer) (caret : Option Caret) (selections : List Selection) : Type 0
  where
    pub numbers : All InWord (keys_of texts)
    pub ids : All (InId version) (keys_of viewers)
    pub user : length columns.user ≤ deepest version
    pub system : length columns.system ≤ deepest version
    pub low : lengths texts ≤ most_held
    pub viewers_hold : AreViewers texts viewers
    pub places : ArePlaces viewers columns closed
    pub marks : AreMarks columns (main_length texts viewers) caret selections

module _ (version : ℕ) (texts : Texts (Text ℕ)) (viewers : List (ℕ × Viewer)) (columns : Columns) (closed : Option ClosedViewer)
    (caret : Option Caret) (selections : List Selection)
    (are : AreSmall version texts viewers columns closed caret selections) where
  main_small : (v : ℕ) → main_length texts viewers v ≤ most_held
  main_small v =
      let here = text_small (viewer_or_none viewers v).main texts in
      let low = are.low in
      omega (arith, here, low)

  selections_small : All (λ s. (s.beg < s.end) × (s.end ≤ most_held)) selections
  selections_small i d low =
      let here = are.marks.all_stand i d low in
      let some = here.some in
      let within = here.within in
      let small = main_small (slice_index_or selections i d).viewer in
      (some, omega (arith, within, small))

  caret_small : ForSome caret (λ c. c.position ≤ most_held)
  caret_small c is =
      let within = (are.marks.caret_stands c is).within in
      let small = main_small c.viewer in
      omega (arith, within, small)

  selection_fits : (v : ℕ) → IfSome (ranked_in 1 selections v) FitsRanked
  selection_fits v =
      let few = few_selections columns (main_length texts viewers) caret selections are.places.columns_hold are.marks in
      ranks_fit 1 v selections selections_small (omega (arith, few))

  alone : (v : ℕ) (viewer : Viewer) → viewer_in viewers v ≡ Some viewer
      → FitsAlone version (picture_of caret selections (v, viewer))
  alone v viewer found =
      let here = are.viewers_hold.each v viewer found in
      let org = here.org in
      let small = text_small viewer.main texts in
      let low = are.low in (
        found_key (InId version) v viewers are.ids (ap is_some found),
        (
          found_key InWord viewer.menu texts are.numbers here.menu,
          (
            found_key InWord viewer.main texts are.numbers here.main,
            (omega (arith, org, small, low), (caret_fits caret v caret_small, selection_fits v)),
          ),
        ),
      )

  pictures_chain : (least : ℕ) (vs : List (ℕ × Viewer)) → All (λ e. FitsAlone version (picture_of caret selections e)) vs
      → IsStrictlySortedBy nat_cmp (keys_of vs) → From least (keys_of vs)
      → Chain (FitsViewer version) after_viewer least (map (picture_of caret selections) vs)
  unfolding IsStrictlySortedBy
  pictures_chain least [] all rising from = tt
  pictures_chain least (e ∷ vs) all rising from =
      let here = All-head (λ (x : ℕ × Viewer). FitsAlone version (picture_of caret selections x)) e vs all in (
        (here.0, (from.0, here.1)),
        pictures_chain (e.0 + 1) vs
            (All-tail (λ (x : ℕ × Viewer). FitsAlone version (picture_of caret selections x)) e vs all) rising.1
            (from_next e.0 (keys_of vs) rising.0),
      )

  few_pictures : length (map (picture_of caret selections) viewers) ≤ MOST_VIEWERS
  few_pictures =
      let few = few_viewers viewers columns closed are.places are.viewers_hold.ids in
      let same = length-map {B = ViewerPicture} viewers (picture_of caret selections) in
      omega (arith, few, same)

  -- where an id has one byte there is one track in each column, and so fewer viewers than ids
  few_ids : (overlays : Bool) → length columns.user ≤ (if overlays then DEPTH else 1)
      → length columns.system ≤ (if overlays then DEPTH else 1)
      → length (map (picture_of caret selections) viewers) < (if overlays then 2 ^ 16 else 2 ^ 8)
  few_ids true user system = let few = few_pictures in omega (arith, few)
  few_ids false user system =
      let few = few_by_depth viewers columns closed are.places are.viewers_hold.ids in
      let same = length-map {B = ViewerPicture} viewers (picture_of caret selections) in
      omega (arith, few, same, user, system)

  pub viewers_fit : FitsViewers version (map (picture_of caret selections) viewers)
  viewers_fit =
      let rising = are.viewers_hold.ids in (
        few_ids (has_overlays version) are.user are.system,
        (
          few_pictures,
          pictures_chain 0 viewers
              (λ i d low. alone (slice_index_or viewers i d).0 (slice_index_or viewers i d).1
              (viewer_at_place viewers i d rising low)) rising (from_none (keys_of viewers)),
        ),
      )

  -- ---- where viewers stand

  -- a viewer that stands somewhere has an id that the version can say
  standing : (v : ℕ) → 0 < times_there columns closed v → InId version v
  standing v some =
      found_key (InId version) v viewers are.ids (there (is_some (viewer_in viewers v)) (are.places.once v))
    where
      there : (b : Bool) → times_there columns closed v ≡ (if b then 1 else 0) → b ≡ true
      there true once = refl
      there false once = absurd (omega (arith, once, some))

  entries_fit : (room : ℕ) (t : List Entry) → All (λ e. 0 < e.height) t → All (λ e. InId version e.viewer) t
      → sum_by (λ e. e.height) t ≤ room → Chain (FitsEntry version) above room t
  entries_fit room [] some named low = tt
  entries_fit room (e ∷ t) some named low =
      let sum = sum_by-cons (λ (x : Entry). x.height) e t in (
        record {
          viewer = All-head (λ (x : Entry). InId version x.viewer) e t named;
          some = All-head (λ (x : Entry). 0 < x.height) e t some;
          short = omega (arith, sum, low);
        },
        entries_fit (room - e.height) t (All-tail (λ (x : Entry). 0 < x.height) e t some)
            (All-tail (λ (x : Entry). InId version x.viewer) e t named) (omega (arith, sum, low)),
      )

  track_fits : (t : List Entry) → IsTrack t → ((v : ℕ) → times_in v t ≤ times_there columns closed v)
      → FitsTrack version t
  track_fits t track there = entries_fit ROWS t track.some
      (λ i d low. standing (slice_index_or t i d).viewer
      (let here = named_entries t i d low in
      let placed = there (slice_index_or t i d).viewer in
      omega (arith, here, placed)))
      track.fits

  -- overlays, each with a viewer
  overlays_fit : (r : List (List Entry)) → All (FitsTrack version) r
      → ((i : ℕ) → i < length r → 0 < length (get_or r i [])) → Chain (FitsLevel version) overlaid 1 r
  overlays_fit [] fits some = tt
  overlays_fit (t ∷ r) fits some = (
    (le-leb 1 (length t) (some 0 (omega arith)), All-head (FitsTrack version) t r fits),
    overlays_fit r (All-tail (FitsTrack version) t r fits) (λ i low. some (suc i) (omega (arith, low))),
  )

  -- the tracks of a column, from the lowest up
  levels_fit : (r : List (List Entry)) → All (FitsTrack version) r
      → ((i : ℕ) → 0 < i → i < length r → 0 < length (get_or r i [])) → Chain (FitsLevel version) overlaid 0 r
  levels_fit [] fits some = tt
  levels_fit (t ∷ r) fits some = (
    (le-leb 0 (length t) (omega arith), All-head (FitsTrack version) t r fits),
    overlays_fit r (All-tail (FitsTrack version) t r fits)
        (λ i low. some (suc i) (omega arith) (omega (arith, low))),
  )

  stack_fits : (s : List (List Entry)) → IsStack s → ((v : ℕ) → times_on v s ≤ times_there columns closed v)
      → length s ≤ deepest version → FitsStack version (reverse s)
  stack_fits s stack there few =
      let same = length-reverse s in
      let tracks : All (FitsTrack version) s =
      λ i d low. track_fits (slice_index_or s i d) (stack.tracks i d low)
      (λ v. let one = get_or-le-sum_by (times_in v) s i d low in let all = there v in omega (arith, one, all)) in
      let levels : (i : ℕ) → 0 < i → i < length (reverse s) → 0 < length (get_or (reverse s) i []) =
      λ i above low.
      let level : i + 1 - 1 ≡ i = omega arith in
      subst (λ (n : ℕ). 0 < length (get_or (reverse s) n [])) level
      (stack.overlays (i + 1) (omega (arith, above)) (omega (arith, low, same))) in (
        omega (arith, same, stack.some),
        (
          omega (arith, same, few),
          levels_fit (reverse s) (all_reversed (FitsTrack version) s [] tracks) levels,
        ),
      )

  pub column_fits : (k : Track) → FitsStack version (reverse (stack_of columns k))
  column_fits User = stack_fits columns.user are.places.columns_hold.user (λ v. omega arith) are.user
  column_fits System = stack_fits columns.system are.places.columns_hold.system (λ v. omega arith) are.system

closed_there : (columns : Columns) (k : ClosedViewer) → 0 < times_there columns (Some k) k.viewer
closed_there columns k =
    let one : (let n : ℕ = cond (k.viewer == k.viewer) 1 0 in n)
    ≡ 1 = ap (λ b. let n : ℕ = cond b 1 0 in n) (eq-eqb k.viewer k.viewer refl) in
    omega (arith, one)

pub closed_fits : (version : ℕ) (texts : Texts (Text ℕ)) (viewers : List (ℕ × Viewer)) (columns : Columns)
    (closed : Option ClosedViewer) (caret : Option Caret) (selections : List Selection)
    → AreSmall version texts viewers columns closed caret selections → IfSome closed (FitsClosed version)
closed_fits version texts viewers columns None caret selections are = tt
closed_fits version texts viewers columns (Some k) caret selections are =
    let place = are.places.closed_place k refl in (
      standing version texts viewers columns (Some k) caret selections are k.viewer (closed_there columns k),
      (place.some, place.within),
    )
