-- What is painted: a row from the left, and the rows from the bottom.
use Rattle.std.proofs.Common.{◌≡◌, ◌≢◌, ℕ, Bool, true, ◌+◌, ◌<◌, ◌≤◌, ◌-◌, false, Option, List, [], length, get_or, set}
use Rattle.std.proofs.Common.{map, refl, ap, sym, ◌∙◌, arith, below_more, inl, inr}
use Rattle.std.proofs.lemmas.Bool.{cases_eq}
use Rattle.std.specs.Prelude.{if◌then◌else◌, nat_lt, None}
use Rattle.std.proofs.lemmas.List.{length-set, get_or-set_same, get_or-set_other}
use Rattle.char_file.specs.Source.{OnlyReads}
use Rattle.char_file.proofs.Reading.{no_read, read_on}
use Rattle.text_frames.specs.Row.{ShownCell}
use Rattle.viewer_tracks.specs.declared.display.TheConstants.{ROWS, COLUMNS, SYSTEM_LEFT}
use Rattle.viewer_tracks.specs.declared.display.Track.TheVariants.{User, System}
use Rattle.viewer_tracks.specs.Display.{track_at, left_of}
use Rattle.viewer_tracks.specs.Viewers.{viewer_at}
use Rattle.viewer_tracks.specs.Columns.{Columns, no_viewers, shown_track}
use Rattle.screen_pictures.specs.declared.cell.Cell.{Cell}
use Rattle.screen_cells.specs.declared.shown.Shown.{Shown}
use Rattle.screen_cells.specs.declared.strip.Strip.{Strip}
use Rattle.screen_pictures.specs.Picture.{Painted, picture, filler, filler_cell, track_cell, seen_cell, with_marker}
use Rattle.screen_pictures.specs.Picture.{is_at}
use Rattle.screen_cells.specs.Shown.{as_read, strip_cell}
use Rattle.screen_pictures.specs.Screen.{screen_of, values}
use Rattle.screen_cells.specs.Rows.{painted_row, strips_cell}
use Rattle.screen_cells.proofs.Values.{values_is, values_same}

-- the elements of a list before index n are what f makes of those that were there, and the others are as before
pub record IsDoneTo {X : Type 0} (default : X) (f : ℕ → X → X) (before after : List X) (n : ℕ) : Type 0 where
  pub as_long : length after ≡ length before
  pub done : (k : ℕ) → k < n → get_or after k default ≡ f k (get_or before k default)
  pub left : (k : ℕ) → n ≤ k → get_or after k default ≡ get_or before k default

module _ {X : Type 0} (default : X) (f : ℕ → X → X) (before : List X) where
  pub done_none : IsDoneTo default f before before 0
  done_none = record {
    as_long = refl;
    done = λ k h. absurd (omega arith);
    left = λ k h. refl;
  }

  pub done_more : (after : List X) (n : ℕ) (x : X) → n < length before → IsDoneTo default f before after n
      → x ≡ f n (get_or before n default)
      → IsDoneTo default f before (set after n x) (n + 1)
  done_more after n x inside so_far made = record {
    as_long = length-set after n x ∙ so_far.as_long;
    done = below_more (λ k. get_or (set after n x) k default ≡ f k (get_or before k default)) n
        (λ k h. let other : k ≢ n = omega arith in get_or-set_other after n k x default other ∙ so_far.done k h)
        (let long : n < length after = omega (arith, so_far.as_long) in get_or-set_same after n x default long ∙ made);
    left = λ k h. let other : k ≢ n = omega arith in get_or-set_other after n k x default other
        ∙ so_far.left k (omega arith);
  }

  -- where f keeps the element at n
  pub done_kept : (after : List X) (n : ℕ) → IsDoneTo default f before after n
      → get_or before n default ≡ f n (get_or before n default)
      → IsDoneTo default f before after (n + 1)
  done_kept after n so_far kept = record {
    as_long = so_far.as_long;
    done = below_more (λ k. get_or after k default ≡ f k (get_or before k default)) n so_far.done
        (so_far.left n (omega arith) ∙ kept);
    left = λ k h. so_far.left k (omega arith);
  }

-- a row of strips that show what the tracks do is what is to be painted
pub strips_painted : (columns : Columns) (viewers : List Painted) (marker : Option (ℕ × ℕ)) (y : ℕ)
    (user : Strip) (line : List ShownCell) (system : Strip) (other : List ShownCell)
    → ((column : ℕ) → strip_cell user line column ≡ track_cell columns viewers User column y)
    → ((column : ℕ) → strip_cell system other column ≡ track_cell columns viewers System column y)
    → values COLUMNS (strips_cell user line system other marker y) ≡ painted_row columns viewers marker y
unfolding picture
strips_painted columns viewers marker y user line system other in_user in_system =
    values_same COLUMNS _ _ (λ x within. ap (with_marker (is_at marker x y)) (by_track x (nat_lt x SYSTEM_LEFT)))
  where
    by_track : (x : ℕ) (left : Bool)
        → (if left then strip_cell user line x else strip_cell system other (x - SYSTEM_LEFT))
        ≡ track_cell columns viewers (if left then User else System) (x - left_of (if left then User else System)) y
    by_track x true = in_user x ∙ ap (λ c. track_cell columns viewers User c y) (let e : x ≡ x - 0 = omega arith in e)
    by_track x false = in_system (x - SYSTEM_LEFT)

-- The rows from n on are painted, from the state `start` of the source on, where what was kept was so; and nothing
-- failed since.
module _ {S : Type 0} (characters : S → List ℕ) (failures : S → ℕ) (honest : S → Type 0)
    (same_ground : S → S → Type 0) (told : Type 0) (columns : Columns) (viewers : List Shown)
    (marker : Option (ℕ × ℕ)) where
  abbrev pub row_wanted : S → ℕ → List Cell
  row_wanted s y = painted_row columns (map (as_read (characters s)) viewers) marker y

  pub record ArePainted (start now : S) (rows : List (List Cell)) (n : ℕ) : Type 0 where
    pub long : length rows ≡ ROWS
    pub reads : OnlyReads characters failures honest same_ground start now
    pub calm : failures now ≡ failures start
    pub done : honest start → told → (k : ℕ) → n ≤ k → k < ROWS → get_or rows k [] ≡ row_wanted start k

  pub none_painted : ((s : S) → same_ground s s) → (start : S) (rows : List (List Cell)) → length rows ≡ ROWS
      → ArePainted start start rows ROWS
  none_painted ground_self start rows long = record {
    long = long;
    reads = no_read characters failures honest same_ground ground_self start;
    calm = refl;
    done = λ h t k from below. absurd (omega (arith, from, below));
  }

  pub row_painted : ((a b c : S) → same_ground a b → same_ground b c → same_ground a c)
      → (start mid now : S) (rows : List (List Cell)) (row : List Cell) (n : ℕ) → 0 < n → n ≤ ROWS
      → ArePainted start mid rows n → OnlyReads characters failures honest same_ground mid now
      → failures now ≡ failures mid → (honest mid → told → row ≡ row_wanted mid (n - 1))
      → ArePainted start now (set rows (n - 1) row) (n - 1)
  row_painted ground_through start mid now rows row n some inside so_far reads calm made = record {
    long = length-set rows (n - 1) row ∙ so_far.long;
    reads = read_on characters failures honest same_ground ground_through start mid now so_far.reads reads;
    calm = calm ∙ so_far.calm;
    done = λ h t k from below. elim (cases_eq k (n - 1)) [
      | inl here ↦
          let long : n - 1 < length rows = omega (arith, some, inside, so_far.long) in
          ap (λ i. get_or (set rows (n - 1) row) i []) here
          ∙ get_or-set_same rows (n - 1) row [] long ∙ made (so_far.reads.still h) t
          ∙ (λ i. painted_row columns (map (as_read (so_far.reads.same h i)) viewers) marker (n - 1))
          ∙ ap (row_wanted start) (sym here)
      | inr other ↦ get_or-set_other rows (n - 1) k row [] other
          ∙ so_far.done h t k (omega (arith, from, other)) below
    ];
  }

  pub all_painted : (start now : S) (rows : List (List Cell)) (n : ℕ) → n ≤ 0 → ArePainted start now rows n
      → honest start → told → rows ≡ screen_of (picture columns (map (as_read (characters start)) viewers) marker)
  all_painted start now rows n all painted h t =
      values_is ROWS (row_wanted start) rows [] painted.long
      (λ k below. painted.done h t k (omega (arith, all)) below)

-- no viewer is seen where there is none
seen_nowhere : (b : Bool) (y : ℕ) → viewer_at (shown_track no_viewers (if b then User else System)) y ≡ None
unfolding viewer_at
seen_nowhere true y = refl
seen_nowhere false y = refl

pub picture_without_viewers : (viewers : List Painted) (marker : Option (ℕ × ℕ)) (x y : ℕ)
    → picture no_viewers viewers marker x y ≡ filler_cell (is_at marker x y)
unfolding picture
picture_without_viewers viewers marker x y =
    ap (λ seen. with_marker (is_at marker x y)
    (seen_cell no_viewers viewers (track_at x) (x - left_of (track_at x)) y seen))
    (seen_nowhere (nat_lt x SYSTEM_LEFT) y)
    ∙ marked_filler (is_at marker x y)
  where
    marked_filler : (b : Bool) → with_marker b filler ≡ filler_cell b
    marked_filler true = refl
    marked_filler false = refl
