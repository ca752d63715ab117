-- Laws of rows that open viewers: the limits before them, refusals, and viewers on texts that are there.
use Rattle.std.specs.Prelude.{◌≡◌, ℕ, zero, suc, ◌+◌, ◌-◌, ◌/◌, ◌<◌, ◌≤◌, ◌==◌, ◌||◌, ◌&&◌, ◌⊎◌, nat_lt, nat_le}
use Rattle.std.specs.Prelude.{max, min}
use Rattle.std.specs.Prelude.{Bool, true, false, cond, IsSome, is_some, IfSome, List, [], ◌∷◌, ◌++◌}
use Rattle.std.specs.Prelude.{length, take}
use Rattle.std.specs.Prelude.{slice_index_or, codes as bytes, Option, Some, None, Result, Ok, Err}
use Rattle.std.specs.Option.{unwrap_or, option_map}
use Rattle.std.specs.List.{list_any}
use Rattle.std.specs.Map.{keys_of}
use Rattle.std.specs.BTreeMap.{is_at}
use Rattle.std.proofs.Common.{refl, sym, ap, subst, ◌∙◌, arith, inl, inr, ⊎_elim}
use Rattle.std.proofs.lemmas.Bool.{le-leb, lt-leb, lt-ltb, ne_eqb, cases_lt}
use Rattle.std.proofs.lemmas.Bool.Decides.{nat_tests}
use Rattle.std.proofs.lemmas.List.{append-nil}
use Rattle.std.proofs.lemmas.List.FromFn.{length-map-range_with_len, get_or-map-range_with_len}
use Rattle.std.proofs.lemmas.List.Sums.{sum_by-cons, position_or_len_is, prefix_len-le-length}
use Rattle.std.proofs.lemmas.Map.Views.{IfSome-lookup_from_All}
use Rattle.piece_ring.specs.declared.piece.Piece.{Piece}
use Rattle.piece_ring.specs.Look.{default_look}
use Rattle.piece_ring.specs.Flat.{flat, run}
use Rattle.piece_ring.specs.Text.{Text, AreWithin}
use Rattle.readers_scanners.specs.Reading.{contents}
use Rattle.viewer_tracks.specs.declared.display.TheConstants.{ROWS}
use Rattle.viewer_tracks.specs.declared.display.Track.{Track}
use Rattle.viewer_tracks.specs.declared.display.Track.TheVariants.{User, System}
use Rattle.viewer_tracks.specs.Display.{track_at}
use Rattle.viewer_tracks.specs.Viewers.{Entry, bottom_of, top_of, tops, lowest_reaching, entry_of}
use Rattle.viewer_tracks.specs.Edits.{open_entry, open_top, takes_place, replaced}
use Rattle.viewer_tracks.specs.Columns.{Columns, IsColumns, IsPlaced, IsOnTop, shown_track, track_of, placed_bottom}
use Rattle.viewer_tracks.specs.Columns.{placed_top, replaced_at, allocated}
use Rattle.viewer_tracks.proofs.PlacedLemmas.{shown_stands}
use Rattle.desktop_definitions.specs.declared.viewer.Viewer.{Viewer}
use Rattle.desktop_definitions.specs.declared.reply.Reply.TheVariants.{Done, No}
use Rattle.desktop_definitions.specs.Limits.{no_file, full, too_low}
use Rattle.desktop_definitions.specs.Needs.{needs}
use Rattle.desktop_definitions.specs.Tables.{name_cmp, file_named}
use Rattle.desktop_definitions.proofs.TableLaws.{lookup_seen, is_some_map, length_seen_text}
use Rattle.desktop_definitions.specs.Desktop.{Desktop, KeptDesktop, file_of, characters_held}
use Rattle.desktop_definitions.specs.Viewers.{viewer_in, viewer_or_none, bare_viewer, text_in, text_of, without_viewer}
use Rattle.desktop_definitions.specs.Change.{plain_text, more_written}
use Rattle.desktop_definitions.specs.Opening.{menu_line, new_id, opening_on, after_opening, is_shown, without_unshown}
use Rattle.desktop_definitions.specs.Effects.{opened_on_copy, document_opened, file_opened, log_opened}
use Rattle.desktop_definitions.specs.Effects.{viewer_copied}
use Rattle.desktop_definitions.specs.Gesture.{tool_opened}
use Rattle.desktop_definitions.specs.Seen.{seen, seen_text}
use Rattle.desktop_definitions.specs.Step.{fits, outcome_after, outcome_of}
use Rattle.desktop_definitions.proofs.StepLaws.{AllShown}
use Rattle.desktop_definitions.specs.Sound.{IsShaped, IsBuilt, IsKeptWhole, IsOver}
use Rattle.desktop_definitions.specs.Outcome.{IsAnswered}
use Rattle.desktop_definitions.proofs.OutcomeLaws.{refused, length_in_look}
use Rattle.desktop_definitions.proofs.PlaceLaws.{any_at, on_top_placed}
use Rattle.desktop_definitions.proofs.OpenLaws.{placed_known}
use Rattle.desktop_definitions.proofs.FewLaws.{all_any}
use Rattle.desktop_definitions.proofs.OpenedLaws.{NewPlace, opening_to, at_cell, left_at, by_others, staying, CanShow, IsApart}
use Rattle.desktop_definitions.proofs.OpenedLaws.{held_opening_on}
use Rattle.desktop_definitions.proofs.OpeningDone.{PlacesOpened, written_on, on_answered}
use Rattle.desktop_definitions.proofs.OpeningDone.{written_answered, CanStand, IsOpeningOn}
use Rattle.desktop_definitions.proofs.RowPartLaws.{kept_text_seen, text_within}
use Rattle.desktop_definitions.specs.Looks.{AreLooks}
use Rattle.desktop_definitions.proofs.LookedLaws.{found_looks, kept_text_looks, kept_files_looks}
use Rattle.desktop_definitions.specs.DeskWords.{IsPlaceOf}

pub whole_built : (d : KeptDesktop) → IsKeptWhole d → IsBuilt d.written d
whole_built d whole = record { within = whole.within; shaped = λ characters. (whole.sound characters).shaped }

-- ---- refusals

full_is : (d new : Desktop) → fits (without_unshown new) ≡ false → outcome_of d (No full) ≡ outcome_after d (Ok new)
unfolding outcome_after
full_is d new unfit = rw unfit refl

-- where the limits don't hold once a viewer opened
pub unfit_answered : (H : Type 0) (old : List ℕ) (d : KeptDesktop) (row : Result Desktop ℕ) (new : Desktop)
    → IsOver old d → row ≡ Ok new → fits (without_unshown new) ≡ false
    → IsAnswered H old old d d (outcome_after (seen old d) row) (No full)
unfit_answered H old d row new over is unfit =
    refused H old d (outcome_after (seen old d) row) full over (inr (inr (inr (inr (inl refl)))))
    (λ h. full_is (seen old d) new unfit ∙ ap (outcome_after (seen old d)) (sym is))

-- ---- which texts can be shown

-- the log
pub log_can : (d : Desktop) → IsShaped d → CanShow d 0 0
log_can d shaped = record {
  there = shaped.viewers.log;
  within = omega arith;
  no_menu = λ w other found is. (shaped.viewers.each w other found).not_log (sym is);
}

the_one : {A : Type 0} (o : Option A) (other : A) → IsSome o → o ≡ Some (unwrap_or o other)
the_one None other there = absurd (cc there)
the_one (Some a) other there = refl

-- what a viewer shows, from where it shows it on
pub viewer_can : (d : Desktop) (v : ℕ) → IsShaped d → IsPlaced v d.columns
    → CanShow d (viewer_or_none d.viewers v).main (viewer_or_none d.viewers v).org
viewer_can d v shaped placed =
    let found = the_one (viewer_in d.viewers v) bare_viewer
    (placed_known d.viewers d.columns d.closed v shaped.places placed) in
    let shown = shaped.viewers.each v (viewer_or_none d.viewers v) found in
    record {
      there = shown.main;
      within = shown.org;
      no_menu = λ w other here is. (shaped.viewers.each w other here).no_main v (viewer_or_none d.viewers v) found is;
    }

-- ---- the limits

the_log : (k : ℕ) → (0 == k) ≡ (k == 0)
the_log k = grind (arith, nat_tests)

or_again : (a b : Bool) → a || (a || b) ≡ a || b
or_again true b = refl
or_again false b = refl

pub or_more : (a b c : Bool) → a || c ≡ true → a || (b || c) ≡ a || c
or_more true b c is = refl
or_more false true c is = sym is
or_more false false c is = refl

module _ (d : Desktop) (all : AllShown d) where
  shown_there : (k : ℕ) → list_any (λ j. j == k) (keys_of d.texts) ≡ true → is_shown d.viewers k ≡ true
  shown_there k there = all_any k (λ n. is_shown d.viewers n ≡ true) (keys_of d.texts) all (any_at k (keys_of d.texts) ∙ there)

  pub stays_anyway : (main k : ℕ) (taken : Option ℕ) → (main ≡ 0) ⊎ (taken ≡ None)
      → list_any (λ j. j == k) (keys_of d.texts) ≡ true
      → staying main taken d.viewers k ≡ (k == 0) || by_others taken d.viewers k
  stays_anyway main k taken (inl log) there =
      (λ i. (k == 0) || ((log i == k) || by_others taken d.viewers k))
      ∙ (λ i. (k == 0) || (the_log k i || by_others taken d.viewers k))
      ∙ or_again (k == 0) (by_others taken d.viewers k)
  stays_anyway main k taken (inr nobody) there =
      subst (λ (o : Option ℕ). staying main o d.viewers k ≡ (k == 0) || by_others o d.viewers k) (sym nobody)
      (or_more (k == 0) (main == k) (by_others None d.viewers k) (shown_there k there))

  -- the main text is the log, or nobody goes
  pub held_anyway : (menu : Text ℕ) (main org : ℕ) (cell : ℕ × ℕ) → IsApart d cell
      → (main ≡ 0) ⊎ (replaced_at d.columns cell.0 cell.1 ≡ None)
      → characters_held (without_unshown (opening_on d menu main org cell))
      ≡ characters_held (without_unshown (without_viewer d (replaced_at d.columns cell.0 cell.1))) + length menu
  held_anyway menu main org cell apart stays =
      held_opening_on d menu cell apart main org (λ k there. stays_anyway main k _ stays there)

-- ---- the lower half of a viewer's place

rows_rise : (t : List Entry) (i j : ℕ) → i ≤ j → bottom_of t i ≤ bottom_of t j
rows_rise [] zero zero low = omega arith
rows_rise [] zero (suc j) low = omega arith
rows_rise [] (suc i) zero low = omega arith
rows_rise [] (suc i) (suc j) low = omega arith
rows_rise (e ∷ t) zero zero low = omega arith
rows_rise (e ∷ t) zero (suc j) low = omega arith
rows_rise (e ∷ t) (suc i) zero low = absurd (omega (arith, low))
rows_rise (e ∷ t) (suc i) (suc j) low =
    let rest = rows_rise t i j (omega (arith, low)) in
    let first = sum_by-cons (λ (x : Entry). x.height) e (take i t) in
    let second = sum_by-cons (λ (x : Entry). x.height) e (take j t) in
    omega (arith, rest, first, second)

module _ (t : List Entry) where
  top_at : (k : ℕ) → k < length t → slice_index_or (tops t) k 0 ≡ bottom_of t (k + 1)
  top_at k low = get_or-map-range_with_len (λ i. bottom_of t (i + 1)) 0 (length t) k k 0 low (omega arith)

  top_is : (i : ℕ) → i < length t → top_of t i ≡ bottom_of t (i + 1)
  top_is i low = rw (lt-ltb i (length t) low) refl

  -- an entry reaches each of its rows
  reached : (i z : ℕ) → i ≤ length t → bottom_of t i < z → z ≤ top_of t i → lowest_reaching t z ≡ i
  reached i z within above below =
      let long = length-map-range_with_len (λ (i : ℕ). bottom_of t (i + 1)) 0 (length t) in
      position_or_len_is (λ top. nat_le z top) (tops t) i 0 (omega (arith, long, within))
      (λ k less.
      let at = top_at k (omega (arith, less, within)) in
      let rise = rows_rise t (k + 1) i (omega (arith, less)) in
      lt-leb z _ (omega (arith, at, rise, above)))
      (λ more.
      let low : i < length t = omega (arith, more, long) in
      let at = top_at i low in
      let top = top_is i low in
      le-leb z _ (omega (arith, at, top, below)))

  -- who opens below the top of an entry and above its bottom takes nobody's place
  nobody : (i y : ℕ) → i ≤ length t → bottom_of t i < y → y < top_of t i → y ≤ ROWS → replaced t y ≡ None
  unfolding replaced
  nobody i y within above below low =
      let row : min y ROWS ≡ y = omega (arith, low) in
      let entry : open_entry t y ≡ i = ap (lowest_reaching t) row
      ∙ reached i y within above (omega (arith, below)) in
      let top : open_top t y ≡ y =
      (λ k. max (row k) (bottom_of t (entry k) + 1)) ∙ omega (arith, above) in
      let apart : (y == top_of t i) ≡ false = ne_eqb y (top_of t i) (λ same. absurd (omega (arith, same, below))) in
      let free : takes_place t (open_entry t y) (open_top t y) ≡ false =
      (λ k. takes_place t (entry k) (top k)) ∙ and_false (nat_lt i (length t)) _ apart in
      rw free refl
    where
      and_false : (a b : Bool) → b ≡ false → a && b ≡ false
      and_false true b is = is
      and_false false b is = refl

pub half_free : (c : Columns) (v x bottom top : ℕ) → IsColumns c → IsOnTop v c → IsPlaceOf c v x bottom top
    → ¬ (top - bottom ≡ 1) → replaced_at c x (bottom + (top - bottom) / 2) ≡ None
half_free c v x bottom top hold placed place more =
    let t = shown_track c (track_of c v) in
    let own = shown_stands c v hold placed in
    let some = place.some in
    let rows : 2 ≤ top - bottom =
    ⊎_elim (λ two. omega (arith, two)) (λ one. absurd (more (omega (arith, some, one)))) (cases_lt 1 (top - bottom)) in
    let begins = place.begins ∙ ap (λ (t : List Entry). bottom_of t (entry_of t v)) own in
    let ends = place.ends ∙ ap (λ (t : List Entry). top_of t (entry_of t v)) own in
    let within = place.within in
    ap (λ (k : Track). replaced (shown_track c k) (bottom + (top - bottom) / 2))
    (ap track_at place.left ∙ left_at (track_of c v))
    ∙ nobody t (entry_of t v) (bottom + (top - bottom) / 2) (prefix_len-le-length _ t) (omega (arith, begins, rows))
    (omega (arith, begins, ends, rows)) (omega (arith, rows, within))

-- ---- a copy of a viewer

module _ (d : Desktop) (v x bottom top : ℕ) (place : IsPlaceOf d.columns v x bottom top) where
  pub copied_low : top - bottom ≡ 1 → viewer_copied d v ≡ Err too_low
  unfolding viewer_copied
  copied_low one = let same : placed_top d.columns v - placed_bottom d.columns v ≡ 1
      = (λ k. sym place.ends k - sym place.begins k) ∙ one in rw same refl

  copied_row : ¬ (top - bottom ≡ 1) → viewer_copied d v ≡ Ok (opening_on d (text_of d (viewer_or_none d.viewers v).menu)
      (viewer_or_none d.viewers v).main (viewer_or_none d.viewers v).org (x, bottom + (top - bottom) / 2))
  unfolding viewer_copied
  copied_row more =
      (λ k. cond (sym place.ends k - sym place.begins k == 1) (let r : Result Desktop ℕ = Err too_low in r)
      (Ok (opening_on d (text_of d (viewer_or_none d.viewers v).menu) (viewer_or_none d.viewers v).main
      (viewer_or_none d.viewers v).org
      (sym place.left k, sym place.begins k + (sym place.ends k - sym place.begins k) / 2))))
      ∙ rw (ne_eqb (top - bottom) 1 more) refl

pub none_more : (d : Desktop) → more_written d 0 ≡ d
none_more d = let same : d.written + 0 ≡ d.written = omega arith in λ k. record d { written = same k }

-- A second viewer on the text of a viewer opens with a copy of its menu, and no character is added.
pub copy_opens : (old : List ℕ) (d : KeptDesktop) (menu : List Piece) (viewer : Viewer) (place : NewPlace)
    → IsOver old d → flat menu ≡ flat (text_in d.texts viewer.menu)
    → ((characters : List ℕ) → CanShow (seen characters d) viewer.main viewer.org)
    → CanStand d.columns (new_id d) place
    → ((characters : List ℕ) (text : Text ℕ) → length text ≡ length (flat menu)
    → fits (without_unshown (more_written (opening_to (seen characters d) text viewer.main viewer.org place) 0)) ≡ true)
    → IsOpeningOn old [] old d menu viewer.main viewer.org place
copy_opens old d menu viewer place over copy can stands fit =
    let none : d.written + 0 ≡ d.written = omega arith in
    let built = whole_built d over.whole in
    record {
      counted = over.counted;
      built = record { within = built.within; shaped = built.shaped };
      grown = sym (append-nil old);
      within = subst (λ (t : Text ℕ). AreWithin (d.written + 0) t) (sym copy)
          (subst (λ (n : ℕ). AreWithin n (flat (text_in d.texts viewer.menu))) (sym none)
          (text_within d.written d viewer.menu over.whole.within));
      looks = subst AreLooks (sym copy) (kept_text_looks d.written d built viewer.menu);
      can = can;
      stands = stands;
      fit = fit;
    }

module _ (H : Type 0) (old : List ℕ) (d : KeptDesktop) (v x bottom top : ℕ) (menu : List Piece) (viewer : Viewer)
    (over : IsOver old d) (placed : IsOnTop v d.columns) (place : IsPlaceOf d.columns v x bottom top)
    (more : ¬ (top - bottom ≡ 1)) (is : viewer ≡ viewer_or_none d.viewers v)
    (copy : flat menu ≡ flat (text_in d.texts viewer.menu)) where
  abbrev cell : ℕ × ℕ
  cell = (x, bottom + (top - bottom) / 2)

  abbrev outcome : Desktop
  outcome = opening_on (seen old d) (text_of (seen old d) viewer.menu) viewer.main viewer.org cell

  copy_read : seen_text old menu ≡ text_of (seen old d) viewer.menu
  copy_read = ap (λ (t : Text ℕ). contents old t) copy ∙ sym (kept_text_seen old d viewer.menu)

  copied_seen : viewer_copied (seen old d) v ≡ Ok outcome
  unfolding seen
  copied_seen =
      copied_row (seen old d) v x bottom top (record {
        left = place.left;
        begins = place.begins;
        ends = place.ends;
        some = place.some;
        within = place.within;
      }) more
      ∙ (λ k. Ok (opening_on (seen old d) (text_of (seen old d) (sym is k).menu) (sym is k).main (sym is k).org cell))

  can : (characters : List ℕ) → CanShow (seen characters d) viewer.main viewer.org
  unfolding seen
  can characters = subst (λ (w : Viewer). CanShow (seen characters d) w.main w.org) (sym is)
      (viewer_can (seen characters d) v (over.whole.sound characters).shaped (on_top_placed d.columns v placed))

  pub copied_answered : PlacesOpened d.columns (new_id d) cell
      → ((characters : List ℕ) (text : Text ℕ) → length text ≡ length (flat menu)
      → fits (without_unshown (more_written (opening_on (seen characters d) text viewer.main viewer.org cell) 0)) ≡ true)
      → IsAnswered H old old d (without_unshown (opening_on d menu viewer.main viewer.org cell))
      (outcome_after (seen old d) (viewer_copied (seen old d) v)) Done
  copied_answered places fit =
      let none : d.written + 0 ≡ d.written = omega arith in
      let after : KeptDesktop = without_unshown (opening_on d menu viewer.main viewer.org cell) in
      let same : d.written + 0 ≡ after.written = none ∙ sym (written_on d menu viewer.main viewer.org cell) in
      let answered = on_answered H old [] old d menu viewer.main viewer.org (at_cell cell)
      (copy_opens old d menu viewer (at_cell cell) over copy can
      (record { hold = places.hold; places = places.places }) fit)
      d (seen old d) (text_of (seen old d) viewer.menu) outcome copy_read refl in
      subst (λ (p : KeptDesktop × Result Desktop ℕ). IsAnswered H old old d p.0 (outcome_after (seen old d) p.1) Done)
      (λ k. (
        record after { written = same k },
        (ap (λ (y : Desktop). (let r : Result Desktop ℕ = Ok y in r)) (none_more outcome) ∙ sym copied_seen) k,
      )) answered

  pub copied_full : ((characters : List ℕ) (text : Text ℕ) → length text ≡ length (flat menu)
      → fits (without_unshown (more_written (opening_on (seen characters d) text viewer.main viewer.org cell) 0)) ≡ false)
      → IsAnswered H old old d d (outcome_after (seen old d) (viewer_copied (seen old d) v)) (No full)
  copied_full unfit =
      unfit_answered H old d (viewer_copied (seen old d) v) outcome over copied_seen
      (ap (λ (y : Desktop). fits (without_unshown y)) (sym (none_more outcome))
      ∙ unfit old (text_of (seen old d) viewer.menu) (ap length (sym copy_read) ∙ length_seen_text old menu))

-- ---- the log

module _ (H : Type 0) (old : List ℕ) (d : KeptDesktop) (menu : List ℕ) (cell : ℕ × ℕ) (over : IsOver old d)
    (line : menu ≡ menu_line (bytes "System.Log")) (is : cell ≡ allocated d.columns System d.marker) where
  log_row : log_opened (seen old d) ≡ more_written (opening_on (seen old d) (plain_text menu) 0 0 cell) (length menu)
  unfolding log_opened seen
  log_row = λ k. more_written (opening_on (seen old d) (plain_text (sym line k)) 0 0 (sym is k)) (length (sym line k))

  pub log_full : fits (without_unshown (more_written (opening_on (seen old d) (plain_text menu) 0 0 cell) (length menu))) ≡ false
      → IsAnswered H old old d d (outcome_after (seen old d) (Ok (log_opened (seen old d)))) (No full)
  log_full unfit =
      unfit_answered H old d (Ok (log_opened (seen old d))) _ over (λ k. Ok (log_row k)) unfit

  pub log_answered : (new : List ℕ) (pieces : List Piece) → new ≡ old ++ menu
      → flat pieces ≡ run d.written (length menu) default_look → PlacesOpened d.columns (new_id d) cell
      → ((characters : List ℕ) (text : Text ℕ) → length text ≡ length menu
      → fits (without_unshown (more_written (opening_on (seen characters d) text 0 0 cell) (length menu))) ≡ true)
      → IsAnswered H old new d
      (record (without_unshown (opening_on d pieces 0 0 cell)) { written = d.written + length menu })
      (outcome_after (seen old d) (Ok (log_opened (seen old d)))) Done
  log_answered new pieces grown made places fit =
      subst (λ (row : Desktop). IsAnswered H old new d
      (record (without_unshown (opening_on d pieces 0 0 cell)) { written = d.written + length menu })
      (outcome_after (seen old d) (Ok row)) Done) (sym log_row)
      (written_answered H old menu new d pieces cell over grown made places 0 0
      (λ characters. log_can (seen characters d) (over.whole.sound characters).shaped) fit)

-- ---- a copy of a file

or_empty : (characters : List ℕ) (found : Option (List Piece))
    → unwrap_or (option_map (seen_text characters) found) [] ≡ seen_text characters (unwrap_or found [])
or_empty characters None = refl
or_empty characters (Some text) = refl

needs_none : (found : Option (Text ℕ)) (f : Text ℕ → Result Desktop ℕ) → is_some found ≡ false
    → needs found no_file f ≡ Err no_file
needs_none None f none = refl
needs_none (Some text) f none = absurd cc

needs_some : (found : Option (Text ℕ)) (f : Text ℕ → Result Desktop ℕ) → is_some found ≡ true
    → needs found no_file f ≡ f (unwrap_or found [])
needs_some None f some = absurd cc
needs_some (Some text) f some = refl

or_none_within : (n : ℕ) (found : Option (List Piece)) → IfSome found (λ pieces. AreWithin n (flat pieces))
    → AreWithin n (flat (unwrap_or found []))
or_none_within n None holds = λ i d low. absurd (omega (arith, low))
or_none_within n (Some text) holds = holds

-- a file that is there, or an empty text
abbrev pub kept_file : KeptDesktop → List ℕ → List Piece
kept_file d name = unwrap_or (file_named d.files name) []

pub file_within : (d : KeptDesktop) (name : List ℕ) → IsKeptWhole d → AreWithin d.written (flat (kept_file d name))
file_within d name whole = or_none_within d.written (file_named d.files name)
    (IfSome-lookup_from_All (λ pieces. AreWithin d.written (flat pieces)) (is_at (name_cmp name)) d.files
    whole.within.files)

pub file_looks : (d : KeptDesktop) (name : List ℕ) → IsKeptWhole d → AreLooks (flat (kept_file d name))
file_looks d name whole =
    found_looks (is_at (name_cmp name)) d.files (kept_files_looks d.written d (whole_built d whole))

module _ (old : List ℕ) (d : KeptDesktop) (name : List ℕ) where
  -- the file as it is seen
  abbrev file : Text ℕ
  file = unwrap_or (file_of (seen old d) name) []

  file_read : file ≡ seen_text old (kept_file d name)
  unfolding file_of seen
  file_read = ap (λ (o : Option (Text ℕ)). unwrap_or o []) (lookup_seen (seen_text old) (is_at (name_cmp name)) d.files)
      ∙ or_empty old (file_named d.files name)

  file_there : is_some (file_of (seen old d) name) ≡ is_some (file_named d.files name)
  unfolding file_of seen
  file_there = ap is_some (lookup_seen (seen_text old) (is_at (name_cmp name)) d.files)
      ∙ is_some_map (seen_text old) (file_named d.files name)

  pub file_missing : is_some (file_named d.files name) ≡ false → file_opened (seen old d) name ≡ Err no_file
  unfolding file_opened
  file_missing none = needs_none (file_of (seen old d) name) _ (file_there ∙ none)

  pub file_row : (at : ℕ × ℕ) → is_some (file_named d.files name) ≡ true → at ≡ allocated d.columns System d.marker
      → file_opened (seen old d) name ≡ Ok (opened_on_copy (seen old d) name file at)
  unfolding file_opened seen
  file_row at some is = needs_some (file_of (seen old d) name) _ (file_there ∙ some)
      ∙ (λ k. Ok (opened_on_copy (seen old d) name file (sym is k)))

  pub document_row : (at : ℕ × ℕ) → at ≡ allocated d.columns User d.marker
      → document_opened (seen old d) name ≡ opened_on_copy (seen old d) name file at
  unfolding document_opened seen
  document_row at is = λ k. opened_on_copy (seen old d) name file (sym is k)

  module _ (x y : ℕ) (tool : name ≡ bytes "System.Tool") where
    pub tool_missing : is_some (file_named d.files name) ≡ false → tool_opened (seen old d) x y ≡ Err no_file
    unfolding tool_opened
    tool_missing none =
        (λ k. needs (file_of (seen old d) (sym tool k)) no_file (λ text. Ok (opened_on_copy
        (seen old d) (sym tool k) text (x, y + 1))))
        ∙ needs_none (file_of (seen old d) name) _ (file_there ∙ none)

    pub tool_row : is_some (file_named d.files name) ≡ true
        → tool_opened (seen old d) x y ≡ Ok (opened_on_copy (seen old d) name file (x, y + 1))
    unfolding tool_opened
    tool_row some =
        (λ k. needs (file_of (seen old d) (sym tool k)) no_file (λ text. Ok (opened_on_copy
        (seen old d) (sym tool k) text (x, y + 1))))
        ∙ needs_some (file_of (seen old d) name) _ (file_there ∙ some)

  module _ (menu : List ℕ) (line : menu ≡ menu_line name) (cell : ℕ × ℕ) where
    pub copy_row : (main : List Piece) → flat main ≡ flat (kept_file d name)
        → opened_on_copy (seen old d) name file cell
        ≡ more_written (after_opening (seen old d) (plain_text menu) (seen_text old main) cell) (length menu)
    copy_row main is =
        (λ k. more_written (after_opening (seen old d) (plain_text (sym line k)) (file_read k) cell) (length (sym line k)))
        ∙ (λ k. more_written (after_opening (seen old d) (plain_text menu) (contents old (sym is k)) cell) (length menu))

    pub copy_full : (H : Type 0) → IsOver old d
        → ((characters : List ℕ) (menu_text main_text : Text ℕ) → length menu_text ≡ length menu
        → length main_text ≡ length (flat (kept_file d name))
        → fits (without_unshown (more_written (after_opening (seen characters d) menu_text main_text cell) (length menu))) ≡ false)
        → IsAnswered H old old d d (outcome_after (seen old d) (Ok (opened_on_copy (seen old d) name file cell))) (No full)
    copy_full H over unfit =
        unfit_answered H old d (Ok (opened_on_copy (seen old d) name file cell)) _ over
        (λ k. Ok (copy_row (kept_file d name) refl k))
        (unfit old (plain_text menu) (seen_text old (kept_file d name)) (length_in_look default_look menu)
        (length_seen_text old (kept_file d name)))
