-- Laws of viewers that close and are recalled: a closed one has its place still and loses its marks, and a recalled
-- one stands where it stood.
use Rattle.std.specs.Prelude.{◌≡◌, ◌≤◌, ℕ, ◌+◌, ◌==◌, Bool, true, false, List}
use Rattle.std.specs.Prelude.{if◌then◌else◌, Option, Some, None, option_map, Ok}
use Rattle.std.proofs.Common.{refl, sym, ap, subst, ◌∙◌, arith}
use Rattle.std.proofs.lemmas.Bool.{eqb-false, eq-eqb, ne_eqb}
use Rattle.viewer_tracks.specs.Columns.{Columns, IsColumns, IsPlaced, IsOnTop, times_placed, times_meant}
use Rattle.viewer_tracks.specs.Columns.{after_close, after_open, replaced_at}
use Rattle.viewer_tracks.proofs.PlacedLemmas.{open_shows, close_shows}
use Rattle.viewer_tracks.specs.Display.{left_of}
use Rattle.desktop_definitions.specs.declared.viewer.Caret.{Caret}
use Rattle.desktop_definitions.specs.declared.viewer.Selection.{Selection}
use Rattle.desktop_definitions.specs.declared.viewer.ClosedViewer.{ClosedViewer}
use Rattle.desktop_definitions.specs.declared.reply.Reply.TheVariants.{Done, No}
use Rattle.desktop_definitions.specs.Limits.{most_written, most_held, no_viewer}
use Rattle.desktop_definitions.specs.Needs.{needs}
use Rattle.desktop_definitions.specs.Desktop.{DesktopOf, Desktop, KeptDesktop, characters_held}
use Rattle.desktop_definitions.specs.Viewers.{main_length, caret_outside, selections_outside, without_viewer, unmarked}
use Rattle.desktop_definitions.specs.Viewers.{opened_at}
use Rattle.desktop_definitions.specs.Opening.{without_unshown}
use Rattle.desktop_definitions.specs.Effects.{put_away, brought_back}
use Rattle.desktop_definitions.specs.Seen.{seen}
use Rattle.desktop_definitions.specs.Step.{outcome_after, outcome_of}
use Rattle.desktop_definitions.specs.Sound.{IsClosedPlace, IsShaped, IsSound, IsWithin, IsOver}
use Rattle.desktop_definitions.specs.Outcome.{IsAnswered}
use Rattle.desktop_definitions.proofs.OutcomeLaws.{acted}
use Rattle.desktop_definitions.proofs.KeyLaws.{refusal_answered, row_as}
use Rattle.desktop_definitions.proofs.PlaceLaws.{IsPlacedAnew, placed_anew, anew_shaped, dropped_shaped, dropped_shown}
use Rattle.desktop_definitions.proofs.PlaceLaws.{dropped_held, marks_outside}
use Rattle.desktop_definitions.proofs.PlacedLaws.{seen_dropped, seen_anew, dropped_within, anew_within, anew_written}
use Rattle.desktop_definitions.proofs.PlacedLaws.{anew_held, dropped_written, done, fits_within, at_columns, over_after}
use Rattle.desktop_definitions.proofs.RowLaws.{known_no_viewer}
use Rattle.desktop_definitions.proofs.LookedLaws.{looks_stay}
use Rattle.desktop_definitions.specs.DeskWords.{place_closed}

-- ---- viewers that stand elsewhere

-- a desktop with other columns and marks, and with another closed viewer
abbrev pub restood : {T : Type 0} → DesktopOf T → Columns → Option Caret → List Selection → Option ClosedViewer → DesktopOf T
restood d columns caret selections closed =
    record d { columns = columns; caret = caret; selections = selections; closed = closed }

module _ (H : Type 0) (old : List ℕ) (d : KeptDesktop) (over : IsOver old d) (stood : Columns) (caret : Option Caret)
    (selections : List Selection) (closed : Option ClosedViewer) (columns : Columns) (taken : Option ℕ)
    (anew : (characters : List ℕ)
    → IsPlacedAnew (restood (seen characters d) stood caret selections closed) columns taken) where
  abbrev between : KeptDesktop
  between = restood d stood caret selections closed

  abbrev after : KeptDesktop
  after = without_unshown (placed_anew between columns taken)

  abbrev part : List ℕ → Desktop
  part characters = placed_anew (restood (seen characters d) stood caret selections closed) columns taken

  seen_after : (characters : List ℕ) → seen characters after ≡ without_unshown (part characters)
  unfolding seen
  seen_after characters = seen_dropped characters (placed_anew between columns taken)
      ∙ ap without_unshown (seen_anew characters between columns taken)

  written_after : after.written ≡ d.written
  written_after = dropped_written (placed_anew between columns taken) ∙ anew_written between columns taken

  module _ (characters : List ℕ) where
    written_now : (without_unshown (part characters)).written ≤ most_written
    unfolding seen
    written_now =
        let same : (without_unshown (part characters)).written ≡ d.written = dropped_written (part characters)
        ∙ anew_written (restood (seen characters d) stood caret selections closed) columns taken in
        let low = (over.whole.sound characters).written_within in
        omega (arith, same, low)

    held_now : characters_held (without_unshown (part characters)) ≤ most_held
    unfolding characters_held
    held_now =
        let fewer = dropped_held (part characters) in
        let same = anew_held (restood (seen characters d) stood caret selections closed) columns taken in
        let low = (over.whole.sound characters).held_within in
        omega (arith, fewer, same, low)

    sound_now : IsSound (without_unshown (part characters))
    sound_now = record {
      shaped = dropped_shaped _ (anew_shaped (restood (seen characters d) stood caret selections closed) columns taken
          (anew characters));
      shown = dropped_shown (part characters);
      written_within = written_now;
      held_within = held_now;
    }

  between_within : IsWithin d.written between
  between_within = record {
    texts = over.whole.within.texts;
    files = over.whole.within.files;
    copied = over.whole.within.copied;
    deleted = over.whole.within.deleted;
  }

  restood_over : IsOver old after
  restood_over = over_after old d after (λ characters. without_unshown (part characters)) over written_after
      (dropped_within d.written (placed_anew between columns taken)
      (anew_within d.written between columns taken between_within)) seen_after sound_now

  pub restood_answered : IsAnswered H old old d after (outcome_after (seen old d) (Ok (part old))) Done
  restood_answered = acted H old old d after _ restood_over
      (λ h. (λ k. outcome_of (seen_after old k) Done)
      ∙ done (seen old d) (part old) (fits_within (without_unshown (part old)) (written_now old) (held_now old)))

-- ---- a viewer closes

module _ {T : Type 0} (d : DesktopOf T) (v : ℕ) where
  abbrev pub closed_columns : Columns
  closed_columns = after_close d.columns v

  -- its place is left, its marks are gone, and it is the closed viewer
  abbrev pub closed_desktop : DesktopOf T
  closed_desktop = restood d closed_columns (caret_outside (λ w. w == v) d.caret)
      (selections_outside (λ w. w == v) d.selections) (Some (place_closed d.columns v))

  abbrev pub closed_before : Option ℕ
  closed_before = option_map (λ k. k.viewer) d.closed

  gone_and_closed : (taken : Option ℕ)
      → placed_anew closed_desktop closed_columns taken
      ≡ record (without_viewer (unmarked (λ w. w == v) d) taken) {
        columns = closed_columns;
        closed = Some (place_closed d.columns v);
      }
  gone_and_closed None = refl
  gone_and_closed (Some g) = refl

  pub put_away_is : placed_anew closed_desktop closed_columns closed_before ≡ put_away d v
  unfolding put_away
  put_away_is = gone_and_closed closed_before

module _ (d : Desktop) (v : ℕ) (shaped : IsShaped d) (placed : IsOnTop v d.columns)
    (hold : IsColumns (after_close d.columns v))
    (places : (w : ℕ) → times_placed w (after_close d.columns v) + times_meant w (Some v) ≡ times_placed w d.columns)
    (place : IsClosedPlace (place_closed d.columns v)) where
  still_on_top : (w : ℕ) → ¬ (w ≡ v) → IsOnTop w d.columns → IsOnTop w (after_close d.columns v)
  still_on_top w other top =
      let apart : times_meant w (Some v) ≡ 0 = rw (ne_eqb v w (λ same. other (sym same))) refl in
      let stay = close_shows d.columns v w shaped.places.columns_hold placed in
      omega (arith, stay, apart, top)

  pub closed_anew : IsPlacedAnew (closed_desktop d v) (closed_columns d v) (closed_before d v)
  closed_anew = record {
    viewers = shaped.viewers;
    marks = marks_outside (λ w. w == v) d.columns (after_close d.columns v) (main_length d.texts d.viewers)
        (main_length d.texts d.viewers) (λ w out. still_on_top w (eqb-false w v out)) (λ w out top. refl) d.caret
        d.selections shaped.marks;
    marker = shaped.marker;
    files = shaped.files;
    pattern = shaped.pattern;
    looks = looks_stay shaped.looks refl;
    closed_place = λ k here. let same : place_closed d.columns v ≡ k = cc here in subst IsClosedPlace same place;
    columns_hold = hold;
    once = λ w. let before = shaped.places.once w in let now = places w in omega (arith, before, now);
    stay = λ w. omega arith;
  }

module _ (H : Type 0) (old : List ℕ) (d : KeptDesktop) (over : IsOver old d) (v : ℕ) (placed : IsOnTop v d.columns)
    (hold : IsColumns (after_close d.columns v))
    (places : (w : ℕ) → times_placed w (after_close d.columns v) + times_meant w (Some v) ≡ times_placed w d.columns)
    (place : IsClosedPlace (place_closed d.columns v)) where
  pub closed_answered : (now : KeptDesktop)
      → now ≡ without_unshown (without_viewer (closed_desktop d v) (closed_before d v))
      → IsAnswered H old old d now (outcome_after (seen old d) (Ok (put_away (seen old d) v))) Done
  unfolding seen
  closed_answered now is =
      subst (λ (x : KeptDesktop). IsAnswered H old old d x (outcome_after (seen old d) (Ok (put_away (seen old d) v))) Done)
      (sym (is ∙ ap without_unshown (at_columns (closed_desktop d v) (closed_columns d v) (closed_before d v))))
      (subst (λ (row : Desktop). IsAnswered H old old d
      (without_unshown (placed_anew (closed_desktop d v) (closed_columns d v) (closed_before d v)))
      (outcome_after (seen old d) (Ok row)) Done) (put_away_is (seen old d) v)
      (restood_answered H old d over (closed_columns d v) (caret_outside (λ w. w == v) d.caret)
      (selections_outside (λ w. w == v) d.selections) (Some (place_closed d.columns v)) (closed_columns d v)
      (closed_before d v)
      (λ all. closed_anew (seen all d) v (over.whole.sound all).shaped placed hold places place)))

-- ---- the closed viewer is recalled

one_place : (found : Bool) (there : ℕ) → there ≡ (if found then 1 else 0) → there ≤ 1
one_place true there is = omega (arith, is)
one_place false there is = omega (arith, is)

-- it stands nowhere
pub closed_nowhere : (d : Desktop) (k : ClosedViewer) → IsShaped d → d.closed ≡ Some k → ¬ IsPlaced k.viewer d.columns
closed_nowhere d k shaped is placed =
    let one = one_place _ _ (shaped.places.once k.viewer) in
    let meant : times_meant k.viewer (option_map (λ x. x.viewer) d.closed) ≡ 1
    = ap (λ (o : Option ClosedViewer). times_meant k.viewer (option_map (λ x. x.viewer) o)) is
    ∙ rw (eq-eqb k.viewer k.viewer refl) refl in
    absurd (omega (arith, one, meant, placed))

module _ {T : Type 0} (d : DesktopOf T) (k : ClosedViewer) where
  abbrev pub recalled_columns : Columns
  recalled_columns = after_open d.columns k.viewer (left_of k.track) k.top

  -- whose whole place it takes
  abbrev pub replaced_by_closed : Option ℕ
  replaced_by_closed = replaced_at d.columns (left_of k.track) k.top

  pub brought_back_is : placed_anew (restood d d.columns d.caret d.selections None) recalled_columns replaced_by_closed
      ≡ brought_back d k
  unfolding brought_back opened_at
  brought_back_is = refl

module _ (d : Desktop) (k : ClosedViewer) (shaped : IsShaped d) (is : d.closed ≡ Some k)
    (hold : IsColumns (recalled_columns d k))
    (places : (w : ℕ) → times_placed w (recalled_columns d k) + times_meant w (replaced_by_closed d k)
    ≡ times_placed w d.columns + times_meant w (Some k.viewer)) where
  pub recalled_anew : IsPlacedAnew (restood d d.columns d.caret d.selections None) (recalled_columns d k)
      (replaced_by_closed d k)
  recalled_anew = record {
    viewers = shaped.viewers;
    marks = shaped.marks;
    marker = shaped.marker;
    files = shaped.files;
    pattern = shaped.pattern;
    looks = looks_stay shaped.looks refl;
    closed_place = λ k here. absurd (cc here);
    columns_hold = hold;
    once = λ w.
        let before = shaped.places.once w in
        let now = places w in
        let meant : times_meant w (option_map (λ x. x.viewer) d.closed) ≡ times_meant w (Some k.viewer)
        = ap (λ (o : Option ClosedViewer). times_meant w (option_map (λ x. x.viewer) o)) is in
        omega (arith, before, now, meant);
    stay = λ w.
        let now = open_shows d.columns k.viewer (left_of k.track) k.top w shaped.places.columns_hold in
        omega (arith, now);
  }

module _ (H : Type 0) (old : List ℕ) (d : KeptDesktop) (over : IsOver old d) where
  -- a refusal where there is none
  pub none_closed_answered : d.closed ≡ None
      → IsAnswered H old old d d (outcome_after (seen old d) (needs (seen old d).closed no_viewer
      (λ k. Ok (brought_back (seen old d) k)))) (No no_viewer)
  unfolding seen
  none_closed_answered is = refusal_answered H old d _ no_viewer over known_no_viewer (rw is refl)

  pub recalled_answered : (k : ClosedViewer) → d.closed ≡ Some k → IsColumns (recalled_columns d k)
      → ((w : ℕ) → times_placed w (recalled_columns d k) + times_meant w (replaced_by_closed d k)
      ≡ times_placed w d.columns + times_meant w (Some k.viewer))
      → (now : KeptDesktop) → now ≡ without_unshown (brought_back d k)
      → IsAnswered H old old d now (outcome_after (seen old d) (needs (seen old d).closed no_viewer
      (λ k. Ok (brought_back (seen old d) k)))) Done
  unfolding seen
  recalled_answered k is hold places now now_is =
      row_as (seen old d) _
      (subst (λ (both : KeptDesktop × Desktop). IsAnswered H old old d both.0 (outcome_after (seen old d) (Ok both.1)) Done)
      (λ i. ((ap without_unshown (brought_back_is d k) ∙ sym now_is) i, brought_back_is (seen old d) k i))
      (restood_answered H old d over d.columns d.caret d.selections None (recalled_columns d k) (replaced_by_closed d k)
      (λ all. recalled_anew (seen all d) k (over.whole.sound all).shaped is hold places)))
      (rw is refl)

-- it may be opened in the columns
pub recalled_fresh : (old : List ℕ) (d : KeptDesktop) (k : ClosedViewer) → IsOver old d → d.closed ≡ Some k
    → ¬ IsPlaced k.viewer d.columns
unfolding seen
recalled_fresh old d k over is = closed_nowhere (seen old d) k (over.whole.sound old).shaped is
