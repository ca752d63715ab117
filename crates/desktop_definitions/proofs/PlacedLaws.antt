-- Laws of outcomes where viewers are placed anew: the desktop that is kept, as it is seen, and that the limits hold.
use Rattle.std.specs.Prelude.{◌≡◌, ◌≤◌, ℕ, ◌+◌, Bool, true, false, cond, IsTrue, All, List, [], ◌∷◌, filter}
use Rattle.std.specs.Prelude.{Option, Some, None, Ok}
use Rattle.std.specs.Map.{keys_of, values_of}
use Rattle.std.proofs.Common.{refl, sym, ap, subst, ◌∙◌, arith}
use Rattle.std.proofs.lemmas.Bool.{le-leb, eq-eqb}
use Rattle.std.proofs.lemmas.List.Elements.{All-cons, All-tail}
use Rattle.std.proofs.lemmas.Map.Made.{keys_of-map_values}
use Rattle.piece_ring.specs.declared.piece.Piece.{Piece}
use Rattle.piece_ring.specs.Flat.{flat}
use Rattle.piece_ring.specs.Text.{AreWithin}
use Rattle.viewer_tracks.specs.Columns.{Columns, IsColumns, IsPlaced, IsOnTop, times_placed, times_meant}
use Rattle.viewer_tracks.specs.Columns.{columns_changed as columns_changed, after_close, after_open, replaced_at}
use Rattle.viewer_tracks.proofs.ColumnLemmas.{close_keeps}
use Rattle.viewer_tracks.proofs.PlacedLemmas.{open_shows, change_shows, close_shows}
use Rattle.desktop_definitions.specs.declared.reply.Reply.TheVariants.{Done}
use Rattle.desktop_definitions.specs.Limits.{most_written, most_held}
use Rattle.desktop_definitions.specs.Tables.{Texts, with_values}
use Rattle.desktop_definitions.specs.Desktop.{DesktopOf, Desktop, KeptDesktop, characters_held}
use Rattle.desktop_definitions.specs.Viewers.{without_viewer, opened_at}
use Rattle.desktop_definitions.specs.Opening.{is_shown, without_unshown}
use Rattle.desktop_definitions.specs.Gesture.{resized, after_move}
use Rattle.desktop_definitions.specs.Seen.{seen, seen_text}
use Rattle.desktop_definitions.specs.Step.{fits, outcome_after, outcome_of}
use Rattle.desktop_definitions.specs.Sound.{AllWithin, IsWithin, IsSound, IsOver}
use Rattle.desktop_definitions.specs.Outcome.{IsAnswered}
use Rattle.desktop_definitions.proofs.OutcomeLaws.{acted}
use Rattle.desktop_definitions.proofs.PlaceLaws.{IsPlacedAnew, placed_anew, anew_shaped, none_comes, dropped_shaped}
use Rattle.desktop_definitions.proofs.PlaceLaws.{dropped_shown, dropped_held, all_shown, StandStill}

-- ---- what is done to the desktop that is kept is done to what is seen

pub filter_seen : {T U : Type 0} (f : T → U) (test : ℕ → Bool) (es : Texts T)
    → with_values f (filter (λ e. test e.0) es) ≡ filter (λ e. test e.0) (with_values f es)
filter_seen f test [] = refl
filter_seen {T} {U} f test (e ∷ es) = elim (test e.0) as
    (λ b. with_values f (let l : Texts T = cond b (e ∷ filter (λ e. test e.0) es) (filter (λ e. test e.0) es) in l)
    ≡ (let l : Texts U = cond b ((e.0, f e.1) ∷ filter (λ e. test e.0) (with_values f es))
    (filter (λ e. test e.0) (with_values f es)) in l)) [
      | true ↦ ap (λ (l : Texts U). (e.0, f e.1) ∷ l) (filter_seen f test es)
      | false ↦ filter_seen f test es
    ]

pub seen_dropped : (characters : List ℕ) (d : KeptDesktop) → seen characters (without_unshown d) ≡ without_unshown (seen characters d)
unfolding seen without_unshown
seen_dropped characters d = λ k. record (seen characters d) {
  texts = filter_seen (seen_text characters) (is_shown d.viewers) d.texts k;
}

pub seen_anew : (characters : List ℕ) (d : KeptDesktop) (columns : Columns) (taken : Option ℕ)
    → seen characters (placed_anew d columns taken) ≡ placed_anew (seen characters d) columns taken
unfolding seen
seen_anew characters d columns None = refl
seen_anew characters d columns (Some g) = refl

-- ---- characters within

within_filter : (n : ℕ) (test : ℕ → Bool) (texts : Texts (List Piece)) → AllWithin n texts
    → AllWithin n (filter (λ e. test e.0) texts)
within_filter n test [] all = all
within_filter n test (e ∷ es) all =
    let rest = within_filter n test es (All-tail (λ pieces. AreWithin n (flat pieces)) e.1 (values_of es) all) in
    elim (test e.0) as
    (λ b. AllWithin n
    (let l : Texts (List Piece) = cond b (e ∷ filter (λ e. test e.0) es) (filter (λ e. test e.0) es) in l)) [
      | true ↦ All-cons (λ pieces. AreWithin n (flat pieces)) e.1 (values_of (filter (λ e. test e.0) es))
          (all 0 e.1 (omega arith)) rest
      | false ↦ rest
    ]

pub dropped_within : (n : ℕ) (d : KeptDesktop) → IsWithin n d → IsWithin n (without_unshown d)
unfolding without_unshown
dropped_within n d within = record {
  texts = within_filter n (is_shown d.viewers) d.texts within.texts;
  files = within.files;
  copied = within.copied;
  deleted = within.deleted;
}

pub anew_within : (n : ℕ) (d : KeptDesktop) (columns : Columns) (taken : Option ℕ) → IsWithin n d
    → IsWithin n (placed_anew d columns taken)
anew_within n d columns None within = record {
  texts = within.texts;
  files = within.files;
  copied = within.copied;
  deleted = within.deleted;
}
anew_within n d columns (Some g) within = record {
  texts = within.texts;
  files = within.files;
  copied = within.copied;
  deleted = within.deleted;
}

-- ---- nothing is written or made

pub anew_written : {T : Type 0} (d : DesktopOf T) (columns : Columns) (taken : Option ℕ)
    → (placed_anew d columns taken).written ≡ d.written
anew_written d columns None = refl
anew_written d columns (Some g) = refl

pub anew_held : (d : Desktop) (columns : Columns) (taken : Option ℕ) → characters_held (placed_anew d columns taken) ≡ characters_held d
unfolding characters_held
anew_held d columns None = refl
anew_held d columns (Some g) = refl

pub dropped_written : {T : Type 0} (d : DesktopOf T) → (without_unshown d).written ≡ d.written
unfolding without_unshown
dropped_written d = refl

-- ---- the limits

pub fits_within : (d : Desktop) → d.written ≤ most_written → characters_held d ≤ most_held → fits d ≡ true
fits_within d written all = rw (le-leb d.written most_written written, le-leb (characters_held d) most_held all) refl

pub done : (d new : Desktop) → fits (without_unshown new) ≡ true → outcome_of (without_unshown new) Done ≡ outcome_after d (Ok new)
unfolding outcome_after
done d new fit = rw fit refl

-- ---- the outcome

-- a desktop in which no more characters count as written, and of which it is known what is seen
pub over_after : (old : List ℕ) (d after : KeptDesktop) (now : List ℕ → Desktop) → IsOver old d
    → after.written ≡ d.written → IsWithin d.written after
    → ((characters : List ℕ) → seen characters after ≡ now characters)
    → ((characters : List ℕ) → IsSound (now characters)) → IsOver old after
over_after old d after now over written within seen_now sound = record {
  counted = over.counted ∙ sym written;
  whole = record {
    within = subst (λ n. IsWithin n after) (sym written) within;
    sound = λ characters. subst IsSound (sym (seen_now characters)) (sound characters);
  };
}

module _ (H : Type 0) (old : List ℕ) (d : KeptDesktop) (columns : Columns) (taken : Option ℕ) (over : IsOver old d)
    (anew : (characters : List ℕ) → IsPlacedAnew (seen characters d) columns taken) where
  abbrev after : KeptDesktop
  after = without_unshown (placed_anew d columns taken)

  seen_after : (characters : List ℕ) → seen characters after ≡ without_unshown (placed_anew (seen characters d) columns taken)
  seen_after characters = seen_dropped characters (placed_anew d columns taken)
      ∙ ap without_unshown (seen_anew characters d columns taken)

  written_after : after.written ≡ d.written
  written_after = dropped_written (placed_anew d columns taken) ∙ anew_written d columns taken

  module _ (characters : List ℕ) where
    abbrev now : Desktop
    now = without_unshown (placed_anew (seen characters d) columns taken)

    written_now : now.written ≤ most_written
    unfolding seen
    written_now =
        let same : now.written ≡ d.written
        = dropped_written (placed_anew (seen characters d) columns taken)
        ∙ anew_written (seen characters d) columns taken in
        let low = (over.whole.sound characters).written_within in
        omega (arith, same, low)

    held_now : characters_held now ≤ most_held
    held_now =
        let fewer = dropped_held (placed_anew (seen characters d) columns taken) in
        let same = anew_held (seen characters d) columns taken in
        let low = (over.whole.sound characters).held_within in
        omega (arith, fewer, same, low)

    sound_now : IsSound now
    sound_now = record {
      shaped = dropped_shaped _ (anew_shaped (seen characters d) columns taken (anew characters));
      shown = dropped_shown (placed_anew (seen characters d) columns taken);
      written_within = written_now;
      held_within = held_now;
    }

  anew_over : IsOver old after
  anew_over = over_after old d after now over written_after
      (dropped_within d.written (placed_anew d columns taken)
      (anew_within d.written d columns taken over.whole.within)) seen_after sound_now

  pub anew_answered : IsAnswered H old old d after (outcome_after (seen old d) (Ok (placed_anew
      (seen old d) columns taken))) Done
  anew_answered = acted H old old d after _ anew_over
      (λ h. (λ k. outcome_of (seen_after old k) Done)
      ∙ done (seen old d) (placed_anew (seen old d) columns taken)
      (fits_within (now old) (written_now old) (held_now old)))

-- ---- where nobody comes

pub at_columns : {T : Type 0} (d : DesktopOf T) (columns : Columns) (taken : Option ℕ)
    → without_viewer (record d { columns = columns }) taken ≡ placed_anew d columns taken
at_columns d columns None = refl
at_columns d columns (Some g) = refl

module _ {T : Type 0} (d : DesktopOf T) (v : ℕ) where
  pub resized_is : (y : ℕ) → resized d v y ≡ placed_anew d (columns_changed d.columns v (y + 1)) None
  unfolding resized
  resized_is y = refl

  at_closed : (closed columns : Columns) (taken : Option ℕ)
      → placed_anew (record d { columns = closed }) columns taken ≡ placed_anew d columns taken
  at_closed closed columns None = refl
  at_closed closed columns (Some g) = refl

  pub carried_is : (x y : ℕ) → after_move d v x y ≡ placed_anew d (after_open (after_close d.columns v) v x (y + 1))
      (replaced_at (after_close d.columns v) x (y + 1))
  unfolding after_move opened_at
  carried_is x y = at_closed (after_close d.columns v) _ _

-- who is shown still is after a viewer of a shown track was changed, and after it was carried elsewhere
pub change_stays : (c : Columns) (v y : ℕ) → IsColumns c → IsOnTop v c → StandStill c (columns_changed c v y) None
change_stays c v y hold placed w = let same = change_shows c v y w hold placed in omega (arith, same)

pub carry_stays : (c : Columns) (v x y : ℕ) → IsColumns c → IsOnTop v c
    → StandStill c (after_open (after_close c v) v x y) (replaced_at (after_close c v) x y)
carry_stays c v x y hold placed w =
    let closed = close_shows c v w hold placed in
    let opened = open_shows (after_close c v) v x y w (close_keeps c v hold placed) in
    omega (arith, closed, opened)

-- what the laws of the tracks say of one edit
pub record PlacesKept (old new : Columns) (taken : Option ℕ) : Type 0 where
  pub hold : IsColumns new
  pub places : (w : ℕ) → times_placed w new + times_meant w taken ≡ times_placed w old

pub closed_fresh : (old closed : Columns) (v : ℕ) → IsColumns old
    → times_placed v closed + times_meant v (Some v) ≡ times_placed v old → ¬ IsPlaced v closed
closed_fresh old closed v hold sum placed =
    let one = hold.once v in
    let meant : times_meant v (Some v) ≡ 1 = rw (eq-eqb v v refl) refl in
    absurd (omega (arith, sum, placed, one, meant))

pub over_columns : (characters : List ℕ) (d : KeptDesktop) → IsOver characters d → IsColumns d.columns
unfolding seen
over_columns characters d over = (over.whole.sound characters).shaped.places.columns_hold

-- each text of a desktop that is kept is shown
pub over_shown : (characters : List ℕ) (d : KeptDesktop) → IsOver characters d
    → All (λ n. IsTrue (is_shown d.viewers n)) (keys_of d.texts)
unfolding seen
over_shown characters d over = subst (λ (ks : List ℕ). All (λ n. IsTrue (is_shown d.viewers n)) ks)
    (keys_of-map_values (seen_text []) d.texts) (over.whole.sound []).shown

module _ (H : Type 0) (old : List ℕ) (d : KeptDesktop) (over : IsOver old d) where
  nobody : (columns : Columns) (taken : Option ℕ) → PlacesKept d.columns columns taken
      → StandStill d.columns columns taken → (characters : List ℕ) → IsPlacedAnew (seen characters d) columns taken
  unfolding seen
  nobody columns taken places stay characters =
      none_comes (seen characters d) columns taken (over.whole.sound characters).shaped places.hold places.places stay

  abbrev answered : KeptDesktop × Desktop → Type 0
  answered both = IsAnswered H old old d both.0 (outcome_after (seen old d) (Ok both.1)) Done

  hold : IsColumns d.columns
  hold = over_columns old d over

  pub resized_answered : (v y : ℕ) → IsOnTop v d.columns
      → PlacesKept d.columns (columns_changed d.columns v (y + 1)) None
      → answered (resized d v y, resized (seen old d) v y)
  unfolding resized seen
  resized_answered v y placed places = subst answered
      (λ k. (
        all_shown (record d { columns = columns_changed d.columns v (y + 1) }) (over_shown old d over) k,
        resized (seen old d) v y,
      ))
      (anew_answered H old d (columns_changed d.columns v (y + 1)) None over
      (nobody _ None places (change_stays d.columns v (y + 1) hold placed)))

  pub carried_answered : (v x y : ℕ) → IsOnTop v d.columns
      → PlacesKept d.columns (after_open (after_close d.columns v) v x (y + 1))
      (replaced_at (after_close d.columns v) x (y + 1))
      → answered (without_unshown (after_move d v x y), after_move (seen old d) v x y)
  unfolding seen
  carried_answered v x y placed places = subst answered
      (λ k. (without_unshown (sym (carried_is d v x y) k), sym (carried_is (seen old d) v x y) k))
      (anew_answered H old d _ _ over (nobody _ _ places (carry_stays d.columns v x (y + 1) hold placed)))
