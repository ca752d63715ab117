-- Laws of a viewer that grows: a second one on its text has a new track whole, over the one in which it stands.
use Rattle.std.specs.Prelude.{◌≡◌, ℕ, ◌+◌, ◌<◌, ◌≤◌, ◌==◌, ◌||◌, ◌&&◌, nat_lt, nat_le, Bool, true, false, IsTrue, All}
use Rattle.std.specs.Prelude.{List, [], length, None, Result, Ok, Err}
use Rattle.std.specs.List.{list_any}
use Rattle.std.specs.Map.{keys_of}
use Rattle.std.specs.Ordering.{nat_cmp}
use Rattle.std.proofs.Common.{refl, sym, ap, subst, ◌∙◌, arith, inr}
use Rattle.std.proofs.lemmas.Bool.{eq-eqb, lt-ltb, le-ltb}
use Rattle.std.proofs.lemmas.List.Elements.{All-weaker}
use Rattle.std.proofs.lemmas.Map.Views.{All-keys-insert_entry}
use Rattle.piece_ring.specs.declared.piece.Piece.{Piece}
use Rattle.piece_ring.specs.Flat.{flat}
use Rattle.piece_ring.specs.Text.{Text}
use Rattle.readers_scanners.specs.Reading.{contents}
use Rattle.viewer_tracks.specs.declared.display.TheConstants.{DEPTH}
use Rattle.viewer_tracks.specs.declared.display.Track.{Track}
use Rattle.viewer_tracks.specs.Display.{left_of}
use Rattle.viewer_tracks.specs.Columns.{IsOnTop, stack_of, track_of}
use Rattle.viewer_tracks.proofs.ColumnLemmas.{cover_keeps}
use Rattle.desktop_definitions.specs.declared.viewer.Viewer.{Viewer}
use Rattle.desktop_definitions.specs.declared.reply.Reply.TheVariants.{Done, No}
use Rattle.desktop_definitions.specs.Limits.{full, too_deep, most_written, most_held}
use Rattle.desktop_definitions.specs.Needs.{unless}
use Rattle.desktop_definitions.specs.Desktop.{Desktop, DesktopOf, KeptDesktop, characters_held}
use Rattle.desktop_definitions.specs.Viewers.{viewer_or_none, text_in, text_of, covered_by}
use Rattle.desktop_definitions.specs.Opening.{new_number, new_id, new_viewer, opening_over, is_shown, without_unshown}
use Rattle.desktop_definitions.specs.Effects.{viewer_grown}
use Rattle.desktop_definitions.specs.Seen.{seen, seen_text}
use Rattle.desktop_definitions.specs.Step.{fits, outcome_after}
use Rattle.desktop_definitions.specs.Sound.{IsOver}
use Rattle.desktop_definitions.specs.Outcome.{IsAnswered}
use Rattle.desktop_definitions.proofs.TableLaws.{length_seen_text}
use Rattle.desktop_definitions.proofs.StepLaws.{AllShown, all_stay, fits_by}
use Rattle.desktop_definitions.proofs.HeldLaws.{any_put}
use Rattle.desktop_definitions.proofs.PlaceLaws.{on_top_placed, all_shown}
use Rattle.desktop_definitions.proofs.PlacedLaws.{over_shown}
use Rattle.desktop_definitions.proofs.OpenLaws.{unused_none}
use Rattle.desktop_definitions.proofs.OpenedLaws.{over as over_track, left_at, shows_text, CanShow, held_opening_over}
use Rattle.desktop_definitions.proofs.OpeningDone.{new_fresh, whole_columns, written_over, on_answered}
use Rattle.desktop_definitions.proofs.OpeningOnLaws.{copy_opens, unfit_answered, viewer_can, none_more, or_more, stays_anyway}
use Rattle.desktop_definitions.proofs.RowPartLaws.{kept_text_seen}

-- ---- the limits

module _ (d : Desktop) (menu : Text ℕ) (main org : ℕ) (k : Track) where
  -- nobody's place is taken, so no text goes
  pub held_over : AllShown d → characters_held (without_unshown (opening_over d menu main org k)) ≡ characters_held d + length menu
  held_over all =
      held_opening_over d menu main org k (λ n there. stays_anyway d all main n None (inr refl) there)
      ∙ ap (λ (x : Desktop). characters_held x + length menu) (all_stay d all)

  pub fits_over : (written all : ℕ) → written ≡ d.written → all ≡ characters_held (without_unshown (opening_over d menu main org k))
      → (nat_le written most_written && nat_le all most_held) ≡ fits (without_unshown (opening_over d menu main org k))
  fits_over written all w h =
      fits_by (without_unshown (opening_over d menu main org k)) written all (w ∙ sym (written_over d menu main org k)) h

-- ---- each text is shown afterwards

-- the menu is the new viewer's
menu_is_shown : (n : ℕ) (a b c : Bool) → a || (((n == n) || b) || c) ≡ true
menu_is_shown n true b c = refl
menu_is_shown n false b c = λ k. (eq-eqb n n refl k || b) || c

module _ {X : Type 0} (d : DesktopOf (List X)) (menu : List X) (main org : ℕ) (k : Track) where
  shown_over : (n : ℕ) → is_shown (opening_over d menu main org k).viewers n
      ≡ (n == 0) || (shows_text n (new_viewer d main org) || list_any (λ e. shows_text n e.1) d.viewers)
  unfolding opening_over covered_by
  shown_over n = ap (λ b. (n == 0) || b)
      (any_put (shows_text n) (new_id d) (new_viewer d main org) d.viewers (unused_none d.viewers))

  all_shown_over : All (λ n. IsTrue (is_shown d.viewers n)) (keys_of d.texts)
      → All (λ n. IsTrue (is_shown (opening_over d menu main org k).viewers n)) (keys_of (opening_over d menu main org k).texts)
  unfolding opening_over covered_by
  all_shown_over all =
      let now : ℕ → Type 0 = λ n. IsTrue (is_shown (opening_over d menu main org k).viewers n) in
      All-keys-insert_entry nat_cmp (new_number d) menu now d.texts
      (All-weaker (λ n. IsTrue (is_shown d.viewers n)) now
      (λ n is. shown_over n ∙ or_more (n == 0) (shows_text n (new_viewer d main org)) _ is ∙ is) (keys_of d.texts) all)
      (shown_over (new_number d) ∙ menu_is_shown (new_number d) (new_number d == 0) (main == new_number d) _)

  -- so none goes
  pub none_goes : All (λ n. IsTrue (is_shown d.viewers n)) (keys_of d.texts)
      → without_unshown (opening_over d menu main org k) ≡ opening_over d menu main org k
  none_goes all = all_shown (opening_over d menu main org k) (all_shown_over all)

-- ---- a viewer that grows

pub grown_deep : (d : Desktop) (v : ℕ) → DEPTH ≤ length (stack_of d.columns (track_of d.columns v))
    → viewer_grown d v ≡ Err too_deep
unfolding viewer_grown
grown_deep d v deep = rw (le-ltb (length (stack_of d.columns (track_of d.columns v))) DEPTH deep) refl

module _ (H : Type 0) (old : List ℕ) (d : KeptDesktop) (v : ℕ) (k : Track) (menu : List Piece) (viewer : Viewer)
    (over : IsOver old d) (placed : IsOnTop v d.columns) (track : k ≡ track_of d.columns v)
    (room : length (stack_of d.columns k) < DEPTH) (is : viewer ≡ viewer_or_none d.viewers v)
    (copy : flat menu ≡ flat (text_in d.texts viewer.menu)) where
  abbrev outcome : Desktop
  outcome = opening_over (seen old d) (text_of (seen old d) viewer.menu) viewer.main viewer.org k

  copy_read : seen_text old menu ≡ text_of (seen old d) viewer.menu
  copy_read = ap (λ (t : Text ℕ). contents old t) copy ∙ sym (kept_text_seen old d viewer.menu)

  grown_seen : viewer_grown (seen old d) v ≡ Ok outcome
  unfolding viewer_grown seen
  grown_seen =
      (λ i. unless (nat_lt (length (stack_of d.columns (sym track i))) DEPTH) too_deep (Ok (opening_over (seen old d)
      (text_of (seen old d) (sym is i).menu) (sym is i).main (sym is i).org (sym track i))))
      ∙ rw (lt-ltb (length (stack_of d.columns k)) DEPTH room) refl

  can : (characters : List ℕ) → CanShow (seen characters d) viewer.main viewer.org
  unfolding seen
  can characters = subst (λ (w : Viewer). CanShow (seen characters d) w.main w.org) (sym is)
      (viewer_can (seen characters d) v (over.whole.sound characters).shaped (on_top_placed d.columns v placed))

  pub grown_answered : ((characters : List ℕ) (text : Text ℕ) → length text ≡ length (flat menu)
      → fits (without_unshown (opening_over (seen characters d) text viewer.main viewer.org k)) ≡ true)
      → IsAnswered H old old d (opening_over d menu viewer.main viewer.org k)
      (outcome_after (seen old d) (viewer_grown (seen old d) v)) Done
  grown_answered fit =
      let none : d.written + 0 ≡ d.written = omega arith in
      let after : KeptDesktop = without_unshown (opening_over d menu viewer.main viewer.org k) in
      let same : d.written + 0 ≡ after.written = none ∙ sym (written_over d menu viewer.main viewer.org k) in
      let answered = on_answered H old [] old d menu viewer.main viewer.org (over_track k)
      (copy_opens old d menu viewer (over_track k) over copy can
      (cover_keeps d.columns (new_id d) (left_of k) (whole_columns d over.whole) (new_fresh d over.whole)
      (subst (λ (j : Track). length (stack_of d.columns j) < DEPTH) (sym (left_at k)) room))
      (λ characters text long.
      ap (λ (x : Desktop). fits (without_unshown x))
      (none_more (opening_over (seen characters d) text viewer.main viewer.org k)) ∙ fit characters text long))
      d (seen old d) (text_of (seen old d) viewer.menu) outcome copy_read refl in
      subst (λ (p : KeptDesktop × Result Desktop ℕ). IsAnswered H old old d p.0 (outcome_after (seen old d) p.1) Done)
      (λ i. (
        ((λ j. record after { written = same j })
            ∙ none_goes d menu viewer.main viewer.org k (over_shown old d over)) i,
        (ap (λ (y : Desktop). (let r : Result Desktop ℕ = Ok y in r)) (none_more outcome) ∙ sym grown_seen) i,
      )) answered

  pub grown_full : ((characters : List ℕ) (text : Text ℕ) → length text ≡ length (flat menu)
      → fits (without_unshown (opening_over (seen characters d) text viewer.main viewer.org k)) ≡ false)
      → IsAnswered H old old d d (outcome_after (seen old d) (viewer_grown (seen old d) v)) (No full)
  grown_full unfit =
      unfit_answered H old d (viewer_grown (seen old d) v) outcome over grown_seen
      (unfit old (text_of (seen old d) viewer.menu) (ap length (sym copy_read) ∙ length_seen_text old menu))
