-- The outcome of an opening, where the limits are known to hold after it.
use Rattle.std.specs.Prelude.{◌≡◌, ◌≤◌, ◌&&◌, nat_le, true, ℕ, ◌+◌, ◌*◌, List, [], ◌∷◌, ◌++◌, length}
use Rattle.std.specs.Prelude.{is_some, if◌then◌else◌, Some, None, Ok}
use Rattle.std.specs.Ordering.{nat_cmp, match_ordering}
use Rattle.std.specs.declared.cmp.Ordering.TheVariants.{Less, Equal, Greater}
use Rattle.std.specs.BTreeMap.{insert_entry}
use Rattle.std.proofs.Common.{refl, sym, ap, subst, ◌∙◌, arith, length-append}
use Rattle.std.proofs.lemmas.Map.Views.{All-values-insert_entry}
use Rattle.piece_ring.specs.declared.piece.Piece.{Piece}
use Rattle.piece_ring.specs.Look.{default_look}
use Rattle.piece_ring.specs.Flat.{flat, run}
use Rattle.piece_ring.proofs.Lengths.{length-run}
use Rattle.piece_ring.proofs.Offsets.{run-AreWithin}
use Rattle.piece_ring.specs.Text.{Text, AreWithin}
use Rattle.readers_scanners.specs.Reading.{contents}
use Rattle.viewer_tracks.specs.declared.display.TheConstants.{ROWS, DEPTH}
use Rattle.viewer_tracks.specs.declared.display.Track.{Track}
use Rattle.viewer_tracks.specs.Display.{left_of}
use Rattle.viewer_tracks.specs.Columns.{Columns, IsColumns, IsPlaced, times_placed, times_meant, after_open}
use Rattle.viewer_tracks.specs.Columns.{after_open_track, replaced_at}
use Rattle.viewer_tracks.proofs.PlacedLemmas.{open_shows}
use Rattle.desktop_definitions.specs.declared.reply.Reply.TheVariants.{Done}
use Rattle.desktop_definitions.specs.Limits.{most_written, most_held}
use Rattle.desktop_definitions.specs.Tables.{Texts}
use Rattle.desktop_definitions.proofs.TableLaws.{length_seen_text, length_seen}
use Rattle.desktop_definitions.specs.Desktop.{DesktopOf, Desktop, KeptDesktop, characters_held}
use Rattle.desktop_definitions.specs.Change.{plain_text, more_written}
use Rattle.desktop_definitions.specs.Opening.{new_number, new_id, with_new, with_viewer, opening_on, opening_over}
use Rattle.desktop_definitions.specs.Opening.{after_opening, without_unshown}
use Rattle.desktop_definitions.specs.Seen.{seen, seen_text}
use Rattle.desktop_definitions.proofs.SeenLaws.{seen_longer, new_read}
use Rattle.desktop_definitions.specs.Step.{fits, outcome_after, outcome_of}
use Rattle.desktop_definitions.proofs.StepLaws.{fit_written, fit_held, fits_by}
use Rattle.desktop_definitions.specs.Sound.{IsWithin, IsShaped, IsBuilt, IsSound, IsOver}
use Rattle.desktop_definitions.specs.Sound.{IsKeptWhole, times_there}
use Rattle.desktop_definitions.specs.Outcome.{IsAnswered}
use Rattle.desktop_definitions.proofs.OutcomeLaws.{acted, within_longer}
use Rattle.desktop_definitions.proofs.PlaceLaws.{placed_anew, anew_shaped, dropped_shaped, dropped_shown}
use Rattle.desktop_definitions.proofs.PlacedLaws.{seen_dropped, dropped_within, anew_within, anew_written, dropped_written}
use Rattle.desktop_definitions.proofs.PlacedLaws.{done}
use Rattle.desktop_definitions.proofs.FewLaws.{few_viewers, few_texts}
use Rattle.desktop_definitions.proofs.OpenLaws.{unused_none}
use Rattle.desktop_definitions.proofs.OpenedLaws.{NewPlace, at_cell, over, text_more, columns_over, covered_desktop}
use Rattle.desktop_definitions.proofs.OpenedLaws.{opening_to, opening_on_is, opening_over_is, opening_is, CanShow, opening_anew}
use Rattle.desktop_definitions.proofs.OpenedLaws.{covering_anew, seen_opening_to, opening_seen, text_built, new_kept}
use Rattle.desktop_definitions.specs.Looks.{AreLooks}
use Rattle.desktop_definitions.proofs.LookedLaws.{default_is_look, run_looks, seen_looks, written_shaped, within_stays}
use Rattle.desktop_definitions.specs.DeskWords.{CanOpen}

-- ---- how many there are

pub kept_viewers : (d : KeptDesktop) → IsKeptWhole d → length d.viewers ≤ 2 * DEPTH * ROWS + 1
unfolding seen
kept_viewers d whole =
    let shaped = (whole.sound []).shaped in
    few_viewers d.viewers d.columns d.closed shaped.places shaped.viewers.ids

kept_texts : (d : KeptDesktop) → IsKeptWhole d → length d.texts ≤ 1 + 2 * length d.viewers
unfolding seen
kept_texts d whole =
    let few = few_texts (seen [] d) (whole.sound []).shaped.viewers.numbers (whole.sound []).shown in
    let same = length_seen (seen_text []) d.texts in
    omega (arith, few, same)

length_put : {X : Type 0} (es : List (ℕ × X)) (n : ℕ) (x : X) → length (insert_entry nat_cmp es n x) ≤ length es + 1
length_put [] n x = omega arith
length_put {X} (e ∷ es) n x =
    let rest = length_put es n x in
    elim (nat_cmp n e.0) as
    (λ o. length (match_ordering o ((n, x) ∷ e ∷ es) ((e.0, x) ∷ es) (e ∷ insert_entry nat_cmp es n x))
    ≤ length (e ∷ es) + 1) [
      | Less ↦ omega arith
      | Equal ↦ omega arith
      | Greater ↦ omega (arith, rest)
    ]

-- a new id stands nowhere
pub new_fresh : (d : KeptDesktop) → IsKeptWhole d → ¬ IsPlaced (new_id d) d.columns
unfolding seen
new_fresh d whole placed =
    let v = new_id d in
    let once = (whole.sound []).shaped.places.once v in
    let none : times_there d.columns d.closed v ≡ 0
    = once ∙ (λ k. if is_some (unused_none d.viewers k) then 1 else 0) in
    absurd (omega (arith, none, placed))

pub can_open : (d : KeptDesktop) → IsKeptWhole d → CanOpen d
can_open d whole = record {
  texts = (let few = kept_viewers d whole in let all = kept_texts d whole in omega (arith, few, all));
  viewers = (let few = kept_viewers d whole in omega (arith, few));
  fresh = new_fresh d whole;
}

-- the same where there is a text more
pub can_open_more : (d : KeptDesktop) (texts : Texts (List Piece)) (text : List Piece) → IsKeptWhole d
    → texts ≡ with_new d.texts text → CanOpen (record d { texts = texts })
can_open_more d texts text whole is = record {
  texts = (
      let few = kept_viewers d whole in
      let all = kept_texts d whole in
      let more = length_put d.texts (new_number d) text in
      let long : length texts ≡ length (with_new d.texts text) = ap length is in
      omega (arith, few, all, more, long)
      );
  viewers = (let few = kept_viewers d whole in omega (arith, few));
  fresh = new_fresh d whole;
}

-- ---- what was written, and the limits

pub written_on : {T : Type 0} (d : DesktopOf T) (menu : T) (main org : ℕ) (cell : ℕ × ℕ)
    → (without_unshown (opening_on d menu main org cell)).written ≡ d.written
written_on {T} d menu main org cell =
    ap (λ (x : DesktopOf T). (without_unshown x).written) (opening_on_is d menu main org cell)
    ∙ dropped_written (placed_anew (with_viewer d menu main org) (after_open d.columns (new_id d) cell.0 cell.1)
    (replaced_at d.columns cell.0 cell.1))
    ∙ anew_written (with_viewer d menu main org) (after_open d.columns (new_id d) cell.0 cell.1)
    (replaced_at d.columns cell.0 cell.1)

pub written_over : {T : Type 0} (d : DesktopOf T) (menu : T) (main org : ℕ) (k : Track)
    → (without_unshown (opening_over d menu main org k)).written ≡ d.written
written_over {T} d menu main org k =
    ap (λ (x : DesktopOf T). (without_unshown x).written) (opening_over_is d menu main org k)
    ∙ dropped_written (placed_anew (covered_desktop d menu main org k) (columns_over d k) None)

written_to : {T : Type 0} (d : DesktopOf T) (menu : T) (main org : ℕ) (place : NewPlace)
    → (without_unshown (opening_to d menu main org place)).written ≡ d.written
written_to d menu main org (at_cell cell) = written_on d menu main org cell
written_to d menu main org (over k) = written_over d menu main org k

-- texts that go have nothing to do with what was written
dropped_more : {T : Type 0} (d : DesktopOf T) (n : ℕ) → more_written (without_unshown d) n ≡ without_unshown (more_written d n)
unfolding without_unshown
dropped_more d n = refl

held_more : (d : Desktop) (n : ℕ) → characters_held (without_unshown (more_written d n)) ≡ characters_held (without_unshown d)
unfolding characters_held without_unshown
held_more d n = refl

pub fits_on : (d : Desktop) (menu : Text ℕ) (main org : ℕ) (cell : ℕ × ℕ) (written all n : ℕ)
    → written ≡ d.written + n → all ≡ characters_held (without_unshown (opening_on d menu main org cell))
    → (nat_le written most_written && nat_le all most_held)
    ≡ fits (without_unshown (more_written (opening_on d menu main org cell) n))
fits_on d menu main org cell written all n w h =
    fits_by (without_unshown (more_written (opening_on d menu main org cell) n)) written all
    (w ∙ ap (λ m. m + n) (sym (written_on d menu main org cell))
    ∙ ap (λ (x : Desktop). x.written) (dropped_more (opening_on d menu main org cell) n))
    (h ∙ sym (held_more (opening_on d menu main org cell) n))

pub fits_opening : (d : Desktop) (menu main : Text ℕ) (cell : ℕ × ℕ) (written all n : ℕ)
    → written ≡ d.written + n → all ≡ characters_held (without_unshown (after_opening d menu main cell))
    → (nat_le written most_written && nat_le all most_held) ≡ fits (without_unshown (more_written (after_opening d menu main cell) n))
fits_opening d menu main cell written all n w h =
    fits_on (text_more d main) menu (new_number d) 0 cell written all n w
    (h ∙ ap (λ (x : Desktop). characters_held (without_unshown x)) (opening_is d menu main cell))
    ∙ ap (λ (x : Desktop). fits (without_unshown (more_written x n))) (sym (opening_is d menu main cell))

-- ---- the desktop

pub opened_desk : (d after : KeptDesktop) (texts : Texts (List Piece)) (number : ℕ) (menu main : List Piece)
    (cell : ℕ × ℕ) → texts ≡ with_new d.texts main → number ≡ new_number d
    → after ≡ without_unshown (opening_on (record d { texts = texts }) menu number 0 cell)
    → after ≡ without_unshown (after_opening d menu main cell)
opened_desk d after texts number menu main cell texts_is number_is is =
    is ∙ (λ k. without_unshown (opening_on (record d { texts = texts_is k }) menu (number_is k) 0 cell))
    ∙ ap (λ (x : KeptDesktop). without_unshown x) (sym (opening_is d menu main cell))

pub written_opened : (d : KeptDesktop) (menu main : List Piece) (cell : ℕ × ℕ)
    → (without_unshown (after_opening d menu main cell)).written ≡ d.written
written_opened d menu main cell =
    ap (λ (x : KeptDesktop). (without_unshown x).written) (opening_is d menu main cell)
    ∙ written_on (text_more d main) menu (new_number d) 0 cell

pub whole_columns : (d : KeptDesktop) → IsKeptWhole d → IsColumns d.columns
unfolding seen
whole_columns d whole = (whole.sound []).shaped.places.columns_hold

-- what the laws of the tracks say of one opening
pub record PlacesOpened (columns : Columns) (v : ℕ) (cell : ℕ × ℕ) : Type 0 where
  pub hold : IsColumns (after_open columns v cell.0 cell.1)
  pub places : (w : ℕ) → times_placed w (after_open columns v cell.0 cell.1)
      + times_meant w (replaced_at columns cell.0 cell.1) ≡ times_placed w columns + times_meant w (Some v)

-- the columns stay sound where a viewer comes to stand in a place
abbrev pub CanStand : Columns → ℕ → NewPlace → Type 0
CanStand columns v (at_cell cell) = PlacesOpened columns v cell
CanStand columns v (over k) = IsColumns (after_open_track columns v (left_of k))

module _ (d : Desktop) (menu : Text ℕ) (main org : ℕ) (shaped : IsShaped d) (can : CanShow d main org)
    (looks : AreLooks menu) where
  pub opened_shaped : (place : NewPlace) → CanStand d.columns (new_id d) place
      → IsShaped (opening_to d menu main org place)
  opened_shaped (at_cell cell) places =
      subst IsShaped (sym (opening_on_is d menu main org cell))
      (anew_shaped (with_viewer d menu main org) _ _
      (opening_anew d menu main org shaped can _ _ places.hold places.places
      (λ w. let all = open_shows d.columns (new_id d) cell.0 cell.1 w shaped.places.columns_hold in omega (arith, all))
      looks))
  opened_shaped (over k) hold =
      subst IsShaped (sym (opening_over_is d menu main org k))
      (anew_shaped (covered_desktop d menu main org k) (columns_over d k) None
      (covering_anew d menu main org shaped can k hold looks))

  opened_sound : (place : NewPlace) (n : ℕ) → CanStand d.columns (new_id d) place
      → fits (more_written (without_unshown (opening_to d menu main org place)) n) ≡ true
      → IsSound (more_written (without_unshown (opening_to d menu main org place)) n)
  opened_sound place n stands fit = record {
    shaped = written_shaped _ (dropped_shaped _ (opened_shaped place stands));
    shown = dropped_shown (opening_to d menu main org place);
    written_within = fit_written _ fit;
    held_within = fit_held _ fit;
  }

-- ---- the outcome

-- An opening on a text that is there, of a desktop inside an event, whose menu is of the characters that there are and
-- of these that were added.
pub record IsOpeningOn (old bytes new : List ℕ) (d : KeptDesktop) (menu : List Piece) (main org : ℕ)
    (place : NewPlace) : Type 0 where
  pub counted : length old ≡ d.written
  pub built : IsBuilt d.written d
  pub grown : new ≡ old ++ bytes
  pub within : AreWithin (d.written + length bytes) (flat menu)
  pub looks : AreLooks (flat menu)
  pub can : (characters : List ℕ) → CanShow (seen characters d) main org
  pub stands : CanStand d.columns (new_id d) place
  pub fit : (characters : List ℕ) (text : Text ℕ) → length text ≡ length (flat menu)
      → fits (without_unshown (more_written (opening_to (seen characters d) text main org place) (length bytes))) ≡ true

module _ (H : Type 0) (old bytes new : List ℕ) (d : KeptDesktop) (menu : List Piece) (main org : ℕ) (place : NewPlace)
    (on : IsOpeningOn old bytes new d menu main org place) where
  abbrev n : ℕ
  n = length bytes

  abbrev pub after_on : KeptDesktop
  after_on = record (without_unshown (opening_to d menu main org place)) { written = d.written + n }

  abbrev now : List ℕ → Desktop
  now characters = without_unshown (opening_to (seen characters d) (seen_text characters menu) main org place)

  seen_after : (characters : List ℕ) → seen characters after_on ≡ more_written (now characters) n
  unfolding seen
  seen_after characters =
      let same = seen_dropped characters (opening_to d menu main org place)
      ∙ ap without_unshown (seen_opening_to characters d menu main org place) in
      let written = ap (λ (w : ℕ). w + n)
      (sym (written_to (seen characters d) (seen_text characters menu) main org place)) in
      λ k. record (same k) { written = written k }

  sound_now : (characters : List ℕ) → IsSound (more_written (now characters) n)
  unfolding seen
  sound_now characters =
      opened_sound (seen characters d) (seen_text characters menu) main org (on.built.shaped characters)
      (on.can characters) (seen_looks characters menu on.looks) place n on.stands
      (ap fits (dropped_more (opening_to (seen characters d) (seen_text characters menu) main org place) n)
      ∙ on.fit characters (seen_text characters menu) (length_seen_text characters menu))

  joined_within : IsWithin (d.written + n) (with_viewer d menu main org)
  joined_within =
      let more = within_longer d.written (d.written + n) d (omega arith) on.built.within in
      record {
        texts = All-values-insert_entry nat_cmp (new_number d) menu
            (λ pieces. AreWithin (d.written + n) (flat pieces)) d.texts more.texts on.within;
        files = more.files;
        copied = more.copied;
        deleted = more.deleted;
      }

  on_within : IsWithin (d.written + n) (without_unshown (opening_to d menu main org place))
  on_within = dropped_within (d.written + n) (opening_to d menu main org place) (by_place place) where
    by_place : (place : NewPlace) → IsWithin (d.written + n) (opening_to d menu main org place)
    by_place (at_cell cell) = subst (IsWithin (d.written + n)) (sym (opening_on_is d menu main org cell))
        (anew_within (d.written + n) (with_viewer d menu main org) _ _ joined_within)
    by_place (over k) = subst (IsWithin (d.written + n)) (sym (opening_over_is d menu main org k))
        (within_stays joined_within refl)

  over_after : IsOver new after_on
  over_after = record {
    counted = ap length on.grown ∙ length-append old bytes ∙ ap (λ (w : ℕ). w + n) on.counted;
    whole = record {
      within = within_stays on_within refl;
      sound = λ characters. subst IsSound (sym (seen_after characters)) (sound_now characters);
    };
  }

  before_read : seen new d ≡ seen old d
  before_read = ap (λ (l : List ℕ). seen l d) on.grown
      ∙ seen_longer old bytes d (subst (λ (m : ℕ). IsWithin m d) (sym on.counted) on.built.within)

  -- whatever the desktop was before the event
  pub on_answered : (before : KeptDesktop) (was : Desktop) (text : Text ℕ) (outcome : Desktop)
      → seen_text new menu ≡ text → opening_to (seen old d) text main org place ≡ outcome
      → IsAnswered H old new before after_on (outcome_after was (Ok (more_written outcome n))) Done
  on_answered before was text outcome read is = acted H old new before after_on _ over_after (λ h.
      (λ k. outcome_of (seen_after new k) Done)
      ∙ (λ k. outcome_of (more_written (without_unshown (opening_to (before_read k) (read k) main org place)) n) Done)
      ∙ (λ k. outcome_of (dropped_more (is k) n k) Done)
      ∙ done was (more_written outcome n)
      (ap (λ (x : Desktop). fits (without_unshown (more_written x n))) (sym is)
      ∙ on.fit old text (ap length (sym read) ∙ length_seen_text new menu)))

-- ---- a menu that was written anew

module _ (H : Type 0) (old bytes new : List ℕ) (d : KeptDesktop) (menu : List Piece) (cell : ℕ × ℕ)
    (over : IsOver old d) (grown : new ≡ old ++ bytes)
    (is : flat menu ≡ run d.written (length bytes) default_look) (places : PlacesOpened d.columns (new_id d) cell)
  where
    menu_within : AreWithin (d.written + length bytes) (flat menu)
    menu_within = subst (AreWithin (d.written + length bytes)) (sym is)
        (run-AreWithin (d.written + length bytes) d.written (length bytes) default_look (omega arith))

    menu_looks : AreLooks (flat menu)
    menu_looks = subst AreLooks (sym is) (run_looks d.written (length bytes) default_look default_is_look)

    menu_read : seen_text new menu ≡ plain_text bytes
    menu_read = ap (λ (l : List ℕ). seen_text l menu) grown ∙ ap (contents (old ++ bytes)) is
        ∙ new_read old bytes d.written default_look over.counted

    menu_long : length (flat menu) ≡ length bytes
    menu_long = ap length is ∙ length-run d.written (length bytes) default_look

    shaped : (characters : List ℕ) → IsShaped (seen characters d)
    shaped characters = (over.whole.sound characters).shaped

    built : IsBuilt d.written d
    built = record { within = over.whole.within; shaped = shaped }

    -- the main text is new, of characters that were there
    pub opening_answered : (main : List Piece) → AreWithin d.written (flat main) → AreLooks (flat main)
        → ((characters : List ℕ) (menu_text main_text : Text ℕ) → length menu_text ≡ length bytes
        → length main_text ≡ length (flat main)
        → fits (without_unshown (more_written (after_opening (seen characters d) menu_text main_text cell) (length bytes))) ≡ true)
        → IsAnswered H old new d
        (record (without_unshown (after_opening d menu main cell)) { written = d.written + length bytes })
        (outcome_after (seen old d)
        (Ok (more_written (after_opening (seen old d) (plain_text bytes) (seen_text old main) cell) (length bytes)))) Done
    unfolding after_opening
    opening_answered main within looks fit =
        on_answered H old bytes new (text_more d main) menu (new_number d) 0 (at_cell cell) (record {
          counted = over.counted;
          built = text_built d.written d main built within looks;
          grown = grown;
          within = menu_within;
          looks = menu_looks;
          can = new_kept d main shaped;
          stands = record { hold = places.hold; places = places.places };
          fit = λ characters text long.
              ap (λ (x : Desktop). fits (without_unshown (more_written x (length bytes))))
              (opening_seen characters d text main cell)
              ∙ fit characters text (seen_text characters main) (long ∙ menu_long) (length_seen_text characters main);
        }) d (seen old d) (plain_text bytes) (after_opening (seen old d) (plain_text bytes) (seen_text old main) cell)
        menu_read (opening_seen old d (plain_text bytes) main cell)

    -- the main text is there and stays
    pub written_answered : (main org : ℕ) → ((characters : List ℕ) → CanShow (seen characters d) main org)
        → ((characters : List ℕ) (text : Text ℕ) → length text ≡ length bytes
        → fits (without_unshown (more_written (opening_on (seen characters d) text main org cell) (length bytes))) ≡ true)
        → IsAnswered H old new d
        (record (without_unshown (opening_on d menu main org cell)) { written = d.written + length bytes })
        (outcome_after (seen old d)
        (Ok (more_written (opening_on (seen old d) (plain_text bytes) main org cell) (length bytes)))) Done
    written_answered main org can fit =
        on_answered H old bytes new d menu main org (at_cell cell) (record {
          counted = over.counted;
          built = record { within = built.within; shaped = shaped };
          grown = grown;
          within = menu_within;
          looks = menu_looks;
          can = can;
          stands = record { hold = places.hold; places = places.places };
          fit = λ characters text long. fit characters text (long ∙ menu_long);
        }) d (seen old d) (plain_text bytes) (opening_on (seen old d) (plain_text bytes) main org cell) menu_read refl
