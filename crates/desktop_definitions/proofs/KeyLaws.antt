-- Laws of typing, of the keys and of what the mouse does with stretches: each row by its cases, and what it owes where
-- it is done.
use Rattle.std.specs.Prelude.{◌≡◌, ◌<◌, ◌≤◌, ⊤, ℕ, ◌+◌, ◌-◌, ◌==◌, min, Bool, true, false, cond}
use Rattle.std.specs.Prelude.{List, [], ◌∷◌, ◌++◌, length, slice_get, slice_index}
use Rattle.std.specs.Prelude.{Option, Some, None, IsSome, Result, Ok, Err}
use Rattle.std.specs.Option.{unwrap_or, option_map}
use Rattle.std.specs.Map.{lookup, set_value}
use Rattle.std.specs.Ordering.{nat_cmp}
use Rattle.std.specs.BTreeMap.{is_at}
use Rattle.std.proofs.Common.{refl, sym, ap, subst, ◌∙◌, arith}
use Rattle.std.proofs.lemmas.Bool.{lt-ltb, le-ltb}
use Rattle.std.proofs.lemmas.Option.{slice_get-map}
use Rattle.sector_disk.specs.Faults.{OneOf}
use Rattle.piece_ring.specs.declared.piece.Look.{Look}
use Rattle.piece_ring.specs.declared.piece.Piece.{Piece}
use Rattle.piece_ring.specs.Flat.{flat, run}
use Rattle.piece_ring.proofs.Lengths.{length-run, length-looks_changed}
use Rattle.piece_ring.proofs.Offsets.{stretch-AreWithin}
use Rattle.piece_ring.specs.Text.{stretch, looks_changed, AreWithin}
use Rattle.readers_scanners.specs.Reading.{contents}
use Rattle.text_core.specs.Attributes.{look_at, look_of}
use Rattle.viewer_tracks.specs.Columns.{IsOnTop}
use Rattle.event_bytes.specs.declared.keys.Key.TheVariants.{Back, Copy, Cut, Escape}
use Rattle.desktop_definitions.specs.declared.viewer.Caret.{Caret}
use Rattle.desktop_definitions.specs.declared.viewer.Selection.{Selection}
use Rattle.desktop_definitions.specs.declared.reply.Reply.{Reply}
use Rattle.desktop_definitions.specs.declared.reply.Reply.TheVariants.{Done, No}
use Rattle.desktop_definitions.specs.Limits.{most_held, no_caret, no_selection, full}
use Rattle.desktop_definitions.specs.Tables.{Texts, text_numbered}
use Rattle.desktop_definitions.proofs.TableLaws.{length_seen_text}
use Rattle.desktop_definitions.specs.Desktop.{Desktop, KeptDesktop, characters_held}
use Rattle.desktop_definitions.specs.Viewers.{viewer_of, viewer_or_none, text_in, text_of, main_of, newest, selected}
use Rattle.desktop_definitions.specs.Viewers.{with_caret, with_selection, kept_main}
use Rattle.desktop_definitions.specs.Change.{in_look, looks_set, put_in, put_at_caret, cut_out, more_written}
use Rattle.desktop_definitions.specs.Keys.{after_typing, after_key, with_copied, without_marks}
use Rattle.desktop_definitions.specs.Gesture.{copied_to, looks_taken, taken_out, sent_to_caret, drawn_in}
use Rattle.desktop_definitions.specs.Seen.{seen, seen_text}
use Rattle.desktop_definitions.proofs.SeenLaws.{new_read}
use Rattle.desktop_definitions.specs.Step.{outcome_after}
use Rattle.desktop_definitions.specs.Sound.{IsOver}
use Rattle.desktop_definitions.specs.Changed.{texts_shown, IsChanged, CountsHeld}
use Rattle.desktop_definitions.specs.Outcome.{reply_codes, IsAnswered}
use Rattle.desktop_definitions.proofs.PlaceLaws.{on_top_placed}
use Rattle.desktop_definitions.proofs.OutcomeLaws.{refused, seen_grown, length_in_look}
use Rattle.desktop_definitions.proofs.RowLaws.{row_answered, rest_answered, changed_answered, full_answered}
use Rattle.desktop_definitions.specs.DeskWords.{has_space}
use Rattle.desktop_definitions.proofs.RowLaws.{full_rest_answered, over_built, changed_as, changed_under, changed_further}
use Rattle.desktop_definitions.proofs.RowLaws.{main_seen, same_main, text_held}
use Rattle.desktop_definitions.proofs.MarkLaws.{with_caret_changed, with_selection_changed, escaped_changed}
use Rattle.desktop_definitions.proofs.RowPartLaws.{kept_main_seen, kept_main_long, copy_seen, copy_long}
use Rattle.desktop_definitions.proofs.RowPartLaws.{selected_long, text_within, copied_changed, deleted_changed}
use Rattle.desktop_definitions.proofs.RowPartLaws.{copied_counts, copy_looks}
use Rattle.desktop_definitions.proofs.RowPartLaws.{put_in_counts, put_at_caret_counts, sent_counts, less_answered}
use Rattle.desktop_definitions.specs.Looks.{AreLooks}

-- ---- rows in general

-- a row that is this refusal
pub refusal_answered : (H : Type 0) (old : List ℕ) (d : KeptDesktop) (row : Result Desktop ℕ) (code : ℕ) → IsOver old d
    → OneOf reply_codes code → row ≡ Err code → IsAnswered H old old d d (outcome_after (seen old d) row) (No code)
unfolding outcome_after
refusal_answered H old d row code over known is =
    refused H old d (outcome_after (seen old d) row) code over known (λ h. ap (outcome_after (seen old d)) (sym is))

-- a row by another name
pub row_as : {H : Type 0} {old new : List ℕ} {before after : KeptDesktop} {row : Result Desktop ℕ} {reply : Reply}
    (d : Desktop) (by : Result Desktop ℕ) → IsAnswered H old new before after (outcome_after d row) reply → by ≡ row
    → IsAnswered H old new before after (outcome_after d by) reply
row_as {H} {old} {new} {before} {after} {row} {reply} d by answered is =
    subst (λ (r : Result Desktop ℕ). IsAnswered H old new before after (outcome_after d r) reply) (sym is) answered

-- ---- each row by its cases

module _ (d : Desktop) where
  module _ (none : d.caret ≡ None) where
    pub typed_none : (bytes : List ℕ) → after_typing d bytes ≡ Err no_caret
    unfolding after_typing
    typed_none bytes = rw none refl

    pub back_none : after_key d Back ≡ Err no_caret
    unfolding after_key
    back_none = rw none refl

  module _ (c : Caret) (some : d.caret ≡ Some c) where
    pub typed_some : (bytes : List ℕ)
        → after_typing d bytes ≡ Ok (more_written (put_at_caret d (in_look d.look bytes) c) (length bytes))
    unfolding after_typing
    typed_some bytes = rw some refl

    pub back_first : c.position ≡ 0 → after_key d Back ≡ Ok d
    unfolding after_key
    back_first first = rw (some, first) refl

    -- the stretch before the caret
    abbrev pub before : Selection
    before = record { viewer = c.viewer; beg = c.position - 1; end = c.position }

    pub back_some : 0 < c.position → after_key d Back ≡ Ok (cut_out d before)
    unfolding after_key
    back_some low =
        let test : (c.position == 0) ≡ false = grind (arith, low) in
        rw (some, test) refl

  module _ (none : newest d ≡ None) where
    pub copy_none : after_key d Copy ≡ Err no_selection
    unfolding after_key
    copy_none = rw none refl

    pub cut_none : after_key d Cut ≡ Err no_selection
    unfolding after_key
    cut_none = rw none refl

    pub copied_to_none : (v p : ℕ) → copied_to d v p ≡ Err no_selection
    unfolding copied_to
    copied_to_none v p = rw none refl

    pub looks_taken_none : (v p : ℕ) → looks_taken d v p ≡ Err no_selection
    unfolding looks_taken
    looks_taken_none v p = rw none refl

  module _ (s : Selection) (some : newest d ≡ Some s) where
    pub copy_some : after_key d Copy ≡ Ok (with_copied d s)
    unfolding after_key
    copy_some = rw some refl

    pub cut_some : after_key d Cut ≡ Ok (cut_out (with_copied d s) s)
    unfolding after_key
    cut_some = rw some refl

    pub copied_to_some : (v p : ℕ) → copied_to d v p ≡ Ok (put_in d v p (selected d s))
    unfolding copied_to
    copied_to_some v p = rw some refl

    pub looks_taken_some : (v p : ℕ)
        → looks_taken d v p ≡ Ok (with_caret (looks_set d s 7 (look_at p (main_of d v))) v p)
    unfolding looks_taken
    looks_taken_some v p = rw some refl

  module _ (s : Selection) where
    pub taken_out_empty : s.end ≤ s.beg → taken_out d s ≡ Err no_selection
    unfolding taken_out
    taken_out_empty none = rw (le-ltb s.beg s.end none) refl

    pub taken_out_some : s.beg < s.end → taken_out d s ≡ Ok (record (cut_out d s) { deleted = selected d s })
    unfolding taken_out
    taken_out_some some = rw (lt-ltb s.beg s.end some) refl

    pub sent_empty : s.end ≤ s.beg → sent_to_caret d s ≡ Err no_selection
    unfolding sent_to_caret
    sent_empty none = rw (le-ltb s.beg s.end none) refl

    pub sent_none : s.beg < s.end → d.caret ≡ None → sent_to_caret d s ≡ Err no_caret
    unfolding sent_to_caret
    sent_none some none = rw (lt-ltb s.beg s.end some, none) refl

    pub sent_some : s.beg < s.end → (c : Caret) → d.caret ≡ Some c
        → sent_to_caret d s ≡ Ok (put_at_caret (with_selection d s) (selected d s) c)
    unfolding sent_to_caret drawn_in
    sent_some some c here = rw (here, lt-ltb s.beg s.end some) refl

-- ---- where the marks of a desktop stand that is kept

pub main_small : (old : List ℕ) (d : KeptDesktop) (v : ℕ) → IsOver old d → length (flat (kept_main d v)) ≤ most_held
main_small old d v over =
    let one = text_held d (viewer_or_none d.viewers v).main in
    let all = (over.whole.sound []).held_within in
    omega (arith, one, all)

-- what is held is no more than a desktop may hold
held_small : (old : List ℕ) (d : KeptDesktop) (buffer : List Piece) → IsOver old d
    → length (seen_text [] buffer) ≤ characters_held (seen [] d) → length (flat buffer) ≤ most_held
held_small old d buffer over part =
    let all = (over.whole.sound []).held_within in
    let long = length_seen_text [] buffer in
    omega (arith, all, long, part)

pub copied_small : (old : List ℕ) (d : KeptDesktop) → IsOver old d → length (flat d.copied) ≤ most_held
unfolding seen characters_held
copied_small old d over = held_small old d d.copied over (omega arith)

pub deleted_small : (old : List ℕ) (d : KeptDesktop) → IsOver old d → length (flat d.deleted) ≤ most_held
unfolding seen characters_held
deleted_small old d over = held_small old d d.deleted over (omega arith)

-- after characters were put in the caret has room after them
pub room_after : (a b : KeptDesktop) (v p n len size : ℕ) → n ≡ (viewer_or_none a.viewers v).main → len ≡ size
    → texts_shown b.viewers ≡ texts_shown a.viewers → p ≤ length (flat (kept_main a v))
    → length (flat (text_in b.texts n)) ≡ length (flat (text_in a.texts n)) + size
    → p + len ≤ length (flat (kept_main b v))
room_after a b v p n len size number is same low longer =
    let long : length (flat (text_in b.texts (viewer_or_none a.viewers v).main)) ≡ length (flat (kept_main a v)) + size
    = subst (λ m. length (flat (text_in b.texts m)) ≡ length (flat (text_in a.texts m)) + size) number longer in
    let here : length (flat (kept_main b v)) ≡ length (flat (text_in b.texts (viewer_or_none a.viewers v).main))
    = ap (λ m. length (flat (text_in b.texts m))) (same_main a.viewers b.viewers v same) in
    omega (arith, long, here, low, is)

-- and after some were taken out it has room where they were
pub room_left : (a b : KeptDesktop) (v beg end n : ℕ) → n ≡ (viewer_or_none a.viewers v).main
    → texts_shown b.viewers ≡ texts_shown a.viewers → beg < end → end ≤ length (flat (kept_main a v))
    → length (flat (text_in b.texts n)) + (end - beg) ≡ length (flat (text_in a.texts n))
    → beg ≤ length (flat (kept_main b v))
room_left a b v beg end n number same some low shorter =
    let long : length (flat (text_in b.texts (viewer_or_none a.viewers v).main)) + (end - beg)
    ≡ length (flat (kept_main a v))
    = subst (λ m. length (flat (text_in b.texts m)) + (end - beg) ≡ length (flat (text_in a.texts m))) number shorter in
    let here : length (flat (kept_main b v)) ≡ length (flat (text_in b.texts (viewer_or_none a.viewers v).main))
    = ap (λ m. length (flat (text_in b.texts m))) (same_main a.viewers b.viewers v same) in
    omega (arith, long, here, low, some)

-- the texts of a desktop that is kept are seen where they are kept
pub main_there_seen : (old : List ℕ) (d : KeptDesktop) (v : ℕ) → IsOver old d → IsOnTop v d.columns
    → IsSome (text_numbered (seen old d).texts (viewer_of (seen old d) v).main)
unfolding seen
main_there_seen old d v over placed =
    let sound = over.whole.sound old in
    main_seen (seen old d) sound.shaped.viewers sound.shaped.places v (on_top_placed d.columns v placed)

-- ---- rows that are done

module _ (H : Type 0) (old new : List ℕ) (before after : KeptDesktop) (over : IsOver old before)
    (long : length new ≡ length old) (same : H → new ≡ old) where
  pub back_answered : (c : Caret) → before.caret ≡ Some c → 0 < c.position
      → IsChanged H old before after
      (cut_out (seen old before) (record { viewer = c.viewer; beg = c.position - 1; end = c.position }))
      0 (c.position - (c.position - 1))
      → IsAnswered H old new before after (outcome_after (seen old before) (after_key (seen old before) Back)) Done
  unfolding seen
  back_answered c is low changed = row_as (seen old before) (after_key (seen old before) Back)
      (less_answered H old new before after
      (cut_out (seen old before) (record { viewer = c.viewer; beg = c.position - 1; end = c.position }))
      0 (c.position - (c.position - 1)) (omega arith) over long same changed)
      (back_some (seen old before) c is low)

  pub copied_to_answered : (v p : ℕ) (s : Selection) (copy : List Piece) → newest before ≡ Some s → s.beg ≤ s.end
      → s.end ≤ length (flat (kept_main before s.viewer))
      → flat copy ≡ stretch s.beg s.end (flat (kept_main before s.viewer))
      → IsChanged H old before after (put_in (seen old before) v p (seen_text old copy)) (length (flat copy)) 0
      → ((all : List ℕ) → has_space (seen all before) 0 (s.end - s.beg) 0 ≡ true)
      → IsAnswered H old new before after (outcome_after (seen old before) (copied_to (seen old before) v p)) Done
  unfolding seen
  copied_to_answered v p s copy is order within copy_is changed space =
      row_as (seen old before) (copied_to (seen old before) v p)
      (rest_answered H old new before after (put_in (seen old before) v p (selected (seen old before) s))
      (s.end - s.beg) 0 over long same
      (subst (λ n. IsChanged H old before after (put_in (seen old before) v p (selected (seen old before) s)) n 0)
      (copy_long before s copy copy_is order within)
      (changed_as (put_in (seen old before) v p (selected (seen old before) s)) changed
      (λ h k. put_in (seen old before) v p (copy_seen old before s copy copy_is k)))) space)
      (copied_to_some (seen old before) s is v p)

  module _ (middle : KeptDesktop) (s : Selection) (buffer : List Piece) (some : s.beg < s.end)
      (within : s.end ≤ length (flat (kept_main before s.viewer)))
      (buffer_is : flat buffer ≡ stretch s.beg s.end (flat (kept_main before s.viewer))) where
    buffer_within : AreWithin (length old) (flat buffer)
    buffer_within = subst (AreWithin (length old)) (sym buffer_is)
        (stretch-AreWithin (length old) s.beg s.end (flat (kept_main before s.viewer))
        (text_within (length old) before (viewer_or_none before.viewers s.viewer).main
        (over_built old before over).within))

    buffer_looks : AreLooks (flat buffer)
    buffer_looks = copy_looks (length old) before s buffer (over_built old before over) buffer_is

    -- first a stretch was copied
    pub copy_changed : IsChanged H old before (record before { copied = buffer }) (with_copied (seen old before) s)
        (length (flat buffer)) (length (flat before.copied))
    copy_changed = copied_changed old before buffer (selected (seen old before) s) (over_built old before over)
        buffer_within buffer_looks (λ h. copy_seen old before s buffer buffer_is)

    pub cut_answered : newest before ≡ Some s
        → IsChanged H old (record before { copied = buffer }) after
        (cut_out (seen old (record before { copied = buffer })) s) 0 (s.end - s.beg)
        → IsAnswered H old new before after (outcome_after (seen old before) (after_key (seen old before) Cut)) Done
    unfolding seen
    cut_answered is changed = row_as (seen old before) (after_key (seen old before) Cut)
        (less_answered H old new before after (cut_out (with_copied (seen old before) s) s)
        (length (flat buffer)) (length (flat before.copied) + (s.end - s.beg))
        (let size = copy_long before s buffer buffer_is (omega (arith, some)) within in omega (arith, size))
        over long same
        (changed_further old old before (record before { copied = buffer }) after
        (with_copied (seen old before) s) (λ d. cut_out d s)
        (length (flat buffer)) 0 (length (flat before.copied)) (s.end - s.beg) (length (flat buffer))
        (length (flat before.copied) + (s.end - s.beg)) (λ h. h) refl (λ h. refl) copy_changed changed
        (omega arith) refl))
        (cut_some (seen old before) s is)

    -- a stretch was taken out, and went into the deleted buffer
    pub taken_out_answered : IsChanged H old before middle (cut_out (seen old before) s) 0 (s.end - s.beg)
        → after ≡ record middle { deleted = buffer }
        → IsAnswered H old new before after (outcome_after (seen old before) (taken_out (seen old before) s)) Done
    taken_out_answered changed after_is = row_as (seen old before) (taken_out (seen old before) s)
        (less_answered H old new before after
        (record (cut_out (seen old before) s) { deleted = selected (seen old before) s })
        (length (flat buffer)) (s.end - s.beg + length (flat middle.deleted))
        (let size = copy_long before s buffer buffer_is (omega (arith, some)) within in omega (arith, size))
        over long same
        (subst (λ d. IsChanged H old before d
        (record (cut_out (seen old before) s) { deleted = selected (seen old before) s })
        (length (flat buffer)) (s.end - s.beg + length (flat middle.deleted))) (sym after_is)
        (changed_further old old before middle (record middle { deleted = buffer }) (cut_out (seen old before) s)
        (λ d. record d { deleted = selected (seen old before) s }) 0 (length (flat buffer)) (s.end - s.beg)
        (length (flat middle.deleted)) (length (flat buffer)) (s.end - s.beg + length (flat middle.deleted))
        (λ h. h) refl (λ h. refl) changed
        (deleted_changed old middle buffer (selected (seen old before) s) changed.built buffer_within
        buffer_looks
        (λ h. copy_seen old before s buffer buffer_is)) (omega arith) refl)))
        (taken_out_some (seen old before) s some)

    -- a stretch was selected, and its copy put in at the caret
    pub sent_answered : (c : Caret) → before.caret ≡ Some c → IsOnTop s.viewer before.columns
        → IsChanged H old (with_selection before s) after
        (put_at_caret (seen old (with_selection before s)) (seen_text old buffer) c) (length (flat buffer)) 0
        → ((all : List ℕ) → has_space (seen all before) 0 (s.end - s.beg) 0 ≡ true)
        → IsAnswered H old new before after (outcome_after (seen old before) (sent_to_caret (seen old before) s)) Done
    unfolding seen
    sent_answered c is placed changed space = row_as (seen old before) (sent_to_caret (seen old before) s)
        (rest_answered H old new before after
        (put_at_caret (with_selection (seen old before) s) (selected (seen old before) s) c) (s.end - s.beg) 0
        over long same
        (subst (λ n. IsChanged H old before after
        (put_at_caret (with_selection (seen old before) s) (selected (seen old before) s) c) n 0)
        (copy_long before s buffer buffer_is (omega (arith, some)) within)
        (changed_as (put_at_caret (with_selection (seen old before) s) (selected (seen old before) s) c)
        (changed_further old old before (with_selection before s) after (with_selection (seen old before) s)
        (λ d. put_at_caret d (seen_text old buffer) c) 0 (length (flat buffer)) 0 0 (length (flat buffer)) 0
        (λ h. h) refl (λ h. refl)
        (with_selection_changed H old before (over_built old before over) s placed some within) changed
        (omega arith) refl)
        (λ h k. put_at_caret (with_selection (seen old before) s) (copy_seen old before s buffer buffer_is k) c)))
        space)
        (sent_some (seen old before) s some c is)

-- the newest selection was copied
pub copy_answered : (H : Type 0) (old : List ℕ) (before : KeptDesktop) (s : Selection) (buffer : List Piece)
    → IsOver old before → newest before ≡ Some s → s.beg < s.end
    → s.end ≤ length (flat (kept_main before s.viewer))
    → flat buffer ≡ stretch s.beg s.end (flat (kept_main before s.viewer))
    → ((all : List ℕ) → has_space (seen all before) 0 (s.end - s.beg) (length (flat before.copied)) ≡ true)
    → IsAnswered H old old before (record before { copied = buffer })
    (outcome_after (seen old before) (after_key (seen old before) Copy)) Done
unfolding seen
copy_answered H old before s buffer over is some within buffer_is space =
    row_as (seen old before) (after_key (seen old before) Copy)
    (rest_answered H old old before (record before { copied = buffer }) (with_copied (seen old before) s)
    (s.end - s.beg) (length (flat before.copied)) over refl (λ h. refl)
    (subst (λ n. IsChanged H old before (record before { copied = buffer }) (with_copied (seen old before) s) n
    (length (flat before.copied))) (copy_long before s buffer buffer_is (omega (arith, some)) within)
    (copy_changed H old old before before over refl (λ h. refl) before s buffer some within buffer_is)) space)
    (copy_some (seen old before) s is)

-- what was marked is gone
pub escape_answered : (H : Type 0) (old : List ℕ) (before : KeptDesktop) → IsOver old before
    → IsAnswered H old old before (without_marks before) (outcome_after (seen old before) (after_key (seen old before) Escape)) Done
unfolding after_key
escape_answered H old before over =
    less_answered H old old before (without_marks before) (without_marks (seen old before)) 0 0 (omega arith) over refl (λ h. refl)
    (escaped_changed H old before (over_built old before over))

-- nothing was done
pub stay_answered : (H : Type 0) (old : List ℕ) (before : KeptDesktop) (row : Result Desktop ℕ) → IsOver old before
    → row ≡ Ok (seen old before)
    → IsAnswered H old old before before (outcome_after (seen old before) row) Done
stay_answered H old before row over is =
    row_as (seen old before) row (row_answered H old old before before (seen old before) over (λ h. refl)) is

-- ---- typing

module _ (H : Type 0) (old bytes now new : List ℕ) (before after : KeptDesktop) (over : IsOver old before)
    (grown : now ≡ old ++ bytes) (long : length new ≡ length now) (same : H → new ≡ now) (c : Caret)
    (is : before.caret ≡ Some c) (buffer : List Piece)
    (buffer_is : flat buffer ≡ run before.written (length bytes) before.look) where
  typed_read : seen_text now buffer ≡ in_look before.look bytes
  typed_read =
      ap (contents now) buffer_is
      ∙ ap (λ (l : List ℕ). contents l (run before.written (length bytes) before.look)) grown
      ∙ new_read old bytes before.written before.look over.counted

  pub typed_answered : IsChanged H now before after (put_at_caret (seen now before) (seen_text now buffer) c)
      (length (flat buffer)) 0
      → ((all : List ℕ) → has_space (seen all before) (length bytes) (length bytes) 0 ≡ true)
      → IsAnswered H old new before (more_written after (length bytes))
      (outcome_after (seen old before) (after_typing (seen old before) bytes)) Done
  unfolding seen
  typed_answered changed space = row_as (seen old before) (after_typing (seen old before) bytes)
      (changed_answered H old bytes now new before after
      (put_at_caret (seen old before) (in_look before.look bytes) c) (length bytes) 0 over grown long same
      (subst (λ n. IsChanged H now before after (put_at_caret (seen old before) (in_look before.look bytes) c) n 0)
      (ap length buffer_is ∙ length-run before.written (length bytes) before.look)
      (changed_as (put_at_caret (seen old before) (in_look before.look bytes) c) changed
      (λ h k. put_at_caret (seen_grown old bytes now before over grown k) (typed_read k) c))) space)
      (typed_some (seen old before) c is bytes)

-- ---- refusals for the limits

module _ (H : Type 0) (old : List ℕ) (d : KeptDesktop) (over : IsOver old d) where
  module _ (c : Caret) (is : d.caret ≡ Some c) (placed : IsOnTop c.viewer d.columns) where
    pub typed_full : (bytes : List ℕ) → has_space (seen old d) (length bytes) (length bytes) 0 ≡ false
        → IsAnswered H old old d d (outcome_after (seen old d) (after_typing (seen old d) bytes)) (No full)
    unfolding seen
    typed_full bytes none = row_as (seen old d) (after_typing (seen old d) bytes)
        (full_answered H old d (put_at_caret (seen old d) (in_look d.look bytes) c) (length bytes) (length bytes) 0 over
        (subst (λ n. CountsHeld (seen old d) (put_at_caret (seen old d) (in_look d.look bytes) c) n 0)
        (length_in_look d.look bytes)
        (put_at_caret_counts (seen old d) (in_look d.look bytes) c (main_there_seen old d c.viewer over placed))) none)
        (typed_some (seen old d) c is bytes)

    pub sent_full : (s : Selection) → s.beg < s.end → s.end ≤ length (flat (kept_main d s.viewer))
        → has_space (seen old d) 0 (s.end - s.beg) 0 ≡ false
        → IsAnswered H old old d d (outcome_after (seen old d) (sent_to_caret (seen old d) s)) (No full)
    unfolding seen
    sent_full s some within none = row_as (seen old d) (sent_to_caret (seen old d) s)
        (full_rest_answered H old d (put_at_caret (with_selection (seen old d) s) (selected (seen old d) s) c)
        (s.end - s.beg) 0 over
        (subst (λ n. CountsHeld (seen old d) (put_at_caret (with_selection (seen old d) s) (selected (seen old d) s) c) n 0)
        (selected_long old d s (omega (arith, some)) within)
        (sent_counts (seen old d) s (selected (seen old d) s) c (main_there_seen old d c.viewer over placed))) none)
        (sent_some (seen old d) s some c is)

  module _ (s : Selection) (is : newest d ≡ Some s) (some : s.beg < s.end)
      (within : s.end ≤ length (flat (kept_main d s.viewer))) where
    pub copy_full : has_space (seen old d) 0 (s.end - s.beg) (length (flat d.copied)) ≡ false
        → IsAnswered H old old d d (outcome_after (seen old d) (after_key (seen old d) Copy)) (No full)
    unfolding seen
    copy_full none = row_as (seen old d) (after_key (seen old d) Copy)
        (full_rest_answered H old d (with_copied (seen old d) s) (s.end - s.beg) (length (flat d.copied)) over
        (subst (λ n. CountsHeld (seen old d) (with_copied (seen old d) s) n (length (flat d.copied)))
        (selected_long old d s (omega (arith, some)) within)
        (subst (λ n. CountsHeld (seen old d) (with_copied (seen old d) s) (length (selected (seen old d) s)) n)
        (length_seen_text old d.copied) (copied_counts (seen old d) (selected (seen old d) s)))) none)
        (copy_some (seen old d) s is)

    pub copied_to_full : (v p : ℕ) → IsOnTop v d.columns → has_space (seen old d) 0 (s.end - s.beg) 0 ≡ false
        → IsAnswered H old old d d (outcome_after (seen old d) (copied_to (seen old d) v p)) (No full)
    unfolding seen
    copied_to_full v p placed none = row_as (seen old d) (copied_to (seen old d) v p)
        (full_rest_answered H old d (put_in (seen old d) v p (selected (seen old d) s)) (s.end - s.beg) 0 over
        (subst (λ n. CountsHeld (seen old d) (put_in (seen old d) v p (selected (seen old d) s)) n 0)
        (selected_long old d s (omega (arith, some)) within)
        (put_in_counts (seen old d) v p (selected (seen old d) s) (main_there_seen old d v over placed))) none)
        (copied_to_some (seen old d) s is v p)

-- ---- looks

looks_seen : (characters : List ℕ) (found : Option (ℕ × Look))
    → look_of (option_map (λ (c : ℕ × Look). (slice_index characters c.0, c.1)) found) ≡ look_of found
looks_seen characters None = refl
looks_seen characters (Some c) = refl

-- the look at a position doesn't depend on the characters
pub look_seen : (characters : List ℕ) (d : KeptDesktop) (v p : ℕ)
    → look_at p (main_of (seen characters d) v) ≡ look_at p (flat (kept_main d v))
look_seen characters d v p =
    let text = flat (kept_main d v) in
    ap (look_at p) (kept_main_seen characters d v)
    ∙ ap (λ n. look_of (slice_get (contents characters text) (min p (n - 1))))
    (length_seen_text characters (kept_main d v))
    ∙ ap (λ (o : Option (ℕ × Look)). look_of o)
    (slice_get-map (λ (c : ℕ × Look). (slice_index characters c.0, c.1)) text (min p (length text - 1)))
    ∙ looks_seen characters (slice_get text (min p (length text - 1)))

set_long : {X : Type 0} (test other : ℕ → Bool) (texts : Texts (List X)) (text : List X)
    → length text ≡ length (unwrap_or (lookup test texts) [])
    → length (unwrap_or (lookup other (set_value test texts text)) []) ≡ length (unwrap_or (lookup other texts) [])
set_long test other [] text long = refl
set_long {X} test other (e ∷ es) text long =
    (elim (test e.0) as (λ b. length text ≡ length (unwrap_or (cond b (Some e.1) (lookup test es)) [])
    → length (unwrap_or (lookup other (cond b ((e.0, text) ∷ es) (e ∷ set_value test es text))) [])
    ≡ length (unwrap_or (cond (other e.0) (Some e.1) (lookup other es)) [])) [
      | true ↦ λ here. elim (other e.0) as
          (λ b. length (unwrap_or (cond b (Some text) (lookup other es)) [])
          ≡ length (unwrap_or (cond b (Some e.1) (lookup other es)) [])) [ true ↦ here | false ↦ refl ]
      | false ↦ λ later. elim (other e.0) as
          (λ b. length (unwrap_or (cond b (Some e.1) (lookup other (set_value test es text))) [])
          ≡ length (unwrap_or (cond b (Some e.1) (lookup other es)) []))
          [ true ↦ refl | false ↦ set_long test other es text later ]
    ]) long

-- a change of looks leaves each text as long as it was
pub looks_long : (d : Desktop) (s : Selection) (selector : ℕ) (look : Look) (v : ℕ) → s.beg ≤ s.end
    → s.end ≤ length (main_of d s.viewer)
    → length (main_of (looks_set d s selector look) v) ≡ length (main_of d v)
unfolding looks_set
looks_long d s selector look v order within =
    let n = (viewer_of d s.viewer).main in
    set_long (is_at (nat_cmp n)) (is_at (nat_cmp (viewer_of d v).main)) d.texts
    (looks_changed s.beg s.end selector look (text_of d n))
    (length-looks_changed s.beg s.end selector look (text_of d n) order within)

module _ (H : Type 0) (old : List ℕ) (before middle : KeptDesktop) (over : IsOver old before) (s : Selection)
    (some : s.beg < s.end) (within : s.end ≤ length (flat (kept_main before s.viewer))) (v p : ℕ)
    (look : Look) (look_is : look ≡ look_at p (flat (kept_main before v)))
    (changed : IsChanged ⊤ old before middle (looks_set (seen old before) s 7 look) 0 0)
    (placed : IsOnTop v middle.columns) (low : p ≤ length (flat (kept_main before v))) where
  main_stays : length (flat (kept_main middle v)) ≡ length (flat (kept_main before v))
  main_stays =
      sym (kept_main_long old middle v)
      ∙ ap (λ (d : Desktop). length (main_of d v)) (changed.exact tt)
      ∙ looks_long (seen old before) s 7 look v (omega (arith, some))
      (let l = kept_main_long old before s.viewer in omega (arith, l, within))
      ∙ kept_main_long old before v

  -- the newest selection got the look at a position, where the caret then stands
  pub looks_taken_answered : newest before ≡ Some s
      → IsAnswered H old old before (with_caret middle v p)
      (outcome_after (seen old before) (looks_taken (seen old before) v p)) Done
  unfolding seen
  looks_taken_answered is = row_as (seen old before) (looks_taken (seen old before) v p)
      (less_answered H old old before (with_caret middle v p)
      (with_caret (looks_set (seen old before) s 7 (look_at p (main_of (seen old before) v))) v p) 0 0 (omega arith)
      over refl (λ h. refl)
      (changed_as (with_caret (looks_set (seen old before) s 7 (look_at p (main_of (seen old before) v))) v p)
      (changed_further old old before middle (with_caret middle v p) (looks_set (seen old before) s 7 look)
      (λ d. with_caret d v p) 0 0 0 0 0 0 (λ h. h) refl (λ h. refl)
      (changed_under (λ h. tt) changed)
      (with_caret_changed H old middle changed.built v p placed (omega (arith, main_stays, low))) refl refl)
      (λ h k. with_caret (looks_set (seen old before) s 7
      ((look_is ∙ sym (look_seen old before v p)) k)) v p)))
      (looks_taken_some (seen old before) s is v p)
