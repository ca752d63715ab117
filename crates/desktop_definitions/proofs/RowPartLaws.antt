-- Laws of edits that several rows have: copies of stretches, both buffers, what is put in and taken out beside the
-- caret, and where the marks of a desktop stand that is kept.
use Rattle.std.specs.Prelude.{◌≡◌, ◌<◌, ◌≤◌, ℕ, suc, ◌+◌, ◌-◌, true}
use Rattle.std.specs.Prelude.{All, List, [], ◌∷◌, length, slice_get, slice_index, Option, Some, None}
use Rattle.std.specs.Prelude.{IsSome, Ok}
use Rattle.std.specs.Option.{ForSome}
use Rattle.std.specs.List.{last_or}
use Rattle.std.proofs.Common.{refl, sym, ap, subst, ◌∙◌, arith}
use Rattle.std.proofs.lemmas.Bool.{and_from, le-leb}
use Rattle.piece_ring.specs.declared.piece.Piece.{Piece}
use Rattle.piece_ring.specs.Flat.{flat}
use Rattle.piece_ring.proofs.Lengths.{length-stretch}
use Rattle.piece_ring.proofs.Renaming.{renamed-stretch}
use Rattle.piece_ring.specs.Text.{Text, stretch, AreWithin}
use Rattle.readers_scanners.specs.Reading.{contents}
use Rattle.viewer_tracks.specs.Columns.{IsOnTop}
use Rattle.desktop_definitions.specs.declared.viewer.Caret.{Caret}
use Rattle.desktop_definitions.specs.declared.viewer.Selection.{Selection}
use Rattle.desktop_definitions.specs.declared.reply.Reply.TheVariants.{Done}
use Rattle.desktop_definitions.specs.Limits.{most_written, most_held}
use Rattle.desktop_definitions.specs.Tables.{text_numbered}
use Rattle.desktop_definitions.proofs.TableLaws.{length_seen_text}
use Rattle.desktop_definitions.specs.Desktop.{Desktop, KeptDesktop, characters_held}
use Rattle.desktop_definitions.specs.Viewers.{viewer_of, viewer_or_none, text_in, text_of, main_of, selected}
use Rattle.desktop_definitions.specs.Viewers.{with_selection, kept_main}
use Rattle.desktop_definitions.specs.Change.{insertion, deletion, caret_shown, put_in, put_at_caret, cut_out}
use Rattle.desktop_definitions.proofs.ChangeLaws.{counts_none, insertion_counts, caret_shown_counts, with_selection_counts}
use Rattle.desktop_definitions.specs.Seen.{seen, seen_text}
use Rattle.desktop_definitions.proofs.TextLaws.{text_in_seen, text_within as within_table}
use Rattle.desktop_definitions.specs.Step.{outcome_after}
use Rattle.desktop_definitions.specs.Sound.{IsSelection, IsSound, IsWithin, IsBuilt, IsOver}
use Rattle.desktop_definitions.specs.Changed.{IsChanged, CountsHeld}
use Rattle.desktop_definitions.specs.Outcome.{IsAnswered}
use Rattle.desktop_definitions.proofs.RowLaws.{changed_as, changed_further, counts_then, rest_answered}
use Rattle.desktop_definitions.specs.DeskWords.{has_space}
use Rattle.desktop_definitions.specs.Looks.{AreLooks}
use Rattle.desktop_definitions.proofs.LookedLaws.{seen_looks, stretch_looks, kept_text_looks}
use Rattle.desktop_definitions.proofs.LookedLaws.{kept_copied_looks, kept_deleted_looks}
use Rattle.desktop_definitions.proofs.LookedLaws.{copied_looks, taken_looks, shape_stays}

-- ---- texts as they are seen

pub kept_text_seen : (characters : List ℕ) (d : KeptDesktop) (n : ℕ)
    → text_of (seen characters d) n ≡ seen_text characters (text_in d.texts n)
unfolding seen
kept_text_seen characters d n = text_in_seen characters d.texts n

pub kept_main_seen : (characters : List ℕ) (d : KeptDesktop) (v : ℕ)
    → main_of (seen characters d) v ≡ seen_text characters (kept_main d v)
unfolding seen
kept_main_seen characters d v = kept_text_seen characters d (viewer_or_none d.viewers v).main

pub kept_main_long : (characters : List ℕ) (d : KeptDesktop) (v : ℕ)
    → length (main_of (seen characters d) v) ≡ length (flat (kept_main d v))
kept_main_long characters d v =
    ap length (kept_main_seen characters d v) ∙ length_seen_text characters (kept_main d v)

-- a copy of a stretch is seen as what is selected there
pub copy_seen : (characters : List ℕ) (d : KeptDesktop) (s : Selection) (buffer : List Piece)
    → flat buffer ≡ stretch s.beg s.end (flat (kept_main d s.viewer))
    → seen_text characters buffer ≡ selected (seen characters d) s
copy_seen characters d s buffer is =
    ap (λ (t : Text ℕ). contents characters t) is
    ∙ renamed-stretch (λ offset. slice_index characters offset) s.beg s.end (flat (kept_main d s.viewer))
    ∙ ap (stretch s.beg s.end) (sym (kept_main_seen characters d s.viewer))

pub copy_long : (d : KeptDesktop) (s : Selection) (buffer : List Piece)
    → flat buffer ≡ stretch s.beg s.end (flat (kept_main d s.viewer)) → s.beg ≤ s.end
    → s.end ≤ length (flat (kept_main d s.viewer)) → length (flat buffer) ≡ s.end - s.beg
copy_long d s buffer is order within =
    ap length is ∙ length-stretch s.beg s.end (flat (kept_main d s.viewer)) order within

pub selected_long : (characters : List ℕ) (d : KeptDesktop) (s : Selection) → s.beg ≤ s.end
    → s.end ≤ length (flat (kept_main d s.viewer)) → length (selected (seen characters d) s) ≡ s.end - s.beg
selected_long characters d s order within =
    let long = kept_main_long characters d s.viewer in
    length-stretch s.beg s.end (main_of (seen characters d) s.viewer) order (omega (arith, within, long))

-- its characters have looks that there are
pub copy_looks : (n : ℕ) (d : KeptDesktop) (s : Selection) (buffer : List Piece) → IsBuilt n d
    → flat buffer ≡ stretch s.beg s.end (flat (kept_main d s.viewer)) → AreLooks (flat buffer)
copy_looks n d s buffer built is = subst AreLooks (sym is)
    (stretch_looks s.beg s.end (flat (kept_main d s.viewer))
    (kept_text_looks n d built (viewer_or_none d.viewers s.viewer).main))

pub text_within : (n : ℕ) (d : KeptDesktop) (m : ℕ) → IsWithin n d → AreWithin n (flat (text_in d.texts m))
text_within n d m within = within_table n d.texts m within.texts

-- ---- marks

-- the caret stands in a viewer on the display, within its text
pub kept_caret : (n : ℕ) (d : KeptDesktop) (c : Caret) → IsBuilt n d → d.caret ≡ Some c
    → IsOnTop c.viewer d.columns × (c.position ≤ length (flat (kept_main d c.viewer)))
unfolding seen
kept_caret n d c built is =
    let stands = (built.shaped []).marks.caret_stands c is in
    let long = kept_main_long [] d c.viewer in
    (stands.placed, (let low = stands.within in omega (arith, low, long)))

last_at : {X : Type 0} (x : X) (xs : List X) → slice_get (x ∷ xs) (length xs) ≡ last_or (Some x) xs
last_at x [] = refl
last_at x (y ∷ ys) = last_at y ys

pub last_newest : {X : Type 0} (xs : List X) → slice_get xs (length xs - 1) ≡ last_or None xs
last_newest [] = refl
last_newest (x ∷ xs) =
    let n : length (x ∷ xs) - 1 ≡ length xs = omega arith in ap (slice_get (x ∷ xs)) n ∙ last_at x xs

pub last_holds : {X : Type 0} (P : X → Type 0) (o : Option X) (xs : List X) (x : X) → ForSome o P → All P xs
    → last_or o xs ≡ Some x → P x
last_holds P o [] x first all is = first x is
last_holds P o (y ∷ ys) x first all is =
    last_holds P (Some y) ys x (λ z here. subst P (cc here) (all 0 y (omega arith)))
    (λ i e low. all (suc i) e (omega (arith, low))) is

-- the newest selection is some stretch of a viewer on the display
pub kept_newest : (n : ℕ) (d : KeptDesktop) (s : Selection) → IsBuilt n d → last_or None d.selections ≡ Some s
    → IsOnTop s.viewer d.columns × (s.beg < s.end) × (s.end ≤ length (flat (kept_main d s.viewer)))
unfolding seen
kept_newest n d s built is =
    let stands = last_holds
    (IsSelection (seen [] d).columns (λ v. length (main_of (seen [] d) v))) None
    d.selections s (λ z none. absurd (cc none)) (built.shaped []).marks.all_stand is in
    let long = kept_main_long [] d s.viewer in
    (stands.placed, stands.some, (let low = stands.within in omega (arith, low, long)))

-- ---- both buffers

module _ {H : Type 0} (characters : List ℕ) (d : KeptDesktop) (built : IsBuilt (length characters) d) where
  -- something else was copied and deleted last
  buffers_changed : (copied deleted : List Piece) (copied_text deleted_text : Text ℕ) (more fewer : ℕ)
      → AreWithin (length characters) (flat copied) → AreWithin (length characters) (flat deleted)
      → AreLooks (flat copied) → AreLooks (flat deleted)
      → (H → seen_text characters copied ≡ copied_text) → (H → seen_text characters deleted ≡ deleted_text)
      → length (flat copied) + length (flat deleted) + fewer ≡ length (flat d.copied) + length (flat d.deleted) + more
      → IsChanged H characters d (record d { copied = copied; deleted = deleted })
      (record (seen characters d) { copied = copied_text; deleted = deleted_text }) more fewer
  unfolding seen characters_held
  buffers_changed copied deleted copied_text deleted_text more fewer c_in d_in c_looks d_looks c_is d_is sum = record {
    exact = λ h k. record (seen characters d) { copied = c_is h k; deleted = d_is h k };
    built = record {
      within = record { texts = built.within.texts; files = built.within.files; copied = c_in; deleted = d_in };
      shaped = λ all.
          let shaped = built.shaped all in
          let has = copied_looks (seen all d) shaped.looks (seen_text all copied) (seen_looks all copied c_looks) in
          shape_stays shaped refl shaped.pattern
          (taken_looks (record (seen all d) { copied = seen_text all copied }) has (seen_text all deleted)
          (seen_looks all deleted d_looks));
    };
    counted = λ all.
        let copied_long = length_seen_text all copied in
        let deleted_long = length_seen_text all deleted in
        let copied_before = length_seen_text all d.copied in
        let deleted_before = length_seen_text all d.deleted in
        omega (arith, copied_long, deleted_long, copied_before, deleted_before, sum);
    rest = record { numbers = refl; viewers = refl; written = refl };
  }

module _ {H : Type 0} (characters : List ℕ) (d : KeptDesktop) (buffer : List Piece) (text : Text ℕ)
    (built : IsBuilt (length characters) d) (within : AreWithin (length characters) (flat buffer))
    (looks : AreLooks (flat buffer)) (is : H → seen_text characters buffer ≡ text) where
  -- something else was copied last
  pub copied_changed : IsChanged H characters d (record d { copied = buffer })
      (record (seen characters d) { copied = text }) (length (flat buffer)) (length (flat d.copied))
  unfolding seen
  copied_changed =
      buffers_changed characters d built buffer d.deleted text (seen_text characters d.deleted)
      (length (flat buffer)) (length (flat d.copied)) within built.within.deleted looks
      (kept_deleted_looks (length characters) d built) is (λ h. refl) (omega arith)

  -- something else was deleted last
  pub deleted_changed : IsChanged H characters d (record d { deleted = buffer })
      (record (seen characters d) { deleted = text }) (length (flat buffer)) (length (flat d.deleted))
  unfolding seen
  deleted_changed =
      buffers_changed characters d built d.copied buffer (seen_text characters d.copied) text
      (length (flat buffer)) (length (flat d.deleted)) built.within.copied within
      (kept_copied_looks (length characters) d built) looks (λ h. refl) is (omega arith)

pub copied_counts : (d : Desktop) (text : Text ℕ)
    → CountsHeld d (record d { copied = text }) (length text) (length d.copied)
unfolding characters_held
copied_counts d text = record {
  counted = omega arith;
  numbers = refl;
  viewers = refl;
  written = refl;
}

-- ---- what is put in

pub put_in_counts : (d : Desktop) (v p : ℕ) (text : Text ℕ) → IsSome (text_numbered d.texts (viewer_of d v).main)
    → CountsHeld d (put_in d v p text) (length text) 0
put_in_counts d v p text there =
    counts_then d (insertion d (viewer_of d v).main p text) (put_in d v p text) (length text) 0 0 0 (length text) 0
    (insertion_counts d (viewer_of d v).main p text there)
    (caret_shown_counts (insertion d (viewer_of d v).main p text) v (p + length text)) (omega arith) refl

pub put_at_caret_counts : (d : Desktop) (text : Text ℕ) (c : Caret)
    → IsSome (text_numbered d.texts (viewer_of d c.viewer).main) → CountsHeld d (put_at_caret d text c) (length text) 0
put_at_caret_counts d [] c there = counts_none d
put_at_caret_counts d (first ∷ more) c there = put_in_counts d c.viewer c.position (first ∷ more) there

-- a stretch is selected, and put in at the caret
pub sent_counts : (d : Desktop) (s : Selection) (text : Text ℕ) (c : Caret)
    → IsSome (text_numbered d.texts (viewer_of d c.viewer).main)
    → CountsHeld d (put_at_caret (with_selection d s) text c) (length text) 0
sent_counts d s text c there =
    counts_then d (with_selection d s) (put_at_caret (with_selection d s) text c) 0 (length text) 0 0 (length text) 0
    (with_selection_counts d s) (put_at_caret_counts (with_selection d s) text c there) (omega arith) refl

module _ {H G : Type 0} (cs ds : List ℕ) (a b c : KeptDesktop) (so : H → G) (long : length ds ≡ length cs)
    (same : H → ds ≡ cs) where
  -- a text is changed, and then the caret stands in it
  pub put_in_changed : (v p n size : ℕ) (buffer : List Piece) → n ≡ (viewer_or_none a.viewers v).main
      → size ≡ length (flat buffer)
      → IsChanged H cs a b (insertion (seen cs a) n p (seen_text cs buffer)) (length (flat buffer)) 0
      → IsChanged G ds b c (caret_shown (seen ds b) v (p + size)) 0 0
      → IsChanged H cs a c (put_in (seen cs a) v p (seen_text cs buffer)) (length (flat buffer)) 0
  unfolding seen
  put_in_changed v p n size buffer number size_is first next =
      changed_as (put_in (seen cs a) v p (seen_text cs buffer))
      (changed_further cs ds a b c (insertion (seen cs a) n p (seen_text cs buffer)) (λ d. caret_shown d v (p + size))
      (length (flat buffer)) 0 0 0 (length (flat buffer)) 0 so long same first next (omega arith) refl)
      (λ h k. caret_shown (insertion (seen cs a) (number k) p (seen_text cs buffer)) v
      (p + (size_is ∙ sym (length_seen_text cs buffer)) k))

  pub cut_out_changed : (s : Selection) (n : ℕ) → n ≡ (viewer_or_none a.viewers s.viewer).main
      → IsChanged H cs a b (deletion (seen cs a) n s.beg s.end) 0 (s.end - s.beg)
      → IsChanged G ds b c (caret_shown (seen ds b) s.viewer s.beg) 0 0
      → IsChanged H cs a c (cut_out (seen cs a) s) 0 (s.end - s.beg)
  unfolding seen
  cut_out_changed s n number first next =
      changed_as (cut_out (seen cs a) s)
      (changed_further cs ds a b c (deletion (seen cs a) n s.beg s.end) (λ d. caret_shown d s.viewer s.beg)
      0 0 (s.end - s.beg) 0 0 (s.end - s.beg) so long same first next refl (omega arith))
      (λ h k. caret_shown (deletion (seen cs a) (number k) s.beg s.end) s.viewer s.beg)

-- where there is nothing to put in the desktop stays
pub put_none : (d : Desktop) (text : Text ℕ) (c : Caret) → length text ≡ 0 → put_at_caret d text c ≡ d
put_none d [] c none = refl
put_none d (first ∷ more) c none = absurd (omega (arith, none))

pub put_some : (d : Desktop) (text : Text ℕ) (c : Caret) → 0 < length text
    → put_at_caret d text c ≡ put_in d c.viewer c.position text
put_some d [] c some = absurd (omega (arith, some))
put_some d (first ∷ more) c some = refl

-- ---- rows that hold no more

-- there is always space for what holds no more
space_less : (d : Desktop) (more fewer : ℕ) → more ≤ fewer → IsSound d → has_space d 0 more fewer ≡ true
unfolding has_space
space_less d more fewer less sound = and_from _ _
    (le-leb (d.written + 0) most_written (let low = sound.written_within in omega (arith, low)))
    (le-leb (characters_held d + more) (most_held + fewer) (let low = sound.held_within in omega (arith, low, less)))

pub less_answered : (H : Type 0) (old new : List ℕ) (before after : KeptDesktop) (outcome : Desktop) (more fewer : ℕ)
    → more ≤ fewer → IsOver old before → length new ≡ length old → (H → new ≡ old)
    → IsChanged H old before after outcome more fewer
    → IsAnswered H old new before after (outcome_after (seen old before) (Ok outcome)) Done
less_answered H old new before after outcome more fewer less over long same changed =
    rest_answered H old new before after outcome more fewer over long same changed
    (λ all. space_less (seen all before) more fewer less (over.whole.sound all))
