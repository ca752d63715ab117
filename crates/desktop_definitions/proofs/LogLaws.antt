-- Laws of lines of the log: what the definitions hold and write, what a part of an event owes that writes lines, and
-- what a row owes that ends with such a part.
use Rattle.std.specs.Prelude.{◌≡◌, ◌<◌, ◌≤◌, ℕ, zero, suc, ◌+◌, ◌&&◌, nat_le, nat_lt, true, false}
use Rattle.std.specs.Prelude.{if◌then◌else◌, IsSome, is_some, Some, slice_get, take, drop}
use Rattle.std.specs.Prelude.{List, [], ◌∷◌, ◌++◌, length, map, fold, sum_by, Ok}
use Rattle.std.specs.Map.{keys_of, set_value}
use Rattle.std.specs.Ordering.{nat_cmp}
use Rattle.std.specs.BTreeMap.{is_at}
use Rattle.std.proofs.Common.{refl, sym, ap, subst, ◌∙◌, length-append, arith}
use Rattle.std.proofs.lemmas.Bool.{eq-eqb, ne_eqb, lt-ltb, le-ltb}
use Rattle.std.proofs.lemmas.List.{take_all, at_drop_all, length-map}
use Rattle.std.proofs.lemmas.List.Sums.{sum_by-cons}
use Rattle.std.proofs.lemmas.Map.Made.{keys_of-map_values}
use Rattle.piece_ring.specs.declared.piece.Piece.{Piece}
use Rattle.piece_ring.specs.Look.{default_look}
use Rattle.piece_ring.specs.Flat.{flat, run}
use Rattle.piece_ring.proofs.Lengths.{length-run}
use Rattle.piece_ring.specs.Text.{Text}
use Rattle.readers_scanners.specs.Reading.{contents, bytes_of_text}
use Rattle.text_frames.specs.Rules.{shown_org}
use Rattle.viewer_tracks.specs.Columns.{IsPlaced, times_placed}
use Rattle.desktop_definitions.specs.declared.viewer.Viewer.{Viewer}
use Rattle.desktop_definitions.specs.declared.reply.Reply.TheVariants.{Done, No}
use Rattle.desktop_definitions.specs.Limits.{most_written, most_held, most_files, full}
use Rattle.desktop_definitions.specs.Tables.{text_numbered}
use Rattle.desktop_definitions.proofs.TableLaws.{length_seen_text, lookup_seen, is_some_map}
use Rattle.desktop_definitions.specs.Desktop.{Desktop, KeptDesktop, characters_held}
use Rattle.desktop_definitions.specs.Viewers.{viewer_of, viewer_or_none, shows, with_org, rows_of, text_in, text_of}
use Rattle.desktop_definitions.specs.Change.{plain_text, bytes_of, insertion, deletion, showing, more_written}
use Rattle.desktop_definitions.proofs.ChangeLaws.{counts_none, counts_further, insertion_counts, showing_counts}
use Rattle.desktop_definitions.specs.Log.{log_shown, log_end_shown, logged, all_logged}
use Rattle.desktop_definitions.specs.Effects.{size_line, log_cleared, directory_logged}
use Rattle.desktop_definitions.specs.Seen.{seen, seen_text, seen_table}
use Rattle.desktop_definitions.proofs.SeenLaws.{seen_longer, new_read}
use Rattle.desktop_definitions.proofs.ShapeLaws.{found_by_keys}
use Rattle.desktop_definitions.specs.Step.{fits, outcome_after}
use Rattle.desktop_definitions.proofs.StepLaws.{AllShown, settled_full}
use Rattle.desktop_definitions.specs.Sound.{IsWithin, IsBuilt, IsOver}
use Rattle.desktop_definitions.specs.Changed.{texts_shown, IsChanged, IsStanding, IsExtended, CountsHeld}
use Rattle.desktop_definitions.specs.Outcome.{IsAnswered}
use Rattle.desktop_definitions.proofs.OutcomeLaws.{refused, length_in_look}
use Rattle.desktop_definitions.proofs.RowLaws.{known_full, shown_rest, space_written, space_held, space_made}
use Rattle.desktop_definitions.specs.DeskWords.{has_space}
use Rattle.desktop_definitions.proofs.RowLaws.{row_answered, fewer_answered, over_built, unchanged, changed_as}
use Rattle.desktop_definitions.proofs.RowLaws.{changed_further}
use Rattle.desktop_definitions.proofs.RowPartLaws.{kept_text_seen}
use Rattle.desktop_definitions.proofs.MarkLaws.{with_org_changed}
use Rattle.desktop_definitions.proofs.TextLaws.{text_in_seen}
use Rattle.desktop_definitions.proofs.LookedLaws.{written_shaped, within_stays}

-- A part of an event that writes, as the definitions have it: the same viewers show the same texts, so many characters
-- are made, and so many more and so many fewer are held.
pub record CountsMade (old new : Desktop) (made more fewer : ℕ) : Type 0 where
  pub counted : characters_held new + fewer ≡ characters_held old + more
  pub numbers : keys_of new.texts ≡ keys_of old.texts
  pub viewers : texts_shown new.viewers ≡ texts_shown old.viewers
  pub written : new.written ≡ old.written + made

-- ---- what the definitions hold and write

log_shown_counts : (d : Desktop) (v : ℕ) → CountsHeld d (log_shown d v) 0 0
log_shown_counts d v = elim (shows d 0 v && nat_lt 0 (times_placed v d.columns)) as
    (λ b. CountsHeld d (if b then showing d v (length (text_of d 0)) else d) 0 0) [
      | true ↦ showing_counts d v (length (text_of d 0))
      | false ↦ counts_none d
    ]

all_shown_counts : (d : Desktop) (ids : List ℕ) → CountsHeld d (fold log_shown d ids) 0 0
all_shown_counts d [] = counts_none d
all_shown_counts d (v ∷ ids) =
    counts_further d (log_shown d v) (fold log_shown (log_shown d v) ids) 0 0 0 0 (log_shown_counts d v)
    (all_shown_counts (log_shown d v) ids)

log_there : (d new : Desktop) → keys_of new.texts ≡ keys_of d.texts → IsSome (text_numbered d.texts 0)
    → IsSome (text_numbered new.texts 0)
log_there d new same there = found_by_keys (is_at (nat_cmp 0)) d.texts new.texts same ∙ there

written_counts : (d new : Desktop) (made more fewer : ℕ) → CountsHeld d new more fewer
    → CountsMade d (more_written new made) made more fewer
unfolding characters_held
written_counts d new made more fewer counts = record {
  counted = counts.counted;
  numbers = counts.numbers;
  viewers = counts.viewers;
  written = ap (λ n. n + made) counts.written;
}

-- a part that writes, after one that doesn't
pub made_after : (d mid new : Desktop) (more fewer made again : ℕ) → CountsHeld d mid more fewer
    → CountsMade mid new made again 0 → CountsMade d new made (more + again) fewer
made_after d mid new more fewer made again first next = record {
  counted = omega (arith, first.counted, next.counted);
  numbers = next.numbers ∙ first.numbers;
  viewers = next.viewers ∙ first.viewers;
  written = next.written ∙ ap (λ n. n + made) first.written;
}

made_then : (d mid new : Desktop) (made again : ℕ) → CountsMade d mid made made 0 → CountsMade mid new again again 0
    → CountsMade d new (made + again) (made + again) 0
made_then d mid new made again first next = record {
  counted = omega (arith, first.counted, next.counted);
  numbers = next.numbers ∙ first.numbers;
  viewers = next.viewers ∙ first.viewers;
  written = omega (arith, first.written, next.written);
}

pub logged_counts : (d : Desktop) (line : List ℕ) → IsSome (text_numbered d.texts 0)
    → CountsMade d (logged d line) (length line) (length line) 0
unfolding logged
logged_counts d line there =
    let put = insertion d 0 (length (text_of d 0)) (plain_text line) in
    let mid = more_written put (length line) in
    let counts : CountsMade d mid (length line) (length line) 0
    = written_counts d put (length line) (length line) 0
    (subst (λ n. CountsHeld d put n 0) (length_in_look default_look line)
    (insertion_counts d 0 (length (text_of d 0)) (plain_text line) there)) in
    let end = all_shown_counts mid (keys_of mid.viewers) in
    record {
      counted = omega (arith, counts.counted, end.counted);
      numbers = end.numbers ∙ counts.numbers;
      viewers = end.viewers ∙ counts.viewers;
      written = end.written ∙ counts.written;
    }

-- how many bytes lines have
abbrev pub line_bytes : List (List ℕ) → ℕ
line_bytes lines = sum_by (λ line. length line) lines

pub all_logged_counts : (d : Desktop) (lines : List (List ℕ)) → IsSome (text_numbered d.texts 0)
    → CountsMade d (all_logged d lines) (line_bytes lines) (line_bytes lines) 0
unfolding all_logged
all_logged_counts d [] there = record {
  counted = refl;
  numbers = refl;
  viewers = refl;
  written = omega arith;
}
all_logged_counts d (line ∷ lines) there =
    let first = logged_counts d line there in
    subst (λ n. CountsMade d (fold logged (logged d line) lines) n n 0)
    (sym (sum_by-cons (λ (l : List ℕ). length l) line lines))
    (made_then d (logged d line) (fold logged (logged d line) lines) (length line) (line_bytes lines) first
    (all_logged_counts (logged d line) lines (log_there d (logged d line) first.numbers there)))

-- lines that are made one from each of a list
pub line_bytes_map : {A : Type 0} (f : A → List ℕ) (es : List A) → line_bytes (map f es) ≡ sum_by (λ e. length (f e)) es
line_bytes_map {A} f [] = refl
line_bytes_map {A} f (e ∷ es) =
    sum_by-cons (λ (l : List ℕ). length l) (f e) (map f es)
    ∙ ap (λ n. length (f e) + n) (line_bytes_map f es)
    ∙ sym (sum_by-cons (λ (x : A). length (f x)) e es)

-- ---- refusals for the limits

unfit : (d new : Desktop) (made more fewer : ℕ) → CountsMade d new made more fewer
    → has_space d made more fewer ≡ fits new
unfolding characters_held
unfit d new made more fewer counts =
    space_made d (record new { written = d.written }) made more fewer (record {
      counted = counts.counted;
      numbers = counts.numbers;
      viewers = counts.viewers;
      written = refl;
    })
    ∙ (λ k. nat_le (sym counts.written k) most_written && nat_le (characters_held new) most_held)

-- where there is no space for what a row makes it is refused
pub made_full : (H : Type 0) (old : List ℕ) (d : KeptDesktop) (new : Desktop) (made more fewer : ℕ) → IsOver old d
    → CountsMade (seen old d) new made more fewer → has_space (seen old d) made more fewer ≡ false
    → IsAnswered H old old d d (outcome_after (seen old d) (Ok new)) (No full)
made_full H old d new made more fewer over counts none =
    refused H old d (outcome_after (seen old d) (Ok new)) full over known_full (λ h.
    sym (settled_full (seen old d) new
    (shown_rest (seen old d) new counts.numbers counts.viewers (over.whole.sound old).shown)
    (sym (unfit (seen old d) new made more fewer counts) ∙ none)))

module _ (H : Type 0) (old : List ℕ) (d : KeptDesktop) (mid : Desktop) (more fewer : ℕ) (over : IsOver old d)
    (counts : CountsHeld (seen old d) mid more fewer) where
  mid_there : IsSome (text_numbered mid.texts 0)
  mid_there = log_there (seen old d) mid counts.numbers (over.whole.sound old).shaped.viewers.log

  -- a row that ends with a line of the log is refused where there is no space for it
  pub logged_full : (line : List ℕ) (all : ℕ) → all ≡ more + length line
      → has_space (seen old d) (length line) all fewer ≡ false
      → IsAnswered H old old d d (outcome_after (seen old d) (Ok (logged mid line))) (No full)
  logged_full line all sum none =
      made_full H old d (logged mid line) (length line) all fewer over
      (subst (λ n. CountsMade (seen old d) (logged mid line) (length line) n fewer) (sym sum)
      (made_after (seen old d) mid (logged mid line) more fewer (length line) (length line) counts
      (logged_counts mid line mid_there))) none

  -- and one that ends with lines of so many bytes
  pub all_logged_full : (lines : List (List ℕ)) (made all : ℕ) → made ≡ line_bytes lines → all ≡ more + made
      → has_space (seen old d) made all fewer ≡ false
      → IsAnswered H old old d d (outcome_after (seen old d) (Ok (all_logged mid lines))) (No full)
  all_logged_full lines made all is sum none =
      made_full H old d (all_logged mid lines) made all fewer over
      (subst (λ n. CountsMade (seen old d) (all_logged mid lines) made n fewer) (sym sum)
      (subst (λ n. CountsMade (seen old d) (all_logged mid lines) n (more + n) fewer) (sym is)
      (made_after (seen old d) mid (all_logged mid lines) more fewer (line_bytes lines) (line_bytes lines) counts
      (all_logged_counts mid lines mid_there)))) none

-- ---- rows that are done

-- after a part that writes nothing the next part stands on the same characters
pub changed_stands : {H : Type 0} {old : List ℕ} {before mid : KeptDesktop} {x : Desktop} {more fewer : ℕ}
    → IsOver old before → IsChanged H old before mid x more fewer → IsStanding old mid
changed_stands over changed = record {
  counted = over.counted ∙ sym changed.rest.written;
  built = changed.built;
}

module _ {H : Type 0} (old new : List ℕ) (before mid after : KeptDesktop) (outcome : Desktop)
    (part : Desktop → Desktop) (more fewer made sum : ℕ) (over : IsOver old before)
    (changed : IsChanged H old before mid outcome more fewer) (extended : IsExtended H old new mid after part made)
    (sum_is : sum ≡ more + made) (space : (all : List ℕ) → has_space (seen all before) made sum fewer ≡ true) where
  seen_keys : (all : List ℕ) → keys_of (seen all after).texts ≡ keys_of (seen all before).texts
  unfolding seen
  seen_keys all =
      keys_of-map_values (seen_text all) after.texts ∙ extended.numbers ∙ changed.rest.numbers
      ∙ sym (keys_of-map_values (seen_text all) before.texts)

  seen_shown : (all : List ℕ) → AllShown (seen all after)
  unfolding seen
  seen_shown all = shown_rest (seen all before) (seen all after) (seen_keys all)
      (extended.viewers ∙ changed.rest.viewers) (over.whole.sound all).shown

  written_within : (all : List ℕ) → (seen all after).written ≤ most_written
  unfolding seen
  written_within all =
      let low = space_written (seen all before) made sum fewer (space all) in
      omega (arith, low, extended.written, changed.rest.written)

  held_within : (all : List ℕ) → characters_held (seen all after) ≤ most_held
  held_within all =
      let low = space_held (seen all before) made sum fewer (space all) in
      omega (arith, low, sum_is, extended.counted all, changed.counted all)

  -- a row that ends with a part that writes leaves the desktop over all characters
  pub extended_over : IsOver new after
  extended_over = record {
    counted = extended.stands.counted;
    whole = record {
      within = subst (λ n. IsWithin n after) extended.stands.counted extended.stands.built.within;
      sound = λ all. record {
        shaped = extended.stands.built.shaped all;
        shown = seen_shown all;
        written_within = written_within all;
        held_within = held_within all;
      };
    };
  }

  -- and is done
  pub extended_answered : IsAnswered H old new before after (outcome_after (seen old before) (Ok (part outcome))) Done
  extended_answered = row_answered H old new before after (part outcome) extended_over
      (λ h. extended.exact h ∙ ap part (changed.exact h))

-- ---- the log becomes empty

cleared_none : (d : Desktop) → length (text_of d 0) ≡ 0 → log_cleared d ≡ d
unfolding log_cleared deletion
cleared_none d none = rw none refl

-- the log, as long as it is seen
pub log_long : (characters : List ℕ) (d : KeptDesktop)
    → length (text_of (seen characters d) 0) ≡ length (flat (text_in d.texts 0))
log_long characters d =
    ap length (kept_text_seen characters d 0) ∙ length_seen_text characters (text_in d.texts 0)

module _ (H : Type 0) (old : List ℕ) (d : KeptDesktop) (over : IsOver old d) where
  -- it was empty
  pub empty_cleared : length (flat (text_in d.texts 0)) ≡ 0
      → IsAnswered H old old d d (outcome_after (seen old d) (Ok (log_cleared (seen old d)))) Done
  empty_cleared none =
      row_answered H old old d d (log_cleared (seen old d)) over
      (λ h. sym (cleared_none (seen old d) (log_long old d ∙ none)))

  -- what stood in it was taken out
  pub log_was_cleared : (new : List ℕ) (after : KeptDesktop) (len fewer : ℕ) → len ≡ length (flat (text_in d.texts 0))
      → length new ≡ length old → (H → new ≡ old)
      → IsChanged H old d after (deletion (seen old d) 0 0 len) 0 fewer
      → IsAnswered H old new d after (outcome_after (seen old d) (Ok (log_cleared (seen old d)))) Done
  unfolding log_cleared
  log_was_cleared new after len fewer is long same changed =
      fewer_answered H old new d after (log_cleared (seen old d)) fewer over long same
      (changed_as (log_cleared (seen old d)) changed
      (λ h. ap (deletion (seen old d) 0 0) (is ∙ sym (log_long old d))))

-- ---- a line for each file

module _ (H : Type 0) (old : List ℕ) (d : KeptDesktop) (over : IsOver old d) (lines : List (List ℕ)) (made : ℕ)
    (lines_is : lines ≡ map (λ file. size_line file.0 (length file.1)) (seen_table old d.files))
    (made_is : made ≡ line_bytes lines) where
  directory_is : all_logged (seen old d) lines ≡ directory_logged (seen old d)
  unfolding directory_logged seen
  directory_is = ap (all_logged (seen old d)) lines_is

  pub directory_full : has_space (seen old d) made made 0 ≡ false
      → IsAnswered H old old d d (outcome_after (seen old d) (Ok (directory_logged (seen old d)))) (No full)
  directory_full none =
      subst (λ (x : Desktop). IsAnswered H old old d d (outcome_after (seen old d) (Ok x)) (No full)) directory_is
      (all_logged_full H old d (seen old d) 0 0 over (counts_none (seen old d)) lines made made made_is (omega arith)
      none)

  pub directory_answered : (new : List ℕ) (after : KeptDesktop)
      → IsExtended H old new d after (λ x. all_logged x lines) made
      → ((all : List ℕ) → has_space (seen all d) made made 0 ≡ true)
      → IsAnswered H old new d after (outcome_after (seen old d) (Ok (directory_logged (seen old d)))) Done
  directory_answered new after extended space =
      subst (λ (x : Desktop). IsAnswered H old new d after (outcome_after (seen old d) (Ok x)) Done) directory_is
      (extended_answered old new d d after (seen old d) (λ x. all_logged x lines) 0 0 made made over
      (unchanged H old d (over_built old d over)) extended (omega arith) space)

  -- there are as many lines as files
  pub directory_few : length lines ≤ most_files
  unfolding seen
  directory_few =
      let few = (over.whole.sound old).shaped.files.few in
      let size = length-map {B = List ℕ} (seen_table old d.files) (λ file. size_line file.0 (length file.1)) in
      omega (arith, few, ap length lines_is, size)

-- ---- parts of a row that write

-- a part that writes, and one that writes nothing; then the characters were only read
pub extended_further : {H G : Type 0} (old mid new : List ℕ) (a b c : KeptDesktop) (f g : Desktop → Desktop) (n : ℕ)
    → (H → G) → length new ≡ length mid → (H → new ≡ mid)
    → IsExtended H old mid a b f n → IsChanged G mid b c (g (seen mid b)) 0 0
    → IsExtended H old new a c (λ d. g (f d)) n
extended_further old mid new a b c f g n so long same first next = record {
  exact = λ h. ap (λ (l : List ℕ). seen l c) (same h) ∙ next.exact (so h) ∙ ap g (first.exact h);
  stands = record {
    counted = long ∙ first.stands.counted ∙ sym next.rest.written;
    built = subst (λ n. IsBuilt n c) (sym long) next.built;
  };
  counted = λ all. omega (arith, first.counted all, next.counted all);
  numbers = next.rest.numbers ∙ first.numbers;
  viewers = next.rest.viewers ∙ first.viewers;
  written = next.rest.written ∙ first.written;
}

module _ {H G : Type 0} (old line now new : List ℕ) (before after : KeptDesktop) (end : ℕ) (buffer : List Piece)
    (stands : IsStanding old before) (grown : now ≡ old ++ line) (so : H → G) (long : length new ≡ length now)
    (same : H → new ≡ now) (buffer_is : flat buffer ≡ run before.written (length line) default_look)
    (end_is : end ≡ length (flat (text_in before.texts 0)))
    (changed : IsChanged G now before after (insertion (seen now before) 0 end (seen_text now buffer))
    (length (flat buffer)) 0) where
  line_read : seen_text now buffer ≡ plain_text line
  line_read =
      ap (contents now) buffer_is
      ∙ ap (λ (l : List ℕ). contents l (run before.written (length line) default_look)) grown
      ∙ new_read old line before.written default_look stands.counted

  before_seen : seen now before ≡ seen old before
  before_seen = ap (λ (l : List ℕ). seen l before) grown ∙ seen_longer old line before stands.built.within

  line_long : length (flat buffer) ≡ length line
  line_long = ap length buffer_is ∙ length-run before.written (length line) default_look

  all_long : length new ≡ after.written + length line
  all_long =
      let sum = ap length grown ∙ length-append old line in
      omega (arith, long, sum, stands.counted, changed.rest.written)

  put_seen : H → seen new (more_written after (length line))
      ≡ more_written (insertion (seen old before) 0 (length (text_of (seen old before) 0)) (plain_text line)) (length line)
  unfolding seen
  put_seen h =
      ap (λ (l : List ℕ). seen l (more_written after (length line))) (same h)
      ∙ ap (λ (d : Desktop). more_written d (length line)) (changed.exact (so h))
      ∙ (λ k. more_written (insertion (before_seen k) 0 ((end_is ∙ sym (log_long old before)) k) (line_read k))
      (length line))

  within : IsWithin (length new) after
  within = subst (λ n. IsWithin n after) (sym long) changed.built.within

  -- a line was put in at the end of the log, and counts as written
  pub line_put : IsExtended H old new before (more_written after (length line)) (λ d.
      more_written (insertion d 0 (length (text_of d 0)) (plain_text line)) (length line)) (length line)
  unfolding seen characters_held
  line_put = record {
    exact = put_seen;
    stands = record {
      counted = all_long;
      built = record {
        within = within_stays within refl;
        shaped = λ all. written_shaped (after.written + length line) (changed.built.shaped all);
      };
    };
    counted = λ all. let sum = changed.counted all in omega (arith, sum, line_long);
    numbers = changed.rest.numbers;
    viewers = changed.rest.viewers;
    written = ap (λ n. n + length line) changed.rest.written;
  }

  module _ {F : Type 0} (last : List ℕ) (shown : KeptDesktop) (again : H → F) (as_long : length last ≡ length new)
      (still : H → last ≡ new)
      (next : IsChanged F new (more_written after (length line)) shown
      (log_end_shown (seen new (more_written after (length line)))) 0 0) where
    -- and the end is shown
    pub line_logged : IsExtended H old last before shown (λ d. logged d line) (length line)
    unfolding logged
    line_logged =
        extended_further old new last before (more_written after (length line)) shown
        (λ d. more_written (insertion d 0 (length (text_of d 0)) (plain_text line)) (length line)) log_end_shown
        (length line) again as_long still line_put next

-- ---- lines, one by one

-- Some lines were put in, and the rest is to come.
pub record IsLogging (honest : Type 0) (old new : List ℕ) (before after : KeptDesktop) (lines rest : List (List ℕ))
    : Type 0 where
  pub exact : honest → all_logged (seen new after) rest ≡ all_logged (seen old before) lines
  pub stands : IsStanding new after
  pub counted : (all : List ℕ) → characters_held (seen all after) + line_bytes rest ≡ characters_held (seen all before) + line_bytes lines
  pub numbers : keys_of after.texts ≡ keys_of before.texts
  pub viewers : texts_shown after.viewers ≡ texts_shown before.viewers
  pub written : after.written + line_bytes rest ≡ before.written + line_bytes lines

pub logging_next : {H G : Type 0} (old mid new : List ℕ) (a b c : KeptDesktop) (lines : List (List ℕ)) (line : List ℕ)
    (rest : List (List ℕ)) → (H → G) → IsLogging H old mid a b lines (line ∷ rest)
    → IsExtended G mid new b c (λ d. logged d line) (length line) → IsLogging H old new a c lines rest
unfolding all_logged
logging_next old mid new a b c lines line rest so first next =
    let sum = sum_by-cons (λ (l : List ℕ). length l) line rest in
    record {
      exact = λ h. ap (λ (d : Desktop). fold logged d rest) (next.exact (so h)) ∙ first.exact h;
      stands = next.stands;
      counted = λ all. omega (arith, sum, next.counted all, first.counted all);
      numbers = next.numbers ∙ first.numbers;
      viewers = next.viewers ∙ first.viewers;
      written = omega (arith, sum, next.written, first.written);
    }

pub logging_last : {H : Type 0} (old new : List ℕ) (a b : KeptDesktop) (lines rest : List (List ℕ)) (made : ℕ)
    → rest ≡ [] → made ≡ line_bytes lines → IsLogging H old new a b lines rest
    → IsExtended H old new a b (λ d. all_logged d lines) made
unfolding all_logged
logging_last {H} old new a b lines rest made none is logging =
    let last : IsLogging H old new a b lines [] = subst (IsLogging H old new a b lines) none logging in
    record {
      exact = last.exact;
      stands = last.stands;
      counted = λ all. omega (arith, is, last.counted all);
      numbers = last.numbers;
      viewers = last.viewers;
      written = omega (arith, is, last.written);
    }

-- the lines that are to come begin with the one at hand
at_hand : {A : Type 0} (f : A → List ℕ) (es : List A) (i : ℕ) (e : A) → slice_get es i ≡ Some e
    → map f (drop i es) ≡ f e ∷ map f (drop (suc i) es)
at_hand {A} f [] i e is = absurd (cc is)
at_hand {A} f (x ∷ es) zero e is = ap (λ (y : A). f y ∷ map f es) (cc is)
at_hand {A} f (x ∷ es) (suc i) e is = at_hand f es i e is

module _ {H A : Type 0} (old new : List ℕ) (a b : KeptDesktop) (f : A → List ℕ) (es : List A) (i : ℕ) (e : A)
    (is : slice_get es i ≡ Some e) (logging : IsLogging H old new a b (map f es) (map f (drop i es))) where
  logging_at : IsLogging H old new a b (map f es) (f e ∷ map f (drop (suc i) es))
  logging_at = subst (IsLogging H old new a b (map f es)) (at_hand f es i e is) logging

  -- a line more was put in
  pub logging_more : {G : Type 0} (last : List ℕ) (c : KeptDesktop) (n : ℕ) → n ≡ suc i → (H → G)
      → IsExtended G new last b c (λ d. logged d (f e)) (length (f e))
      → IsLogging H old last a c (map f es) (map f (drop n es))
  logging_more last c n next_is so next =
      subst (λ (m : ℕ). IsLogging H old last a c (map f es) (map f (drop m es))) (sym next_is)
      (logging_next old new last a b c (map f es) (f e) (map f (drop (suc i) es)) so logging_at next)

-- all were put in
pub logging_whole : {H A : Type 0} (old new : List ℕ) (a b : KeptDesktop) (f : A → List ℕ) (es : List A) (n : ℕ)
    → length es ≤ n → IsLogging H old new a b (map f es) (map f (drop n es))
    → IsExtended H old new a b (λ d. all_logged d (map f es)) (sum_by (λ x. length (f x)) es)
logging_whole old new a b f es n all logging =
    logging_last old new a b (map f es) (map f (drop n es)) (sum_by (λ x. length (f x)) es)
    (at_drop_all (map f) es n all) (sym (line_bytes_map f es)) logging

-- ---- the end is shown, viewer by viewer

fold_taken : {A B : Type 0} (f : B → A → B) (b : B) (xs : List A) (i : ℕ) (x : A) → slice_get xs i ≡ Some x
    → f (fold f b (take i xs)) x ≡ fold f b (take (suc i) xs)
fold_taken f b [] i x is = absurd (cc is)
fold_taken f b (y ∷ ys) zero x is = ap (f b) (sym (cc is))
fold_taken f b (y ∷ ys) (suc i) x is = fold_taken f (f b y) ys i x is

shown_ids : (viewers : List (ℕ × Viewer)) → keys_of viewers ≡ map (λ (e : ℕ × ℕ × ℕ). e.0) (texts_shown viewers)
shown_ids [] = refl
shown_ids (e ∷ es) = ap (λ (l : List ℕ). e.0 ∷ l) (shown_ids es)

same_ids : (a b : List (ℕ × Viewer)) → texts_shown b ≡ texts_shown a → keys_of b ≡ keys_of a
same_ids a b same =
    shown_ids b ∙ ap (λ (l : List (ℕ × ℕ × ℕ)). map (λ (e : ℕ × ℕ × ℕ). e.0) l) same ∙ sym (shown_ids a)

-- the viewers so far that show the log show its end
abbrev pub shown_to : List ℕ → KeptDesktop → ℕ → Desktop
shown_to characters d n = fold log_shown (seen characters d) (take n (keys_of d.viewers))

pub shown_more : {H G : Type 0} (cs ds : List ℕ) (a b c : KeptDesktop) (i n v : ℕ) → n ≡ suc i → (H → G)
    → length ds ≡ length cs → (H → ds ≡ cs) → IsChanged H cs a b (shown_to cs a i) 0 0
    → slice_get (keys_of b.viewers) i ≡ Some v → IsChanged G ds b c (log_shown (seen ds b) v) 0 0
    → IsChanged H cs a c (shown_to cs a n) 0 0
shown_more {H} cs ds a b c i n v next_is so long same first here next =
    subst (λ (m : ℕ). IsChanged H cs a c (shown_to cs a m) 0 0) (sym next_is)
    (changed_as (shown_to cs a (suc i))
    (changed_further cs ds a b c (shown_to cs a i) (λ d. log_shown d v) 0 0 0 0 0 0 so long same first next refl refl)
    (λ h. fold_taken log_shown (seen cs a) (keys_of a.viewers) i v
    (subst (λ (ids : List ℕ). slice_get ids i ≡ Some v) (same_ids a.viewers b.viewers first.rest.viewers) here)))

pub shown_whole : {H : Type 0} (cs : List ℕ) (a b : KeptDesktop) (n : ℕ) → n ≡ length a.viewers
    → IsChanged H cs a b (shown_to cs a n) 0 0 → IsChanged H cs a b (log_end_shown (seen cs a)) 0 0
unfolding seen
shown_whole cs a b n all changed =
    changed_as (log_end_shown (seen cs a)) changed
    (λ h. ap (fold log_shown (seen cs a)) (take_all n (keys_of a.viewers)
    (let keys = length-map {B = ℕ} a.viewers (λ (e : ℕ × Viewer). e.0) in omega (arith, all, keys))))

-- ---- one viewer

log_in_it : (d : Desktop) (v n : ℕ) → (viewer_of d v).main ≡ 0 → 0 < times_placed v d.columns
    → n ≡ length (text_of d 0) → showing d v n ≡ log_shown d v
log_in_it d v n main placed long =
    let one : shows d 0 v ≡ true = eq-eqb _ _ main in
    let two : nat_lt 0 (times_placed v d.columns) ≡ true = lt-ltb _ _ placed in
    rw (one, two) (ap (showing d v) long)

other_text : (d : Desktop) (v : ℕ) → ¬ ((viewer_of d v).main ≡ 0) → d ≡ log_shown d v
other_text d v other = let one : shows d 0 v ≡ false = ne_eqb _ _ other in rw one refl

not_there : (d : Desktop) (v : ℕ) → ¬ (0 < times_placed v d.columns) → d ≡ log_shown d v
not_there d v none = elim (shows d 0 v) as (λ b.
    d ≡ (if b && nat_lt 0 (times_placed v d.columns) then showing d v (length (text_of d 0)) else d)) [
      | true ↦ (let two : nat_lt 0 (times_placed v d.columns) ≡ false = le-ltb _ _ (omega (arith, none)) in rw two refl)
      | false ↦ refl
    ]

module _ {H : Type 0} (cs : List ℕ) (a : KeptDesktop) (v : ℕ) where
  -- the end of the log was shown in a viewer that shows it
  pub log_shown_here : (b : KeptDesktop) (end : ℕ) → (viewer_or_none a.viewers v).main ≡ 0 → IsPlaced v a.columns
      → end ≡ length (flat (text_in a.texts 0)) → IsChanged H cs a b (showing (seen cs a) v end) 0 0
      → IsChanged H cs a b (log_shown (seen cs a) v) 0 0
  unfolding seen
  log_shown_here b end main placed long changed =
      changed_as (log_shown (seen cs a) v) changed
      (λ h. log_in_it (seen cs a) v end main placed (long ∙ sym (log_long cs a)))

  module _ (built : IsBuilt (length cs) a) where
    -- a viewer of another text stays
    pub log_elsewhere : ¬ ((viewer_or_none a.viewers v).main ≡ 0) → IsChanged H cs a a (log_shown (seen cs a) v) 0 0
    unfolding seen
    log_elsewhere other =
        changed_as (log_shown (seen cs a) v) (unchanged H cs a built) (λ h. other_text (seen cs a) v other)

    -- and so does one that stands in no track
    pub log_nowhere : ¬ IsPlaced v a.columns → IsChanged H cs a a (log_shown (seen cs a) v) 0 0
    unfolding seen
    log_nowhere none =
        changed_as (log_shown (seen cs a) v) (unchanged H cs a built) (λ h. not_there (seen cs a) v none)

-- a desktop that is kept has a log
pub log_kept : (n : ℕ) (d : KeptDesktop) → IsBuilt n d → IsSome (text_numbered d.texts 0)
unfolding seen
log_kept n d built =
    sym (ap is_some (lookup_seen (seen_text []) (is_at (nat_cmp 0)) d.texts)
    ∙ is_some_map (seen_text []) (text_numbered d.texts 0)) ∙ (built.shaped []).viewers.log

-- a viewer shows a position once it has the org that shows it
pub showing_put : (H : Type 0) (characters : List ℕ) (d : KeptDesktop) (v p org rows : ℕ) (viewers : List (ℕ × Viewer))
    → IsBuilt (length characters) d
    → org ≤ length (flat (text_in d.texts (viewer_or_none d.viewers v).main)) → rows ≡ rows_of d v
    → (H → org ≡ shown_org (bytes_of_text characters (flat (text_in d.texts (viewer_or_none d.viewers v).main))) rows p
    (viewer_or_none d.viewers v).org)
    → viewers ≡ set_value (is_at (nat_cmp v)) d.viewers (record (viewer_or_none d.viewers v) { org = org })
    → IsChanged H characters d (record d { viewers = viewers }) (showing (seen characters d) v p) 0 0
unfolding seen showing
showing_put H characters d v p org rows viewers built low rows_is exact set =
    let m = (viewer_or_none d.viewers v).main in
    let old = (viewer_or_none d.viewers v).org in
    subst (λ (vs : List (ℕ × Viewer)). IsChanged H characters d (record d { viewers = vs })
    (showing (seen characters d) v p) 0 0) (sym set)
    (changed_as (showing (seen characters d) v p) (with_org_changed H characters d built v org low)
    (λ h. ap (λ (o : ℕ). with_org (seen characters d) v o)
    (exact h
    ∙ ap (λ (r : ℕ). shown_org (bytes_of_text characters (flat (text_in d.texts m))) r p old) rows_is
    ∙ ap (λ (t : Text ℕ). shown_org (bytes_of t) (rows_of d v) p old) (sym (text_in_seen characters d.texts m)))))
