-- Laws of files that are stored and deleted: what is seen of it, what it holds, and that the files stay in shape.
use Rattle.std.specs.Prelude.{◌≡◌, ℕ, ◌+◌, ◌≤◌, ◌&&◌, ◌||◌, not, Bool, true, false, cond, IsTrue, List, [], ◌∷◌, length}
use Rattle.std.specs.Prelude.{suc, ◌<◌, ◌-◌, sum_by, fold, Option, Some, is_some, nat_lt, take, drop, get_or}
use Rattle.std.specs.Prelude.{All, map, Result, Ok, Err}
use Rattle.std.specs.Option.{option_map, unwrap_or}
use Rattle.std.specs.List.{AllByRecursion, list_any, list_all}
use Rattle.std.specs.List.Sorted.{IsStrictlySortedBy}
use Rattle.std.specs.Map.{keys_of, values_of}
use Rattle.std.specs.declared.cmp.Ordering.TheVariants.{Less}
use Rattle.std.specs.BTreeMap.{is_at}
use Rattle.std.specs.Str.{bytes_eq}
use Rattle.std.proofs.Common.{refl, sym, ap, subst, ◌∙◌, arith}
use Rattle.std.proofs.Math.Seq.{drop-cons}
use Rattle.std.proofs.Math.ListN.{drop_of_length-le}
use Rattle.std.proofs.lemmas.List.{take_all, length-drop, length-map}
use Rattle.std.proofs.lemmas.Cmp.{nat_cmp_total, lists_total}
use Rattle.std.proofs.lemmas.List.Sums.{sum_by-cons}
use Rattle.std.proofs.lemmas.Map.Entries.{sum_by-remove_entry}
use Rattle.std.proofs.lemmas.Map.Made.{keys_of-map_values, is_some-lookup}
use Rattle.std.proofs.lemmas.Map.Text.{is_eq-slice_cmp}
use Rattle.std.proofs.lemmas.Map.Views.{All-map-remove_entry, All-keys-insert_entry}
use Rattle.std.proofs.lemmas.Map.Views.{All-values-insert_entry}
use Rattle.std.proofs.lemmas.Slice.Eq.{bytes_eq-Decides}
use Rattle.piece_ring.specs.declared.piece.Piece.{Piece}
use Rattle.piece_ring.specs.Flat.{flat}
use Rattle.piece_ring.specs.Text.{Text, AreWithin}
use Rattle.event_bytes.specs.Bytes.{is_name}
use Rattle.command_table.specs.Deciding.{is_among, are_distinct, can_be_deleted, most_names}
use Rattle.command_table.specs.Parameters.{first_names}
use Rattle.command_table.proofs.Deciding.{all_are_read, first_names_decide}
use Rattle.desktop_definitions.specs.Limits.{most_files, most_held, no_file, too_many_files, full}
use Rattle.desktop_definitions.specs.declared.reply.Reply.TheVariants.{Done, No}
use Rattle.desktop_definitions.specs.Tables.{Files, name_cmp, file_named, file_put, has_file_room, with_values, lengths}
use Rattle.desktop_definitions.proofs.TableLaws.{insert_seen, lookup_seen, length_seen, is_some_map, length_seen_text}
use Rattle.desktop_definitions.proofs.TableLaws.{kept_length, lengths_seen}
use Rattle.desktop_definitions.proofs.TableLaws.{rising_put, put_few, put_within}
use Rattle.desktop_definitions.specs.Desktop.{Desktop, KeptDesktop, characters_held}
use Rattle.desktop_definitions.specs.Effects.{without_file, files_deleted, deleting_line, storing_line, stored_as}
use Rattle.desktop_definitions.specs.Log.{logged, all_logged}
use Rattle.desktop_definitions.specs.Needs.{unless, given}
use Rattle.desktop_definitions.specs.Step.{outcome_after}
use Rattle.desktop_definitions.proofs.StepLaws.{files_held}
use Rattle.desktop_definitions.specs.Outcome.{IsAnswered}
use Rattle.desktop_definitions.specs.Seen.{seen, seen_text, seen_table}
use Rattle.desktop_definitions.specs.Sound.{AreFiles, AllWithin, IsBuilt, IsOver, IsSound}
use Rattle.desktop_definitions.specs.Changed.{IsChanged, IsExtended, IsStanding, CountsHeld}
use Rattle.desktop_definitions.proofs.RowLaws.{space_held, changed_as, over_built, known_no_file}
use Rattle.desktop_definitions.specs.DeskWords.{has_space, can_go, kept_size}
use Rattle.desktop_definitions.proofs.RowLaws.{known_too_many_files}
use Rattle.desktop_definitions.proofs.KeyLaws.{refusal_answered, row_as}
use Rattle.desktop_definitions.proofs.LogLaws.{line_bytes, logged_full, all_logged_full, changed_stands, extended_answered}
use Rattle.desktop_definitions.specs.Looks.{AreLooks}
use Rattle.desktop_definitions.proofs.LookedLaws.{AllLooked, seen_table_looks, files_looks, kept_files_looks}

-- ---- a loop over a list

-- what is to come at a place of a list
pub next_at : {X : Type 0} (xs : List X) (at : ℕ) (x : X) → at < length xs → x ≡ get_or xs at x
    → drop at xs ≡ x ∷ drop (at + 1) xs
next_at {X} xs at x low is =
    let next : suc at ≡ at + 1 = omega arith in
    drop-cons xs at x low ∙ (λ k. sym is k ∷ drop (next k) xs)

-- ---- names that are deleted

both : (a b : Bool) → (a && b) ≡ true → (a ≡ true) × (b ≡ true)
both true b is = (refl, is)
both false b is = absurd (cc is)

is_not : (b : Bool) → not b ≡ true → b ≡ false
is_not true is = absurd (cc is)
is_not false is = refl

-- the files of which one has a name
pub named_among : {X : Type 0} (files : Files X) (name : List ℕ)
    → is_some (file_named files name) ≡ is_among (keys_of files) name
named_among files name =
    is_some-lookup (is_at (name_cmp name)) files ∙ ap (λ (test : List ℕ → Bool). list_any test (keys_of files))
    (λ i k. is_eq-slice_cmp name k i)

turn : (a b c d : Bool) → ((a && b) && (c && d)) ≡ ((a && c) && (b && d))
turn true true c d = refl
turn true false true d = refl
turn true false false d = refl
turn false b c d = refl

pub can_more : (files : List (List ℕ)) (name : List ℕ) (names : List (List ℕ))
    → can_be_deleted files (name ∷ names) ≡ (can_go files name names && can_be_deleted files names)
can_more files name names =
    turn (is_among files name) (list_all (is_among files) names) (not (is_among names name)) (are_distinct names)

-- the same of a place of a list
pub can_at : (files names : List (List ℕ)) (at : ℕ) (name : List ℕ) → at < length names → name ≡ get_or names at name
    → can_be_deleted files (drop at names)
    ≡ (can_go files name (take (length names - (at + 1)) (drop (at + 1) names))
    && can_be_deleted files (drop (at + 1) names))
can_at files names at name low is =
    let long = length-drop (at + 1) names in
    let all : take (length names - (at + 1)) (drop (at + 1) names) ≡ drop (at + 1) names =
    take_all _ _ (omega (arith, long)) in
    ap (can_be_deleted files) (next_at names at name low is)
    ∙ can_more files name (drop (at + 1) names)
    ∙ ap (λ (l : List (List ℕ)). can_go files name l && can_be_deleted files (drop (at + 1) names)) (sym all)

-- nothing is left to go
pub can_end : (files names : List (List ℕ)) (at : ℕ) → length names ≤ at → can_be_deleted files (drop at names) ≡ true
can_end files names at all = ap (can_be_deleted files) (drop_of_length-le names all)

pub deleted_distinct : (files names : List (List ℕ)) → can_be_deleted files names ≡ true → are_distinct names ≡ true
deleted_distinct files names can = (both (list_all (is_among files) names) (are_distinct names) can).1

-- ---- a file goes

module _ {X : Type 0} where
  other_stays : (files : Files X) (name other : List ℕ) → bytes_eq name other ≡ false
      → file_named (without_file files name) other ≡ file_named files other
  other_stays [] name other apart = refl
  other_stays (e ∷ es) name other apart =
      (elim (is_at (name_cmp name) e.0) as (λ b. is_at (name_cmp name) e.0 ≡ b
      → file_named (let l : Files X = cond b es (e ∷ without_file es name) in l) other ≡ file_named (e ∷ es) other) [
        | true ↦ λ here.
            let same : name ≡ e.0 = (bytes_eq-Decides name e.0).0 (sym (is_eq-slice_cmp name e.0) ∙ here) in
            (elim (is_at (name_cmp other) e.0) as (λ b. is_at (name_cmp other) e.0 ≡ b
            → file_named es other ≡ (let o : Option X = cond b (Some e.1) (file_named es other) in o)) [
              | true ↦ λ there.
                  let also : other ≡ e.0 = (bytes_eq-Decides other e.0).0 (sym (is_eq-slice_cmp other e.0) ∙ there) in
                  let equal : bytes_eq name other ≡ true
                  = (bytes_eq-Decides name other).1 (same ∙ sym also) in
                  absurd (cc (equal, apart))
              | false ↦ λ not. refl
            ]) refl
        | false ↦ λ not.
            ap (λ (o : Option X). (let x : Option X = cond (is_at (name_cmp other) e.0) (Some e.1) o in x))
            (other_stays es name other apart)
      ]) refl

  module _ (size : X → ℕ) where
    -- what a file of a name has, and 0 where there is none
    abbrev pub size_of : Files X → List ℕ → ℕ
    size_of files name = unwrap_or (option_map size (file_named files name)) 0

    sizes_stay : (files : Files X) (name : List ℕ) (names : List (List ℕ)) → is_among names name ≡ false
        → sum_by (size_of (without_file files name)) names ≡ sum_by (size_of files) names
    sizes_stay files name [] apart = refl
    sizes_stay files name (other ∷ names) apart =
        (elim (bytes_eq name other) as (λ b. bytes_eq name other ≡ b → b || is_among names name ≡ false
        → sum_by (size_of (without_file files name)) (other ∷ names) ≡ sum_by (size_of files) (other ∷ names)) [
          | true ↦ λ is no. absurd (cc no)
          | false ↦ λ not no.
              sum_by-cons (size_of (without_file files name)) other names
              ∙ (λ i. unwrap_or (option_map size (other_stays files name other not i)) 0
              + sizes_stay files name names no i)
              ∙ sym (sum_by-cons (size_of files) other names)
        ]) refl apart

    -- files of names of which none stands there twice: what is left, and what they had
    pub sizes_gone : (files : Files X) (names : List (List ℕ)) → are_distinct names ≡ true
        → sum_by size (values_of (fold without_file files names)) + sum_by (size_of files) names
        ≡ sum_by size (values_of files)
    sizes_gone files [] apart = omega arith
    sizes_gone files (name ∷ names) apart =
        let two = both (not (is_among names name)) (are_distinct names) apart in
        let rest : sum_by size (values_of (fold without_file (without_file files name) names))
        + sum_by (size_of (without_file files name)) names ≡ sum_by size (values_of (without_file files name))
        = sizes_gone (without_file files name) names two.1 in
        let stay = sizes_stay files name names (is_not _ two.0) in
        let gone = sum_by-remove_entry size (is_at (name_cmp name)) files in
        let sum = sum_by-cons (size_of files) name names in
        omega (arith, rest, stay, gone, sum)

-- ---- the files that stay

-- what is above a key stays above it
above_without : {X : Type 0} (low name : List ℕ) (es : Files X)
    → AllByRecursion (λ y. name_cmp low y ≡ Less) (keys_of es)
    → AllByRecursion (λ y. name_cmp low y ≡ Less) (keys_of (without_file es name))
above_without low name [] above = above
above_without {X} low name (e ∷ es) above = elim (is_at (name_cmp name) e.0) as
    (λ b. AllByRecursion (λ y. name_cmp low y ≡ Less)
    (keys_of (let l : Files X = cond b es (e ∷ without_file es name) in l))) [
      | true ↦ above.1
      | false ↦ (above.0, above_without low name es above.1)
    ]

rising_without : {X : Type 0} (name : List ℕ) (es : Files X) → IsStrictlySortedBy name_cmp (keys_of es)
    → IsStrictlySortedBy name_cmp (keys_of (without_file es name))
unfolding IsStrictlySortedBy
rising_without name [] rising = rising
rising_without {X} name (e ∷ es) rising = elim (is_at (name_cmp name) e.0) as
    (λ b. IsStrictlySortedBy name_cmp (keys_of (let l : Files X = cond b es (e ∷ without_file es name) in l))) [
      | true ↦ rising.1
      | false ↦ (above_without e.0 name es rising.0, rising_without name es rising.1)
    ]

fewer_without : {X : Type 0} (name : List ℕ) (es : Files X) → length (without_file es name) ≤ length es
fewer_without name [] = omega arith
fewer_without {X} name (e ∷ es) =
    let rest = fewer_without name es in
    elim (is_at (name_cmp name) e.0) as
    (λ b. length (let l : Files X = cond b es (e ∷ without_file es name) in l) ≤ length (e ∷ es)) [
      | true ↦ omega arith
      | false ↦ omega (arith, rest)
    ]

pub files_without : {X : Type 0} (files : Files X) (names : List (List ℕ)) → AreFiles files
    → AreFiles (fold without_file files names)
files_without files [] are = are
files_without files (name ∷ names) are =
    let fewer = fewer_without name files in
    files_without (without_file files name) names (record {
      names = All-map-remove_entry (is_at (name_cmp name)) (λ e. e.0) (λ n. IsTrue (is_name n)) files are.names;
      rising = rising_without name files are.rising;
      few = (let few = are.few in omega (arith, few, fewer));
    })

-- what holds of each file holds of those that are left
pub all_without : {X : Type 0} (P : X → Type 0) (files : Files X) (names : List (List ℕ)) → All P (values_of files)
    → All P (values_of (fold without_file files names))
all_without P files [] all = all
all_without P files (name ∷ names) all =
    all_without P (without_file files name) names
    (All-map-remove_entry (is_at (name_cmp name)) (λ e. e.1) P files all)

-- what is seen of them
without_seen : {X Y : Type 0} (f : X → Y) (files : Files X) (name : List ℕ)
    → with_values f (without_file files name) ≡ without_file (with_values f files) name
without_seen f [] name = refl
without_seen {X} {Y} f (e ∷ es) name = elim (is_at (name_cmp name) e.0) as
    (λ b. with_values f (let l : Files X = cond b es (e ∷ without_file es name) in l)
    ≡ (let l : Files Y = cond b (with_values f es) ((e.0, f e.1) ∷ without_file (with_values f es) name) in l)) [
      | true ↦ refl
      | false ↦ ap (λ (l : Files Y). (e.0, f e.1) ∷ l) (without_seen f es name)
    ]

all_without_seen : {X Y : Type 0} (f : X → Y) (files : Files X) (names : List (List ℕ))
    → with_values f (fold without_file files names) ≡ fold without_file (with_values f files) names
all_without_seen f files [] = refl
all_without_seen {X} {Y} f files (name ∷ names) =
    all_without_seen f (without_file files name) names
    ∙ ap (λ (l : Files Y). fold without_file l names) (without_seen f files name)

-- files of names of which none stands there twice: what is left holds so much less
pub lengths_gone : (files : Files (List Piece)) (names : List (List ℕ))
    → IsTrue (can_be_deleted (keys_of files) names) → (characters : List ℕ)
    → lengths (fold without_file (seen_table characters files) names) + sum_by (kept_size files) names
    ≡ lengths (seen_table characters files)
lengths_gone files names can characters =
    let sum = sizes_gone kept_length files names (deleted_distinct (keys_of files) names can) in
    let left : lengths (seen_table characters (fold without_file files names))
    ≡ lengths (fold without_file (seen_table characters files) names)
    = ap lengths (all_without_seen (seen_text characters) files names) in
    let new = lengths_seen characters (fold without_file files names) in
    let old = lengths_seen characters files in
    omega (arith, sum, left, new, old)

-- ---- a desktop with other files

-- whether there is room rests on the names alone
has_room_seen : (characters : List ℕ) (files : Files (List Piece)) (name : List ℕ)
    → has_file_room (seen_table characters files) name ≡ has_file_room files name
has_room_seen characters files name = λ k.
    (ap is_some (lookup_seen (seen_text characters) (is_at (name_cmp name)) files)
    ∙ is_some_map (seen_text characters) (file_named files name)) k
    || nat_lt (length_seen (seen_text characters) files k) most_files

pub files_put : (files : Files (Text ℕ)) (name : List ℕ) (text : Text ℕ) → AreFiles files → IsTrue (is_name name)
    → has_file_room files name ≡ true → AreFiles (file_put files name text)
files_put files name text are valid room = record {
  names = All-keys-insert_entry name_cmp name text (λ n. IsTrue (is_name n)) files are.names valid;
  rising = rising_put (lists_total nat_cmp_total) name text files are.rising;
  few = put_few files name text are.rising are.few room;
}

pub files_counts : (d : Desktop) (files : Files (Text ℕ)) (more fewer : ℕ)
    → lengths files + fewer ≡ lengths d.files + more → CountsHeld d (record d { files = files }) more fewer
unfolding characters_held
files_counts d files more fewer sum = record {
  counted = omega (arith, sum);
  numbers = refl;
  viewers = refl;
  written = refl;
}

module _ {H : Type 0} (characters : List ℕ) (d : KeptDesktop) (built : IsBuilt (length characters) d) where
  files_changed : (files : Files (List Piece)) (more fewer : ℕ) → AllWithin (length characters) files
      → AllLooked files
      → ((all : List ℕ) → AreFiles (seen_table all files))
      → ((all : List ℕ) → lengths (seen_table all files) + fewer ≡ lengths (seen_table all d.files) + more)
      → IsChanged H characters d (record d { files = files })
      (record (seen characters d) { files = seen_table characters files }) more fewer
  unfolding seen characters_held
  files_changed files more fewer within looks are sum = record {
    exact = λ h. refl;
    built = record {
      within = record {
        texts = built.within.texts;
        files = within;
        copied = built.within.copied;
        deleted = built.within.deleted;
      };
      shaped = λ all. record {
        viewers = (built.shaped all).viewers;
        places = (built.shaped all).places;
        marks = (built.shaped all).marks;
        marker = (built.shaped all).marker;
        files = are all;
        pattern = (built.shaped all).pattern;
        looks = files_looks (seen all d) (built.shaped all).looks (seen_table all files)
            (seen_table_looks all files looks);
      };
    };
    counted = λ all. omega (arith, sum all);
    rest = record { numbers = refl; viewers = refl; written = refl };
  }

  -- the files of a list are gone
  pub deleting_changed : (files : Files (List Piece)) (names : List (List ℕ)) (gone : ℕ)
      → files ≡ fold without_file d.files names
      → ((all : List ℕ) → lengths (fold without_file (seen_table all d.files) names) + gone
      ≡ lengths (seen_table all d.files))
      → IsChanged H characters d (record d { files = files })
      (record (seen characters d) { files = fold without_file (seen characters d).files names }) 0 gone
  unfolding seen
  deleting_changed files names gone is sum =
      let left = λ (all : List ℕ). ap (seen_table all) is ∙ all_without_seen (seen_text all) d.files names in
      changed_as (record (seen characters d) { files = fold without_file (seen_table characters d.files) names })
      (files_changed files 0 gone
      (subst (AllWithin (length characters)) (sym is)
      (all_without (λ pieces. AreWithin (length characters) (flat pieces)) d.files names built.within.files))
      (subst AllLooked (sym is) (all_without (λ pieces. AreLooks (flat pieces)) d.files names
      (kept_files_looks (length characters) d built)))
      (λ all. subst AreFiles (sym (left all)) (files_without (seen_table all d.files) names (built.shaped all).files))
      (λ all. (let same : lengths (seen_table all files)
      ≡ lengths (fold without_file (seen_table all d.files) names) = ap lengths (left all) in omega
      (arith, same, sum all))))
      (λ h k. record (seen characters d) { files = left characters k })

  -- the file of a name is another text
  pub storing_changed : (files : Files (List Piece)) (name : List ℕ) (text : List Piece) (gone : ℕ) (outcome : Text ℕ)
      → files ≡ file_put d.files name text → IsTrue (is_name name) → has_file_room (seen_table [] d.files) name ≡ true
      → AreWithin (length characters) (flat text) → AreLooks (flat text) → seen_text characters text ≡ outcome
      → ((all : List ℕ) (new : Text ℕ) → lengths (file_put (seen_table all d.files) name new) + gone
      ≡ lengths (seen_table all d.files) + length new)
      → IsChanged H characters d (record d { files = files })
      (record (seen characters d) { files = file_put (seen characters d).files name outcome })
      (length (flat text)) gone
  unfolding seen
  storing_changed files name text gone outcome is valid room within looks text_is sum =
      let now = λ (all : List ℕ). ap (seen_table all) is ∙ insert_seen (seen_text all) name_cmp d.files name text in
      changed_as (record (seen characters d) { files = file_put (seen_table characters d.files) name outcome })
      (files_changed files (length (flat text)) gone
      (subst (AllWithin (length characters)) (sym is)
      (put_within (length characters) (length characters) d.files name text (omega arith) built.within.files within))
      (subst AllLooked (sym is) (All-values-insert_entry name_cmp name text (λ pieces. AreLooks (flat pieces)) d.files
      (kept_files_looks (length characters) d built) looks))
      (λ all. subst AreFiles (sym (now all)) (files_put (seen_table all d.files) name (seen_text all text)
      (built.shaped all).files valid
      (has_room_seen all d.files name ∙ sym (has_room_seen [] d.files name) ∙ room)))
      (λ all. (let same : lengths (seen_table all files)
      ≡ lengths (file_put (seen_table all d.files) name (seen_text all text)) = ap lengths (now all) in
      let long = length_seen_text all text in omega (arith, same, long, sum all (seen_text all text)))))
      (λ h k. record (seen characters d) {
        files = (now characters ∙ ap (file_put (seen_table characters d.files) name) text_is) k;
      })

-- ---- rows that delete files

pub files_small : (d : Desktop) → IsSound d → lengths d.files ≤ most_held
files_small d sound =
    let all = files_held d in
    let low = sound.held_within in
    omega (arith, all, low)

deletion_refused : (d : Desktop) (names : List (List ℕ)) → can_be_deleted (keys_of d.files) names ≡ false
    → files_deleted d names ≡ Err no_file
unfolding files_deleted
deletion_refused d names none = rw none refl

deletion_done : (d : Desktop) (names : List (List ℕ)) → can_be_deleted (keys_of d.files) names ≡ true
    → files_deleted d names
    ≡ Ok (all_logged (record d { files = fold without_file d.files names }) (map deleting_line names))
unfolding files_deleted
deletion_done d names can = rw can refl

-- of as many files as there may be, the first names of a list decide what becomes of it
module _ (d : Desktop) (few : length d.files ≤ most_files) where
  few_names : length (keys_of d.files) ≤ most_files
  few_names = let as_long = length-map d.files (λ (e : List ℕ × Text ℕ). e.0) in omega (arith, as_long, few)

  deleted_first : (names : List (List ℕ)) (can : Bool) → can_be_deleted (keys_of d.files) names ≡ can
      → files_deleted d (take most_names names) ≡ files_deleted d names
  deleted_first names true is = ap (files_deleted d) (all_are_read (keys_of d.files) names few_names is)
  deleted_first names false is =
      deletion_refused d (take most_names names) (first_names_decide (keys_of d.files) names few_names ∙ is)
      ∙ sym (deletion_refused d names is)

  pub deleted_by_first : (r : Result (List (List ℕ)) ℕ)
      → given (first_names r) (files_deleted d) ≡ given r (files_deleted d)
  deleted_by_first (Err code) = refl
  deleted_by_first (Ok names) = deleted_first names (can_be_deleted (keys_of d.files) names) refl

names_seen : (characters : List ℕ) (d : KeptDesktop) (names : List (List ℕ))
    → can_be_deleted (keys_of (seen characters d).files) names ≡ can_be_deleted (keys_of d.files) names
unfolding seen
names_seen characters d names =
    ap (λ (files : List (List ℕ)). can_be_deleted files names) (keys_of-map_values (seen_text characters) d.files)

module _ (H : Type 0) (old : List ℕ) (d : KeptDesktop) (over : IsOver old d) (names : List (List ℕ)) where
  -- a name is no file's, or stands there twice
  pub deleting_refused : false ≡ can_be_deleted (keys_of d.files) names
      → IsAnswered H old old d d (outcome_after (seen old d) (files_deleted (seen old d) names)) (No no_file)
  deleting_refused none = refusal_answered H old d (files_deleted (seen old d) names) no_file over known_no_file
      (deletion_refused (seen old d) names (names_seen old d names ∙ sym none))

  module _ (lines : List (List ℕ)) (made gone : ℕ) (can : true ≡ can_be_deleted (keys_of d.files) names)
      (lines_are : lines ≡ map deleting_line names)
      (sum : (all : List ℕ) → lengths (fold without_file (seen_table all d.files) names) + gone
      ≡ lengths (seen_table all d.files)) where
    abbrev left : Desktop
    left = record (seen old d) { files = fold without_file (seen old d).files names }

    done : files_deleted (seen old d) names ≡ Ok (all_logged left lines)
    done =
        deletion_done (seen old d) names (names_seen old d names ∙ sym can)
        ∙ ap (λ (l : List (List ℕ)). Ok (all_logged left l)) (sym lines_are)

    -- the lines don't fit
    pub deleting_full : made ≡ line_bytes lines → has_space (seen old d) made made gone ≡ false
        → IsAnswered H old old d d (outcome_after (seen old d) (files_deleted (seen old d) names)) (No full)
    unfolding seen
    deleting_full made_is none = row_as (seen old d) (files_deleted (seen old d) names)
        (all_logged_full H old d left 0 gone over
        (files_counts (seen old d) (fold without_file (seen old d).files names) 0 gone
        (let all = sum old in omega (arith, all)))
        lines made made made_is (omega arith) none) done

    module _ (files : Files (List Piece)) (is : files ≡ fold without_file d.files names) where
      gone_now : IsChanged H old d (record d { files = files }) left 0 gone
      gone_now = deleting_changed old d (over_built old d over) files names gone is sum

      -- the lines can go into the log then
      pub deleting_stands : IsStanding old (record d { files = files })
      deleting_stands = changed_stands over gone_now

      pub deleting_short : has_space (seen [] d) made made gone ≡ true
          → characters_held (seen [] (record d { files = files })) + made ≤ most_held
      deleting_short space =
          let all = gone_now.counted [] in
          let low = space_held (seen [] d) made made gone space in
          omega (arith, all, low)

      -- the files are gone, and the lines in the log
      pub deleting_answered : (new : List ℕ) (after : KeptDesktop)
          → IsExtended H old new (record d { files = files }) after (λ x. all_logged x lines) made
          → ((all : List ℕ) → has_space (seen all d) made made gone ≡ true)
          → IsAnswered H old new d after (outcome_after (seen old d) (files_deleted (seen old d) names)) Done
      deleting_answered new after extended space = row_as (seen old d) (files_deleted (seen old d) names)
          (extended_answered old new d (record d { files = files }) after left (λ x. all_logged x lines) 0 gone made
          made
          over gone_now extended (omega arith) space) done

-- ---- rows that store a file

module _ (H : Type 0) (old : List ℕ) (d : KeptDesktop) (over : IsOver old d) (name : List ℕ) (text : Text ℕ) where
  abbrev row : Result Desktop ℕ
  row = unless (has_file_room (seen old d).files name) too_many_files (Ok (stored_as (seen old d) name text))

  -- there is no room for one more file
  pub storing_refused : has_file_room (seen_table old d.files) name ≡ false
      → IsAnswered H old old d d (outcome_after (seen old d) row) (No too_many_files)
  unfolding seen
  storing_refused none = refusal_answered H old d row too_many_files over known_too_many_files (rw none refl)

  module _ (line : List ℕ) (size gone all : ℕ) (room : has_file_room (seen_table old d.files) name ≡ true)
      (size_is : size ≡ length text) (line_is : line ≡ storing_line name size) (all_is : all ≡ size + length line)
      (sum : (among : List ℕ) (new : Text ℕ) → lengths (file_put (seen_table among d.files) name new) + gone
      ≡ lengths (seen_table among d.files) + length new) where
    abbrev filed_as : Desktop
    filed_as = record (seen old d) { files = file_put (seen old d).files name text }

    stored_is : row ≡ Ok (logged filed_as line)
    unfolding seen
    stored_is = rw room (ap (λ (l : List ℕ). Ok (logged filed_as l))
        (ap (storing_line name) (sym size_is) ∙ sym line_is))

    -- the file and the line don't fit
    pub storing_full : has_space (seen old d) (length line) all gone ≡ false
        → IsAnswered H old old d d (outcome_after (seen old d) row) (No full)
    unfolding seen
    storing_full none = row_as (seen old d) row
        (logged_full H old d filed_as (length text) gone over
        (files_counts (seen old d) (file_put (seen old d).files name text) (length text) gone (sum old text))
        line all (omega (arith, all_is, size_is)) none) stored_is

    module _ (files : Files (List Piece)) (pieces : List Piece) (is : files ≡ file_put d.files name pieces)
        (valid : IsTrue (is_name name)) (within : AreWithin (length old) (flat pieces))
        (looks : AreLooks (flat pieces)) (text_is : seen_text old pieces ≡ text) where
      long : length text ≡ length (flat pieces)
      long = ap length (sym text_is) ∙ length_seen_text old pieces

      stored_now : IsChanged H old d (record d { files = files }) filed_as (length (flat pieces)) gone
      stored_now = storing_changed old d (over_built old d over) files name pieces gone text is valid
          (has_room_seen [] d.files name ∙ sym (has_room_seen old d.files name) ∙ room) within looks text_is
          sum

      -- the line can go into the log then
      pub storing_stands : IsStanding old (record d { files = files })
      storing_stands = changed_stands over stored_now

      pub storing_short : has_space (seen [] d) (length line) all gone ≡ true
          → characters_held (seen [] (record d { files = files })) + length line ≤ most_held
      storing_short space =
          let now = stored_now.counted [] in
          let low = space_held (seen [] d) (length line) all gone space in
          omega (arith, now, low, all_is, size_is, long)

      -- the file is there, and the line in the log
      pub storing_answered : (new : List ℕ) (after : KeptDesktop)
          → IsExtended H old new (record d { files = files }) after (λ x. logged x line) (length line)
          → ((among : List ℕ) → has_space (seen among d) (length line) all gone ≡ true)
          → IsAnswered H old new d after (outcome_after (seen old d) row) Done
      storing_answered new after extended space = row_as (seen old d) row
          (extended_answered old new d (record d { files = files }) after filed_as (λ x. logged x line)
          (length (flat pieces)) gone (length line) all over stored_now extended
          (omega (arith, all_is, size_is, long)) space) stored_is
