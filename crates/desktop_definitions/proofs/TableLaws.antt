-- Laws of tables: what is done to a table is done to what is seen of it, and what a put leaves.
pub use Rattle.desktop_definitions.specs.Rewriting.{kept_length, kept_lengths}
use Rattle.std.specs.Prelude.{◌≡◌, ℕ, ◌+◌, ◌≤◌, ◌||◌, nat_lt, Bool, true, false, cond, List, [], ◌∷◌, length}
use Rattle.std.specs.Prelude.{sum_by, slice_index, Option, Some, None, is_some}
use Rattle.std.specs.Option.{option_map, unwrap_or}
use Rattle.std.specs.List.{AllByRecursion}
use Rattle.std.specs.List.Sorted.{IsStrictlySortedBy}
use Rattle.std.specs.Cmp.{IsTotalOrder}
use Rattle.std.specs.Map.{lookup, keys_of, values_of}
use Rattle.std.specs.Ordering.{match_ordering, ordering_reverse}
use Rattle.std.specs.declared.cmp.Ordering.{Ordering}
use Rattle.std.specs.declared.cmp.Ordering.TheVariants.{Less, Equal, Greater}
use Rattle.std.specs.BTreeMap.{is_at, insert_entry}
use Rattle.std.proofs.Common.{refl, sym, ap, subst, ◌∙◌, arith}
use Rattle.std.proofs.lemmas.Bool.{ltb-true}
use Rattle.std.proofs.lemmas.Cmp.{nat_cmp_total, lists_total}
use Rattle.std.proofs.lemmas.List.{length-map}
use Rattle.std.proofs.lemmas.List.Sums.{sum_by-cons}
use Rattle.std.proofs.lemmas.Map.Made.{lookup-map_values, keys_of-map_values}
use Rattle.std.proofs.lemmas.Map.Entries.{sum_by-insert_entry}
use Rattle.std.proofs.lemmas.Map.Views.{All-values-insert_entry}
use Rattle.piece_ring.specs.declared.piece.Look.{Look}
use Rattle.piece_ring.specs.declared.piece.Piece.{Piece}
use Rattle.piece_ring.specs.Flat.{flat}
use Rattle.piece_ring.proofs.Offsets.{AreWithin-longer}
use Rattle.piece_ring.specs.Text.{Text, AreWithin}
use Rattle.desktop_definitions.specs.Limits.{most_files}
use Rattle.desktop_definitions.specs.Tables.{Files, name_cmp, file_named, file_put, has_file_room, with_values, lengths}
use Rattle.desktop_definitions.specs.Seen.{seen_text, seen_table}
use Rattle.desktop_definitions.specs.Sound.{AllWithin}

-- ---- f of each text

module _ {K T U : Type 0} (f : T → U) where
  pub insert_seen : (cmp : K → K → Ordering) (es : List (K × T)) (k : K) (t : T)
      → with_values f (insert_entry cmp es k t) ≡ insert_entry cmp (with_values f es) k (f t)
  insert_seen cmp [] k t = refl
  insert_seen cmp (e ∷ es) k t = elim (cmp k e.0) as
      (λ o. with_values f (match_ordering o ((k, t) ∷ e ∷ es) ((e.0, t) ∷ es) (e ∷ insert_entry cmp es k t))
      ≡ match_ordering o ((k, f t) ∷ with_values f (e ∷ es)) ((e.0, f t) ∷ with_values f es)
      ((e.0, f e.1) ∷ insert_entry cmp (with_values f es) k (f t))) [
        | Less ↦ refl
        | Equal ↦ refl
        | Greater ↦ ap (λ (l : List (K × U)). (e.0, f e.1) ∷ l) (insert_seen cmp es k t)
      ]

  pub lookup_seen : (test : K → Bool) (es : List (K × T))
      → lookup test (with_values f es) ≡ option_map f (lookup test es)
  lookup_seen test es = lookup-map_values f test es

  pub length_seen : (es : List (K × T)) → length (with_values f es) ≡ length es
  length_seen es = length-map {B = K × U} es (λ (e : K × T). (e.0, f e.1))

pub is_some_map : {A B : Type 0} (f : A → B) (o : Option A) → is_some (option_map f o) ≡ is_some o
is_some_map f None = refl
is_some_map f (Some x) = refl

-- ---- lengths

pub length_seen_text : (characters : List ℕ) (pieces : List Piece)
    → length (seen_text characters pieces) ≡ length (flat pieces)
length_seen_text characters pieces = length-map {B = ℕ × Look} (flat pieces)
    (λ (c : ℕ × Look). (slice_index characters c.0, c.1))

pub lengths_seen : {K : Type 0} (characters : List ℕ) (table : List (K × List Piece))
    → lengths (seen_table characters table) ≡ kept_lengths table
lengths_seen characters [] = refl
lengths_seen characters (e ∷ es) =
    sum_by-cons length (seen_text characters e.1) (values_of (seen_table characters es))
    ∙ (λ k. length_seen_text characters e.1 k + lengths_seen characters es k)
    ∙ sym (sum_by-cons (λ pieces. length (flat pieces)) e.1 (values_of es))

-- ---- what is found

pub found_seen : {K : Type 0} (test : K → Bool) (characters : List ℕ) (es : List (K × List Piece)) (text : List Piece)
    → lookup test es ≡ Some text → lookup test (seen_table characters es) ≡ Some (seen_text characters text)
found_seen test characters es text found = lookup_seen (seen_text characters) test es
    ∙ ap (option_map (seen_text characters)) found

pub missing_seen : {K : Type 0} (test : K → Bool) (characters : List ℕ) (es : List (K × List Piece))
    → lookup test es ≡ None → lookup test (seen_table characters es) ≡ None
missing_seen test characters es found = lookup_seen (seen_text characters) test es
    ∙ ap (option_map (seen_text characters)) found

-- ---- a put in order

module _ {K X : Type 0} {R : K → K → Ordering} (o : IsTotalOrder R) (k : K) (v : X) where
  -- what is below all keys of a table and the new one is below all keys after a put
  above_put : (low : K) (es : List (K × X)) → R low k ≡ Less → AllByRecursion (λ y. R low y ≡ Less) (keys_of es)
      → AllByRecursion (λ y. R low y ≡ Less) (keys_of (insert_entry R es k v))
  above_put low [] less above = (less, tt)
  above_put low (e ∷ es) less above = elim (R k e.0) as
      (λ r. AllByRecursion (λ y. R low y ≡ Less)
      (keys_of (match_ordering r ((k, v) ∷ e ∷ es) ((e.0, v) ∷ es) (e ∷ insert_entry R es k v)))) [
        | Less ↦ (less, above)
        | Equal ↦ above
        | Greater ↦ (above.0, above_put low es less above.1)
      ]

  -- what is below the first key is below all
  below_all : (low first : K) (ks : List K) → R low first ≡ Less → AllByRecursion (λ y. R first y ≡ Less) ks
      → AllByRecursion (λ y. R low y ≡ Less) ks
  below_all low first [] less above = tt
  below_all low first (x ∷ ks) less above = (o.trans low first x less above.0, below_all low first ks less above.1)

  pub rising_put : (es : List (K × X)) → IsStrictlySortedBy R (keys_of es)
      → IsStrictlySortedBy R (keys_of (insert_entry R es k v))
  unfolding IsStrictlySortedBy
  rising_put [] rising = (tt, tt)
  rising_put (e ∷ es) rising =
      (elim (R k e.0) as (λ r. R k e.0 ≡ r
      → IsStrictlySortedBy R
      (keys_of (match_ordering r ((k, v) ∷ e ∷ es) ((e.0, v) ∷ es) (e ∷ insert_entry R es k v)))) [
        | Less ↦ λ less. ((less, below_all k e.0 (keys_of es) less rising.0), rising)
        | Equal ↦ λ equal. rising
        | Greater ↦ λ greater.
            (above_put e.0 es (o.antisymm e.0 k ∙ ap ordering_reverse greater) rising.0, rising_put es rising.1)
      ]) refl

-- ---- how many files

count_values : {K X : Type 0} (es : List (K × X)) → sum_by (λ x. 1) (values_of es) ≡ length es
count_values [] = refl
count_values (e ∷ es) = sum_by-cons (λ x. 1) e.1 (values_of es) ∙ ap (λ n. 1 + n) (count_values es) ∙ omega arith

one_if : {X : Type 0} (found : Option X)
    → unwrap_or (option_map (λ x. 1) found) 0 ≡ (let n : ℕ = cond (is_some found) 1 0 in n)
one_if None = refl
one_if (Some x) = refl

-- a put of a name adds one file where there was none
count_put : {T : Type 0} (files : Files T) (name : List ℕ) (text : T) → IsStrictlySortedBy name_cmp (keys_of files)
    → length (file_put files name text) + cond (is_some (file_named files name)) 1 0 ≡ length files + 1
count_put files name text rising =
    omega (
      arith,
      sum_by-insert_entry (λ text. 1)
          (lists_total nat_cmp_total) files name text rising,
      count_values files,
      count_values
          (file_put files name text),
      one_if (file_named files name),
    )

room_for : (found : Bool) (count after : ℕ) → after + cond found 1 0 ≡ count + 1 → count ≤ most_files
    → found || nat_lt count most_files ≡ true → after ≤ most_files
room_for true count after sum small room = omega arith
room_for false count after sum small room = omega (arith, ltb-true count most_files room)

pub put_few : (files : Files (Text ℕ)) (name : List ℕ) (text : Text ℕ) → IsStrictlySortedBy name_cmp (keys_of files)
    → length files ≤ most_files → has_file_room files name ≡ true → length (file_put files name text) ≤ most_files
put_few files name text rising few room = room_for _ _ _ (count_put files name text rising) few room

-- ---- a file that goes

module _ (files : Files (List Piece)) (name : List ℕ) (characters : List ℕ) (text : Text ℕ)
    (rising : IsStrictlySortedBy name_cmp (keys_of files)) where
  gone : lengths (file_put (seen_table characters files) name text)
      + unwrap_or (option_map length (file_named (seen_table characters files) name)) 0
      ≡ lengths (seen_table characters files) + length text
  gone = sum_by-insert_entry length (lists_total nat_cmp_total) (seen_table characters files) name text
      (subst (IsStrictlySortedBy name_cmp) (sym (keys_of-map_values (seen_text characters) files)) rising)

  size_seen : (found : Option (List Piece))
      → unwrap_or (option_map length (option_map (seen_text characters) found)) 0
      ≡ unwrap_or (option_map kept_length found) 0
  size_seen None = refl
  size_seen (Some old) = length_seen_text characters old

  -- what a put of a name holds more, and what the old file of that name held
  pub gone_size : lengths (file_put (seen_table characters files) name text)
      + unwrap_or (option_map kept_length (file_named files name)) 0 ≡ lengths (seen_table characters files) + length text
  gone_size =
      let same : unwrap_or (option_map length (file_named (seen_table characters files) name)) 0
      ≡ unwrap_or (option_map kept_length (file_named files name)) 0 =
      ap (λ (found : Option (Text ℕ)). unwrap_or (option_map length found) 0)
      (lookup_seen (seen_text characters) (is_at (name_cmp name)) files) ∙ size_seen (file_named files name) in
      omega (arith, gone, same)

-- ---- characters within

pub longer : {K : Type 0} (n m : ℕ) (table : List (K × List Piece)) → n ≤ m → AllWithin n table → AllWithin m table
longer n m table low within = λ i d here. AreWithin-longer n m _ low (within i d here)

pub put_within : (n m : ℕ) (files : Files (List Piece)) (name : List ℕ) (text : List Piece) → n ≤ m → AllWithin n files
    → AreWithin m (flat text) → AllWithin m (file_put files name text)
put_within n m files name text low all here = All-values-insert_entry name_cmp name text
    (λ pieces. AreWithin m (flat pieces)) files (longer n m files low all) here
