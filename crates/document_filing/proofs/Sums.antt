-- Tables of sizes, and sums of them.
use Rattle.std.proofs.Common.{◌≡◌, ℕ, ◌+◌, ◌-◌, ◌<◌, ◌≤◌, ◌&&◌, nat_le, List, [], ◌∷◌, ◌++◌, length, map, take, sum_by, get_or}
use Rattle.std.proofs.Common.{IsTrue, refl, sym, ap, ◌∙◌, arith, subst, append_assoc, true, false, Bool}
use Rattle.std.specs.Cmp.{IsTotalOrder}
use Rattle.std.specs.List.{AllByRecursion}
use Rattle.std.specs.List.Sorted.{IsStrictlySortedBy}
use Rattle.std.specs.Map.{keys_of, values_of}
use Rattle.std.proofs.lemmas.Map.Made.{keys_of-map_values}
use Rattle.std.specs.BTreeMap.{insert_entry}
use Rattle.std.specs.Ordering.{ordering_reverse}
use Rattle.std.specs.declared.cmp.Ordering.{Ordering}
use Rattle.std.specs.declared.cmp.Ordering.TheVariants.{Less, Greater}
use Rattle.std.proofs.lemmas.Cmp.{lists_total, nat_cmp_total}
use Rattle.std.proofs.lemmas.List.Sums.{sum_by-cons, sum_by_more, fold_more}
use Rattle.piece_ring.specs.declared.piece.Piece.{Piece}
use Rattle.piece_ring.specs.Flat.{flat}
use Rattle.piece_ring.specs.Text.{Text}
use Rattle.desktop_definitions.specs.Tables.{Files, name_cmp, lengths, with_values}
use Rattle.desktop_definitions.specs.Desktop.{Desktop, KeptDesktop, characters_held}
use Rattle.desktop_definitions.specs.Sound.{IsKeptWhole, IsSound}
use Rattle.desktop_definitions.proofs.StepLaws.{files_held}
use Rattle.std.proofs.lemmas.Bool.{le-leb, lt-leb}
use Rattle.desktop_definitions.specs.Change.{plain_text}
use Rattle.desktop_definitions.specs.Limits.{most_files, most_written, most_held}
use Rattle.desktop_definitions.specs.Seen.{seen, seen_table, seen_text}
use Rattle.desktop_definitions.specs.Step.{filed, fits}
use Rattle.piece_ring.specs.Look.{default_look}
use Rattle.desktop_definitions.proofs.OutcomeLaws.{length_in_look}
use Rattle.desktop_definitions.proofs.TableLaws.{insert_seen, length_seen, length_seen_text}
use Rattle.document_filing.specs.Bringing.{Documents, has_few_files, all_filed, file_sizes, many_bytes}

-- ---- the sizes of files that are kept

abbrev pub kept_size : List ℕ × List Piece → List ℕ × ℕ
kept_size e = (e.0, length (flat e.1))

abbrev pub kept_sizes : Files (List Piece) → Files ℕ
kept_sizes files = map kept_size files

pub sizes_seen : (characters : List ℕ) (files : Files (List Piece))
    → kept_sizes files ≡ file_sizes (seen_table characters files)
sizes_seen characters [] = refl
sizes_seen characters (e ∷ es) =
    λ k. (e.0, sym (length_seen_text characters e.1) k) ∷ sizes_seen characters es k

-- ---- a key above all others

insert_last : {K X : Type 0} {cmp : K → K → Ordering} → IsTotalOrder cmp → (table : List (K × X)) (k : K) (x : X)
    → AllByRecursion (λ y. cmp y k ≡ Less) (keys_of table) → insert_entry cmp table k x ≡ table ++ (k, x) ∷ []
insert_last o [] k x below = refl
insert_last {K} {X} {cmp} o (e ∷ es) k x below =
    let greater : cmp k e.0 ≡ Greater = o.antisymm k e.0 ∙ ap ordering_reverse below.0 in
    rw greater (ap (λ (t : List (K × X)). e ∷ t) (insert_last o es k x below.1))

among : {K X : Type 0} (cmp : K → K → Ordering) (low : K) (xs : List (K × X)) (k : K) (x : X) (rest : List (K × X))
    → AllByRecursion (λ y. cmp low y ≡ Less) (keys_of (xs ++ (k, x) ∷ rest)) → cmp low k ≡ Less
among cmp low [] k x rest all = all.0
among cmp low (e ∷ es) k x rest all = among cmp low es k x rest all.1

below_next : {K X : Type 0} (cmp : K → K → Ordering) (xs : List (K × X)) (k : K) (x : X) (rest : List (K × X))
    → IsStrictlySortedBy cmp (keys_of (xs ++ (k, x) ∷ rest)) → AllByRecursion (λ y. cmp y k ≡ Less) (keys_of xs)
unfolding IsStrictlySortedBy
below_next cmp [] k x rest rising = tt
below_next cmp (e ∷ es) k x rest rising = (among cmp e.0 es k x rest rising.0, below_next cmp es k x rest rising.1)

keys_kept : (files : Files (List Piece)) → keys_of (kept_sizes files) ≡ keys_of files
keys_kept [] = refl
keys_kept (e ∷ es) = ap (λ (l : List (List ℕ)). e.0 ∷ l) (keys_kept es)

-- a file more
pub size_more : (sizes sizes' : Files ℕ) (files left rest : Files (List Piece)) (name : List ℕ) (text : List Piece)
    (len : ℕ) → IsStrictlySortedBy name_cmp (keys_of files) → left ≡ (name, text) ∷ rest → len ≡ length (flat text)
    → sizes' ≡ insert_entry name_cmp sizes name len → sizes ++ kept_sizes left ≡ kept_sizes files
    → sizes' ++ kept_sizes rest ≡ kept_sizes files
size_more sizes sizes' files left rest name text len rising next long put_is was =
    let all : sizes ++ (name, len) ∷ kept_sizes rest ≡ kept_sizes files =
    ap (λ (n : ℕ). sizes ++ (name, n) ∷ kept_sizes rest) long
    ∙ ap (λ (l : Files (List Piece)). sizes ++ kept_sizes l) (sym next) ∙ was in
    let below = below_next name_cmp sizes name len (kept_sizes rest)
    (subst (λ (l : Files ℕ). IsStrictlySortedBy name_cmp (keys_of l)) (sym all)
    (subst (IsStrictlySortedBy name_cmp) (sym (keys_kept files)) rising)) in
    ap (λ (l : Files ℕ). l ++ kept_sizes rest)
    (put_is ∙ insert_last (lists_total nat_cmp_total) sizes name len below)
    ∙ append_assoc sizes ((name, len) ∷ []) (kept_sizes rest) ∙ all

-- ---- documents

-- one more
pub filed_more : (d : Desktop) (documents : Documents) (i : ℕ) (none : List ℕ × List ℕ) → i < length documents
    → all_filed d (take (i + 1) documents)
    ≡ filed (all_filed d (take i documents)) (get_or documents i none).0 (plain_text (get_or documents i none).1)
unfolding all_filed
filed_more d documents i none low =
    fold_more (λ (x : Desktop) (e : List ℕ × List ℕ). filed x e.0 (plain_text e.1)) d documents i none low

-- a desktop with all of them: it has their files, and their bytes count as written
pub record IsWithFiles (d new : Desktop) (n : ℕ) : Type 0 where
  pub written : new.written ≡ d.written + n
  pub others : characters_held new + lengths d.files ≡ characters_held d + lengths new.files

long : (bytes : List ℕ) → length (plain_text bytes) ≡ length bytes
long bytes = length_in_look default_look bytes

one_written : (d : Desktop) (x : List ℕ × List ℕ) (n : ℕ)
    → (filed d x.0 (plain_text x.1)).written + n ≡ d.written + (length x.1 + n)
unfolding filed
one_written d x n = omega (arith, long x.1)

one_held : (d : Desktop) (x : List ℕ × List ℕ)
    → characters_held (filed d x.0 (plain_text x.1)) + lengths d.files ≡ characters_held d + lengths (filed d x.0 (plain_text x.1)).files
unfolding filed characters_held
one_held d x = omega arith

pub with_files : (d : Desktop) (documents : Documents) → IsWithFiles d (all_filed d documents) (many_bytes documents)
unfolding all_filed
with_files d [] = record { written = omega arith; others = refl }
with_files d (x ∷ xs) =
    let one = filed d x.0 (plain_text x.1) in
    let rest = with_files one xs in
    record {
      written = rest.written ∙ one_written d x (many_bytes xs) ∙ ap (λ n. d.written + n) (sym (sum_by-cons (λ e. length e.1) x xs));
      others = omega (arith, rest.others, one_held d x);
    }

-- ---- the limits

sum_sizes : {K : Type 0} (files : List (K × Text ℕ))
    → sum_by (λ n. n) (values_of (with_values length files)) ≡ lengths files
sum_sizes [] = refl
sum_sizes (e ∷ es) = sum_by-cons (λ n. n) (length e.1) (values_of (with_values length es))
    ∙ ap (λ n. length e.1 + n) (sum_sizes es) ∙ sym (sum_by-cons length e.1 (values_of es))

both_within : (a b c e : ℕ) → a ≤ b → c ≤ e → nat_le a b && nat_le c e ≡ true
both_within a b c e first second = rw (le-leb a b first, le-leb c e second) refl

first_past : (a b : ℕ) (other : Bool) → b < a → nat_le a b && other ≡ false
first_past a b other past = rw (lt-leb a b past) refl

second_past : (a b c e : ℕ) → a ≤ b → e < c → nat_le a b && nat_le c e ≡ false
second_past a b c e within past = rw (le-leb a b within, lt-leb c e past) refl

module _ (d : Desktop) (documents : Documents) (sizes : Files ℕ)
    (is : sizes ≡ file_sizes (all_filed d documents).files) where
  abbrev new : Desktop
  new = all_filed d documents

  sum_is : sum_by (λ n. n) (values_of sizes) ≡ lengths new.files
  sum_is = ap (λ (l : Files ℕ). sum_by (λ n. n) (values_of l)) is ∙ sum_sizes new.files

  module _ (within : d.written + many_bytes documents ≤ most_written) where
    written_now : new.written ≤ most_written
    written_now = omega (arith, within, (with_files d documents).written)

    pub fits_now : characters_held d + sum_by (λ n. n) (values_of sizes) ≤ most_held + lengths d.files → fits new ≡ true
    fits_now room = both_within new.written most_written (characters_held new) most_held written_now
        (omega (arith, room, sum_is, (with_files d documents).others))

    pub holds_more : most_held + lengths d.files < characters_held d + sum_by (λ n. n) (values_of sizes) → fits new ≡ false
    holds_more past = second_past new.written most_written (characters_held new) most_held written_now
        (omega (arith, past, sum_is, (with_files d documents).others))

  pub writes_more : most_written < d.written + many_bytes documents → fits new ≡ false
  writes_more past = first_past new.written most_written (nat_le (characters_held new) most_held)
      (omega (arith, past, (with_files d documents).written))

-- ---- the sizes, document by document

pub names_rise : (d : KeptDesktop) → IsSound (seen [] d) → IsStrictlySortedBy name_cmp (keys_of d.files)
unfolding seen
names_rise d sound = subst (IsStrictlySortedBy name_cmp) (keys_of-map_values (seen_text []) d.files)
    sound.shaped.files.rising

pub none_filed : (characters : List ℕ) (d : KeptDesktop) (sizes : Files ℕ)
    → sizes ≡ file_sizes (seen_table characters d.files) → sizes ≡ file_sizes (all_filed (seen characters d) []).files
unfolding all_filed seen
none_filed characters d sizes is = is

put_filed : (d : Desktop) (name bytes : List ℕ)
    → insert_entry name_cmp (file_sizes d.files) name (length bytes) ≡ file_sizes (filed d name (plain_text bytes)).files
unfolding filed
put_filed d name bytes = ap (λ n. insert_entry name_cmp (file_sizes d.files) name n) (sym (long bytes))
    ∙ sym (insert_seen length name_cmp d.files name (plain_text bytes))

pub sizes_filed : (d : Desktop) (documents : Documents) (i : ℕ) (none : List ℕ × List ℕ) → i < length documents
    → (sizes sizes' : Files ℕ) (name bytes : List ℕ) → name ≡ (get_or documents i none).0
    → bytes ≡ (get_or documents i none).1
    → sizes ≡ file_sizes (all_filed d (take i documents)).files
    → sizes' ≡ insert_entry name_cmp sizes name (length bytes)
    → sizes' ≡ file_sizes (all_filed d (take (i + 1) documents)).files
sizes_filed d documents i none low sizes sizes' name bytes name_is bytes_is was put_is =
    put_is ∙ (λ k. insert_entry name_cmp (was k) (name_is k) (length (bytes_is k)))
    ∙ put_filed (all_filed d (take i documents)) (get_or documents i none).0 (get_or documents i none).1
    ∙ ap (λ (x : Desktop). file_sizes x.files) (sym (filed_more d documents i none low))

-- ---- what a desktop holds beside its files

pub others_held : (d : KeptDesktop) → IsKeptWhole d → lengths (seen_table [] d.files) ≤ characters_held (seen [] d)
unfolding seen
others_held d whole = files_held (seen [] d)

pub few_held : (d : KeptDesktop) → IsKeptWhole d → lengths (seen_table [] d.files) ≤ most_held
few_held d whole = let within = others_held d whole in omega (arith, within, (whole.sound []).held_within)

written_kept : (characters : List ℕ) (d : KeptDesktop) → (seen characters d).written ≡ d.written
unfolding seen
written_kept characters d = refl

pub few_written : (d : KeptDesktop) → IsKeptWhole d → d.written ≤ most_written
few_written d whole = subst (λ n. n ≤ most_written) (written_kept [] d) (whole.sound []).written_within

-- the limits by numbers that are at hand
module _ (characters : List ℕ) (d : KeptDesktop) (documents : Documents) (sizes : Files ℕ)
    (is : sizes ≡ file_sizes (all_filed (seen characters d) documents).files) (all files : ℕ)
    (all_is : all ≡ characters_held (seen characters d)) (files_is : files ≡ lengths (seen_table characters d.files))
    (low : files ≤ all) (few : all ≤ most_held) where
  files_seen : lengths (seen_table characters d.files) ≡ lengths (seen characters d).files
  unfolding seen
  files_seen = refl

  pub past_written : most_written - d.written < many_bytes documents
      → false ≡ fits (all_filed (seen characters d) documents)
  past_written past = sym (writes_more (seen characters d) documents sizes is
      (omega (arith, past, written_kept characters d)))

  pub kept_limits : (result : Bool) → many_bytes documents ≤ most_written - d.written → d.written ≤ most_written
      → (IsTrue result → sum_by (λ n. n) (values_of sizes) ≤ most_held - (all - files))
      → (result ≡ false → most_held - (all - files) < sum_by (λ n. n) (values_of sizes))
      → result ≡ fits (all_filed (seen characters d) documents)
  kept_limits true within low_written room past =
      let sum = room refl in
      sym (fits_now (seen characters d) documents sizes is (omega (arith, within, low_written, written_kept characters d))
      (omega (arith, sum, all_is, files_is, files_seen, low, few)))
  kept_limits false within low_written room past =
      let sum = past refl in
      sym (holds_more (seen characters d) documents sizes is
      (omega (arith, within, low_written, written_kept characters d))
      (omega (arith, sum, all_is, files_is, files_seen, low, few)))

-- how many files there are
few_tells : (sizes : Files ℕ) (d : Desktop) → sizes ≡ file_sizes d.files → length sizes ≡ length d.files
few_tells sizes d is = ap length is ∙ length_seen length d.files

pub many_told : (sizes : Files ℕ) (d : Desktop) (len : ℕ) → sizes ≡ file_sizes d.files → len ≡ length sizes
    → most_files < len → has_few_files d ≡ false
many_told sizes d len is long past = lt-leb (length d.files) most_files (omega (arith, past, long, few_tells sizes d is))

pub few_told : (sizes : Files ℕ) (d : Desktop) (len : ℕ) → sizes ≡ file_sizes d.files → len ≡ length sizes
    → len ≤ most_files → has_few_files d ≡ true
few_told sizes d len is long few = le-leb (length d.files) most_files (omega (arith, few, long, few_tells sizes d is))

-- the bytes of the documents so far and of one more
pub bytes_more : (documents : Documents) (i : ℕ) (document : List ℕ × List ℕ) (n : ℕ) → i < length documents
    → document ≡ get_or documents i document
    → n + many_bytes (take i documents) + length document.1 ≡ n + many_bytes (take (i + 1) documents)
bytes_more documents i document n low is =
    let sum = sum_by_more (λ (e : List ℕ × List ℕ). length e.1) documents i document low in
    let same : length document.1 ≡ length (get_or documents i document).1 =
    ap (λ (e : List ℕ × List ℕ). length e.1) is in
    omega (arith, sum, same)
