-- Tables of a desktop fit: numbers and names rise, and each text has room.
use Rattle.std.specs.Prelude.{◌≡◌, ℕ, suc, ◌+◌, ◌-◌, ◌<◌, ◌≤◌, nat_le, true, List, [], ◌∷◌, length, All, IsTrue}
use Rattle.std.specs.Prelude.{Option, Some, None}
use Rattle.std.specs.List.{AllByRecursion}
use Rattle.std.specs.List.Sorted.{IsStrictlySortedBy}
use Rattle.std.specs.Map.{keys_of, values_of}
use Rattle.std.specs.Ordering.{nat_cmp, is_lt}
use Rattle.std.specs.declared.cmp.Ordering.TheVariants.{Less}
use Rattle.std.proofs.Common.{refl, sym, ap, ◌∙◌, arith}
use Rattle.std.proofs.lemmas.Bool.{le-leb}
use Rattle.std.proofs.lemmas.Bool.Decides.{nat_tests}
use Rattle.std.proofs.lemmas.List.Elements.{All-nil, All-cons, All-head, All-tail}
use Rattle.std.proofs.lemmas.List.Sums.{sum_by-cons}
use Rattle.event_bytes.specs.Bytes.{is_name}
use Rattle.piece_ring.specs.declared.piece.Look.{Look}
use Rattle.piece_ring.specs.declared.piece.Piece.{Piece}
use Rattle.piece_ring.specs.Flat.{flat}
use Rattle.desktop_definitions.specs.Limits.{most_held}
use Rattle.desktop_definitions.specs.Looks.{AreLooks}
use Rattle.desktop_definitions.specs.Tables.{Texts, Files, name_cmp}
use Rattle.desktop_definitions.specs.Seen.{seen_text, seen_table}
use Rattle.desktop_definitions.specs.Sound.{AllWithin}
use Rattle.desktop_definitions.proofs.TableLaws.{kept_lengths}
use Rattle.image_format.specs.Image.{InWord, AreSome}
use Rattle.image_format.specs.Fitting.{Chain, FitsText, FitsFile, length_of_pieces, totals, after_text, after_file, follows}
use Rattle.image_format.proofs.PieceFits.{IsFitting, pieces_fit, length_flat, kept_looks}

-- ---- what the texts of a table hold

pub kept_totals : {K : Type 0} (table : List (K × List Piece)) → kept_lengths table ≡ totals table
kept_totals [] = refl
kept_totals {K} (e ∷ es) = sum_by-cons (λ (pieces : List Piece). length (flat pieces)) e.1 (values_of es)
    ∙ (λ k. length_flat e.1 k + kept_totals es k)
    ∙ sym (sum_by-cons (λ (x : K × List Piece). length_of_pieces x.1) e es)

-- ---- their texts fit

abbrev pub AreFitting : {K : Type 0} → ℕ → List (K × List Piece) → Type 0
AreFitting written table = All (IsFitting written) (values_of table)

-- a text, by what holds of it as it is seen
pub text_fits : (characters : List ℕ) (written : ℕ) (pieces : List Piece) → AreSome pieces
    → All (λ (c : ℕ × Look). c.0 < written) (flat pieces) → AreLooks (seen_text characters pieces)
    → IsFitting written pieces
text_fits characters written pieces some within looks = record {
  some = some;
  within = within;
  looks = kept_looks _ (flat pieces) looks;
}

pub table_fits : {K : Type 0} (characters : List ℕ) (written : ℕ) (table : List (K × List Piece))
    → All AreSome (values_of table) → AllWithin written table
    → All AreLooks (values_of (seen_table characters table)) → AreFitting written table
table_fits characters written [] some within looks = All-nil (IsFitting written)
table_fits characters written (e ∷ es) some within looks = All-cons (IsFitting written) e.1 (values_of es)
    (text_fits characters written e.1 (some 0 e.1 (omega arith)) (within 0 e.1 (omega arith))
    (looks 0 (seen_text characters e.1) (omega arith)))
    (table_fits characters written es (λ i d low. some (suc i) d (omega (arith, low)))
    (λ i d low. within (suc i) d (omega (arith, low))) (λ i d low. looks (suc i) d (omega (arith, low))))

-- ---- texts

-- all numbers are the least one or above it
abbrev pub From : ℕ → List ℕ → Type 0
From least numbers = AllByRecursion (λ n. nat_le least n ≡ true) numbers

pub from_next : (n : ℕ) (numbers : List ℕ) → AllByRecursion (λ m. nat_cmp n m ≡ Less) numbers → From (n + 1) numbers
from_next n [] above = tt
from_next n (m ∷ numbers) above = (next n m above.0, from_next n numbers above.1) where
  next : (n m : ℕ) → nat_cmp n m ≡ Less → nat_le (n + 1) m ≡ true
  next n m less = grind (arith, nat_tests)

pub from_none : (numbers : List ℕ) → From 0 numbers
from_none [] = tt
from_none (n ∷ numbers) = (le-leb 0 n (omega arith), from_none numbers)

texts_chain : (written least room : ℕ) (texts : Texts (List Piece)) → All InWord (keys_of texts)
    → IsStrictlySortedBy nat_cmp (keys_of texts) → From least (keys_of texts) → AreFitting written texts
    → totals texts ≤ room → room ≤ most_held → Chain (FitsText written) after_text (least, room) texts
unfolding IsStrictlySortedBy
texts_chain written least room [] words rising from fits low small = tt
texts_chain written least room (t ∷ texts) words rising from fits low small =
    let sum = sum_by-cons (λ (e : ℕ × List Piece). length_of_pieces e.1) t texts in (
      (
        All-head InWord t.0 (keys_of texts) words,
        (
          from.0,
          pieces_fit written room t.1
              (All-head (IsFitting written) t.1 (values_of texts) fits) (omega (arith, sum, low)) small,
        ),
      ),
      texts_chain written (t.0 + 1) (room - length_of_pieces t.1) texts (All-tail InWord t.0 (keys_of texts) words) rising.1
          (from_next t.0 (keys_of texts) rising.0) (All-tail (IsFitting written) t.1 (values_of texts) fits)
          (omega (arith, sum, low)) (omega (arith, small)),
    )

pub texts_fit : (written room : ℕ) (texts : Texts (List Piece)) → All InWord (keys_of texts)
    → IsStrictlySortedBy nat_cmp (keys_of texts) → AreFitting written texts → totals texts ≤ room → room ≤ most_held
    → Chain (FitsText written) after_text (0, room) texts
texts_fit written room texts words rising fits low small =
    texts_chain written 0 room texts words rising (from_none (keys_of texts)) fits low small

-- ---- files

abbrev After : Option (List ℕ) → List (List ℕ) → Type 0
After before names = AllByRecursion (λ name. follows before name ≡ true) names

after_this : (name : List ℕ) (names : List (List ℕ)) → AllByRecursion (λ other. name_cmp name other ≡ Less) names
    → After (Some name) names
after_this name [] above = tt
after_this name (other ∷ names) above = (ap is_lt above.0, after_this name names above.1)

after_none : (names : List (List ℕ)) → After None names
after_none [] = tt
after_none (name ∷ names) = (refl, after_none names)

files_chain : (written : ℕ) (before : Option (List ℕ)) (room : ℕ) (files : Files (List Piece))
    → All (λ name. IsTrue (is_name name)) (keys_of files) → IsStrictlySortedBy name_cmp (keys_of files)
    → After before (keys_of files) → AreFitting written files → totals files ≤ room → room ≤ most_held
    → Chain (FitsFile written) after_file (before, room) files
unfolding IsStrictlySortedBy
files_chain written before room [] names rising after fits low small = tt
files_chain written before room (f ∷ files) names rising after fits low small =
    let sum = sum_by-cons (λ (e : List ℕ × List Piece). length_of_pieces e.1) f files in (
      (
        All-head (λ name. IsTrue (is_name name)) f.0 (keys_of files) names,
        (
          after.0,
          pieces_fit written room f.1
              (All-head (IsFitting written) f.1 (values_of files) fits) (omega (arith, sum, low)) small,
        ),
      ),
      files_chain written (Some f.0) (room - length_of_pieces f.1) files
          (All-tail (λ name. IsTrue (is_name name)) f.0 (keys_of files) names) rising.1
          (after_this f.0 (keys_of files) rising.0) (All-tail (IsFitting written) f.1 (values_of files) fits)
          (omega (arith, sum, low)) (omega (arith, small)),
    )

pub files_fit : (written room : ℕ) (files : Files (List Piece)) → All (λ name. IsTrue (is_name name)) (keys_of files)
    → IsStrictlySortedBy name_cmp (keys_of files) → AreFitting written files → totals files ≤ room → room ≤ most_held
    → Chain (FitsFile written) after_file (None, room) files
files_fit written room files names rising fits low small =
    files_chain written None room files names rising (after_none (keys_of files)) fits low small
