-- Laws of texts that are written anew: they read as before, in the same looks, and name no other characters.
use Rattle.std.proofs.Common.{◌≡◌, ℕ, zero, suc, ◌+◌, ◌≤◌, List, [], ◌∷◌, ◌++◌, length, map, All, slice_index}
use Rattle.std.proofs.Common.{refl, sym, ap, subst, ◌∙◌, arith, add-zero, append_assoc, length-append}
use Rattle.std.specs.Map.{values_of}
use Rattle.std.proofs.lemmas.List.Elements.{All-nil, All-cons, All-head, All-tail}
use Rattle.std.proofs.lemmas.List.Sums.{sum_by-cons}
use Rattle.std.proofs.Math.Seq.{get_or-append_seam}
use Rattle.piece_ring.specs.Flat.{run}
use Rattle.piece_ring.specs.Text.{AreWithin}
use Rattle.readers_scanners.specs.Reading.{contents, bytes_of_text}
use Rattle.readers_scanners.proofs.Running.{length-bytes}
use Rattle.desktop_definitions.specs.Words.{Look, Piece, Text, flat}
use Rattle.desktop_definitions.specs.Tables.{with_values}
use Rattle.desktop_definitions.specs.Seen.{seen_text, seen_table}
use Rattle.desktop_definitions.specs.Sound.{AllWithin}
use Rattle.desktop_definitions.proofs.TableLaws.{kept_lengths}
use Rattle.desktop_definitions.specs.Rewriting.{laid, flats, laid_table, bytes_in}

-- ---- where the characters stand

pub laid-append : (n : ℕ) (a b : Text ℕ) → laid n (a ++ b) ≡ laid n a ++ laid (n + length a) b
laid-append n [] b = ap (λ m. laid m b) (sym (add-zero n))
laid-append n (c ∷ a) b =
    let further : suc n + length a ≡ n + length (c ∷ a) = omega arith in
    ap (λ (l : Text ℕ). (n, c.1) ∷ l)
    (laid-append (suc n) a b ∙ ap (λ m. laid (suc n) a ++ laid m b) further)

pub laid-run : (n off len : ℕ) (look : Look) → laid n (run off len look) ≡ run n len look
laid-run n off zero look = refl
laid-run n off (suc len) look = ap (λ (l : Text ℕ). (n, look) ∷ l) (laid-run (suc n) (suc off) len look)

text_is_within : (m n : ℕ) (text : Text ℕ) → n + length text ≤ m → AreWithin m (laid n text)
text_is_within m n [] low k d inside = absurd (omega (arith, inside))
text_is_within m n (c ∷ text) low zero d inside = omega (arith, low)
text_is_within m n (c ∷ text) low (suc k) d inside =
    text_is_within m (suc n) text (omega (arith, low)) k d (omega (arith, inside))

-- ---- what they read

laid_reads : (front more old : List ℕ) (text : Text ℕ) (n : ℕ) → length front ≡ n
    → contents (front ++ (bytes_of_text old text ++ more)) (laid n text) ≡ contents old text
laid_reads front more old [] n is = refl
laid_reads front more old (c ∷ text) n is =
    let b : ℕ = slice_index old c.0 in
    let tail : List ℕ = bytes_of_text old text ++ more in
    let first : slice_index (front ++ b ∷ tail) n ≡ b =
    subst (λ k. slice_index (front ++ b ∷ tail) k ≡ b) is (get_or-append_seam front b tail 0) in
    let further : length (front ++ b ∷ []) ≡ suc n = omega (arith, is, length-append front (b ∷ [])) in
    let others : contents (front ++ b ∷ tail) (laid (suc n) text) ≡ contents old text =
    subst (λ (l : List ℕ). contents l (laid (suc n) text) ≡ contents old text)
    (append_assoc front (b ∷ []) tail) (laid_reads (front ++ b ∷ []) more old text (suc n) further) in
    λ k. (first k, c.1) ∷ others k

table_reads : {K : Type 0} (front more old : List ℕ) (table : List (K × Text ℕ)) (n : ℕ) → length front ≡ n
    → with_values (contents (front ++ (bytes_in old table ++ more))) (laid_table n table)
    ≡ with_values (contents old) table
table_reads front more old [] n is = refl
table_reads {K} front more old (e ∷ es) n is =
    let b : List ℕ = bytes_of_text old e.1 in
    let tail : List ℕ = bytes_in old es in
    let whole : front ++ (b ++ tail ++ more) ≡ front ++ (b ++ (tail ++ more)) =
    ap (λ (l : List ℕ). front ++ l) (append_assoc b tail more) in
    let first : contents (front ++ (b ++ tail ++ more)) (laid n e.1) ≡ contents old e.1 =
    subst (λ (l : List ℕ). contents l (laid n e.1) ≡ contents old e.1) (sym whole)
    (laid_reads front (tail ++ more) old e.1 n is) in
    let further : length (front ++ b) ≡ n + length e.1 =
    omega (arith, is, length-append front b, length-bytes old e.1) in
    let others : with_values (contents (front ++ (b ++ tail ++ more))) (laid_table (n + length e.1) es)
    ≡ with_values (contents old) es =
    subst (λ (l : List ℕ). with_values (contents l) (laid_table (n + length e.1) es)
    ≡ with_values (contents old) es) (append_assoc front b (tail ++ more) ∙ sym whole)
    (table_reads (front ++ b) more old es (n + length e.1) further) in
    λ k. (e.0, first k) ∷ others k

-- a table with the characters of each text, among the characters
seen_flats : {K : Type 0} (characters : List ℕ) (table : List (K × List Piece))
    → with_values (contents characters) (flats table) ≡ seen_table characters table
seen_flats characters [] = refl
seen_flats {K} characters (e ∷ es) =
    ap (λ (l : List (K × Text ℕ)). (e.0, seen_text characters e.1) ∷ l) (seen_flats characters es)

pub length-bytes_in : {K : Type 0} (characters : List ℕ) (table : List (K × List Piece))
    → length (bytes_in characters (flats table)) ≡ kept_lengths table
length-bytes_in characters [] = refl
length-bytes_in characters (e ∷ es) = omega (
  arith,
  length-append (bytes_of_text characters (flat e.1)) (bytes_in characters (flats es)),
  length-bytes characters (flat e.1),
  length-bytes_in characters es,
  sum_by-cons (λ pieces. length (flat pieces)) e.1 (values_of es),
)

-- a table that is written anew behind a front is seen as before, and so is a text
pub table_seen : {K : Type 0} (all front more old : List ℕ) (table new : List (K × List Piece)) (n : ℕ)
    → length front ≡ n → flats new ≡ laid_table n (flats table)
    → all ≡ front ++ (bytes_in old (flats table) ++ more) → seen_table all new ≡ seen_table old table
table_seen {K} all front more old table new n is moved whole =
    sym (seen_flats all new) ∙ ap (with_values (contents all)) moved
    ∙ subst (λ (l : List ℕ). with_values (contents l) (laid_table n (flats table))
    ≡ with_values (contents old) (flats table)) (sym whole) (table_reads front more old (flats table) n is)
    ∙ seen_flats old table

pub text_seen : (all front more old : List ℕ) (text new : List Piece) (n : ℕ) → length front ≡ n
    → flat new ≡ laid n (flat text) → all ≡ front ++ (bytes_of_text old (flat text) ++ more)
    → seen_text all new ≡ seen_text old text
text_seen all front more old text new n is moved whole =
    ap (contents all) moved
    ∙ subst (λ (l : List ℕ). contents l (laid n (flat text)) ≡ contents old (flat text)) (sym whole)
    (laid_reads front more old (flat text) n is)

-- ---- looks

abbrev pub looks_of : {X : Type 0} → Text X → List Look
looks_of text = map (λ c. c.1) text

laid_looks : (n : ℕ) (text : Text ℕ) → looks_of (laid n text) ≡ looks_of text
laid_looks n [] = refl
laid_looks n (c ∷ text) = ap (λ (l : List Look). c.1 ∷ l) (laid_looks (suc n) text)

contents_looks : (characters : List ℕ) (text : Text ℕ) → looks_of (contents characters text) ≡ looks_of text
contents_looks characters [] = refl
contents_looks characters (c ∷ text) = ap (λ (l : List Look). c.1 ∷ l) (contents_looks characters text)

laid_table_looks : {K : Type 0} (n : ℕ) (table : List (K × Text ℕ))
    → with_values looks_of (laid_table n table) ≡ with_values looks_of table
laid_table_looks n [] = refl
laid_table_looks n (e ∷ es) = λ k. (e.0, laid_looks n e.1 k) ∷ laid_table_looks (n + length e.1) es k

seen_table_looks : {K : Type 0} (characters : List ℕ) (table : List (K × List Piece))
    → with_values looks_of (seen_table characters table) ≡ with_values looks_of (flats table)
seen_table_looks characters [] = refl
seen_table_looks characters (e ∷ es) =
    λ k. (e.0, contents_looks characters (flat e.1) k) ∷ seen_table_looks characters es k

-- the looks stay, whatever characters both are seen among
pub table_looks : {K : Type 0} (a b : List ℕ) (table new : List (K × List Piece)) (n : ℕ)
    → flats new ≡ laid_table n (flats table)
    → with_values looks_of (seen_table a new) ≡ with_values looks_of (seen_table b table)
table_looks a b table new n moved =
    seen_table_looks a new ∙ ap (with_values looks_of) moved ∙ laid_table_looks n (flats table)
    ∙ sym (seen_table_looks b table)

pub text_looks : (a b : List ℕ) (text new : List Piece) (n : ℕ) → flat new ≡ laid n (flat text)
    → looks_of (seen_text a new) ≡ looks_of (seen_text b text)
text_looks a b text new n moved =
    contents_looks a (flat new) ∙ ap looks_of moved ∙ laid_looks n (flat text) ∙ sym (contents_looks b (flat text))

-- ---- offsets

table_is_within : {K : Type 0} (m n : ℕ) (table : List (K × List Piece)) → n + kept_lengths table ≤ m
    → All (AreWithin m) (values_of (laid_table n (flats table)))
table_is_within m n [] low = All-nil (AreWithin m)
table_is_within m n (e ∷ es) low =
    let sum = sum_by-cons (λ pieces. length (flat pieces)) e.1 (values_of es) in
    All-cons (AreWithin m) (laid n (flat e.1)) (values_of (laid_table (n + length (flat e.1)) (flats es)))
    (text_is_within m n (flat e.1) (omega (arith, low, sum)))
    (table_is_within m (n + length (flat e.1)) es (omega (arith, low, sum)))

-- what holds of f of each text
of_values : {K X Y : Type 0} (P : Y → Type 0) (f : X → Y) (es : List (K × X))
    → All P (values_of (with_values f es)) → All (λ x. P (f x)) (values_of es)
of_values P f [] all = All-nil (λ x. P (f x))
of_values P f (e ∷ es) all =
    All-cons (λ x. P (f x)) e.1 (values_of es) (All-head P (f e.1) (values_of (with_values f es)) all)
    (of_values P f es (All-tail P (f e.1) (values_of (with_values f es)) all))

pub table_within : {K : Type 0} (m n : ℕ) (table new : List (K × List Piece))
    → flats new ≡ laid_table n (flats table) → n + kept_lengths table ≤ m → AllWithin m new
table_within {K} m n table new moved low =
    of_values (AreWithin m) flat new
    (subst (λ (es : List (K × Text ℕ)). All (AreWithin m) (values_of es)) (sym moved) (table_is_within m n table low))

pub text_within : (m n : ℕ) (text new : List Piece) → flat new ≡ laid n (flat text) → n + length (flat text) ≤ m
    → AreWithin m (flat new)
text_within m n text new moved low = subst (AreWithin m) (sym moved) (text_is_within m n (flat text) low)
