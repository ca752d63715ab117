-- Documents, as a page spells them.
use Rattle.std.proofs.Common.{◌≡◌, ◌+◌, ◌<◌, ◌≤◌, ◌^◌, ℕ, zero, suc, List, [], ◌∷◌, ◌++◌, length, take, drop, refl, sym, false, true}
use Rattle.std.proofs.Common.{◌∙◌, ap, arith, subst, length-append}
use Rattle.std.specs.Prelude.{get_or, ◌&&◌, Bool, IsTrue}
use Rattle.std.specs.Int.{from_be_bytes, w32}
use Rattle.std.proofs.lemmas.List.{append-nil, take_more}
use Rattle.std.proofs.lemmas.Nat.{from_be_bytes-to_be_bytes_4}
use Rattle.std.proofs.lemmas.Bool.{leb-true}
use Rattle.event_bytes.specs.Bytes.{is_name}
use Rattle.document_filing.specs.Bringing.{Documents}
use Rattle.past_pages.specs.Page.{behind_length, document_spelling, document_spellings, number}
use Rattle.past_pages.specs.Page.{AreDocuments, IsDocument}
use Rattle.past_pages.proofs.PageReads.{dropped_bytes, joined, drop_both}

-- ---- documents that are spelled

spelled_behind : (documents : Documents) (document : List ℕ × List ℕ)
    → document_spellings (documents ++ document ∷ []) ≡ document_spellings documents ++ document_spelling document
spelled_behind [] document = append-nil (document_spelling document)
spelled_behind (e ∷ documents) document =
    ap (λ r. document_spelling e ++ r) (spelled_behind documents document)
    ∙ sym (joined (document_spelling e) (document_spellings documents) (document_spelling document))

pub good_behind : (documents : Documents) (document : List ℕ × List ℕ) → AreDocuments documents → IsDocument document
    → AreDocuments (documents ++ document ∷ [])
good_behind [] document good last = (last, tt)
good_behind (e ∷ documents) document good last = (good.0, good_behind documents document good.1 last)

-- the next one of a list
module _ (documents : Documents) (k : ℕ) {document : List ℕ × List ℕ} (low : k < length documents)
    (here : document ≡ get_or documents k document) where
  one_more : take (k + 1) documents ≡ take k documents ++ document ∷ []
  one_more = take_more documents k document low ∙ ap (λ e. take k documents ++ e ∷ []) (sym here)

  pub spelled_more : (all : List ℕ) → all ≡ document_spellings (take k documents)
      → all ++ document_spelling document ≡ document_spellings (take (k + 1) documents)
  spelled_more all is = ap (λ l. l ++ document_spelling document) is
      ∙ sym (spelled_behind (take k documents) document) ∙ sym (ap document_spellings one_more)

  pub good_more : AreDocuments (take k documents) → IsDocument document → AreDocuments (take (k + 1) documents)
  good_more good last = subst AreDocuments (sym one_more) (good_behind (take k documents) document good last)

-- each is spelled in no more bytes than all
part_short : (documents : Documents) (k : ℕ) (document : List ℕ × List ℕ) → k < length documents
    → length (document_spelling (get_or documents k document)) ≤ length (document_spellings documents)
part_short [] k document low = absurd (omega (arith, low))
part_short (e ∷ documents) zero document low =
    omega (arith, length-append (document_spelling e) (document_spellings documents))
part_short (e ∷ documents) (suc k) document low =
    let less = part_short documents k document (omega (arith, low)) in
    omega (arith, less, length-append (document_spelling e) (document_spellings documents))

pub next_short : (documents : Documents) (k : ℕ) {document : List ℕ × List ℕ} → k < length documents
    → document ≡ get_or documents k document
    → length (document_spelling document) ≤ length (document_spellings documents)
next_short documents k {document = document} low here =
    let long = ap (λ e. length (document_spelling e)) here in
    let less = part_short documents k document low in omega (arith, long, less)

pub counted_long : (bytes : List ℕ) → length (behind_length bytes) ≡ 4 + length bytes
counted_long bytes = length-append (number (length bytes)) bytes

pub document_long : (document : List ℕ × List ℕ)
    → length (document_spelling document) ≡ (4 + length document.0) + (4 + length document.1)
document_long document =
    omega (
      arith,
      length-append (behind_length document.0) (behind_length document.1),
      counted_long document.0,
      counted_long document.1,
    )

-- ---- documents that are read

-- a name is short
first_of : (a b : Bool) → a && b ≡ true → a ≡ true
first_of true b h = refl
first_of false b h = absurd cc

pub short_name : (name : List ℕ) → IsTrue (is_name name) → length name < 2 ^ 32
short_name name is = let few = leb-true (length name) 31 (first_of _ _ is) in omega (arith, few)

-- the bytes behind a number
module _ (bytes inside rest front back : List ℕ) (short : length inside < 2 ^ 32)
    (is : bytes ≡ behind_length inside ++ rest) (first : front ≡ take 4 bytes) (left : back ≡ drop 4 bytes) where
  pub number_is : (n : ℕ) → n ≡ from_be_bytes w32 front → n ≡ length inside
  number_is n told = told ∙ ap (from_be_bytes w32) first ∙ ap (λ l. from_be_bytes w32 (take 4 l)) is
      ∙ from_be_bytes-to_be_bytes_4 (length inside) short

  pub back_is : back ≡ inside ++ rest
  back_is = left ∙ ap (drop 4) is

pub counted_enough : (bytes inside rest : List ℕ) → bytes ≡ behind_length inside ++ rest
    → 4 + (length inside + length rest) ≡ length bytes
counted_enough bytes inside rest is =
    let long = ap length is in
    omega (arith, long, length-append (behind_length inside) rest, counted_long inside)

-- the bytes begin with a document: with its name, behind which its own bytes come
module _ (bytes : List ℕ) (document : List ℕ × List ℕ) (rest : List ℕ)
    (is : bytes ≡ document_spelling document ++ rest) where
  pub name_first : bytes ≡ behind_length document.0 ++ (behind_length document.1 ++ rest)
  name_first = is ∙ joined (behind_length document.0) (behind_length document.1) rest

  pub text_next : (name left : List ℕ) (place : ℕ) → name ≡ document.0 → place ≡ 4 + length name
      → left ≡ drop place bytes → left ≡ behind_length document.1 ++ rest
  text_next name left place same at is_left =
      let long = ap length same in
      let passed : place ≡ length (behind_length document.0) = omega (arith, at, long, counted_long document.0) in
      is_left ∙ ap (λ n. drop n bytes) passed ∙ ap (drop (length (behind_length document.0))) name_first
      ∙ dropped_bytes (behind_length document.0) (behind_length document.1 ++ rest)

-- the document that comes next
pub record IsNextDocument (bytes : List ℕ) (k : ℕ) (documents : Documents) (rest : List ℕ) : Type 0 where
  pub document : List ℕ × List ℕ
  pub valid : IsDocument document
  pub after : List ℕ
  pub parts : bytes ≡ document_spelling document ++ after
  pub taken : take (suc k) documents ≡ take k documents ++ document ∷ []
  pub left : drop (length (document_spelling document)) bytes ≡ document_spellings (drop (suc k) documents) ++ rest

pub document_there : (bytes : List ℕ) (k : ℕ) (documents : Documents) (rest : List ℕ) → AreDocuments documents
    → k < length documents → bytes ≡ document_spellings (drop k documents) ++ rest
    → IsNextDocument bytes k documents rest
document_there bytes zero [] rest valid low is = absurd (omega (arith, low))
document_there bytes (suc k) [] rest valid low is = absurd (omega (arith, low))
document_there bytes zero (e ∷ documents) rest valid low is =
    let parts = is ∙ joined (document_spelling e) (document_spellings documents) rest in
    record {
      document = e;
      valid = valid.0;
      after = document_spellings documents ++ rest;
      parts = parts;
      taken = refl;
      left = ap (drop (length (document_spelling e))) parts
          ∙ dropped_bytes (document_spelling e) (document_spellings documents ++ rest);
    }
document_there bytes (suc k) (e ∷ documents) rest valid low is =
    let next = document_there bytes k documents rest valid.1 (omega (arith, low)) is in
    record {
      document = next.document;
      valid = next.valid;
      after = next.after;
      parts = next.parts;
      taken = ap (λ l. e ∷ l) next.taken;
      left = next.left;
    }

-- one document more was read
pub document_on : (bytes left : List ℕ) (place k : ℕ) (documents : Documents) (rest : List ℕ) → AreDocuments documents
    → k < length documents → left ≡ drop place bytes → drop place bytes ≡ document_spellings (drop k documents) ++ rest
    → {e : List ℕ × List ℕ} {n : ℕ}
    → ((document : List ℕ × List ℕ) (after : List ℕ) → IsDocument document
    → left ≡ document_spelling document ++ after → (e ≡ document) × (n ≡ length (document_spelling document)))
    → (take k documents ++ e ∷ [] ≡ take (k + 1) documents)
    × (drop (place + n) bytes ≡ document_spellings (drop (k + 1) documents) ++ rest)
document_on bytes left place k documents rest valid low back at {e = e} {n = n} found =
    let next = document_there left k documents rest valid low (back ∙ at) in
    let same = found next.document next.after next.valid next.parts in
    let more : suc k ≡ k + 1 = omega arith in (
      ap (λ x. take k documents ++ x ∷ []) same.0 ∙ sym next.taken ∙ ap (λ m. take m documents) more,
      sym (drop_both place n bytes) ∙ ap (drop n) (sym back) ∙ ap (λ m. drop m left) same.1 ∙ next.left
          ∙ ap (λ m. document_spellings (drop m documents) ++ rest) more,
    )
