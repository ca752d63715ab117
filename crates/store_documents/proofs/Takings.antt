-- Files as documents, one after another.
use Rattle.std.proofs.Common.{◌≡◌, ◌<◌, ◌∙◌, ◌+◌, ℕ, inl, inr, arith, false, List, [], ◌∷◌, ◌++◌, map, ap, sym, Option, Ok}
use Rattle.std.proofs.lemmas.Bool.{cases_lt}
use Rattle.std.proofs.lemmas.List.{map-append}
use Rattle.document_filing.specs.Bringing.{Documents}
use Rattle.store_documents.specs.Handing.{document_of_file, AreTaken, IsHandedBehind, is_named_before}

pub taken_more : (width : Option ℕ) (files : Documents) (file : List ℕ × List ℕ) (old new : Documents)
    → AreTaken width files old → IsHandedBehind width file old new → AreTaken width (files ++ file ∷ []) new
taken_more width files file old new are added = let document = added.0 in
    map-append (document_of_file width) files (file ∷ [])
    ∙ ap (λ l. l ++ document_of_file width file ∷ []) are
    ∙ ap (λ t. map Ok old ++ t ∷ []) added.1
    ∙ sym (map-append Ok old (document ∷ []))
    ∙ ap (λ l. map Ok l) (sym added.2)

-- none up to an index, and not that one
pub none_more : (documents : Documents) (n : ℕ) → ((k : ℕ) → k < n → is_named_before documents k ≡ false)
    → is_named_before documents n ≡ false → (k : ℕ) → k < n + 1 → is_named_before documents k ≡ false
none_more documents n before here k less = elim (cases_lt k n) [
  | inl early ↦ before k early
  | inr late ↦ let same : k ≡ n = omega arith in ap (λ (m : ℕ). is_named_before documents m) same ∙ here
]
