use Rattle.std.proofs.Common.{◌≡◌, ◌≤◌, ◌++◌, ℕ, List, length, take, drop}
use Rattle.document_filing.specs.Bringing.{Documents}
use Rattle.past_pages.specs.Page.{document_spellings, AreDocuments}
use Rattle.past_pages.proofs.documents.documents_in.Given as goal

-- of what the bytes spell so many documents have been read, and the others come next
abbrev pub invariant-loop-k : goal.invariant-loop-k
invariant-loop-k l = record {
  within : l.place ≤ length l.bytes;
  read : (documents : Documents) (rest : List ℕ) → AreDocuments documents → length documents ≡ l.count
      → l.bytes ≡ document_spellings documents ++ rest
      → (l.documents.items ≡ take l.k documents)
      × (drop l.place l.bytes ≡ document_spellings (drop l.k documents) ++ rest);
}
