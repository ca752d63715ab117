use Rattle.std.proofs.Common.{◌≡◌, ℕ, List, take}
use Rattle.desk_core.specs.Words.{seen, kept_desktop}
use Rattle.document_filing.specs.Bringing.{all_filed, file_sizes}
use Rattle.document_filing.proofs.sizes.sizes_after.Given as goal

-- those of the files once the documents so far are filed
abbrev pub invariant-loop-document : goal.invariant-loop-document
invariant-loop-document l = (characters : List ℕ)
    → l.sizes.entries ≡ file_sizes (all_filed (seen characters (kept_desktop l.desk)) (take l.document-index l.documents)).files
