use Rattle.std.proofs.Common.{◌≡◌, ◌++◌, drop}
use Rattle.store_documents.specs.HostText.{document_of, text_after}
use Rattle.store_documents.proofs.file_bytes.document_text.Given as goal

abbrev pub invariant-loop-byte : goal.invariant-loop-byte
invariant-loop-byte l = document_of l.file ≡ l.text.items ++ text_after l.before (drop l.byte-index l.file)
