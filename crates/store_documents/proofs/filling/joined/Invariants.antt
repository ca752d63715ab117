use Rattle.std.proofs.Common.{◌≡◌, ◌++◌, drop}
use Rattle.store_documents.specs.Filling.{joined_text, joined_after}
use Rattle.store_documents.proofs.filling.joined.Given as goal

abbrev pub invariant-loop-byte : goal.invariant-loop-byte
invariant-loop-byte l = joined_text l.text ≡ l.new.items ++ joined_after l.before (drop l.byte-index l.text)
