use Rattle.std.proofs.Common.{◌≡◌, ◌<◌, ℕ, false}
use Rattle.store_documents.specs.Handing.{is_named_before}
use Rattle.store_documents.proofs.handing.named_before.Given as goal

abbrev pub invariant-loop-index : goal.invariant-loop-index
invariant-loop-index l = (k : ℕ) → k < l.index → is_named_before l.documents k ≡ false
