use Rattle.std.proofs.Common.{◌≡◌, ◌++◌}
use Rattle.store_documents.proofs.importing.appended.Given as goal

abbrev pub invariant-loop-document : goal.invariant-loop-document
invariant-loop-document l = l.all.items ≡ l.fn.documents.items ++ l.yielded
