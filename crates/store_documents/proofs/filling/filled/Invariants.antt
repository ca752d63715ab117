use Rattle.std.proofs.Common.{◌≡◌, ◌++◌, ◌*◌, ◌≤◌, drop}
use Rattle.store_documents.specs.Filling.{filled_text, filled_from}
use Rattle.store_documents.proofs.filling.filled.Given as goal

abbrev pub invariant-loop-index : goal.invariant-loop-index
invariant-loop-index l =
    (filled_text l.fn.width l.fn.text ≡ l.new.items ++ filled_from l.fn.width l.column (drop l.index l.fn.text))
    × (l.column ≤ 4 * l.index)
