use Rattle.std.proofs.Common.{◌≡◌, ◌+◌, ◌*◌, ◌≤◌, drop}
use Rattle.store_documents.specs.Filling.{unit_end}
use Rattle.store_documents.proofs.filling.unit_end.Given as goal

abbrev pub invariant-loop-byte : goal.invariant-loop-byte
invariant-loop-byte l = (unit_end l.column l.text ≡ unit_end l.end (drop l.byte-index l.text))
    × (l.end ≤ l.column + 4 * l.byte-index)
