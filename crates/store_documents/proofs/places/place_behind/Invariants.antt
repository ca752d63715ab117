use Rattle.std.proofs.Common.{◌≡◌, ◌+◌, ◌≤◌, drop}
use Rattle.store_documents.specs.HostText.{place_of, place_from}
use Rattle.store_documents.proofs.places.place_behind.Given as goal

abbrev pub invariant-loop-byte : goal.invariant-loop-byte
invariant-loop-byte l = (place_of l.text ≡ place_from l.line l.column (drop l.byte-index l.text))
    × (l.line ≤ l.byte-index + 1) × (l.column ≤ l.byte-index + 1)
