use Rattle.std.proofs.Common.{◌≡◌, ◌++◌, drop}
use Rattle.char_pages.specs.Occurrences.{occurrences_from, occurrences}
use Rattle.char_pages.proofs.occurrences.occurrences_in.Given as goal

abbrev pub invariant-loop-at : goal.invariant-loop-at
invariant-loop-at l = record {
  so_far : l.found.items ++ occurrences_from l.fn.wanted l.at (drop l.at l.fn.sector) ≡ occurrences l.fn.wanted l.fn.sector;
}
