use Rattle.std.proofs.Common.{◌≡◌, ◌≤◌, ◌*◌, take}
use Rattle.sector_disk.specs.declared.disk.TheConstants.{SECTOR_BYTES}
use Rattle.char_pages.specs.Occurrences.{indices_in}
use Rattle.char_pages.proofs.occurrences.Occurrences.held.Given as goal

abbrev pub invariant-loop-known : goal.invariant-loop-known
invariant-loop-known l = record {
  so_far : l.held ≡ indices_in (take l.known-index l.fn.self.known.items);
  few : l.held ≤ SECTOR_BYTES * l.known-index;
}
