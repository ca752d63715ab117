use Rattle.std.proofs.Common.{◌≡◌, ◌*◌, ◌≤◌, ℕ, length}
use Rattle.sector_disk.specs.Trail.{now}
use Rattle.store_slots.specs.Device.{IsSameDevice}
use Rattle.past_pages.specs.declared.copies.TheConstants.{SPELLED}
use Rattle.past_pages.proofs.CopyReads.{IsSpelledTo}
use Rattle.past_pages.proofs.copies.spelled_sectors.Given as goal

-- nothing is written, and the sectors so far were spelled
abbrev pub invariant-loop-n : goal.invariant-loop-n
invariant-loop-n g l = record {
  device : IsSameDevice g.E.Disk l.fn.disk l.disk;
  same : g.E.Disk.honest l.fn.disk → (k : ℕ)
      → (now (g.E.Disk.trail l.disk)).reads k ≡ (now (g.E.Disk.trail l.fn.disk)).reads k;
  short : length l.bytes.items ≤ SPELLED * l.n;
  spelled : g.E.Disk.honest l.fn.disk → IsSpelledTo (now (g.E.Disk.trail l.fn.disk)).reads l.n l.bytes.items;
}
