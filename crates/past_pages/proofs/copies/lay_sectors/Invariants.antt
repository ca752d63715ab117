use Rattle.std.proofs.Common.{◌≡◌, ◌*◌, ◌≤◌, ◌++◌, ℕ, List, length, drop}
use Rattle.sector_disk.specs.Trail.{now}
use Rattle.store_slots.specs.Device.{IsSameDevice}
use Rattle.past_pages.specs.Copies.{Sectors, AreSectors, laid_over}
use Rattle.past_pages.specs.Page.{sector_spellings}
use Rattle.past_pages.proofs.copies.lay_sectors.Given as goal

-- so many sectors have been laid, and the others come next
abbrev pub invariant-loop-k : goal.invariant-loop-k
invariant-loop-k g l = record {
  within : l.place ≤ length l.bytes;
  device : IsSameDevice g.E.Disk l.fn.disk l.disk;
  laid : g.E.Disk.honest l.fn.disk → (sectors : Sectors) (rest : List ℕ) → AreSectors sectors
      → length sectors ≡ l.count → l.bytes ≡ sector_spellings sectors ++ rest
      → (drop l.place l.bytes ≡ sector_spellings (drop l.k sectors) ++ rest)
      × ((n : ℕ) → laid_over (now (g.E.Disk.trail l.disk)).reads (drop l.k sectors) n
      ≡ laid_over (now (g.E.Disk.trail l.fn.disk)).reads sectors n);
}
