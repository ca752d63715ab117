-- A law of sectors that are filled.
use Rattle.std.specs.Prelude.{◌≡◌, ℕ}
use Rattle.std.proofs.Common.{subst}
use Rattle.sector_disk.specs.declared.disk.Disk.{Ghosts}
use Rattle.sector_disk.specs.Confined.{IsConfined}
use Rattle.store_layout.specs.declared.filling.Filling.{Filling}
use Rattle.store_layout.specs.Filling.{first_sector, most_sectors, InRange, SectorsOf}

-- calls that were confined to the sectors of a filling were confined to these numbers
pub sectors_are : {D : Type 0} (d : Ghosts D) (f : Filling) {from limit : ℕ} {old new : D} → first_sector f ≡ from
    → most_sectors f ≡ limit → IsConfined d.size d.honest d.trail (SectorsOf f) old new
    → IsConfined d.size d.honest d.trail (InRange from limit) old new
sectors_are d f {from = from} {old = old} {new = new} same_first same_most run =
    subst (λ n. IsConfined d.size d.honest d.trail (InRange from n) old new) same_most
    (subst (λ n. IsConfined d.size d.honest d.trail (InRange n (most_sectors f)) old new) same_first run)
