-- Where the pages of a past go on. `d` is what is known of a disk.
use Rattle.std.proofs.Common.{◌+◌, ◌≤◌, List, arith}
use Rattle.sector_disk.specs.declared.disk.Disk.{Ghosts}
use Rattle.desktop_definitions.specs.Desktop.{Desktop}
use Rattle.store_layout.specs.declared.layout.TheConstants.{STORE_SECTORS}
use Rattle.desk_journal.specs.View.{StoreView}
use Rattle.desk_past.specs.Deeds.{PastDeed}
use Rattle.desk_past.specs.Past.{KeepsAll, Start, first_page}
use Rattle.desk_past.proofs.Carrying.{end_above}

-- behind the start
pub behind_start : {D : Type 0} (d : Ghosts D) {start : Start} {deeds : List PastDeed} {desktop : Desktop}
    {store : StoreView D} (was : KeepsAll d start deeds desktop store)
    → start.base + STORE_SECTORS ≤ was.remembers.standing.past.next
behind_start d {start = start} was = let far = end_above was.remembers.pages (first_page start) in
    omega (arith, far, was.remembers.past.up_to)
