-- What holds of a new store. `d` is what is known of a disk.
use Rattle.std.specs.Prelude.{◌≡◌, List, []}
use Rattle.sector_disk.specs.declared.disk.Disk.{Ghosts}
use Rattle.sector_disk.specs.Trail.{now}
use Rattle.event_bytes.specs.declared.event.Event.{Event}
use Rattle.store_layout.specs.Meaning.{Standing}
use Rattle.store_slots.specs.Beside.{IsHistory}
use Rattle.desk_journal.specs.Undoing.{ShowsStanding}
use Rattle.desk_journal.specs.View.{StoreView}

-- no event can be taken back
abbrev pub HasNoPast : {D : Type 0} → Ghosts D → StoreView D → Type 0
HasNoPast d store = (s : Standing) × ShowsStanding d store s
    × ((events : List Event) → IsHistory (now (d.trail store.disk)).reads s events → events ≡ [])
