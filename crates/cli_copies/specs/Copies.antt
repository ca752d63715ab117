-- What a copy of a store promises. `d` is what is known of a disk.
use Rattle.std.specs.Prelude.{◌≡◌, ◌⊎◌, ℕ, List, []}
use Rattle.sector_disk.specs.declared.disk.Disk.{Ghosts}
use Rattle.event_bytes.specs.declared.event.Event.{Event}
use Rattle.desk_journal.specs.Undoing.{IsTakenBack}
use Rattle.desk_journal.specs.View.{StoreView}

module _ {D : Type 0} (d : Ghosts D) where
  -- There are none and nothing is done, or just these events were the last ones and are taken back.
  abbrev pub AreTakenBack : List Event → StoreView D → StoreView D → Type 0
  AreTakenBack events old new = (events ≡ []) × (new ≡ old)
      ⊎ (count : ℕ) × IsTakenBack d count events old new
