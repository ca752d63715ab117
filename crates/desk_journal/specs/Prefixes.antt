-- What a crash leaves of events: the first of them.
use Rattle.std.specs.Prelude.{◌≤◌, ℕ, List, length, take}
use Rattle.sector_disk.specs.Trail.{Content}
use Rattle.event_bytes.specs.declared.event.Event.{Event}
use Rattle.desktop_definitions.specs.Desktop.{Desktop}
use Rattle.desktop_definitions.specs.Step.{steps}
use Rattle.store_layout.specs.Meaning.{Means}

-- The content means the desktop after some of these events, the first of them and none left out, and among them every
-- event that was acknowledged.
pub record MeansPrefix (size : ℕ) (desktop : Desktop) (acknowledged events : List Event)
    (c : Content) : Type 0 where
  pub count : ℕ
  pub none_lost : length acknowledged ≤ count
  pub within : count ≤ length events
  pub means : Means size (steps desktop (take count events)) c
