-- The words by which a call says what it does with a disk and with a desktop.
pub use Rattle.sector_disk.specs.Trail.{Content, CountsFault, Leaves, LeavesOnly, Nowhere, Only, now}
pub use Rattle.sector_disk.specs.Confined.{IsConfined}
pub use Rattle.sector_disk.specs.Faults.{FailsAs, OneOf}
pub use Rattle.desktop_definitions.specs.Step.{step, step_in}
pub use Rattle.desktop_definitions.specs.Unread.{ListsUnread}
pub use Rattle.desktop_definitions.specs.Listing.{entries_of}
pub use Rattle.desktop_definitions.specs.Shown.{shown_screen}
pub use Rattle.desk_core.specs.Stops.{IsStop}
pub use Rattle.piece_ring.specs.Flat.{flat}
pub use Rattle.piece_ring.specs.Text.{AreWithin}
pub use Rattle.readers_scanners.specs.Reading.{contents}
pub use Rattle.event_loop.specs.CaretText.{caret_text}
