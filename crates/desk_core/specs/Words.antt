-- The words by which a call says what it does with a desktop, with its texts and with the source of their characters.
pub use Rattle.std.specs.Map.{keys_of}
pub use Rattle.std.specs.Ordering.{nat_cmp}
pub use Rattle.std.specs.BTreeMap.{is_at}
pub use Rattle.sector_disk.specs.Faults.{FailsAs}
pub use Rattle.piece_ring.specs.Text.{Text, stretch}
pub use Rattle.piece_ring.specs.Flat.{run}
pub use Rattle.readers_scanners.specs.Words.{CountsFault, OnlyReads, flat, AreWithin, bytes_of_text}
pub use Rattle.viewer_tracks.specs.declared.display.TheConstants.{COLUMNS, DEPTH, ROWS}
pub use Rattle.viewer_tracks.specs.Columns.{IsOnTop, IsPlaced, stack_of}
pub use Rattle.viewer_tracks.specs.Viewers.{id_number}
pub use Rattle.desktop_definitions.specs.Limits.{most_written, most_held, no_caret}
pub use Rattle.desktop_definitions.specs.Needs.{needs, unless}
pub use Rattle.desktop_definitions.specs.Tables.{text_numbered, lengths, with_values}
pub use Rattle.desktop_definitions.specs.Viewers.{text_in, viewer_or_none, unmarked, caret_outside, selections_outside}
pub use Rattle.desktop_definitions.specs.Viewers.{newest, kept_main}
pub use Rattle.desktop_definitions.specs.Change.{following_viewer}
pub use Rattle.desktop_definitions.specs.Seen.{seen, seen_table, seen_text}
pub use Rattle.desktop_definitions.specs.Sound.{IsKeptWhole, IsBuilt, IsOver}
pub use Rattle.desktop_definitions.specs.Changed.{IsChanged}
pub use Rattle.desktop_definitions.specs.Opening.{without_unshown}
pub use Rattle.desktop_definitions.specs.DeskWords.{AreMoved, CanFollow}
pub use Rattle.desk_core.specs.Kept.{kept_desktop}
pub use Rattle.desk_core.specs.Stops.{IsStop}
pub use Rattle.desk_core.specs.Positions.{IsPosition, IsOpenAt, IsTextPosition, CanGo, CanJoin}
pub use Rattle.desk_core.specs.Doing.{Settles, SettlesUnread, SettlesBringing, Uses, Does, DoesUnread}
pub use Rattle.desk_core.specs.Doing.{DoesBringing}
pub use Rattle.desk_core.specs.Reads.{TellsValue, TellsAs}
