-- The words of other crates that several files of commands speak of: refusals, limits, and what desktops are made of.
pub use Rattle.piece_ring.specs.Flat.{run}
pub use Rattle.piece_ring.specs.Look.{default_look}
pub use Rattle.viewer_tracks.specs.declared.display.Track.{Track}
pub use Rattle.command_table.specs.Versions.{version_number}
pub use Rattle.desktop_definitions.specs.Limits.{no_viewer, no_caret, bad_value, too_many_files, most_pattern}
pub use Rattle.desktop_definitions.specs.Needs.{given}
pub use Rattle.desktop_definitions.specs.Looks.{AreLooks}
pub use Rattle.desktop_definitions.specs.Tables.{file_named, has_file_room}
pub use Rattle.desktop_definitions.specs.Desktop.{characters_held, file_of}
pub use Rattle.desktop_definitions.specs.Viewers.{main_of, viewer_in, without_viewer}
pub use Rattle.desktop_definitions.specs.Change.{plain_text, more_written, put_at_caret}
pub use Rattle.desktop_definitions.specs.Opening.{menu_line, after_opening}
pub use Rattle.desktop_definitions.specs.Effects.{deleting_line, files_deleted}
pub use Rattle.desktop_definitions.specs.Step.{fits}
pub use Rattle.desktop_definitions.specs.Sound.{IsClosedPlace, AllWithin}
pub use Rattle.desktop_definitions.specs.Changed.{IsExtended, IsStanding}
