-- What a store tells of its desktop before and after a command is called.
pub use Rattle.viewer_tracks.specs.declared.tracks.Place.{Place}
pub use Rattle.desk_views.specs.declared.info.DeskInfo.{DeskInfo}
pub use Rattle.desk_views.specs.declared.info.ShownViewer.{ShownViewer}
pub use Rattle.desk_views.specs.Info.{shown_viewer, place_at, desk_info, last_log_line}
pub use Rattle.store_slots.specs.Words.{caret_text}
