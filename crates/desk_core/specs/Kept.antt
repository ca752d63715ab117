-- The desktop that the code keeps.
use Rattle.desk_core.specs.declared.desk.Desk.{Desk}
use Rattle.desktop_definitions.specs.Desktop.{KeptDesktop}

abbrev pub kept_desktop : Desk → KeptDesktop
kept_desktop d = record {
  texts = d.texts.entries;
  viewers = d.viewers.items;
  columns = d.tracks;
  caret = d.caret;
  selections = d.selections.items;
  marker = d.marker;
  closed = d.closed;
  files = d.files.entries;
  copied = d.copied;
  deleted = d.deleted;
  pattern = d.pattern.items;
  look = d.look;
  written = d.written;
}
