-- The two buffers of a desktop, by their names.
use Rattle.desktop_definitions.specs.Desktop.{DesktopOf}
use Rattle.desk_core.specs.declared.edits.DeskBuffer.{DeskBuffer}
use Rattle.desk_core.specs.declared.edits.DeskBuffer.TheVariants.{Copied, Deleted}

abbrev pub buffer_of : {T : Type 0} → DesktopOf T → DeskBuffer → T
buffer_of d Copied = d.copied
buffer_of d Deleted = d.deleted
