-- Lines that are kept over an event.
use Rattle.std.specs.Prelude.{ℕ, List}
use Rattle.event_bytes.specs.declared.event.Event.{Event}
use Rattle.desktop_definitions.specs.Desktop.{KeptDesktop}
use Rattle.desktop_definitions.specs.Seen.{seen}
use Rattle.desktop_definitions.specs.Sound.{IsOver}
use Rattle.desktop_definitions.specs.Step.{step_in}
use Rattle.desktop_definitions.specs.Viewers.{text_of}
use Rattle.screen_cells.specs.Lines.{AreLinesOf}
use Rattle.screen_cells.specs.declared.lines.KeptLines.{KeptLines}

-- Lines of a desktop's texts, among whatever characters it is over: those that are left are so of the texts after the
-- event, by whatever version it is stepped.
abbrev pub KeepsLines : KeptDesktop → Event → KeptLines → KeptLines → Type 0
KeepsLines d event lines lines' = (version : ℕ) (characters : List ℕ) → IsOver characters d
    → AreLinesOf (text_of (seen characters d)) lines
    → AreLinesOf (text_of (step_in version (seen characters d) event).desktop) lines'
