-- The line below what a page shows.
use Rattle.std.specs.Prelude.{ℕ, List}
use Rattle.screen_pictures.specs.declared.cell.Cell.{Cell}
use Rattle.desktop_definitions.specs.Desktop.{Desktop}
use Rattle.desktop_definitions.specs.Shown.{shown_screen}
use Rattle.desk_sitting.specs.declared.sitting.Sitting.{Sitting}
use Rattle.desk_sitting.specs.Sittings.{looked}
use Rattle.desk_sitting.specs.Telling.{rest_marked}
use Rattle.desk_sitting.specs.TheDesk.{sitting_line}

-- A page after it was shown: where its line rests, that says whether the text with the caret isn't stored.
abbrev pub page_shown : Desktop → Sitting → Sitting
page_shown d s = looked (shown_screen d) (rest_marked d s)

-- where this is the screen
abbrev pub page_line : List (List Cell) → Sitting → List ℕ
page_line screen s = sitting_line screen s
