-- The text in which the caret stands.
use Rattle.std.specs.Prelude.{ℕ, Option, option_map}
use Rattle.desktop_definitions.specs.Words.{Text}
use Rattle.desktop_definitions.specs.Desktop.{Desktop}
use Rattle.desktop_definitions.specs.Viewers.{main_of}

-- the characters of the main text of the viewer that has the caret; none where no viewer has it
unfoldable pub caret_text : Desktop → Option (Text ℕ)
caret_text d = option_map (λ c. main_of d c.viewer) d.caret
