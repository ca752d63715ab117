-- What is copied of a moment that is shown.
use Rattle.std.specs.Prelude.{ℕ, ◌==◌, nat_lt, if◌then◌else◌, List, [], ◌++◌, codes, length, map}
use Rattle.std.specs.Prelude.{Option, Some, None}
use Rattle.desktop_definitions.specs.Desktop.{Desktop}
use Rattle.desktop_definitions.specs.Viewers.{newest, selected}
use Rattle.desktop_definitions.specs.declared.viewer.Selection.{Selection}
use Rattle.store_documents.specs.HostText.{exported}
use Rattle.past_looks.specs.Words.{grouped}
use Rattle.terminal_clipboards.specs.declared.clips.TheConstants.{MOST_CLIPPED}

-- what is selected, as a text of the host's: its lines end with line feeds
abbrev pub exported_within : Desktop → Option Selection → List ℕ
exported_within d None = []
exported_within d (Some selection) =
    exported (map (λ character. character.0) (selected d selection))

abbrev pub exported_selection : Desktop → List ℕ
exported_selection d = exported_within d (newest d)

-- what so many characters are called, and what puts them in
abbrev pub copied_unit : ℕ → List ℕ
copied_unit n =
    if n == 1 then codes " character for Ctrl-V and your terminal's paste" else
    if nat_lt MOST_CLIPPED n then codes " characters for Ctrl-V, too many for your terminal's paste"
    else codes " characters for Ctrl-V and your terminal's paste"

-- what is said of a copy of so many
abbrev pub copied_words : ℕ → List ℕ
copied_words n =
    if n == 0 then codes "nothing is selected: drag over a text with the right button"
    else codes "copied " ++ (grouped n ++ copied_unit n)

-- What is kept for the present once this text was copied: an empty one takes the place of no other.
abbrev pub copy_kept : Option (List ℕ) → List ℕ → Option (List ℕ)
copy_kept kept text = if length text == 0 then kept else Some text
