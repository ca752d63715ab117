-- The words that are commands.
use Rattle.std.specs.Prelude.{ℕ, ◌≡◌, ◌≤◌, ◌↔◌, ◌&&◌, nat_le, List, [], ◌∷◌, Option, Some, codes}
use Rattle.std.specs.List.{find}
use Rattle.std.specs.Str.{bytes_eq}
use Rattle.command_table.specs.declared.command.Command.{Command}
use Rattle.command_table.specs.declared.command.Command.TheVariants.{EditOpen, SystemOpen, SystemOpenLog, SystemClose}
use Rattle.command_table.specs.declared.command.Command.TheVariants.{SystemRecall, SystemCopy, SystemClear}
use Rattle.command_table.specs.declared.command.Command.TheVariants.{SystemDirectory, SystemDeleteFiles}
use Rattle.command_table.specs.declared.command.Command.TheVariants.{SystemSetFont, SystemSetColor, SystemSetOffset}
use Rattle.command_table.specs.declared.command.Command.TheVariants.{EditChangeFont, EditChangeColor}
use Rattle.command_table.specs.declared.command.Command.TheVariants.{EditChangeOffset, EditStore, EditSearch}
use Rattle.command_table.specs.declared.command.Command.TheVariants.{EditRecall, SystemCollect, SystemGrow}

-- the word that calls a command
abbrev pub word_of : Command → List ℕ
word_of EditOpen = codes "Edit.Open"
word_of SystemOpen = codes "System.Open"
word_of SystemOpenLog = codes "System.OpenLog"
word_of SystemClose = codes "System.Close"
word_of SystemRecall = codes "System.Recall"
word_of SystemCopy = codes "System.Copy"
word_of SystemClear = codes "System.Clear"
word_of SystemDirectory = codes "System.Directory"
word_of SystemDeleteFiles = codes "System.DeleteFiles"
word_of SystemSetFont = codes "System.SetFont"
word_of SystemSetColor = codes "System.SetColor"
word_of SystemSetOffset = codes "System.SetOffset"
word_of EditChangeFont = codes "Edit.ChangeFont"
word_of EditChangeColor = codes "Edit.ChangeColor"
word_of EditChangeOffset = codes "Edit.ChangeOffset"
word_of EditStore = codes "Edit.Store"
word_of EditSearch = codes "Edit.Search"
word_of EditRecall = codes "Edit.Recall"
word_of SystemCollect = codes "System.Collect"
word_of SystemGrow = codes "System.Grow"

-- every command
unfoldable pub commands : List Command
commands =
    EditOpen ∷ SystemOpen ∷ SystemOpenLog ∷ SystemClose ∷ SystemRecall ∷ SystemCopy ∷
    SystemClear ∷ SystemDirectory ∷ SystemDeleteFiles ∷ SystemSetFont ∷ SystemSetColor ∷
    SystemSetOffset ∷ EditChangeFont ∷ EditChangeColor ∷ EditChangeOffset ∷ EditStore ∷
    EditSearch ∷ EditRecall ∷ SystemCollect ∷ SystemGrow ∷ []

-- the first version of the table that has the command
abbrev pub since : Command → ℕ
since SystemCollect = 2
since SystemGrow = 3
since command = 1

-- the command that a word calls in a version of the table
unfoldable pub command_named : ℕ → List ℕ → Option Command
command_named version word =
    find (λ command. bytes_eq (word_of command) word && nat_le (since command) version) commands

-- A word calls a command exactly where it is the command's own, in the versions that have it: so each command is found,
-- and no two have one word.
abbrev pub OneWordEach : Type 0
OneWordEach = (version : ℕ) (word : List ℕ) (command : Command)
    → (command_named version word ≡ Some command)
    ↔ ((word ≡ word_of command) × (since command ≤ version))
