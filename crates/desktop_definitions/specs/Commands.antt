-- The table of commands. Their refusals come in the order in which the words here ask.
use Rattle.std.specs.Prelude.{ℕ, ℤ, Bool, List}
use Rattle.std.specs.Prelude.{Option, Result, Ok}
use Rattle.command_table.specs.declared.command.Command.{Command}
use Rattle.command_table.specs.declared.command.Command.TheVariants.{EditOpen, SystemOpen, SystemOpenLog, SystemClose}
use Rattle.command_table.specs.declared.command.Command.TheVariants.{SystemRecall, SystemCopy, SystemClear}
use Rattle.command_table.specs.declared.command.Command.TheVariants.{SystemDirectory, SystemDeleteFiles}
use Rattle.command_table.specs.declared.command.Command.TheVariants.{SystemSetFont, SystemSetColor, SystemSetOffset}
use Rattle.command_table.specs.declared.command.Command.TheVariants.{EditChangeFont, EditChangeColor}
use Rattle.command_table.specs.declared.command.Command.TheVariants.{EditChangeOffset, EditStore, EditSearch}
use Rattle.command_table.specs.declared.command.Command.TheVariants.{EditRecall, SystemCollect, SystemGrow}
use Rattle.command_table.specs.Call.{called_at}
use Rattle.desktop_definitions.specs.Limits.{no_caret, no_command}
use Rattle.desktop_definitions.specs.Limits.{no_viewer}
use Rattle.desktop_definitions.specs.Limits.{bad_value}
use Rattle.desktop_definitions.specs.Needs.{needs, given}
use Rattle.desktop_definitions.specs.Desktop.{Desktop}
use Rattle.desktop_definitions.specs.Change.{bytes_of, put_at_caret}
use Rattle.desktop_definitions.specs.Looks.{font_set, colour_set, offset_set}
use Rattle.desktop_definitions.specs.declared.call.Call.{Call}
use Rattle.desktop_definitions.specs.declared.call.NameCommand.{NameCommand}
use Rattle.desktop_definitions.specs.declared.call.NameCommand.TheVariants.{OpenDocument, OpenFile, SetFont, ChangeFont}
use Rattle.desktop_definitions.specs.declared.call.NumberCommand.{NumberCommand}
use Rattle.desktop_definitions.specs.declared.call.NumberCommand.TheVariants.{SetColor, SetOffset, ChangeColor, ChangeOffset}
use Rattle.desktop_definitions.specs.declared.call.ViewerCommand.{ViewerCommand}
use Rattle.desktop_definitions.specs.declared.call.ViewerCommand.TheVariants.{Close, Copy, Store, Search, Grow}
use Rattle.desktop_definitions.specs.Call.{text_called, target_viewer, name_of, number_of, names_of}
use Rattle.desktop_definitions.specs.Effects.{file_opened, document_opened, log_opened, put_away, brought_back}
use Rattle.desktop_definitions.specs.Effects.{viewer_copied, viewer_grown, log_cleared, directory_logged, files_deleted, after_store}
use Rattle.desktop_definitions.specs.Effects.{look_set, selection_set, after_search, after_collect}

-- ---- what commands do with what they take

-- with a name
unfoldable pub done_with_name : Desktop → NameCommand → List ℕ → Result Desktop ℕ
done_with_name d OpenDocument name = Ok (document_opened d name)
done_with_name d OpenFile name = file_opened d name
done_with_name d SetFont name = needs (font_set name) bad_value λ new. Ok (look_set d new)
done_with_name d ChangeFont name = needs (font_set name) bad_value (selection_set d)

-- with a number
unfoldable pub done_with_number : Desktop → NumberCommand → ℤ → Result Desktop ℕ
done_with_number d SetColor z = needs (colour_set z) bad_value λ new. Ok (look_set d new)
done_with_number d SetOffset z = needs (offset_set z) bad_value λ new. Ok (look_set d new)
done_with_number d ChangeColor z = needs (colour_set z) bad_value (selection_set d)
done_with_number d ChangeOffset z = needs (offset_set z) bad_value (selection_set d)

-- with a viewer
unfoldable pub done_with_viewer : Desktop → ViewerCommand → ℕ → Result Desktop ℕ
done_with_viewer d Close v = Ok (put_away d v)
done_with_viewer d Copy v = viewer_copied d v
done_with_viewer d Store v = after_store d v
done_with_viewer d Search v = after_search d v
done_with_viewer d Grow v = viewer_grown d v

-- ---- what each command does where it is called

unfoldable pub commanded : Desktop → Command → Call → Result Desktop ℕ
commanded d EditOpen call = given (name_of d call) (done_with_name d OpenDocument)
commanded d SystemOpen call = given (name_of d call) (done_with_name d OpenFile)
commanded d SystemOpenLog call = Ok (log_opened d)
commanded d SystemClose call = needs (target_viewer d call) no_viewer (done_with_viewer d Close)
commanded d SystemRecall call = needs d.closed no_viewer λ k. Ok (brought_back d k)
commanded d SystemCopy call = needs (target_viewer d call) no_viewer (done_with_viewer d Copy)
commanded d SystemClear call = Ok (log_cleared d)
commanded d SystemDirectory call = Ok (directory_logged d)
commanded d SystemDeleteFiles call = given (names_of d call) (files_deleted d)
commanded d SystemSetFont call = given (name_of d call) (done_with_name d SetFont)
commanded d SystemSetColor call = given (number_of d call) (done_with_number d SetColor)
commanded d SystemSetOffset call = given (number_of d call) (done_with_number d SetOffset)
commanded d EditChangeFont call = given (name_of d call) (done_with_name d ChangeFont)
commanded d EditChangeColor call = given (number_of d call) (done_with_number d ChangeColor)
commanded d EditChangeOffset call = given (number_of d call) (done_with_number d ChangeOffset)
commanded d EditStore call = needs (target_viewer d call) no_viewer (done_with_viewer d Store)
commanded d EditSearch call = needs (target_viewer d call) no_viewer (done_with_viewer d Search)
commanded d EditRecall call = needs d.caret no_caret λ c. Ok (put_at_caret d d.deleted c)
commanded d SystemCollect call = Ok (after_collect d)
commanded d SystemGrow call = needs (target_viewer d call) no_viewer (done_with_viewer d Grow)

-- ---- calls

-- the command whose word stands at a position, in a version of the table, and the position after that word
abbrev pub command_at : ℕ → List ℕ → ℕ → Option (Command × ℕ)
command_at version bytes p = called_at version bytes p

-- the word at a position of a viewer's menu or main text is called
unfoldable pub after_call : ℕ → Desktop → ℕ → Bool → ℕ → Result Desktop ℕ
after_call version d v in_menu p =
    needs (command_at version (bytes_of (text_called d v in_menu)) p) no_command λ found.
    commanded d found.0 (record { viewer = v; in_menu = in_menu; after = found.1 })
