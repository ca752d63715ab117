-- Steps, rows of screens and lists of desktops, proved by computing.
use Rattle.std.specs.Prelude.{◌≡◌, List, [], ◌∷◌, ◌++◌, map, refl}
use Rattle.viewer_tracks.specs.Viewers.{viewer_at}
use Rattle.viewer_tracks.specs.Edits.{opened, replaced, changed, closed}
use Rattle.viewer_tracks.specs.Columns.{track_of, after_open, after_close, columns_changed as columns_changed}
use Rattle.viewer_tracks.specs.Room.{free_row}
use Rattle.screen_pictures.specs.Picture.{picture}
use Rattle.screen_pictures.specs.Screen.{values}
use Rattle.screen_pictures.specs.Bytes.{shown_byte}
use Rattle.readers_scanners.specs.Form.{form, symbol}
use Rattle.readers_scanners.specs.Bytes.{is_blank, is_string_byte, numeral}
use Rattle.event_bytes.specs.Bytes.{is_letter, is_digit, is_name_byte}
use Rattle.std.specs.Fmt.{digits}
use Rattle.command_table.specs.Call.{word_begin, called_at}
use Rattle.command_table.specs.Commands.{commands, command_named}
use Rattle.command_table.specs.Parameters.{names_on, value_parameter, names}
use Rattle.desktop_definitions.specs.Limits.{first_version}
use Rattle.desktop_definitions.specs.Desktop.{empty_desktop, file_of, characters_held}
use Rattle.desktop_definitions.specs.Viewers.{opened_at}
use Rattle.desktop_definitions.specs.Change.{after_change, insertion, deletion, looks_set, showing}
use Rattle.desktop_definitions.specs.Keys.{after_typing, without_marks, after_key}
use Rattle.desktop_definitions.specs.Opening.{after_opening, opening_on, without_unshown}
use Rattle.desktop_definitions.specs.Gesture.{region_at, resized, after_move, text_position, scrolled_to_row}
use Rattle.desktop_definitions.specs.Gesture.{scrolled_to_share, drawn_in, copied_to, looks_taken, taken_out}
use Rattle.desktop_definitions.specs.Gesture.{sent_to_caret, tool_opened, menu_position, pointed}
use Rattle.desktop_definitions.specs.Gesture.{done_in_filler, done_in_menu, done_in_bar, done_at, done_with}
use Rattle.desktop_definitions.specs.Step.{filed, marked, outcome_after, raw, step_in, step}
use Rattle.desktop_definitions.specs.Log.{logged, all_logged}
use Rattle.desktop_definitions.specs.Call.{value_of, name_of, names_of, number_of as number_called}
use Rattle.desktop_definitions.specs.Effects.{file_opened, document_opened, log_opened, put_away, brought_back}
use Rattle.desktop_definitions.specs.Effects.{viewer_copied, log_cleared, directory_logged, files_deleted, after_store}
use Rattle.desktop_definitions.specs.Commands.{commanded, after_call, done_with_name, done_with_number, done_with_viewer}
use Rattle.desktop_definitions.specs.Effects.{look_set, selection_set, after_search, after_collect}
use Rattle.desktop_definitions.specs.Listing.{entries_of, stack_entries}
use Rattle.desktop_definitions.specs.Shown.{shown_screen}
use Rattle.desk_tests.proofs.StepWords.{Case, Listing, Row, replied, wanted, listed, list_wanted, shown, row_wanted}
use Rattle.desk_tests.proofs.StepWords.{replied_in, not_called}
use Rattle.desk_tests.proofs.PairSteps.{pair_steps, pair_rows, pair_listing}
use Rattle.desk_tests.proofs.SharedSteps.{shared_steps, shared_rows, shared_listing}
use Rattle.desk_tests.proofs.ScrolledSteps.{scrolled_steps, scrolled_rows, scrolled_listing}
use Rattle.desk_tests.proofs.WideSteps.{wide_steps, wide_rows, wide_listing}
use Rattle.desk_tests.proofs.CallSteps.{call_steps, collections}

abbrev pub steps : List Case
steps = pair_steps ++ shared_steps ++ scrolled_steps ++ wide_steps ++ call_steps

-- each step gives what is wanted
pub steps_are_done : map replied steps ≡ map wanted steps
unfolding region_at resized after_move text_position scrolled_to_row scrolled_to_share drawn_in copied_to looks_taken
    taken_out sent_to_caret tool_opened pointed done_in_filler done_in_menu done_in_bar done_at done_with after_opening
    opening_on without_unshown opened_at after_change insertion deletion looks_set showing filed marked outcome_after raw step_in
    step file_of characters_held after_typing without_marks after_key viewer_at opened replaced changed closed
    track_of after_open after_close
    columns_changed after_call menu_position word_begin called_at commands command_named is_name_byte is_letter is_digit
    logged all_logged value_of name_of number_called names_of file_opened document_opened log_opened put_away
    brought_back viewer_copied log_cleared directory_logged files_deleted after_store look_set selection_set after_search
    commanded done_with_name done_with_number done_with_viewer names_on value_parameter names form symbol is_blank is_string_byte
    numeral digits free_row empty_desktop after_collect
steps_are_done = refl

-- the first version of the table has no word for what gives characters up
pub first_has_no_collect : map (replied_in first_version) collections ≡ map not_called collections
unfolding region_at text_position pointed done_in_filler done_in_menu done_in_bar done_at done_with outcome_after raw
    step_in after_call word_begin called_at commands command_named is_name_byte is_letter is_digit viewer_at track_of
first_has_no_collect = refl

-- the screens have these rows
abbrev pub rows : List Row
rows = pair_rows ++ shared_rows ++ scrolled_rows ++ wide_rows

pub rows_are_shown : map shown rows ≡ map row_wanted rows
unfolding shown_screen picture values shown_byte viewer_at track_of empty_desktop
rows_are_shown = refl

-- and each desktop its list
abbrev pub listings : List Listing
listings = pair_listing ∷ shared_listing ∷ scrolled_listing ∷ wide_listing ∷ []

pub lists_are_right : map listed listings ≡ map list_wanted listings
unfolding entries_of stack_entries track_of empty_desktop
lists_are_right = refl
