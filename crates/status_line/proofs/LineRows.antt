-- What the line below says in windows of 46, 60 and 80 columns, proved by computing. The rows are of another model, that of
-- random sittings.
use Rattle.std.specs.Prelude.{◌≡◌, ℕ, List, [], ◌∷◌, map, None, Some, codes, refl}
use Rattle.std.specs.Fmt.{digits}
use Rattle.event_bytes.specs.declared.keys.Keys.TheVariants as keys
use Rattle.host_files.specs.declared.HostFault.TheVariants as fault
use Rattle.terminal_presses.specs.declared.action.Click.{Click}
use Rattle.terminal_presses.specs.declared.action.Click.TheVariants.{Mark, Keys}
use Rattle.terminal_presses.specs.declared.asks.Asks.TheVariants.{File}
use Rattle.status_line.specs.declared.saying.Saying.{Saying}
use Rattle.status_line.specs.declared.saying.Saying.TheVariants.{Greeting, Unproved, InMemory, Keys as ForKeys, Pointing, NoKey}
use Rattle.status_line.specs.declared.saying.Saying.TheVariants.{NoText, NothingAfter, NoLine, PartHidden, NoScroll, NoWord}
use Rattle.status_line.specs.declared.saying.Saying.TheVariants.{NoCommand, NoSearch, NothingTyped, Fills, FillsNot, ToolFiled}
use Rattle.status_line.specs.declared.saying.Saying.TheVariants.{Refused, CutShort, OneSide, Worn, Unread, Marked, Unfinished}
use Rattle.status_line.specs.declared.question.Question.TheVariants.{Forgetting}
use Rattle.status_line.specs.declared.saying.Saying.TheVariants.{Asks, TooNarrow, TooLow, NothingBack, NoFurtherBack, NothingAgain}
use Rattle.status_line.specs.declared.saying.Saying.TheVariants.{NotBack}
use Rattle.status_line.specs.declared.saying.Saying.TheVariants.{FirstFailed, TwinFailed, WithoutTwin, PastBegins, NoPast, NotClipped}
use Rattle.status_line.specs.declared.saying.Saying.TheVariants.{WentRound, NotThere, NoWords, BeyondEdge}
use Rattle.status_line.specs.Fitting.{part_ends, word_ends, last_cut, kept_by_parts, kept_by_words, parts_within}
use Rattle.status_line.specs.Sayings.{line_of, words}

abbrev first : List Saying
first =
    Greeting ∷
    Unproved ∷
    OneSide ∷
    InMemory ∷
    ForKeys ∷
    Pointing ∷
    NoKey ∷
    NoText ∷ []

abbrev first_lines : List (List ℕ × List ℕ × List ℕ)
first_lines = (
  codes "Help: F2, then click Edit.Open Help",
  codes "Help: F2, then click Edit.Open Help. F11 no mouse",
  codes "Help: F2, then click Edit.Open Help. F11 no mouse, Ctrl-S stores, Ctrl-Q leaves",
) ∷ (
  codes "Not proved yet. Help: F2, click Edit.Open Help",
  codes "Not proved yet. Help: F2, click Edit.Open Help. F11 no mouse",
  codes "Not proved yet. Help: F2, click Edit.Open Help. F11 no mouse, Ctrl-S stores",
) ∷ (
  codes "Alt-Left/Right: the other side. F11 no mouse",
  codes "Alt-Left/Right: the other side. F11 no mouse, Ctrl-Q leaves",
  codes "Alt-Left/Right: the other side. F11 no mouse, Ctrl-Q leaves, Ctrl-S stores",
) ∷ (
  codes "This desktop is gone when you leave (Ctrl-Q)",
  codes "This desktop is gone when you leave (Ctrl-Q)",
  codes "This desktop is gone when you leave (Ctrl-Q): it is in memory.",
) ∷ (
  codes "Ctrl-Q leaves, F2 calls, F11 no mouse",
  codes "Ctrl-Q leaves, F2 calls, F11 no mouse, F3 selects",
  codes "Ctrl-Q leaves, F2 calls, F11 no mouse, F3 selects, Ctrl-S stores, Ctrl-Z undo",
) ∷ (
  codes "Arrows move the pointer, Return clicks",
  codes "Arrows move the pointer, Return clicks, F2 calls, F3 selects",
  codes "Arrows move the pointer, Return clicks, F2 calls, F3 selects, Escape ends it",
) ∷ (
  codes "That key means nothing here.",
  codes "That key means nothing here.",
  codes "That key means nothing here.",
) ∷ (
  codes "There is no text on that side of the caret.",
  codes "There is no text on that side of the caret.",
  codes "There is no text on that side of the caret.",
) ∷ []

abbrev second : List Saying
second =
    NothingAfter ∷
    NoLine ∷
    PartHidden ∷
    NoScroll ∷
    NoWord ∷
    NoCommand ∷
    NoSearch ∷
    NothingTyped ∷ []

abbrev second_lines : List (List ℕ × List ℕ × List ℕ)
second_lines = (
  codes "No character after the caret is in sight.",
  codes "No character after the caret is in sight.",
  codes "No character after the caret is in sight.",
) ∷ (
  codes "There is no line to cut.",
  codes "There is no line to cut.",
  codes "There is no line to cut.",
) ∷ (
  codes "An end of it is out of sight",
  codes "An end of it is out of sight: make the viewer taller",
  codes "An end of it is out of sight: make the viewer taller, or take less of the text.",
) ∷ (
  codes "Nothing moves there: no viewer, no caret",
  codes "Nothing moves there: no viewer, no caret",
  codes "Nothing moves there: no viewer, no caret, or too few rows of a text.",
) ∷ (
  codes "No such word is in sight",
  codes "No such word is in sight: System.Tool shows the commands.",
  codes "No such word is in sight: System.Tool shows the commands.",
) ∷ (
  codes "No command's whole word is in sight",
  codes "No command's whole word is in sight",
  codes "No command's whole word is in sight: System.Tool shows the commands.",
) ∷ (
  codes "Press Ctrl-F first",
  codes "Press Ctrl-F first",
  codes "Press Ctrl-F first: Ctrl-R puts what you typed after the last Ctrl-F",
) ∷ (
  codes "Nothing was typed after the last Ctrl-F",
  codes "Nothing was typed after the last Ctrl-F",
  codes "Nothing was typed after the last Ctrl-F",
) ∷ []

abbrev third : List Saying
third =
    Fills ∷
    FillsNot ∷
    ToolFiled ∷
    Worn ∷
    Unfinished ∷
    TooNarrow ∷
    TooLow ∷
    NothingBack ∷ []

abbrev third_lines : List (List ℕ × List ℕ × List ℕ)
third_lines = (
  codes "Lines are broken while you type",
  codes "Lines are broken while you type",
  codes "Lines are broken while you type: at the last blank before the edge.",
) ∷ (
  codes "Lines aren't broken while you type",
  codes "Lines aren't broken while you type, and may pass the edge.",
  codes "Lines aren't broken while you type, and may pass the edge.",
) ∷ (
  codes "System.Tool was gone, and is a document again",
  codes "System.Tool was gone, and is a document again",
  codes "System.Tool was gone, and is a document again: the same click opens it.",
) ∷ (
  codes "This store is used up",
  codes "This store is used up",
  codes "This store is used up: take its documents out by desk export.",
) ∷ (
  codes "The host's file can't be read to its end",
  codes "The host's file can't be read to its end",
  codes "The host's file can't be read to its end; what came of it is typed.",
) ∷ (
  codes "This window is too narrow",
  codes "This window is too narrow: it has fewer than 45 columns.",
  codes "This window is too narrow: it has fewer than 45 columns.",
) ∷ (
  codes "This window is too low",
  codes "This window is too low: it has fewer than 12 rows.",
  codes "This window is too low: it has fewer than 12 rows.",
) ∷ (
  codes "There is nothing to take back.",
  codes "There is nothing to take back.",
  codes "There is nothing to take back.",
) ∷ []

abbrev fourth : List Saying
fourth =
    NothingAgain ∷
    NotBack ∷
    FirstFailed ∷
    TwinFailed ∷
    WithoutTwin ∷
    NotClipped ∷
    WentRound ∷
    NotThere ∷ []

abbrev fourth_lines : List (List ℕ × List ℕ × List ℕ)
fourth_lines = (
  codes "There is nothing to do again.",
  codes "There is nothing to do again.",
  codes "There is nothing to do again.",
) ∷ (
  codes "What was before can't be read",
  codes "What was before can't be read, and nothing was taken back.",
  codes "What was before can't be read, and nothing was taken back.",
) ∷ (
  codes "The first file failed, the twin has all",
  codes "The first file failed, the twin has all: mend it",
  codes "The first file failed, the twin has all: mend it, then start again with both.",
) ∷ (
  codes "The twin failed, the first file has all",
  codes "The twin failed, the first file has all: mend it",
  codes "The twin failed, the first file has all: mend it, then start again with both.",
) ∷ (
  codes "This store has a twin, which gets nothing now",
  codes "This store has a twin, which gets nothing now",
  codes "This store has a twin, which gets nothing now: start with --twin to pair them.",
) ∷ (
  codes "Too long for the terminal's clipboard",
  codes "Too long for the terminal's clipboard: copied here",
  codes "Too long for the terminal's clipboard: copied here, and it takes 74,994 bytes.",
) ∷ (
  codes "Found round the end of the text",
  codes "Found round the end of the text: none was on that side.",
  codes "Found round the end of the text: none was on that side.",
) ∷ (
  codes "These words aren't in this text.",
  codes "These words aren't in this text.",
  codes "These words aren't in this text.",
) ∷ []

abbrev fifth : List Saying
fifth =
    NoWords ∷
    BeyondEdge ∷
    PastBegins ∷
    NoPast ∷
    Refused 0 ∷
    Refused 1 ∷
    Refused 2 ∷
    Refused 3 ∷
    Refused 4 ∷
    Refused 5 ∷ []

abbrev fifth_lines : List (List ℕ × List ℕ × List ℕ)
fifth_lines = (
  codes "Nothing was sought yet: type the words first.",
  codes "Nothing was sought yet: type the words first.",
  codes "Nothing was sought yet: type the words first.",
) ∷ (
  codes "Found right of the edge, out of sight",
  codes "Found right of the edge, out of sight",
  codes "Found right of the edge, out of sight: the caret is in that line's last column.",
) ∷ (
  codes "All you do is kept from now on",
  codes "All you do is kept from now on: Ctrl-P shows it",
  codes "All you do is kept from now on: Ctrl-P shows it, desk forget deletes it.",
) ∷ (
  codes "No past is kept in this sitting",
  codes "No past is kept in this sitting",
  codes "No past is kept in this sitting: it can't be written (is the disk full?).",
) ∷ (
  codes "refused",
  codes "refused",
  codes "refused",
) ∷ (
  codes "No caret is set: click into a text",
  codes "No caret is set: click into a text, or F11 without a mouse.",
  codes "No caret is set: click into a text, or F11 without a mouse.",
) ∷ (
  codes "Nothing is selected",
  codes "Nothing is selected: drag over a text with the right button",
  codes "Nothing is selected: drag over a text with the right button, or with F3.",
) ∷ (
  codes "A name or number is missing behind that word.",
  codes "A name or number is missing behind that word.",
  codes "A name or number is missing behind that word.",
) ∷ (
  codes "That word isn't a command",
  codes "That word isn't a command: System.Tool shows all of them.",
  codes "That word isn't a command: System.Tool shows all of them.",
) ∷ (
  codes "There is no document of that name",
  codes "There is no document of that name, or it is named twice.",
  codes "There is no document of that name, or it is named twice.",
) ∷ []

abbrev sixth : List Saying
sixth =
    Refused 6 ∷
    Refused 7 ∷
    Refused 8 ∷
    Refused 9 ∷
    Refused 10 ∷
    Refused 11 ∷
    Refused 12 ∷
    Refused 13 ∷ []

abbrev sixth_lines : List (List ℕ × List ℕ × List ℕ)
sixth_lines = (
  codes "There is no room: close or delete something",
  codes "There is no room: close or delete something",
  codes "There is no room: close or delete something, or call System.Collect.",
) ∷ (
  codes "No viewer has the marker, or none was closed",
  codes "No viewer has the marker, or none was closed",
  codes "No viewer has the marker, or none was closed: F1 and a click set the marker.",
) ∷ (
  codes "There are 256 documents already",
  codes "There are 256 documents already",
  codes "There are 256 documents already: System.DeleteFiles makes room.",
) ∷ (
  codes "That lies outside the desktop.",
  codes "That lies outside the desktop.",
  codes "That lies outside the desktop.",
) ∷ (
  codes "Not found from the caret on",
  codes "Not found from the caret on",
  codes "Not found from the caret on: Ctrl-F again goes to the beginning of the text.",
) ∷ (
  codes "Fonts are 0 to 4, colours 0 to 15",
  codes "Fonts are 0 to 4, colours 0 to 15, and offsets -64 to 63.",
  codes "Fonts are 0 to 4, colours 0 to 15, and offsets -64 to 63.",
) ∷ (
  codes "Eight viewers lie over one another there",
  codes "Eight viewers lie over one another there: close one first.",
  codes "Eight viewers lie over one another there: close one first.",
) ∷ (
  codes "A viewer of one row can't be parted.",
  codes "A viewer of one row can't be parted.",
  codes "A viewer of one row can't be parted.",
) ∷ []

abbrev seventh : List Saying
seventh =
    Unread fault.Missing ∷
    Unread fault.Folder ∷
    Unread fault.NoRight ∷
    Unread fault.Special ∷
    Unread fault.TooLong ∷
    Unread fault.NoHome ∷
    Unread fault.NoMemory ∷
    Unread fault.InUse ∷ []

abbrev seventh_lines : List (List ℕ × List ℕ × List ℕ)
seventh_lines = (
  codes "There is no such file: nothing was typed.",
  codes "There is no such file: nothing was typed.",
  codes "There is no such file: nothing was typed.",
) ∷ (
  codes "That is a folder, and no file",
  codes "That is a folder, and no file: nothing was typed.",
  codes "That is a folder, and no file: nothing was typed.",
) ∷ (
  codes "There is no right to read it",
  codes "There is no right to read it: nothing was typed.",
  codes "There is no right to read it: nothing was typed.",
) ∷ (
  codes "That is a pipe or a device: nothing was typed.",
  codes "That is a pipe or a device: nothing was typed.",
  codes "That is a pipe or a device: nothing was typed.",
) ∷ (
  codes "It has more than 262,144 bytes",
  codes "It has more than 262,144 bytes: nothing was typed.",
  codes "It has more than 262,144 bytes: nothing was typed.",
) ∷ (
  codes "HOME isn't set, so ~ is no folder",
  codes "HOME isn't set, so ~ is no folder: nothing was typed.",
  codes "HOME isn't set, so ~ is no folder: nothing was typed.",
) ∷ (
  codes "There is no memory for it: nothing was typed.",
  codes "There is no memory for it: nothing was typed.",
  codes "There is no memory for it: nothing was typed.",
) ∷ (
  codes "It can't be read: nothing was typed.",
  codes "It can't be read: nothing was typed.",
  codes "It can't be read: nothing was typed.",
) ∷ []

abbrev eighth : List Saying
eighth =
    Unread fault.Taken ∷
    Unread fault.ReadOnly ∷
    Unread fault.Refused ∷
    Marked 12 ∷
    Marked 1 ∷
    CutShort 900 6 ∷
    NoFurtherBack ∷
    Asks Forgetting ∷ []

abbrev eighth_lines : List (List ℕ × List ℕ × List ℕ)
eighth_lines = (
  codes "It can't be read: nothing was typed.",
  codes "It can't be read: nothing was typed.",
  codes "It can't be read: nothing was typed.",
) ∷ (
  codes "It can't be read: nothing was typed.",
  codes "It can't be read: nothing was typed.",
  codes "It can't be read: nothing was typed.",
) ∷ (
  codes "It can't be read: nothing was typed.",
  codes "It can't be read: nothing was typed.",
  codes "It can't be read: nothing was typed.",
) ∷ (
  codes "12 characters became ?",
  codes "12 characters became ?",
  codes "12 characters became ?",
) ∷ (
  codes "1 character became ?",
  codes "1 character became ?",
  codes "1 character became ?",
) ∷ (
  codes "900 characters typed, the rest dropped",
  codes "900 characters typed, the rest dropped: no room",
  codes "900 characters typed, the rest dropped: no room",
) ∷ (
  codes "Undo reaches no further back.",
  codes "Undo reaches no further back.",
  codes "Undo reaches no further back.",
) ∷ (
  codes "Leaving loses what you took back",
  codes "Leaving loses what you took back: Ctrl-Q leaves",
  codes "Leaving loses what you took back: Ctrl-Q leaves, Ctrl-Y does it again.",
) ∷ []

abbrev clicks : List Click
clicks =
    Mark ∷
    Keys keys.Left ∷
    Keys keys.LeftMiddle ∷
    Keys keys.LeftRight ∷
    Keys keys.Middle ∷
    Keys keys.MiddleLeft ∷
    Keys keys.MiddleRight ∷
    Keys keys.Right ∷
    Keys keys.RightLeft ∷
    Keys keys.RightMiddle ∷ []

abbrev clicks_lines : List (List ℕ × List ℕ × List ℕ)
clicks_lines = (
  codes "the next click sets the marker in the viewer",
  codes "the next click sets the marker in the viewer there",
  codes "the next click sets the marker in the viewer there; Escape calls it off",
) ∷ (
  codes "the next click sets the caret",
  codes "the next click sets the caret; Escape calls it off",
  codes "the next click sets the caret; Escape calls it off",
) ∷ (
  codes "the next click copies the selection there",
  codes "the next click copies the selection there",
  codes "the next click copies the selection there; Escape calls it off",
) ∷ (
  codes "the next click gives the selection the look",
  codes "the next click gives the selection the look there",
  codes "the next click gives the selection the look there; Escape calls it off",
) ∷ (
  codes "the next click calls the word there",
  codes "the next click calls the word there; Escape calls it off",
  codes "the next click calls the word there; Escape calls it off",
) ∷ (
  codes "the next click: middle and left",
  codes "the next click: middle and left; Escape calls it off",
  codes "the next click: middle and left; Escape calls it off",
) ∷ (
  codes "the next click: middle and right",
  codes "the next click: middle and right; Escape calls it off",
  codes "the next click: middle and right; Escape calls it off",
) ∷ (
  codes "drag over what is to be selected",
  codes "drag over what is to be selected; Escape calls it off",
  codes "drag over what is to be selected; Escape calls it off",
) ∷ (
  codes "drag over what is to be deleted",
  codes "drag over what is to be deleted; Escape calls it off",
  codes "drag over what is to be deleted; Escape calls it off",
) ∷ (
  codes "drag over what is to be copied to the caret",
  codes "drag over what is to be copied to the caret",
  codes "drag over what is to be copied to the caret; Escape calls it off",
) ∷ []

-- a saying, and what the next click is
abbrev said : ℕ → Saying → List ℕ
said w saying = line_of w [] [] None File 0 [] None saying

abbrev in_widths : List Saying → List (List ℕ × List ℕ × List ℕ)
in_widths sayings = map (λ saying. (said 46 saying, said 60 saying, said 80 saying)) sayings

abbrev armed : ℕ → Click → List ℕ
armed w click = line_of w [] [] None File 0 [] (Some click) ForKeys

pub first_fit : in_widths first ≡ first_lines
unfolding line_of words part_ends word_ends last_cut kept_by_parts kept_by_words parts_within
first_fit = refl

pub second_fit : in_widths second ≡ second_lines
unfolding line_of words part_ends word_ends last_cut kept_by_parts kept_by_words parts_within
second_fit = refl

pub third_fit : in_widths third ≡ third_lines
unfolding line_of words part_ends word_ends last_cut kept_by_parts kept_by_words parts_within
third_fit = refl

pub fourth_fit : in_widths fourth ≡ fourth_lines
unfolding line_of words part_ends word_ends last_cut kept_by_parts kept_by_words parts_within
fourth_fit = refl

pub fifth_fit : in_widths fifth ≡ fifth_lines
unfolding line_of words part_ends word_ends last_cut kept_by_parts kept_by_words parts_within
fifth_fit = refl

pub sixth_fit : in_widths sixth ≡ sixth_lines
unfolding line_of words part_ends word_ends last_cut kept_by_parts kept_by_words parts_within
sixth_fit = refl

pub seventh_fit : in_widths seventh ≡ seventh_lines
unfolding line_of words part_ends word_ends last_cut kept_by_parts kept_by_words parts_within
seventh_fit = refl

pub eighth_fit : in_widths eighth ≡ eighth_lines
unfolding digits line_of words part_ends word_ends last_cut kept_by_parts kept_by_words parts_within
eighth_fit = refl

pub clicks_fit : map (λ click. (armed 46 click, armed 60 click, armed 80 click)) clicks ≡ clicks_lines
unfolding line_of words part_ends word_ends last_cut kept_by_parts kept_by_words parts_within
clicks_fit = refl
