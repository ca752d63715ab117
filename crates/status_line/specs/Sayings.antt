-- What the line below the screen says.
use Rattle.std.specs.Prelude.{ℕ, ◌+◌, ◌-◌, ◌==◌, if◌then◌else◌, List, [], ◌∷◌, ◌++◌, Option, Some, None, codes, drop, take}
use Rattle.std.specs.Prelude.{length, slice_get}
use Rattle.desktop_definitions.specs.Limits.{no_caret, no_file}
use Rattle.std.specs.Prelude.{Bool, true, false, nat_lt, unwrap_or}
use Rattle.std.specs.Fmt.{decimal}
use Rattle.event_bytes.specs.declared.keys.Keys.{Keys as MouseKeys}
use Rattle.event_bytes.specs.declared.keys.Keys.TheVariants.{Left, LeftMiddle, LeftRight, Middle, MiddleLeft}
use Rattle.event_bytes.specs.declared.keys.Keys.TheVariants.{MiddleRight, Right, RightLeft, RightMiddle}
use Rattle.terminal_presses.specs.declared.asks.Asks.{Asks as AskedFor}
use Rattle.terminal_presses.specs.declared.asks.Asks.TheVariants as asked_for
use Rattle.host_names.specs.declared.host_name.TheConstants.{MOST_SOUGHT}
use Rattle.terminal_presses.specs.declared.action.Click.{Click}
use Rattle.terminal_presses.specs.declared.action.Click.TheVariants.{Mark, Keys}
use Rattle.status_line.specs.declared.saying.Saying.{Saying}
use Rattle.status_line.specs.declared.saying.Saying.TheVariants.{Greeting, Unproved, InMemory, Keys as ForKeys}
use Rattle.status_line.specs.declared.saying.Saying.TheVariants.{Pointing, Asks, NoKey, NoCaret, NoText, NoScroll}
use Rattle.status_line.specs.declared.saying.Saying.TheVariants.{NothingAfter, NoWord, NoCommand, NoSearch}
use Rattle.status_line.specs.declared.saying.Saying.TheVariants.{NoLine, PartHidden, Unstored}
use Rattle.status_line.specs.declared.saying.Saying.TheVariants.{NothingTyped, Fills, FillsNot, ToolFiled, Refused}
use Rattle.status_line.specs.declared.saying.Saying.TheVariants.{CutShort, OneSide, NoDocument}
use Rattle.status_line.specs.declared.saying.Saying.TheVariants.{Worn, Unread, Marked, Unfinished, TooNarrow, TooLow}
use Rattle.status_line.specs.declared.saying.Saying.TheVariants.{TookBack, DidAgain}
use Rattle.status_line.specs.declared.saying.Saying.TheVariants.{NothingBack, NoFurtherBack, NothingAgain, NotBack, Logged}
use Rattle.status_line.specs.declared.saying.Saying.TheVariants.{FirstFailed, TwinFailed, WithoutTwin, PastBegins, NoPast, NotClipped}
use Rattle.status_line.specs.declared.saying.Saying.TheVariants.{WentRound, NotThere, NoWords, BeyondEdge, IsFilled}
use Rattle.status_line.specs.declared.question.Question.{Question}
use Rattle.status_line.specs.declared.question.Question.TheVariants.{Leaving, Forgetting, Closing, Taking, Rivalled}
use Rattle.status_line.specs.declared.question.Question.TheVariants.{Deleting, Misnamed, Reopening}
use Rattle.status_line.specs.declared.deed.Deed.{Deed}
use Rattle.status_line.specs.declared.deed.Deed.TheVariants as deed
use Rattle.screen_pictures.specs.declared.cell.Cell.{Cell}
use Rattle.screen_reading.specs.Called.{called_word, parameter_word, word_from}
use Rattle.screen_reading.specs.Frames.{track_end}
use Rattle.status_line.specs.Deeds.{deed_words}
use Rattle.status_line.specs.Fitting.{or_shorter, parts_within, words_within}
use Rattle.status_line.specs.Named.{behind_call, deleting_words, misnamed_shortly, misnamed_words}
use Rattle.host_files.specs.declared.HostFault.{HostFault}
use Rattle.host_files.specs.declared.HostFault.TheVariants.{Missing, Folder, NoRight, Special, TooLong, NoHome, NoMemory}

-- why an event is refused, by the code of the refusal from 0 on
abbrev pub reasons : List (List ℕ)
reasons =
    codes "refused" ∷
    codes "No caret is set: click into a text, or F11 without a mouse." ∷
    codes "Nothing is selected: drag over a text with the right button, or with F3." ∷
    codes "A name or number is missing behind that word." ∷
    codes "That word isn't a command: System.Tool shows all of them." ∷
    codes "There is no document of that name, or it is named twice." ∷
    codes "There is no room: close or delete something, or call System.Collect." ∷
    codes "No viewer has the marker, or none was closed: F1 and a click set the marker." ∷
    codes "There are 256 documents already: System.DeleteFiles makes room." ∷
    codes "That lies outside the desktop." ∷
    codes "Not found from the caret on: Ctrl-F again goes to the beginning of the text." ∷
    codes "Fonts are 0 to 4, colours 0 to 15, and offsets -64 to 63." ∷
    codes "Eight viewers lie over one another there: close one first." ∷
    codes "A viewer of one row can't be parted." ∷ []

abbrev pub reason : ℕ → List ℕ
reason code = unwrap_or (slice_get reasons code) (codes "refused")

-- There is no document of a name, or it is named twice: the name, or the first of several, is that behind the word that
-- was called, as far as it is seen.
unfoldable pub no_document : List ℕ → List ℕ
no_document [] = reason no_file
no_document (b ∷ name) =
    codes "From " ++ b ∷ name ++ codes " on: no such document, or named twice"

-- the same in short
abbrev pub short_reason : ℕ → List ℕ
short_reason code =
    if code == 1 then codes "no caret" else
    (if code == 6 then codes "no room" else codes "it was refused")

-- how far a paste or a host file came that was cut short, and why
abbrev pub cut_short : ℕ → ℕ → List ℕ
cut_short typed code =
    decimal typed ++ codes " characters typed, the rest dropped: " ++ short_reason code

-- why the text of a host file isn't typed
abbrev pub unread_words : HostFault → List ℕ
unread_words Missing = codes "There is no such file: nothing was typed."
unread_words Folder = codes "That is a folder, and no file: nothing was typed."
unread_words NoRight = codes "There is no right to read it: nothing was typed."
unread_words Special = codes "That is a pipe or a device: nothing was typed."
unread_words TooLong = codes "It has more than 262,144 bytes: nothing was typed."
unread_words NoHome = codes "HOME isn't set, so ~ is no folder: nothing was typed."
unread_words NoMemory = codes "There is no memory for it: nothing was typed."
unread_words _ = codes "It can't be read: nothing was typed."

-- how many characters became question marks
abbrev pub marked_words : ℕ → List ℕ
marked_words count = decimal count
    ++ (if count == 1 then codes " character became ?" else codes " characters became ?")

-- with which keys the next click is
abbrev pub keys_words : MouseKeys → List ℕ
keys_words Left = codes "the next click sets the caret; Escape calls it off"
keys_words LeftMiddle = codes "the next click copies the selection there; Escape calls it off"
keys_words LeftRight =
    codes "the next click gives the selection the look there; Escape calls it off"
keys_words Middle = codes "the next click calls the word there; Escape calls it off"
keys_words MiddleLeft = codes "the next click: middle and left; Escape calls it off"
keys_words MiddleRight = codes "the next click: middle and right; Escape calls it off"
keys_words Right = codes "drag over what is to be selected; Escape calls it off"
keys_words RightLeft = codes "drag over what is to be deleted; Escape calls it off"
keys_words RightMiddle = codes "drag over what is to be copied to the caret; Escape calls it off"

-- what the next click is, where a function key has said so
abbrev pub click_words : Click → List ℕ
click_words Mark = codes "the next click sets the marker in the viewer there; Escape calls it off"
click_words (Keys keys) = keys_words keys

-- it is said how many characters were typed, and how many documents came
abbrev pub count_told : Deed → List ℕ
count_told (deed.Typed count) = codes "typed " ++ decimal count
count_told (deed.Import count) = codes "imported " ++ decimal count
count_told _ = []

-- what was taken back, or done again
unfoldable pub told : List ℕ → Deed → List ℕ
told before what = before ++ count_told what ++ deed_words what

-- of a command its word, where that is seen
unfoldable pub called : List ℕ → Deed → List ℕ
called [] what = told (codes "undid: ") what
called (b ∷ word) what = codes "undid: " ++ b ∷ word

-- whether the word at a cell goes up to the edge of its track, and may go on beyond it
abbrev pub is_cut : List (List Cell) → ℕ → ℕ → Bool
is_cut screen x y = x + length (word_from screen x y) == track_end x

-- there two periods stand for what isn't seen
abbrev pub word_told : List (List Cell) → ℕ → ℕ → List ℕ
word_told screen x y =
    if is_cut screen x y then called_word screen x y ++ codes ".." else called_word screen x y

-- what was taken back: the screen is as it was before, and so shows the word that was called
unfoldable pub told_back : List (List Cell) → Deed → List ℕ
told_back screen (deed.Call x y) = called (word_told screen x y) (deed.Call x y)
told_back screen what = told (codes "undid: ") what

-- that a text isn't stored, by the name in its menu, where one is seen
unfoldable pub closing_words : List ℕ → List ℕ
closing_words [] = codes "This text isn't stored: press again to close it"
closing_words (b ∷ name) = b ∷ name ++ codes " isn't stored: press again to close it"

-- that a viewer goes, by the name in its menu
unfoldable pub taking_words : List ℕ → List ℕ
taking_words [] = codes "This closes another viewer: press again"
taking_words (b ∷ name) =
    codes "This closes the viewer of " ++ b ∷ name ++ codes ": press again"

-- that another viewer shows another text as the document of a name, to which this text is to go
unfoldable pub rivalled_words : List ℕ → List ℕ
rivalled_words [] = codes "This name is in two viewers: press again to store this"
rivalled_words (b ∷ name) = b ∷ name ++ codes " is in two viewers: press again to store this"

-- that a document is opened once more, by the name in the menu of the viewer that is open
unfoldable pub reopening_words : List ℕ → List ℕ
reopening_words [] = codes "It is open, not stored: press again to open it anew"
reopening_words (b ∷ name) = b ∷ name ++ codes " is open, not stored: press again to open it anew"

-- that a text isn't stored, by the name in its menu, and the keys, as far as there is room
unfoldable pub unstored_words : List ℕ → List ℕ
unstored_words [] =
    codes "This text isn't stored: Ctrl-S stores, Ctrl-Q leaves, F2 calls, F11 no mouse"
unstored_words (b ∷ name) = b ∷ name ++ parts_within (80 - length (b ∷ name))
    (codes " isn't stored: Ctrl-S stores, Ctrl-Q leaves, F2 calls, F11 no mouse")

-- what is asked, where this is the screen
abbrev pub question_words : List (List Cell) → Question → List ℕ
question_words screen Leaving =
    codes "This desktop is in memory: press Ctrl-Q again, and it is gone."
question_words screen Forgetting =
    codes "Leaving loses what you took back: Ctrl-Q leaves, Ctrl-Y does it again."
question_words screen (Closing x y) = closing_words (word_from screen x y)
question_words screen (Taking x y) = taking_words (word_from screen x y)
question_words screen (Rivalled x y) = rivalled_words (word_from screen x y)
question_words screen (Deleting x y) = deleting_words (behind_call screen x y)
question_words screen (Misnamed x y) = misnamed_words (behind_call screen x y)
question_words screen (Reopening x y) = reopening_words (word_from screen x y)

-- the same in few words, and in so many columns
abbrev pub short_question : ℕ → List (List Cell) → Question → List ℕ
short_question w screen Leaving = parts_within w (question_words screen Leaving)
short_question w screen Forgetting = parts_within w (question_words screen Forgetting)
short_question w screen (Closing x y) =
    parts_within w (codes "It isn't stored: press again to close it")
short_question w screen (Taking x y) =
    parts_within w (codes "This closes another viewer: press again")
short_question w screen (Rivalled x y) =
    parts_within w (codes "It is in two viewers: press again to store")
short_question w screen (Deleting x y) =
    words_within w (deleting_words (behind_call screen x y))
short_question w screen (Misnamed x y) = parts_within w (misnamed_shortly (behind_call screen x y))
short_question w screen (Reopening x y) =
    parts_within w (codes "It is open, not stored: press again")

-- what is asked in so many columns: where there is no room for a name that stands first it is left out
abbrev pub question_within : ℕ → List (List Cell) → Question → List ℕ
question_within w screen question =
    or_shorter w (question_words screen question) (short_question w screen question)

-- where this is the screen, and this the line of the log that is said
unfoldable pub words : List (List Cell) → List ℕ → Saying → List ℕ
words screen log Greeting =
    codes "Help: F2, then click Edit.Open Help. F11 no mouse, Ctrl-S stores, Ctrl-Q leaves"
words screen log Unproved =
    codes "Not proved yet. Help: F2, click Edit.Open Help. F11 no mouse, Ctrl-S stores"
words screen log OneSide =
    codes "Alt-Left/Right: the other side. F11 no mouse, Ctrl-Q leaves, Ctrl-S stores"
words screen log InMemory = codes "This desktop is gone when you leave (Ctrl-Q): it is in memory."
words screen log ForKeys =
    codes "Ctrl-Q leaves, F2 calls, F11 no mouse, F3 selects, Ctrl-S stores, Ctrl-Z undo"
words screen log (Unstored x y) = unstored_words (word_from screen x y)
words screen log Pointing =
    codes "Arrows move the pointer, Return clicks, F2 calls, F3 selects, Escape ends it"
words screen log (Asks question) = question_words screen question
words screen log NoKey = codes "That key means nothing here."
words screen log NoCaret = reason no_caret
words screen log NoText = codes "There is no text on that side of the caret."
words screen log NothingAfter = codes "No character after the caret is in sight."
words screen log NoLine = codes "There is no line to cut."
words screen log PartHidden =
    codes "An end of it is out of sight: make the viewer taller, or take less of the text."
words screen log NoScroll =
    codes "Nothing moves there: no viewer, no caret, or too few rows of a text."
words screen log NoWord =
    codes "No such word is in sight: System.Tool shows the commands."
words screen log NoCommand =
    codes "No command's whole word is in sight: System.Tool shows the commands."
words screen log NoSearch =
    codes "Press Ctrl-F first: Ctrl-R puts what you typed after the last Ctrl-F"
words screen log NothingTyped = codes "Nothing was typed after the last Ctrl-F"
words screen log Fills = codes "Lines are broken while you type: at the last blank before the edge."
words screen log FillsNot = codes "Lines aren't broken while you type, and may pass the edge."
words screen log ToolFiled =
    codes "System.Tool was gone, and is a document again: the same click opens it."
words screen log (Refused code) = reason code
words screen log (NoDocument x y) = no_document (parameter_word screen x y)
words screen log (CutShort typed code) = cut_short typed code
words screen log Worn = codes "This store is used up: take its documents out by desk export."
words screen log (Unread why) = unread_words why
words screen log (Marked count) = marked_words count
words screen log Unfinished =
    codes "The host's file can't be read to its end; what came of it is typed."
words screen log TooNarrow = codes "This window is too narrow: it has fewer than 45 columns."
words screen log TooLow = codes "This window is too low: it has fewer than 12 rows."
words screen log (TookBack what) = told_back screen what
words screen log (DidAgain what) = told (codes "did again: ") what
words screen log NothingBack = codes "There is nothing to take back."
words screen log NoFurtherBack = codes "Undo reaches no further back."
words screen log NothingAgain = codes "There is nothing to do again."
words screen log Logged = log
words screen log NotBack = codes "What was before can't be read, and nothing was taken back."
words screen log FirstFailed =
    codes "The first file failed, the twin has all: mend it, then start again with both."
words screen log TwinFailed =
    codes "The twin failed, the first file has all: mend it, then start again with both."
words screen log WithoutTwin =
    codes "This store has a twin, which gets nothing now: start with --twin to pair them."
words screen log PastBegins =
    codes "All you do is kept from now on: Ctrl-P shows it, desk forget deletes it."
words screen log NoPast =
    codes "No past is kept in this sitting: it can't be written (is the disk full?)."
words screen log NotClipped =
    codes "Too long for the terminal's clipboard: copied here, and it takes 74,994 bytes."
words screen log WentRound =
    codes "Found round the end of the text: none was on that side."
words screen log NotThere = codes "These words aren't in this text."
words screen log NoWords = codes "Nothing was sought yet: type the words first."
words screen log BeyondEdge =
    codes "Found right of the edge, out of sight: the caret is in that line's last column."
words screen log IsFilled = codes "This paragraph is filled already."

-- ---- what is asked for

-- that, and what is typed, of which the end is seen
abbrev pub typed_so_far : ℕ → List ℕ → List ℕ → List ℕ
typed_so_far w asked name = asked ++ drop (length name - (w - length asked)) name

-- that words are asked for, and how many there may be, if there is no room for more
abbrev pub sought_words : Bool → Bool → List ℕ
sought_words before false = codes "31 at most: "
sought_words before true = if before then codes "Search back? " else codes "Search for? "

-- what Return seeks where none are typed: those that were sought last
abbrev pub words_again : List ℕ → List ℕ
words_again [] = codes "the last words again"
words_again (b ∷ sought) = b ∷ sought

-- the key that seeks in the other direction
abbrev pub other_way : Bool → List ℕ
other_way before =
    if before then codes ". Ctrl-F: onward)" else codes ". Ctrl-B: backward)"

-- what Return does where no words are typed, and the key for the other way; and in few words
abbrev pub search_asked : Bool → List ℕ → List ℕ
search_asked before sought = sought_words before true ++ codes "(Return: "
    ++ words_again (take MOST_SOUGHT sought) ++ other_way before

abbrev pub search_shortly : Bool → List ℕ
search_shortly before = sought_words before true ++ codes "(Return: again)"

unfoldable pub search_line : ℕ → Bool → List ℕ → List ℕ → List ℕ
search_line w before sought [] =
    or_shorter w (search_asked before sought) (parts_within w (search_shortly before))
search_line w before sought (b ∷ words) =
    typed_so_far w (sought_words before (nat_lt (length (b ∷ words)) MOST_SOUGHT)) (b ∷ words)

-- how many names of host files begin so, if there are several
abbrev pub names_told : ℕ → List ℕ
names_told names =
    if nat_lt 1 names then codes "  (" ++ decimal names ++ codes " names)" else []

-- the name of a host file, and behind it how many begin so, where there is room for that
abbrev pub file_question : ℕ → List ℕ → List ℕ → List ℕ
file_question w told name = if nat_lt w (17 + length told)
    then typed_so_far w (codes "Type which file? ") name
    else typed_so_far (w - length told) (codes "Type which file? ") name ++ told

-- the name of a host file, the number of a line, or words that are sought, as far as they are typed, behind words that were
-- sought last
abbrev pub question : ℕ → AskedFor → ℕ → List ℕ → List ℕ → List ℕ
question w asked_for.File names sought name = file_question w (names_told names) name
question w asked_for.Line names sought name = typed_so_far w (codes "Line? ") name
question w asked_for.Words names sought name = search_line w false sought name
question w asked_for.WordsBefore names sought name = search_line w true sought name

-- what is said while a pointer is shown that keys move: how to use it, where nothing else is to be said
unfoldable pub said_by_pointer : Bool → Saying → Saying
said_by_pointer false saying = saying
said_by_pointer true Greeting = Pointing
said_by_pointer true Unproved = Pointing
said_by_pointer true OneSide = Pointing
said_by_pointer true InMemory = Pointing
said_by_pointer true ForKeys = Pointing
said_by_pointer true (Unstored x y) = Pointing
said_by_pointer true saying = saying

-- the line between two presses: a name that is asked for, or else what the next click does, or what is said
abbrev pub line_by_hand : ℕ → List (List Cell) → List ℕ → Option (List ℕ) → AskedFor → ℕ → List ℕ
    → Option Click → Saying → List ℕ
line_by_hand w screen log (Some name) asks names sought armed saying =
    question w asks names sought name
line_by_hand w screen log None asks names sought (Some click) saying =
    parts_within w (click_words click)
line_by_hand w screen log None asks names sought None saying =
    parts_within w (words screen log saying)

-- the line below a screen in a window of so many columns: a question goes before all else
unfoldable pub line_of : ℕ → List (List Cell) → List ℕ → Option (List ℕ) → AskedFor → ℕ → List ℕ
    → Option Click → Saying → List ℕ
line_of w screen log asked asks names sought armed (Asks question) =
    question_within w screen question
line_of w screen log asked asks names sought armed saying =
    line_by_hand w screen log asked asks names sought armed saying

abbrev pub is_in_memory : Saying → Bool
is_in_memory InMemory = true
is_in_memory _ = false

-- what the line below says where nothing else is to be said: of a desktop in memory, that it is in memory, and else the
-- keys
abbrev pub resting_of : Saying → Saying
resting_of greeting = if is_in_memory greeting then InMemory else ForKeys
