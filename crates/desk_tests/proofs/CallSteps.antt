-- What commands do to a desktop: tables of calls and of what another model works out that they do.
use Rattle.std.specs.Prelude.{ℕ, ◌+◌, ◌-◌, pos, negsuc, List, [], ◌∷◌, ◌++◌, map, Some, None, codes}
use Rattle.piece_ring.specs.declared.piece.Look.{Look}
use Rattle.piece_ring.specs.Text.{Text}
use Rattle.viewer_tracks.specs.declared.display.Track.TheVariants.{User}
use Rattle.viewer_tracks.specs.Viewers.{Entry}
use Rattle.event_bytes.specs.declared.event.Event.TheVariants.{Point}
use Rattle.event_bytes.specs.declared.keys.Keys.TheVariants.{Middle}
use Rattle.desktop_definitions.specs.declared.reply.Reply.{Reply}
use Rattle.desktop_definitions.specs.declared.reply.Reply.TheVariants.{Done, No}
use Rattle.desktop_definitions.specs.Limits.{no_caret, no_selection, no_command, no_file, full, most_written}
use Rattle.desktop_definitions.specs.Limits.{wrong_symbol, no_viewer, bad_value, too_low}
use Rattle.desktop_definitions.specs.Desktop.{Desktop}
use Rattle.desktop_definitions.specs.Change.{in_look, plain_text}
use Rattle.desktop_definitions.specs.Opening.{menu_line}
use Rattle.desktop_definitions.specs.Step.{Outcome, outcome_of}
use Rattle.desk_tests.proofs.StepWords.{Case, done, refused, click, look, chars, entry, viewer, caret, selection, closed}
use Rattle.desk_tests.proofs.StepWords.{columns, texts_with, edited, scrolled, with_viewer, with_document, without}
use Prim.Native.String.{String}

-- ---- what a call does

-- what is made of a desktop, and the reply
abbrev pub Effect : Type 0
Effect = Desktop → Outcome

abbrev pub makes : (Desktop → Desktop) → Effect
makes change = λ d. outcome_of (change d) Done

abbrev pub says : ℕ → Effect
says code = λ d. outcome_of d (No code)

-- viewers of the user track; the tool text has the other one
abbrev pub placed : List Entry → Desktop → Desktop
placed user d = record d { columns = columns user (entry 0 32 ∷ []) }

-- a document of number n opens in viewer v, or the log under a menu line of number n
abbrev pub opens : ℕ → ℕ → List Entry → String → Text ℕ → Effect
opens n v user name text =
    makes (λ d. record (placed user (with_document d v n (codes name) text)) { written = d.written + 53 })

abbrev pub log_opens : ℕ → ℕ → (Desktop → Desktop) → Effect
log_opens n v place =
    makes (λ d. record (place (with_viewer d v n (codes "System.Log") 0)) { written = d.written + 60 })

-- the marked viewer is closed, and the one that was closed before is gone
abbrev pub closes : List Entry → ℕ → Effect
closes user top = makes (λ d. record (placed user (without d (6 ∷ []) (3 ∷ []))) {
  caret = None;
  selections = [];
  closed = closed 1 User top;
})

-- these viewers, of which one was closed; a copy of the marked one, with a menu line of number n
abbrev pub recalls : List Entry → Effect
recalls user = makes (λ d. record (placed user d) { closed = None })

abbrev pub copies : ℕ → ℕ → List Entry → Effect
copies n v user = makes (λ d. placed user (with_viewer d v n (codes "A.T") 3))

-- the log is empty; it has other characters, so many more than before, and is shown from a position on
abbrev pub clears : Effect
clears = makes (λ d. record d { texts = texts_with d 0 [] })

abbrev pub logged : String → ℕ → ℕ → Desktop → Desktop
logged log more org d =
    scrolled (record d { texts = texts_with d 0 (chars log); written = d.written + more }) 2 org

-- the log has the list of two files; the document is stored, and the log says so
abbrev pub lists : Effect
lists = makes (logged "log\rA.T 3\rB.T 7\r" 12 10)

abbrev pub low : Look
low = look 1 3 (negsuc 4)

abbrev pub with_low : Text ℕ
with_low = chars "text" ++ in_look low (codes "low")

abbrev pub stores : Effect
stores = makes (λ d. record (logged "log\rEdit.Store A.T 14\r" 18 4 d) {
  files = (codes "A.T", chars "A.T B.T \rA.T x") ∷ (codes "B.T", with_low) ∷ [];
})

-- the look of the next characters; that of the selected ones
abbrev pub looks : Look → Effect
looks next = makes (λ d. record d { look = next })

abbrev pub changes : Look → Effect
changes new = makes (λ d. record d {
  texts = texts_with d 3 (chars "A.T " ++ in_look new (codes "B.T") ++ chars " \rA.T x");
  caret = None;
})

-- ---- calls

-- a line of the tool text, and what its call does to the first desktop and to the second
abbrev pub Line : Type 0
Line = String × Effect × Effect

-- above the marked viewer, which keeps a row; with no marker at the top of the track
abbrev pub opens_above : String → Text ℕ → Effect
opens_above = opens 7 4 (entry 2 3 ∷ entry 4 3 ∷ entry 1 1 ∷ [])

abbrev pub opens_on_top : String → Text ℕ → Effect
opens_on_top = opens 6 3 (entry 2 3 ∷ entry 1 4 ∷ entry 3 25 ∷ [])

abbrev pub lines : List Line
lines =
    ("Edit.Open A.T", opens_above "A.T" (chars "old"), opens_on_top "A.T" (chars "old")) ∷
    ("Edit.Open new", opens_above "new" [], opens_on_top "new" []) ∷
    ("Edit.Open ^", opens_above "B.T" with_low, says no_selection) ∷
    ("Edit.Open *", opens_above "A.T" (chars "old"), says no_viewer) ∷
    ("Edit.Open 7", says wrong_symbol, says wrong_symbol) ∷
    ("System.Open ^", opens_above "B.T" with_low, says no_selection) ∷
    ("System.Open \"A.T\"", says wrong_symbol, says wrong_symbol) ∷
    ("System.Open new", says no_file, says no_file) ∷ (
      "System.OpenLog",
      log_opens 7 4 (placed (entry 2 3 ∷ entry 4 3 ∷ entry 1 1 ∷ [])),
      log_opens 6 3 (λ d. record d {
        columns = columns (entry 2 3 ∷ entry 1 4 ∷ []) (entry 3 16 ∷ entry 0 16 ∷ []);
      }),
    ) ∷
    ("System.Close", closes (entry 2 3 ∷ []) 7, says no_viewer) ∷
    ("System.Recall", recalls (entry 2 3 ∷ entry 3 3 ∷ entry 1 1 ∷ []), says no_viewer) ∷
    ("System.Copy", copies 7 4 (entry 2 3 ∷ entry 4 2 ∷ entry 1 2 ∷ []), says no_viewer) ∷
    ("System.Clear", clears, clears) ∷
    ("System.Directory", lists, lists) ∷
    ("System.DeleteFiles B.T A.T", says no_file, says no_file) ∷
    ("System.DeleteFiles A.T A.T", says no_file, says no_file) ∷
    []

abbrev pub more_lines : List Line
more_lines =
    ("System.DeleteFiles ^", says no_file, says no_selection) ∷
    ("System.DeleteFiles 1", says wrong_symbol, says wrong_symbol) ∷
    ("System.SetFont Oberon8.Scn.Fnt", looks (look 3 7 (pos 3)), looks (look 3 7 (pos 3))) ∷
    ("System.SetFont Oberon9", says bad_value, says bad_value) ∷
    ("System.SetColor 16", says bad_value, says bad_value) ∷
    ("System.SetColor 3", looks (look 2 3 (pos 3)), looks (look 2 3 (pos 3))) ∷
    ("System.SetOffset -64", looks (look 2 7 (negsuc 63)), looks (look 2 7 (negsuc 63))) ∷
    ("Edit.ChangeColor 0", changes (look 0 0 (pos 0)), says no_selection) ∷
    ("Edit.ChangeFont *", says bad_value, says no_viewer) ∷
    ("Edit.ChangeOffset 64", says bad_value, says bad_value) ∷
    ("Edit.Store", stores, says no_viewer) ∷
    ("Edit.Search", makes (λ d. record d { caret = caret 1 7; pattern = codes "B.T" }), says no_viewer) ∷ (
      "Edit.Recall",
      makes (λ d. scrolled (edited d 3 (chars "Ade\r.T B.T \rA.T x") (caret 1 4) []) 3 4),
      says no_caret,
    ) ∷
    ("xSystem.Clear (System.Clear)", says no_command, says no_command) ∷
    ("Edit.ChangeOffset 5", changes (look 0 15 (pos 5)), says no_selection) ∷
    []

-- ---- desktops

-- the lines as a text
abbrev pub joined : List Line → List ℕ
joined [] = []
joined (one ∷ []) = codes one.0
joined (one ∷ next ∷ rest) = codes one.0 ++ codes "\r" ++ joined (next ∷ rest)

-- A text of calls, a document in which stand caret, newest selection and marker, the log, and a closed viewer.
abbrev pub with_all : Desktop
with_all = record {
  texts = (0, chars "log\r") ∷ (1, plain_text (joined lines)) ∷ (2, chars "Tool") ∷ (3, chars "A.T B.T \rA.T x") ∷
      (4, plain_text (menu_line (codes "A.T"))) ∷ (5, chars "Log") ∷ (6, chars "Kept") ∷ [];
  viewers = (0, viewer 2 1 0) ∷ (1, viewer 4 3 0) ∷ (2, viewer 5 0 0) ∷ (3, viewer 6 3 8) ∷ [];
  columns = columns (entry 2 3 ∷ entry 1 4 ∷ []) (entry 0 32 ∷ []);
  caret = caret 1 1;
  selections = selection 1 4 7 ∷ [];
  marker = Some (3, 5);
  closed = closed 3 User 6;
  files = (codes "A.T", chars "old") ∷ (codes "B.T", with_low) ∷ [];
  copied = [];
  deleted = chars "de\r";
  pattern = codes "x";
  look = look 2 7 (pos 3);
  written = 200;
}

-- the same without caret, selection, marker, closed viewer, pattern and deleted characters
abbrev pub bare : Desktop
bare = record (without with_all (6 ∷ []) (3 ∷ [])) {
  caret = None;
  selections = [];
  marker = None;
  closed = None;
  deleted = [];
  pattern = [];
}

-- with other calls
abbrev pub calling : List ℕ → Desktop → Desktop
calling tool d = record d { texts = texts_with d 1 (plain_text tool) }

-- the document has one row, under the log
abbrev pub one_row : Desktop
one_row = record (placed (entry 1 1 ∷ entry 2 3 ∷ []) with_all) { marker = Some (3, 0) }

-- with twenty characters left to be written
abbrev pub nearly_full : Desktop
nearly_full = record with_all { written = most_written - 20 }

-- Lists of files. In the second one the log has four rows, and the third line is the first that doesn't fit.
abbrev pub with_lists : Desktop
with_lists = record (calling (codes "System.DeleteFiles B.T A.T ~\rSystem.Directory\rEdit.Store") with_all) {
  marker = Some (3, 1);
}

abbrev pub with_four : Desktop
with_four = record (placed (entry 2 5 ∷ entry 1 4 ∷ []) with_lists) {
  files = with_all.files ++ (codes "C.T", []) ∷ (codes "D.T", chars "d") ∷ [];
}

-- ---- steps

-- a click of the middle key in column x of a row
abbrev pub called_at : Desktop → ℕ → ℕ × Effect → Case
called_at d x row =
    record { before = d; event = click Middle x row.0; after = (row.1 d).desktop; reply = (row.1 d).reply }

-- clicks on the calls of these rows
abbrev pub called : Desktop → List (ℕ × Effect) → List Case
called d rows = map (called_at d 52) rows

-- each with its row, from this one down
abbrev pub down : ℕ → List Effect → List (ℕ × Effect)
down y [] = []
down y (effect ∷ rest) = (y, effect) ∷ down (y - 1) rest

-- each line is clicked, from row 30 down
abbrev pub calls : List Case
calls = called with_all (down 30 (map (λ l. l.1) lines)) ++
    called (calling (joined more_lines) with_all) (down 30 (map (λ l. l.1) more_lines)) ++
    map (λ (row : ℕ × Effect). called_at (calling (joined more_lines) with_all) row.0 (17, row.1))
    ((66, clears) ∷ (79, says no_command) ∷ []) ++
    called bare (down 30 (map (λ l. l.2) lines)) ++
    called (calling (joined more_lines) bare) (down 30 (map (λ l. l.2) more_lines))

-- calls for a viewer of one row
abbrev pub low_calls : List Case
low_calls = called one_row ((21, closes (entry 2 4 ∷ []) 1) ∷ (19, says too_low) ∷ [])

-- a menu is clicked, whatever stands at the marker: the column where the gesture ends
abbrev pub menu_calls : List Case
menu_calls =
    refused bare (Point Middle 3 6 1 6) no_command ∷
    done bare (Point Middle 3 6 7 6) (record (placed (entry 2 3 ∷ []) bare) { closed = closed 1 User 7 }) ∷
    done bare (Point Middle 3 6 20 6) ((copies 6 3 (entry 2 3 ∷ entry 3 2 ∷ entry 1 2 ∷ []) bare).desktop) ∷
    refused bare (Point Middle 3 6 33 6) no_selection ∷
    done bare (Point Middle 3 6 45 6) ((stores bare).desktop) ∷
    []

-- files go, are listed, and the log is stored as it was before the line that says so
abbrev pub list_calls : List Case
list_calls =
    called with_lists ((
      30,
      makes (λ d. record (logged "log\rSystem.DeleteFiles B.T\rSystem.DeleteFiles A.T\r" 46 27 d) {
        files = [];
      }),
    ) ∷ []) ++
    called with_four ((29, makes (logged "log\rA.T 3\rB.T 7\rC.T 0\rD.T 1\r" 24 10)) ∷ []) ++
    called with_lists ((
      28,
      makes (λ d. record (logged "log\rEdit.Store Log 4\r" 17 4 d) {
        files = d.files ++ (codes "Log", chars "log\r") ∷ [];
      }),
    ) ∷ [])

-- as many characters count as written as the desktop holds, of which 14 are those of the word, however many were
abbrev pub collects : Effect
collects = makes (λ d. record d { written = 109 })

abbrev pub collecting : Desktop
collecting = calling (codes "System.Collect") with_all

abbrev pub collections : List Case
collections = called collecting ((30, collects) ∷ []) ++
    called (record collecting { written = most_written }) ((30, collects) ∷ [])

-- the limit on what counts as written comes last
abbrev pub limits : List Case
limits = called nearly_full
    ((30, says full) ∷ (23, says no_file) ∷ (22, says full) ∷ (18, clears) ∷ (17, lists) ∷ (16, says no_file) ∷
    (15, says no_file) ∷ [])

abbrev pub call_steps : List Case
call_steps = calls ++ low_calls ++ menu_calls ++ list_calls ++ collections ++ limits
