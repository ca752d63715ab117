-- Words for steps that are worked out and proved by computing: short names for the parts of a desktop, desktops that
-- differ from another one in a part, and what a step is compared with.
use Rattle.std.specs.Prelude.{ℕ, suc, ℤ, ◌==◌, not, if◌then◌else◌, Bool, true, false, List, [], ◌∷◌, ◌++◌, map, filter, replicate, codes}
use Rattle.std.specs.Prelude.{Option, Some}
use Rattle.std.specs.List.{slice_index_or, list_any}
use Rattle.std.specs.Map.{set_value}
use Rattle.std.specs.Ordering.{nat_cmp}
use Rattle.std.specs.BTreeMap.{is_at}
use Rattle.piece_ring.specs.declared.piece.Look.{Look}
use Rattle.piece_ring.specs.Look.{default_look}
use Rattle.piece_ring.specs.Text.{Text}
use Rattle.viewer_tracks.specs.declared.display.Track.{Track}
use Rattle.viewer_tracks.specs.Viewers.{Entry}
use Rattle.viewer_tracks.specs.Columns.{Columns}
use Rattle.screen_pictures.specs.declared.cell.Cell.{Cell}
use Rattle.screen_pictures.specs.declared.cell.Mark.{Mark}
use Rattle.screen_pictures.specs.declared.cell.Mark.TheVariants.{Marker, Caret as AtCaret, Selected, Menu, Bar}
use Rattle.screen_pictures.specs.declared.cell.Mark.TheVariants.{Text as InText, Filler}
use Rattle.event_bytes.specs.declared.event.Event.{Event}
use Rattle.event_bytes.specs.declared.event.Event.TheVariants.{Point}
use Rattle.event_bytes.specs.declared.keys.Keys.{Keys}
use Rattle.desktop_definitions.specs.declared.entry.Entry.{Entry as Listed}
use Rattle.desktop_definitions.specs.declared.reply.Reply.{Reply}
use Rattle.desktop_definitions.specs.declared.reply.Reply.TheVariants.{Done, No}
use Rattle.desktop_definitions.specs.declared.viewer.Viewer.{Viewer}
use Rattle.desktop_definitions.specs.declared.viewer.Caret.{Caret}
use Rattle.desktop_definitions.specs.declared.viewer.Selection.{Selection}
use Rattle.desktop_definitions.specs.declared.viewer.ClosedViewer.{ClosedViewer}
use Rattle.desktop_definitions.specs.Tables.{Texts}
use Rattle.desktop_definitions.specs.Desktop.{Desktop, empty_desktop}
use Rattle.desktop_definitions.specs.Change.{plain_text}
use Rattle.desktop_definitions.specs.Opening.{menu_line}
use Rattle.desktop_definitions.specs.Listing.{entries_of}
use Rattle.desktop_definitions.specs.Limits.{no_command}
use Rattle.desktop_definitions.specs.Step.{step, step_in, Outcome, outcome_of}
use Rattle.desktop_definitions.specs.Shown.{shown_screen}
use Prim.Native.String.{String}

-- ---- parts of a desktop

abbrev pub look : ℕ → ℕ → ℤ → Look
look font colour voff = record { font = font; colour = colour; voff = voff }

-- characters in the default look
abbrev pub chars : String → Text ℕ
chars written = plain_text (codes written)

abbrev pub entry : ℕ → ℕ → Entry
entry viewer height = record { viewer = viewer; height = height }

abbrev pub columns : List Entry → List Entry → Columns
columns user system = record { user = user ∷ []; system = system ∷ [] }

abbrev pub viewer : ℕ → ℕ → ℕ → Viewer
viewer menu main org = record { menu = menu; main = main; org = org }

abbrev pub caret : ℕ → ℕ → Option Caret
caret viewer position = Some (record { viewer = viewer; position = position })

abbrev pub selection : ℕ → ℕ → ℕ → Selection
selection viewer beg end = record { viewer = viewer; beg = beg; end = end }

abbrev pub closed : ℕ → Track → ℕ → Option ClosedViewer
closed viewer track top = Some (record { viewer = viewer; track = track; top = top })

-- ---- a desktop with something else in it

abbrev pub empty : Desktop
empty = empty_desktop

-- the texts of a desktop with another one of a number
abbrev pub texts_with : Desktop → ℕ → Text ℕ → Texts (Text ℕ)
texts_with d n text = set_value (is_at (nat_cmp n)) d.texts text

-- another text of a number, the caret in it, and the selections that are left
abbrev pub edited : Desktop → ℕ → Text ℕ → Option Caret → List Selection → Desktop
edited d n text caret selections = record d { texts = texts_with d n text; caret = caret; selections = selections }

-- a viewer shows its text from there on
abbrev pub scrolled : Desktop → ℕ → ℕ → Desktop
scrolled d v org = record d {
  viewers = map (λ e. (e.0, record e.1 { org = if e.0 == v then org else e.1.org })) d.viewers;
}

-- a viewer more, on a text; the line of its menu has the number n
abbrev pub with_viewer : Desktop → ℕ → ℕ → List ℕ → ℕ → Desktop
with_viewer d v n name main = record d {
  texts = d.texts ++ (n, plain_text (menu_line name)) ∷ [];
  viewers = d.viewers ++ (v, viewer n main 0) ∷ [];
}

-- a document more, of the number n, and a viewer of it
abbrev pub with_document : Desktop → ℕ → ℕ → List ℕ → Text ℕ → Desktop
with_document d v n name text = with_viewer (record d { texts = d.texts ++ (n, text) ∷ [] }) v (suc n) name n

-- the texts of these numbers and the viewers of these ids are gone
abbrev pub without : Desktop → List ℕ → List ℕ → Desktop
without d texts viewers = record d {
  texts = filter (λ e. not (list_any (λ n. e.0 == n) texts)) d.texts;
  viewers = filter (λ e. not (list_any (λ v. e.0 == v) viewers)) d.viewers;
}

-- ---- steps

-- a desktop, an event, and the desktop and the reply after it
pub record Case : Type 0 where
  pub before : Desktop
  pub event : Event
  pub after : Desktop
  pub reply : Reply

-- the event is done, it is refused with that code, and it is done and changes nothing
abbrev pub done : Desktop → Event → Desktop → Case
done d event new = record { before = d; event = event; after = new; reply = Done }

abbrev pub refused : Desktop → Event → ℕ → Case
refused d event code = record { before = d; event = event; after = d; reply = No code }

abbrev pub unchanged : Desktop → Event → Case
unchanged d event = done d event d

-- a gesture at one cell
abbrev pub click : Keys → ℕ → ℕ → Event
click keys x y = Point keys x y x y

-- a gesture with each of these keys changes nothing
abbrev pub idle : Desktop → (Keys → Event) → List Keys → List Case
idle d gesture many = map (λ keys. unchanged d (gesture keys)) many

-- clicks in column x, where the bar of a viewer stands: the keys, the row, and from where on the viewer shows its text
-- then
abbrev pub clicks_in_bar : Desktop → ℕ → ℕ → List (Keys × ℕ × ℕ) → List Case
clicks_in_bar d v x rows = map (λ r. done d (click r.0 x r.1) (scrolled d v r.2)) rows

-- clicks that set the caret: the column, the row, the viewer, and the position
abbrev pub clicks_for_caret : Desktop → Keys → List (ℕ × ℕ × ℕ × ℕ) → List Case
clicks_for_caret d keys rows = map (λ r. done d (click keys r.0 r.1) (record d { caret = caret r.2 r.3 })) rows

-- what the event does and what is wanted
abbrev pub replied : Case → Outcome
replied c = step c.before c.event

abbrev pub wanted : Case → Outcome
wanted c = outcome_of c.after c.reply

-- the same in a version of the table of commands, and what is wanted in one that has no such word
abbrev pub replied_in : ℕ → Case → Outcome
replied_in version c = step_in version c.before c.event

abbrev pub not_called : Case → Outcome
not_called c = outcome_of c.before (No no_command)

-- ---- the list

-- a desktop, and the list of it that is wanted
abbrev pub Listing : Type 0
Listing = Desktop × List Listed

abbrev pub listed : Listing → List Listed
listed l = entries_of l.0

abbrev pub list_wanted : Listing → List Listed
list_wanted l = l.1

-- ---- the screen

abbrev pub cells : Look → Mark → List ℕ → List Cell
cells look mark bytes = map (λ b. record { ch = b; look = look; mark = mark; goes_on = false }) bytes

-- cells of the default look by what they belong to, and so many that show nothing
abbrev pub filler : ℕ → List Cell
filler n = cells default_look Filler (replicate n 32)

abbrev pub bar : List Cell
bar = cells default_look Bar (codes "|")

abbrev pub menu : String → List Cell
menu shown = cells default_look Menu (codes shown)

abbrev pub hyphens : ℕ → List Cell
hyphens n = cells default_look Menu (replicate n 45)

abbrev pub body : String → List Cell
body shown = cells default_look InText (codes shown)

-- cells beyond which the line goes on
abbrev pub at_edge : List Cell → List Cell
at_edge row = map {A = Cell} (λ c. record c { goes_on = true }) row

abbrev pub blanks : ℕ → List Cell
blanks n = cells default_look InText (replicate n 32)

abbrev pub selected : String → List Cell
selected shown = cells default_look Selected (codes shown)

abbrev pub at_caret : String → List Cell
at_caret shown = cells default_look AtCaret (codes shown)

abbrev pub at_marker : String → List Cell
at_marker shown = cells default_look Marker (codes shown)

-- a desktop, and what is wanted in the row of a number
abbrev pub Row : Type 0
Row = Desktop × ℕ × List Cell

abbrev pub rows_of : Desktop → List (ℕ × List Cell) → List Row
rows_of d rows = map (λ row. (d, row.0, row.1)) rows

abbrev pub shown : Row → List Cell
shown row = slice_index_or (shown_screen row.0) row.1 []

abbrev pub row_wanted : Row → List Cell
row_wanted row = row.2
