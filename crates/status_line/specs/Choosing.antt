-- Which saying is due, by what came about. `rest` is what is said where there is nothing else to be said.
use Rattle.std.specs.Prelude.{ℕ, Bool, true, false, ◌==◌, nat_lt, if◌then◌else◌, Option, Some, None}
use Rattle.event_bytes.specs.declared.event.Event.{Event}
use Rattle.event_bytes.specs.declared.event.Event.TheVariants.{File, Point}
use Rattle.event_bytes.specs.declared.keys.Keys.TheVariants.{Middle}
use Rattle.desktop_definitions.specs.Limits.{no_file}
use Rattle.viewer_tracks.specs.declared.display.TheConstants.{COLUMNS}
use Rattle.status_line.specs.declared.saying.Saying.{Saying}
use Rattle.status_line.specs.declared.saying.Saying.TheVariants.{CutShort, Fills, FillsNot, NoDocument, OneSide}
use Rattle.status_line.specs.declared.saying.Saying.TheVariants.{Refused}
use Rattle.status_line.specs.declared.saying.Saying.TheVariants.{ToolFiled, TooLow, TooNarrow, Keys, Unstored}
use Rattle.status_line.specs.declared.saying.Saying.TheVariants.{FirstFailed, TwinFailed, WithoutTwin, PastBegins, NoPast}

-- of the store's two files one isn't written, or it keeps a past from now on, or none
abbrev pub tells_of_store : Saying → Bool
tells_of_store FirstFailed = true
tells_of_store TwinFailed = true
tells_of_store WithoutTwin = true
tells_of_store PastBegins = true
tells_of_store NoPast = true
tells_of_store _ = false

-- in the beginning: where a terminal has fewer columns than the display, how the other side comes into sight, unless
-- the store is told of
abbrev pub first_saying : ℕ → Saying → Saying
first_saying width greeting =
    if tells_of_store greeting then greeting
    else (if nat_lt width COLUMNS then OneSide else greeting)

-- once an event is done: of the text of all commands, that it is there again
abbrev pub done_saying : Event → Saying → Saying
done_saying (File name bytes) rest = ToolFiled
done_saying event rest = rest

-- of a refusal: where there is no document of a name, the word that was called has it
abbrev pub refused_saying : Event → ℕ → Saying
refused_saying (Point Middle x y _ _) code =
    if code == no_file then NoDocument x y else Refused code
refused_saying event code = Refused code

-- why a paste is cut short of which so many characters are typed, and how far it came
abbrev pub with_count : ℕ → Saying → Saying
with_count n (Refused code) = CutShort n code
with_count n saying = saying

abbrev pub came_to : ℕ → Saying → Saying
came_to n saying = if n == 0 then saying else with_count n saying

-- once the terminal has told its size: where that is too small, that
abbrev pub is_too_small : Saying → Bool
is_too_small TooNarrow = true
is_too_small TooLow = true
is_too_small _ = false

abbrev pub fitted_saying : Bool → Bool → Saying → Saying → Saying
fitted_saying narrow low rest saying =
    if narrow then TooNarrow else (if low then TooLow else
    (if is_too_small saying then rest else saying))

-- of lines that are filled from now on, or no longer
abbrev pub fill_saying : Bool → Saying
fill_saying fills = if fills then Fills else FillsNot

-- whether it rests: it says which keys there are, and that a text isn't stored or not
abbrev pub rests : Saying → Bool
rests Keys = true
rests (Unstored x y) = true
rests _ = false

-- what it says then: that the text isn't stored of the viewer whose menu begins at a cell, where one is meant
abbrev pub rest_saying : Option (ℕ × ℕ) → Saying
rest_saying None = Keys
rest_saying (Some cell) = Unstored cell.0 cell.1
