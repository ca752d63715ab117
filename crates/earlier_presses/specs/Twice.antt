-- What a press is by the one before it: a second click at a cell, and a search behind one that found nothing.
use Rattle.std.specs.Prelude.{ℕ, Bool, true, false, ◌==◌, ◌&&◌, ◌||◌, if◌then◌else◌, List, [], ◌∷◌, Option, Some, None, is_some}
use Rattle.event_bytes.specs.declared.event.Event.{Event}
use Rattle.event_bytes.specs.declared.event.Event.TheVariants.{Point}
use Rattle.event_bytes.specs.declared.keys.Keys.TheVariants.{Left}
use Rattle.terminal_presses.specs.declared.action.Action.{Action}
use Rattle.terminal_presses.specs.declared.action.Action.TheVariants as action
use Rattle.terminal_presses.specs.declared.press.Scroll.TheVariants.{First}

-- what is done to the terminal alone: it tells its size, or is painted anew
abbrev pub is_of_terminal : Action → Bool
is_of_terminal (action.Fit rows columns) = true
is_of_terminal action.LookAnew = true
is_of_terminal _ = false

abbrev pub is_nothing : Action → Bool
is_nothing action.Nothing = true
is_nothing _ = false

-- what comes to nothing yet, and what is done to the terminal alone, is no press between two others
abbrev pub is_no_deed : Action → Bool
is_no_deed a = is_nothing a || is_of_terminal a

-- the cell of a left click, which goes down and up there
abbrev pub cell_pointed : Event → Option (ℕ × ℕ)
cell_pointed (Point Left x0 y0 x1 y1) = if (x0 == x1) && (y0 == y1) then Some (x0, y0) else None
cell_pointed _ = None

abbrev pub cell_clicked : Action → Option (ℕ × ℕ)
cell_clicked (action.Post event) = cell_pointed event
cell_clicked _ = None

-- the cell of a click that is the second one there
abbrev pub is_same_cell : ℕ × ℕ → ℕ × ℕ → Bool
is_same_cell one other = (one.0 == other.0) && (one.1 == other.1)

abbrev pub cell_again : Option (ℕ × ℕ) → Option (ℕ × ℕ) → Option (ℕ × ℕ)
cell_again None before = None
cell_again (Some cell) None = None
cell_again (Some cell) (Some before) = if is_same_cell cell before then Some cell else None

-- the cell to be kept of a press, at which the next click is the second one; a third one is a first one again
abbrev pub cell_noted : Action → Option (ℕ × ℕ) → Option (ℕ × ℕ)
cell_noted a before = if is_some (cell_again (cell_clicked a) before) then None else cell_clicked a

abbrev pub cell_kept : Action → Option (ℕ × ℕ) → Option (ℕ × ℕ)
cell_kept a before = if is_no_deed a then before else cell_noted a before

-- words, and where there are none those that were sought last
abbrev pub or_sought : List ℕ → List ℕ → List ℕ
or_sought [] sought = sought
or_sought (b ∷ words) sought = b ∷ words

-- the search behind it goes to the beginning of the text, and one behind a replacement goes on
abbrev pub search_meant : Bool → Bool → List ℕ → Action
search_meant true goes_on sought = action.Scroll None First
search_meant false true sought = action.Find sought false
search_meant false false sought = action.Search

-- where no words are typed those are sought that were sought last
abbrev pub action_meant : Bool → Bool → List ℕ → Action → Action
action_meant missed goes_on sought action.Search = search_meant missed goes_on sought
action_meant missed goes_on sought (action.Find words before) =
    action.Find (or_sought words sought) before
action_meant missed goes_on sought a = a

-- the words that a press seeks are those that were sought last
abbrev pub words_remembered : Action → List ℕ → List ℕ
words_remembered (action.Find words before) sought = words
words_remembered _ sought = sought
