-- Words that are sought in a text, from the caret on.
use Rattle.std.specs.Prelude.{ℕ, ◌+◌, ◌-◌, ◌/◌, ◌^◌, Bool, true, false, min, if◌then◌else◌}
use Rattle.std.specs.Prelude.{List, length, Option, Some, None, option_map, unwrap_or}
use Rattle.viewer_tracks.specs.declared.tracks.Place.{Place}
use Rattle.desktop_definitions.specs.Effects.{found_at}
use Rattle.filled_pastes.specs.Poured.{text_columns}
use Rattle.sought_words.specs.declared.seeking.SearchStart.{SearchStart}
use Rattle.sought_words.specs.declared.seeking.Found.{Found}
use Rattle.sought_words.specs.Places.{found_before, going_on, place_line}

-- how many rows of text a viewer has that stands there
abbrev pub place_rows : Place → ℕ
place_rows place = place.top - place.bottom - 1

-- from where words are sought: from the caret of a viewer that stands there
abbrev pub search_from : Option ℕ → Option Place → Bool → SearchStart
search_from caret place before = record {
  caret = unwrap_or caret 0;
  columns = unwrap_or (option_map (λ p. text_columns p.x) place) 0;
  rows = unwrap_or (option_map place_rows place) 0;
  before = before;
}

-- a place that was found, and else one that was found round the end of the text
abbrev pub or_around : Option ℕ → Option ℕ → Option (ℕ × Bool)
or_around (Some q) other = Some (q, false)
or_around None (Some q) = Some (q, true)
or_around None None = None

-- the least place from p on, and where there is none the least of all
abbrev pub next_place : List ℕ → List ℕ → ℕ → Option (ℕ × Bool)
next_place bytes words p = or_around (found_at bytes words p) (found_at bytes words 0)

-- the greatest place before p, and where there is none the greatest of all
abbrev pub place_before : List ℕ → List ℕ → ℕ → Option (ℕ × Bool)
place_before bytes words p =
    or_around (found_before bytes words p) (found_before bytes words (length bytes))

-- From the caret on, or before it: behind words that it stands behind these are the ones before them.
abbrev pub found_from : List ℕ → List ℕ → SearchStart → Option (ℕ × Bool)
found_from bytes words start = if start.before
    then place_before bytes words (start.caret - length words)
    else next_place bytes words (going_on bytes start.columns start.caret)

abbrev pub counted_place : ℕ → ℕ
counted_place n = min n (2 ^ 32 - 1)

-- The caret goes behind the words. Where their line is brought into sight it comes into the middle of the viewer.
abbrev pub found_place : List ℕ → ℕ → ℕ → ℕ × Bool → Found
found_place bytes n rows at = let p = min (at.0 + n) (2 ^ 64 - 1) in record {
  place = counted_place p;
  top = counted_place (place_line bytes p - rows / 2);
  around = at.1;
}

abbrev pub placed : List ℕ → ℕ → ℕ → Option (ℕ × Bool) → Option Found
placed bytes n rows found = option_map (found_place bytes n rows) found

unfoldable pub sought_from : List ℕ → List ℕ → SearchStart → Option Found
sought_from bytes words start =
    placed bytes (length words) start.rows (found_from bytes words start)
