-- What the clipboard of the terminal is given of what is copied.
use Rattle.std.specs.Prelude.{ℕ, Bool, true, false, ◌&&◌, nat_lt, if◌then◌else◌, List, length, map, Option, None}
use Rattle.event_bytes.specs.declared.event.Event.{Event}
use Rattle.event_bytes.specs.declared.event.Event.TheVariants.{Key}
use Rattle.event_bytes.specs.declared.keys.Key.TheVariants.{Copy, Cut}
use Rattle.desktop_definitions.specs.Desktop.{Desktop}
use Rattle.store_documents.specs.HostText.{exported}
use Rattle.status_line.specs.declared.saying.Saying.{Saying}
use Rattle.status_line.specs.declared.saying.Saying.TheVariants.{Asks, NotClipped}
use Rattle.terminal_clipboards.specs.Clips.{text_given}
use Rattle.terminal_clipboards.specs.declared.clips.TheConstants.{MOST_CLIPPED}
use Rattle.desk_sitting.specs.declared.sitting.Sitting.{Sitting}

-- whether an event copies what is selected
abbrev pub is_copying : Event → Bool
is_copying (Key Copy) = true
is_copying (Key Cut) = true
is_copying _ = false

-- what was copied last, as a text of the host's: its lines end with line feeds
abbrev pub copied_text : Desktop → List ℕ
copied_text d = exported (map (λ character. character.0) d.copied)

-- what the clipboard is given of it, where something was copied since the last scene
abbrev pub clip_sent : Desktop → Sitting → Option (List ℕ)
clip_sent d s = if s.copies then text_given (copied_text d) else None

-- Where it is too long, the line below says so, unless something is asked.
abbrev pub unless_asked : Saying → Saying
unless_asked (Asks question) = Asks question
unless_asked saying = NotClipped

abbrev pub clip_saying : Bool → List ℕ → Saying → Saying
clip_saying copies text saying =
    if copies && nat_lt MOST_CLIPPED (length text) then unless_asked saying else saying

abbrev pub clip_told : Desktop → Sitting → Sitting
clip_told d s = record s { saying = clip_saying s.copies (copied_text d) s.saying }
