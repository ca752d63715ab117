-- What an event does to the desktop, and the reply to it.
use Rattle.std.specs.Prelude.{ℕ, ◌+◌, ◌&&◌, nat_le, Bool, if◌then◌else◌, List, length, fold, Some, Result, Ok, Err}
use Rattle.piece_ring.specs.Text.{Text}
use Rattle.event_bytes.specs.declared.event.Event.{Event}
use Rattle.event_bytes.specs.declared.event.Event.TheVariants.{Typed, Key, Mark, Point, File}
use Rattle.desktop_definitions.specs.declared.reply.Reply.{Reply}
use Rattle.desktop_definitions.specs.declared.reply.Reply.TheVariants.{Done, No}
use Rattle.desktop_definitions.specs.Limits.{newest_version, most_written, most_held, full, too_many_files, outside}
use Rattle.desktop_definitions.specs.Tables.{file_put, has_file_room}
use Rattle.desktop_definitions.specs.Desktop.{Desktop, DesktopOf, characters_held}
use Rattle.desktop_definitions.specs.Needs.{unless}
use Rattle.desktop_definitions.specs.Change.{plain_text}
use Rattle.desktop_definitions.specs.Keys.{after_typing, after_key}
use Rattle.desktop_definitions.specs.Opening.{without_unshown}
use Rattle.desktop_definitions.specs.Gesture.{is_on_display, region_at, pointed}

-- ---- a file

-- the file of that name becomes this text, which was written anew
unfoldable pub filed : Desktop → List ℕ → Text ℕ → Desktop
filed d name text =
    record d { files = file_put d.files name text; written = d.written + length text }

-- ---- the marker

unfoldable pub marked : {T : Type 0} → DesktopOf T → ℕ → ℕ → DesktopOf T
marked d x y = record d { marker = Some (x, y) }

-- ---- the step

-- What an event comes to: the desktop after it, and the reply.
pub record Outcome : Type 0 where
  pub desktop : Desktop
  pub reply : Reply

abbrev pub outcome_of : Desktop → Reply → Outcome
outcome_of d r = record { desktop = d; reply = r }

-- within the limits on characters
abbrev pub fits : Desktop → Bool
fits d = nat_le d.written most_written && nat_le (characters_held d) most_held

-- A refusal leaves the desktop. After all else, texts that no viewer shows are removed. The limits on characters come
-- last, and look at the desktop after the event alone.
unfoldable pub outcome_after : Desktop → Result Desktop ℕ → Outcome
outcome_after d (Err code) = outcome_of d (No code)
outcome_after d (Ok new) =
    if fits (without_unshown new) then outcome_of (without_unshown new) Done
    else outcome_of d (No full)

-- what an event does but for texts that go and the limits on characters, or the code of its refusal, by the version of
-- the table of commands
unfoldable pub raw : ℕ → Desktop → Event → Result Desktop ℕ
raw version d (Typed bytes) = after_typing d bytes
raw version d (Key key) = after_key d key
raw version d (Mark x y) = unless (is_on_display x y) outside (Ok (marked d x y))
raw version d (Point keys x0 y0 x1 y1) =
    unless (is_on_display x0 y0 && is_on_display x1 y1) outside
    (pointed version d (region_at d x0 y0) keys x0 y0 x1 y1)
raw version d (File name bytes) =
    unless (has_file_room d.files name) too_many_files (Ok (filed d name (plain_text bytes)))

unfoldable pub step_in : ℕ → Desktop → Event → Outcome
step_in version d event = outcome_after d (raw version d event)

-- the desktop after events in a version of the table, one after another
abbrev pub steps_in : ℕ → Desktop → List Event → Desktop
steps_in version d events =
    fold (λ (now : Desktop) event. (step_in version now event).desktop) d events

-- a step in the newest version
unfoldable pub step : Desktop → Event → Outcome
step d event = step_in newest_version d event

-- the desktop after events, one after another
abbrev pub steps : Desktop → List Event → Desktop
steps d events = fold (λ (now : Desktop) event. (step now event).desktop) d events
