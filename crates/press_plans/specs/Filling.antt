-- What is typed by a press where lines are filled, so that it stays in sight.
use Rattle.std.specs.Prelude.{ℕ, Bool, false, ◌==◌, if◌then◌else◌, [], ◌∷◌, Option, Some, None}
use Rattle.event_bytes.specs.Bytes.{carriage_return}
use Rattle.event_bytes.specs.declared.event.Event.{Event}
use Rattle.event_bytes.specs.declared.event.Event.TheVariants.{Typed}
use Rattle.desktop_definitions.specs.Desktop.{Desktop}
use Rattle.desk_journal.specs.Views.{desk_info}
use Rattle.filled_pastes.specs.Poured.{is_gap}
use Rattle.press_tasks.specs.Refilling.{one_behind}

-- For a word of how many characters the line is to have room: for a letter that is typed next, and for none where it is a
-- blank, or where nothing is left. Before an end of line, and before another event, it isn't looked at.
abbrev pub room_for_byte : ℕ → Option ℕ
room_for_byte b = if is_gap b then Some 0 else (if b == carriage_return then None else Some 1)

unfoldable pub room_for : Option Event → Option ℕ
room_for None = Some 0
room_for (Some (Typed (b ∷ []))) = room_for_byte b
room_for (Some event) = None

abbrev pub room_if : Bool → Option Event → Option ℕ
room_if fills next = if fills then room_for next else None

-- the position of the caret once there is a character more before it
abbrev pub place_behind : Desktop → ℕ
place_behind d = one_behind (desk_info d).caret_position

-- whether the caret stands there
abbrev pub is_place : ℕ → Option ℕ → Bool
is_place place None = false
is_place place (Some p) = p == place
