-- A text that was copied in the past, and is held by the keyboard: what pastes has it typed.
use Rattle.std.specs.Prelude.{Bool, true, false, ◌&&◌, if◌then◌else◌, []}
use Rattle.event_bytes.specs.declared.event.Event.TheVariants.{Key}
use Rattle.event_bytes.specs.declared.keys.Key.TheVariants.{Paste}
use Rattle.terminal_presses.specs.declared.action.Action.{Action}
use Rattle.terminal_presses.specs.declared.action.Action.TheVariants.{Post, TypeFile}

-- whether a press pastes what was copied
abbrev pub pastes_copy : Action → Bool
pastes_copy (Post (Key Paste)) = true
pastes_copy _ = false

-- What a press means while a text is held, or none. It has no name, as no file has that a person may name.
abbrev pub held_meant : Bool → Action → Action
held_meant holds a = if holds && pastes_copy a then TypeFile [] else a
