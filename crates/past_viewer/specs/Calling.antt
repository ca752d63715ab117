-- The press that calls for the past, and those by which one leaves it.
use Rattle.std.specs.Prelude.{ℕ, zero, suc, Bool, true, false, ◌==◌, ◌&&◌, ◌||◌, not, if◌then◌else◌, List, [], ◌∷◌, Option, Some, None}
use Rattle.terminal_presses.specs.declared.press.Heard.{Heard}
use Rattle.terminal_presses.specs.declared.press.Heard.TheVariants.{Byte, Quiet}
use Rattle.terminal_presses.specs.declared.press.Press.{Press}
use Rattle.terminal_presses.specs.declared.press.Press.TheVariants.{Character, Control, Escape, PasteBegins, PasteEnds}
use Rattle.terminal_presses.specs.declared.press.Presses.{Presses}
use Rattle.terminal_presses.specs.declared.press.Presses.TheVariants.{Nothing, One, Two}
use Rattle.terminal_keyboard.specs.declared.parser.Parser.{Parser}
use Rattle.terminal_keyboard.specs.Presses.{heard_by}
use Rattle.past_looks.specs.declared.hand.TheConstants.{CONTROL_P, CONTROL_Q, LEAVES}
use Rattle.past_viewer.specs.declared.keys.TheConstants.{CONTROL_V}

abbrev pub final_press : Presses → Option Press
final_press Nothing = None
final_press (One press) = Some press
final_press (Two cut press) = Some press

-- Ctrl-P
abbrev pub is_past_call : Option Press → Bool
is_past_call (Some (Control byte)) = byte == CONTROL_P
is_past_call press = false

abbrev pub calls_past : Presses → Bool
calls_past presses = is_past_call (final_press presses)

-- a key by which one may leave the past, or behind which a text that is held may come, and which ends no line and isn't Escape
abbrev pub is_leaving : Option Press → Bool
is_leaving (Some (Control byte)) = (byte == CONTROL_Q) || (byte == CONTROL_V)
is_leaving (Some (Character byte)) = byte == LEAVES
is_leaving press = false

abbrev pub may_leave : Presses → Bool
may_leave presses = is_leaving (final_press presses)

abbrev pub begins_with_escape : Presses → Bool
begins_with_escape (One Escape) = true
begins_with_escape (Two Escape press) = true
begins_with_escape presses = false

-- a byte by which it shows that an escape byte before it was the key
abbrev pub shows_escape : Heard → Presses → Bool
shows_escape (Byte byte) presses = begins_with_escape presses
shows_escape Quiet presses = false

-- whether a text is pasted behind presses
abbrev pub still_pastes : Bool → Presses → Bool
still_pastes pastes (One PasteBegins) = true
still_pastes pastes (One PasteEnds) = false
still_pastes pastes presses = pastes

-- whether one is pasted behind what is heard
abbrev pub pastes_behind : Parser → Bool → List Heard → Bool
pastes_behind parser pastes [] = pastes
pastes_behind parser pastes (heard ∷ more) =
    let next = heard_by parser heard in pastes_behind next.0 (still_pastes pastes next.1) more

-- it begins with what calls for the past, and isn't pasted
abbrev pub begins_call : Parser → Bool → List Heard → Bool
begins_call parser pastes [] = false
begins_call parser pastes (heard ∷ more) =
    not pastes && calls_past (heard_by parser heard).1

abbrev pub wants_quiet : Parser → Bool → Heard → Bool
wants_quiet parser pastes heard = not pastes && shows_escape heard (heard_by parser heard).1

-- How much is told at one time: nothing from Ctrl-P on, nor from a byte on that is told behind a quiet while, and nothing
-- behind a key by which one may leave, or Ctrl-V; unless that is pasted.
abbrev pub told_at_once : Parser → Bool → List Heard → ℕ
told_at_once parser pastes [] = zero
told_at_once parser pastes (heard ∷ more) =
    let next = heard_by parser heard in
    if not pastes && (calls_past next.1 || shows_escape heard next.1) then 0
    else suc (if not pastes && may_leave next.1 then 0
    else told_at_once next.0 (still_pastes pastes next.1) more)
