-- Clicks that keys make with a pointer.
use Rattle.std.proofs.Common.{◌≡◌, ℕ, zero, suc, ◌+◌, ◌-◌, ◌<◌, ◌≤◌, true, List, [], ◌∷◌, ◌++◌, Some, None, refl, sym}
use Rattle.std.proofs.Common.{ap, subst}
use Rattle.std.proofs.Common.{◌∙◌, arith, min}
use Rattle.std.specs.Prelude.{Option, replicate}
use Rattle.event_bytes.specs.declared.event.Event.{Event}
use Rattle.event_bytes.specs.declared.keys.Keys.TheVariants as keys
use Rattle.terminal_presses.specs.declared.press.Arrow.{Arrow as ArrowKey}
use Rattle.terminal_presses.specs.declared.press.Arrow.TheVariants.{Up, Down, Right, Left, Home, End, WordRight}
use Rattle.terminal_presses.specs.declared.press.Arrow.TheVariants.{WordLeft}
use Rattle.terminal_presses.specs.declared.press.FunctionKey.{FunctionKey}
use Rattle.terminal_presses.specs.declared.press.FunctionKey.TheVariants.{F1, F2, F3, F4, F5, F6, F7, F8, F9, F10}
use Rattle.terminal_presses.specs.declared.press.FunctionKey.TheVariants.{F11, F12}
use Rattle.terminal_presses.specs.declared.press.Press.{Press}
use Rattle.terminal_presses.specs.declared.press.Press.TheVariants.{Arrow, Character, Escape, Function}
use Rattle.terminal_presses.specs.declared.action.Click.{Click}
use Rattle.terminal_presses.specs.declared.action.Click.TheVariants.{Mark, Keys}
use Rattle.terminal_presses.specs.declared.action.Action.{Action}
use Rattle.terminal_presses.specs.declared.action.Action.TheVariants.{Nothing}
use Rattle.terminal_presses.specs.declared.hand.Hand.{Hand}
use Rattle.terminal_presses.specs.declared.spot.Spot.{Spot}
use Rattle.terminal_presses.specs.declared.pointer.Pointer.{Pointer}
use Rattle.terminal_presses.specs.Sights.{Sight}
use Rattle.terminal_presses.specs.Gestures.{released_at}
use Rattle.terminal_presses.specs.Pointers.{appears, moved_to, laid_aside, toggled, started, spot_moved, begins_at}
use Rattle.terminal_presses.specs.Hands.{resting, idle, hand_after_escape, hand_after_byte, hand_after_arrow}
use Rattle.terminal_presses.specs.Hands.{is_same_click, is_armed_with}
use Rattle.terminal_presses.specs.Hands.{armed_with, by_function, fresh, by_question, handled}
use Rattle.terminal_presses.specs.Pastes.{return}
use Rattle.terminal_presses.specs.Runs.{hand_after, posted_events, MakesEvents, says, IsOnDisplay, keys_to, pointing_to}
use Rattle.terminal_presses.specs.Runs.{drawing_by, drawn_event, drawn_pointer}
use Rattle.terminal_presses.proofs.Pieces.{posted_of_both, hand_of_both}
use Rattle.terminal_presses.proofs.Clicks.{made, after_one, armed, Says, each_says}

-- ---- arrows

-- a hand whose pointer is shown there
abbrev pointing : Hand → Spot → Hand
pointing hand at = record (idle hand) { pointer = moved_to at hand.pointer }

-- presses that make no event, and then others
and_then : {sight : Sight} {first second : List Press} {hand next last : Hand} {events : List Event}
    → MakesEvents sight hand first next [] → MakesEvents sight next second last events
    → MakesEvents sight hand (first ++ second) last events
and_then {sight} {first} {second} {hand} one more = record {
  hand_is = hand_of_both sight hand first second ∙ ap (λ h. hand_after sight h second) one.hand_is ∙ more.hand_is;
  events_are = posted_of_both sight hand first second
      ∙ ap (λ l. l ++ posted_events sight (hand_after sight hand first) second) one.events_are
      ∙ ap (λ h. posted_events sight h second) one.hand_is ∙ more.events_are;
}

abbrev walked : ℕ → ArrowKey → Spot → Spot
walked zero arrow at = at
walked (suc n) arrow at = walked n arrow (spot_moved 1 arrow at)

one_further : (sight : Sight) (hand : Hand) (arrow : ArrowKey) (at : Spot)
    → handled sight (Arrow arrow) (pointing hand at) ≡ (pointing hand (spot_moved 1 arrow at), Nothing)
unfolding handled by_question fresh hand_after_arrow
one_further sight hand arrow at = refl

walks : (sight : Sight) (hand : Hand) (n : ℕ) (arrow : ArrowKey) (at : Spot)
    → MakesEvents sight (pointing hand at) (replicate n (Arrow arrow)) (pointing hand (walked n arrow at)) []
walks sight hand zero arrow at = record { hand_is = refl; events_are = refl }
walks sight hand (suc n) arrow at =
    after_one (one_further sight hand arrow at) (walks sight hand n arrow (spot_moved 1 arrow at))

-- ---- where they lead

abbrev spot : ℕ → ℕ → Spot
spot x y = record { x = x; y = y }

walked_right : (n x y : ℕ) → n ≤ 79 - x → walked n Right (spot x y) ≡ spot (x + n) y
unfolding spot_moved
walked_right zero x y room = ap (λ m. spot m y) (omega arith)
walked_right (suc n) x y room =
    let next : min (x + 1) 79 ≡ x + 1 = omega (arith, room) in
    let further : x + 1 + n ≡ x + suc n = omega arith in
    ap (λ m. walked n Right (spot m y)) next ∙ walked_right n (x + 1) y (omega (arith, room)) ∙ ap (λ m. spot m y) further

walked_left : (n x y : ℕ) → walked n Left (spot x y) ≡ spot (x - n) y
unfolding spot_moved
walked_left zero x y = ap (λ m. spot m y) (omega arith)
walked_left (suc n) x y =
    let further : x - 1 - n ≡ x - suc n = omega arith in
    walked_left n (x - 1) y ∙ ap (λ m. spot m y) further

walked_up : (n x y : ℕ) → n ≤ 31 - y → walked n Up (spot x y) ≡ spot x (y + n)
unfolding spot_moved
walked_up zero x y room = ap (λ m. spot x m) (omega arith)
walked_up (suc n) x y room =
    let next : min (y + 1) 31 ≡ y + 1 = omega (arith, room) in
    let further : y + 1 + n ≡ y + suc n = omega arith in
    ap (λ m. walked n Up (spot x m)) next ∙ walked_up n x (y + 1) (omega (arith, room)) ∙ ap (λ m. spot x m) further

walked_down : (n x y : ℕ) → walked n Down (spot x y) ≡ spot x (y - n)
unfolding spot_moved
walked_down zero x y = ap (λ m. spot x m) (omega arith)
walked_down (suc n) x y =
    let further : y - 1 - n ≡ y - suc n = omega arith in
    walked_down n x (y - 1) ∙ ap (λ m. spot x m) further

-- along a row, and along a column
across : (from to y : ℕ) → to ≤ 79 → walked (from - to) Left (walked (to - from) Right (spot from y)) ≡ spot to y
across from to y within =
    let there : from + (to - from) - (from - to) ≡ to = omega arith in
    ap (λ at. walked (from - to) Left at) (walked_right (to - from) from y (omega (arith, within)))
    ∙ walked_left (from - to) (from + (to - from)) y ∙ ap (λ m. spot m y) there

along : (from to x : ℕ) → to ≤ 31 → walked (from - to) Down (walked (to - from) Up (spot x from)) ≡ spot x to
along from to x within =
    let there : from + (to - from) - (from - to) ≡ to = omega arith in
    ap (λ at. walked (from - to) Down at) (walked_up (to - from) x from (omega (arith, within)))
    ∙ walked_down (from - to) x (from + (to - from)) ∙ ap (λ m. spot x m) there

leads : (sight : Sight) (hand : Hand) (from to : Spot) → IsOnDisplay to
    → MakesEvents sight (pointing hand from) (keys_to from to) (pointing hand to) []
leads sight hand from to within =
    let right = walked (to.x - from.x) Right from in
    let left = walked (from.x - to.x) Left right in
    let up = walked (to.y - from.y) Up left in
    let last = walked (from.y - to.y) Down up in
    let there : last ≡ to =
    ap (λ at. walked (from.y - to.y) Down (walked (to.y - from.y) Up at))
    (across from.x to.x from.y (omega (arith, within.column)))
    ∙ along from.y to.y to.x (omega (arith, within.row)) in
    subst (λ at. MakesEvents sight (pointing hand from) (keys_to from to) (pointing hand at) []) there
    (and_then (walks sight hand (to.x - from.x) Right from)
    (and_then (walks sight hand (from.x - to.x) Left right)
    (and_then (walks sight hand (to.y - from.y) Up left) (walks sight hand (from.y - to.y) Down up))))

-- ---- clicks

shows : (sight : Sight) (pointer : Pointer) → pointer.shown ≡ None
    → handled sight (Function F11) (resting pointer) ≡ (resting (moved_to (appears sight pointer) pointer), Nothing)
unfolding handled by_question fresh by_function toggled
shows sight pointer none = rw none refl

pointed : (sight : Sight) (pointer : Pointer) (at : Spot) → pointer.shown ≡ None → IsOnDisplay at
    → MakesEvents sight (resting pointer) (pointing_to sight pointer at) (resting (moved_to at pointer)) []
pointed sight pointer at none within =
    after_one (shows sight pointer none) (leads sight (resting pointer) (appears sight pointer) at within)

-- the hand after a function key, with which a draw has begun
abbrev drawing : Pointer → Click → Spot → Hand
drawing pointer click start = armed (moved_to start pointer) click

draws : {sight : Sight} {pointer : Pointer} (key : FunctionKey) {click : Click} {start end : Spot} {last : Press}
    → pointer.shown ≡ None → says key ≡ Some click → IsOnDisplay start → IsOnDisplay end
    → MakesEvents sight (pointing (drawing pointer click start) end) (last ∷ [])
    (resting (drawn_pointer start end pointer)) (drawn_event click start end ∷ [])
    → MakesEvents sight (resting pointer) (drawing_by key last sight pointer start end)
    (resting (drawn_pointer start end pointer)) (drawn_event click start end ∷ [])
draws {sight} {pointer} key {click} {start} {end} none is first second ends =
    let begins = subst (λ (o : Option Click). Says sight (moved_to start pointer) key o) is
    (each_says sight (moved_to start pointer) key) in
    and_then (pointed sight pointer start none first)
    (after_one begins (and_then (leads sight (drawing pointer click start) start end second) ends))

returned : (sight : Sight) (pointer : Pointer) (click : Click) (start end : Spot)
    → MakesEvents sight (pointing (drawing pointer click start) end) (Character return ∷ [])
    (resting (drawn_pointer start end pointer)) (drawn_event click start end ∷ [])
unfolding handled by_question fresh hand_after_byte released_at begins_at
returned sight pointer Mark start end = made
returned sight pointer (Keys keys) start end = made

pub drawn_click : (sight : Sight) (pointer : Pointer) (key : FunctionKey) (click : Click) (start end : Spot)
    → pointer.shown ≡ None → says key ≡ Some click → IsOnDisplay start → IsOnDisplay end
    → MakesEvents sight (resting pointer) (drawing_by key (Character return) sight pointer start end)
    (resting (drawn_pointer start end pointer)) (drawn_event click start end ∷ [])
drawn_click sight pointer key click start end none is first second =
    draws key none is first second (returned sight pointer click start end)

-- the same key again
abbrev Repeats : Sight → Pointer → Spot → Spot → FunctionKey → Option Click → Type 0
Repeats sight pointer start end key None = Unit {0}
Repeats sight pointer start end key (Some click) =
    MakesEvents sight (pointing (drawing pointer click start) end) (Function key ∷ [])
    (resting (drawn_pointer start end pointer)) (drawn_event click start end ∷ [])

each_repeats : (sight : Sight) (pointer : Pointer) (start end : Spot) (key : FunctionKey)
    → Repeats sight pointer start end key (says key)
unfolding handled by_question fresh by_function armed_with is_armed_with is_same_click released_at begins_at
each_repeats sight pointer start end F1 = made
each_repeats sight pointer start end F2 = made
each_repeats sight pointer start end F3 = made
each_repeats sight pointer start end F4 = made
each_repeats sight pointer start end F5 = made
each_repeats sight pointer start end F6 = made
each_repeats sight pointer start end F7 = made
each_repeats sight pointer start end F8 = tt
each_repeats sight pointer start end F9 = tt
each_repeats sight pointer start end F10 = tt
each_repeats sight pointer start end F11 = tt
each_repeats sight pointer start end F12 = made

pub repeated_click : (sight : Sight) (pointer : Pointer) (key : FunctionKey) (click : Click) (start end : Spot)
    → pointer.shown ≡ None → says key ≡ Some click → IsOnDisplay start → IsOnDisplay end
    → MakesEvents sight (resting pointer) (drawing_by key (Function key) sight pointer start end)
    (resting (drawn_pointer start end pointer)) (drawn_event click start end ∷ [])
repeated_click sight pointer key click start end none is first second =
    draws key none is first second
    (subst (λ (o : Option Click). Repeats sight pointer start end key o) is (each_repeats sight pointer start end key))

left_made : (sight : Sight) (pointer : Pointer) (at : Spot)
    → MakesEvents sight (resting (moved_to at pointer)) (Character return ∷ []) (resting (moved_to at pointer))
    (drawn_event (Keys keys.Left) at at ∷ [])
unfolding handled by_question fresh hand_after_byte released_at begins_at
left_made sight pointer at = made

pub left_click : (sight : Sight) (pointer : Pointer) (at : Spot) → pointer.shown ≡ None → IsOnDisplay at
    → MakesEvents sight (resting pointer) (pointing_to sight pointer at ++ Character return ∷ [])
    (resting (moved_to at pointer)) (drawn_event (Keys keys.Left) at at ∷ [])
left_click sight pointer at none within = and_then (pointed sight pointer at none within) (left_made sight pointer at)

pub puts_away : (sight : Sight) (pointer : Pointer) (at : Spot)
    → MakesEvents sight (resting (moved_to at pointer)) (Escape ∷ []) (resting (laid_aside (moved_to at pointer))) []
unfolding handled by_question fresh hand_after_escape
puts_away sight pointer at = made

pub still_on_display : (n : ℕ) (arrow : ArrowKey) (at : Spot) → IsOnDisplay at → IsOnDisplay (spot_moved n arrow at)
unfolding spot_moved
still_on_display n Up at is = record { column = is.column; row = omega arith }
still_on_display n Down at is = record { column = is.column; row = omega (arith, is.row) }
still_on_display n Right at is = record { column = omega arith; row = is.row }
still_on_display n Left at is = record { column = omega (arith, is.column); row = is.row }
still_on_display n Home at is = record { column = omega arith; row = is.row }
still_on_display n End at is = record { column = omega arith; row = is.row }
still_on_display n WordRight at is = record { column = omega arith; row = is.row }
still_on_display n WordLeft at is = record { column = omega (arith, is.column); row = is.row }
