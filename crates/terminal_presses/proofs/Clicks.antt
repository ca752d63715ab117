-- What gestures of the mouse come to.
use Rattle.std.proofs.Common.{◌≡◌, Bool, true, false, List, [], ◌∷◌, ◌++◌, Some, None, refl, ap, subst, sym, ◌∙◌}
use Rattle.std.specs.Prelude.{◌||◌, Option, not}
use Rattle.event_bytes.specs.declared.keys.Keys.TheVariants as keys
use Rattle.terminal_presses.specs.declared.press.Button.{Button}
use Rattle.terminal_presses.specs.declared.press.Button.TheVariants.{Left, Middle, Right}
use Rattle.terminal_presses.specs.declared.press.FunctionKey.{FunctionKey}
use Rattle.terminal_presses.specs.declared.press.FunctionKey.TheVariants.{F1, F2, F3, F4, F5, F6, F7, F8, F9, F10}
use Rattle.terminal_presses.specs.declared.press.FunctionKey.TheVariants.{F11, F12}
use Rattle.event_bytes.specs.declared.event.Event.{Event}
use Rattle.terminal_presses.specs.declared.press.Press.{Press}
use Rattle.terminal_presses.specs.declared.press.Press.TheVariants.{Function}
use Rattle.terminal_presses.specs.Sights.{Sight}
use Rattle.terminal_presses.specs.declared.action.Click.{Click}
use Rattle.terminal_presses.specs.declared.action.Click.TheVariants.{Mark, Keys}
use Rattle.terminal_presses.specs.declared.action.Action.{Action}
use Rattle.terminal_presses.specs.declared.action.Action.TheVariants.{Extend, Nothing}
use Rattle.terminal_presses.specs.declared.hand.Hand.{Hand}
use Rattle.terminal_presses.specs.declared.asks.Asks.TheVariants.{File}
use Rattle.terminal_presses.specs.Gestures.{no_buttons, with_button, keys_with_button, click_called, pressed_more}
use Rattle.terminal_presses.specs.Gestures.{released, released_at}
use Rattle.terminal_presses.specs.Hands.{resting, pointed_at, idle, by_function, armed_with, is_armed_with}
use Rattle.terminal_presses.specs.Hands.{click_meant, begun, gone_down, rested, gone_up, extending, hand_after_button}
use Rattle.terminal_presses.specs.Hands.{fresh, by_question, handled}
use Rattle.terminal_presses.specs.Runs.{events_of_action, hand_after, posted_events, MakesEvents, Corner, is_seen}
use Rattle.terminal_presses.specs.Runs.{down_with, down, up, up_with, button_alone, together}
use Rattle.terminal_presses.specs.Runs.{mouse_at, click_event, says, spot_at, AreThree}
use Rattle.terminal_presses.specs.declared.spot.Spot.{Spot}
use Rattle.terminal_presses.specs.declared.pointer.Pointer.{Pointer}
use Rattle.terminal_presses.specs.Pointers.{started}
use Rattle.terminal_presses.proofs.Pieces.{posted_of_both}
use Rattle.terminal_presses.proofs.Tests.{is_not, by_test}

-- presses make the hand and the events that their definitions say
pub made : {sight : Sight} {hand : Hand} {presses : List Press}
    → MakesEvents sight hand presses (hand_after sight hand presses) (posted_events sight hand presses)
made = record { hand_is = refl; events_are = refl }

-- the hand that has pressed a button, whose click is that
abbrev held : Pointer → Option Click → Sight → Button → Corner → Hand
held pointer click sight button start = record {
  armed = None;
  gesture = Some (record { click = click; start = spot_at sight start; down = with_button button true no_buttons });
  paste = None;
  asked = None;
  asks = File;
  pointer = mouse_at sight start pointer;
}

seen_down : (sight : Sight) (pointer : Pointer) (button : Button) (start : Corner) → is_seen sight start ≡ true
    → handled sight (down button start) (resting pointer) ≡ (held pointer (Some (Keys (button_alone button))) sight button start, Nothing)
unfolding handled by_question fresh hand_after_button gone_down begun click_meant
seen_down sight pointer Left start seen = rw seen refl
seen_down sight pointer Middle start seen = rw seen refl
seen_down sight pointer Right start seen = rw seen refl

unseen_down : (sight : Sight) (pointer : Pointer) (button : Button) (start : Corner) → is_seen sight start ≡ false
    → handled sight (down button start) (resting pointer) ≡ (held pointer None sight button start, Nothing)
unfolding handled by_question fresh hand_after_button gone_down begun click_meant
unseen_down sight pointer button start unseen = rw unseen refl

-- a press that makes no event, and then others
pub after_one : {sight : Sight} {press : Press} {presses : List Press} {hand next last : Hand} {events : List Event}
    → handled sight press hand ≡ (next, Nothing) → MakesEvents sight next presses last events
    → MakesEvents sight hand (press ∷ presses) last events
after_one {sight} {press} {presses} is more = record {
  hand_is = ap (λ (x : Hand × Action). hand_after sight x.0 presses) is ∙ more.hand_is;
  events_are = ap (λ (x : Hand × Action). events_of_action x.1 ++ posted_events sight x.0 presses) is ∙ more.events_are;
}

one_up : (sight : Sight) (pointer : Pointer) (button : Button) (start end : Corner)
    → MakesEvents sight (held pointer (Some (Keys (button_alone button))) sight button start) (up button end ∷ [])
    (resting (mouse_at sight end pointer)) (click_event (Keys (button_alone button)) sight start end ∷ [])
unfolding handled by_question fresh hand_after_button gone_up rested released released_at
one_up sight pointer Left start end = made
one_up sight pointer Middle start end = made
one_up sight pointer Right start end = made

pub one_button : (sight : Sight) (pointer : Pointer) (button : Button) (start end : Corner) → is_seen sight start ≡ true
    → MakesEvents sight (resting pointer) (down button start ∷ up button end ∷ []) (resting (mouse_at sight end pointer))
    (click_event (Keys (button_alone button)) sight start end ∷ [])
one_button sight pointer button start end seen =
    after_one (seen_down sight pointer button start seen) (one_up sight pointer button start end)

-- a right click that extends what is selected
abbrev Extends : Sight → Pointer → Corner → Corner → Press → Hand → Type 0
Extends sight pointer start end press hand =
    handled sight press hand ≡ (resting (mouse_at sight end pointer), Extend (spot_at sight start) (spot_at sight end))

held_up : (sight : Sight) (pointer : Pointer) (shift alt control : Bool) (start end : Corner) → shift || alt ≡ true
    → Extends sight pointer start end (up_with shift alt control Right end) (held pointer (Some (Keys keys.Right)) sight Right start)
unfolding handled by_question fresh hand_after_button gone_up rested released released_at extending
held_up sight pointer shift alt control start end with_key = rw with_key refl

pub extended : (sight : Sight) (pointer : Pointer) (shift alt control : Bool) (start end : Corner) → shift || alt ≡ true
    → is_seen sight start ≡ true
    → Extends sight pointer start end (up_with shift alt control Right end) (hand_after sight (resting pointer) (down Right start ∷ []))
extended sight pointer shift alt control start end with_key seen =
    subst (λ (x : Hand × Action). Extends sight pointer start end (up_with shift alt control Right end) x.0)
    (sym (seen_down sight pointer Right start seen)) (held_up sight pointer shift alt control start end with_key)

-- the same of a hand that has begun outside the display
abbrev held_outside : Sight → Button → Corner → Hand → Hand
held_outside sight button start hand = record hand {
  gesture = Some (record { click = None; start = spot_at sight start; down = with_button button true no_buttons });
  paste = None;
  asked = None;
  asks = File;
  pointer = mouse_at sight start hand.pointer;
}

-- the hand afterwards
abbrev let_go : Sight → Corner → Hand → Hand
let_go sight end hand = record (pointed_at sight end.column end.row (idle hand)) { gesture = None }

outside_down : (sight : Sight) (button : Button) (hand : Hand) (start : Corner) → hand.gesture ≡ None
    → is_seen sight start ≡ false
    → handled sight (down button start) (idle hand) ≡ (held_outside sight button start hand, Nothing)
unfolding handled by_question fresh hand_after_button gone_down begun
outside_down sight button hand start none unseen = rw (none, unseen) refl

outside_up : (sight : Sight) (button : Button) (hand : Hand) (start end : Corner)
    → MakesEvents sight (held_outside sight button start hand) (up button end ∷ []) (let_go sight end hand) []
unfolding handled by_question fresh hand_after_button gone_up rested released released_at
outside_up sight Left hand start end = made
outside_up sight Middle hand start end = made
outside_up sight Right hand start end = made

still_idle : (sight : Sight) (end : Corner) (hand : Hand) → hand.gesture ≡ None
    → let_go sight end hand ≡ pointed_at sight end.column end.row (idle hand)
still_idle sight end hand none = rw none refl

pub none_outside : (sight : Sight) (button : Button) (hand : Hand) (start end : Corner) → hand.gesture ≡ None
    → not (is_seen sight start) ≡ true
    → MakesEvents sight (idle hand) (down button start ∷ up button end ∷ [])
    (pointed_at sight end.column end.row (idle hand)) []
none_outside sight button hand start end none outside =
    let unseen = is_not (is_seen sight start) outside in
    subst (λ h. MakesEvents sight (idle hand) (down button start ∷ up button end ∷ []) h []) (still_idle sight end hand none)
    (after_one (outside_down sight button hand start none unseen) (outside_up sight button hand start end))

-- what two buttons that differ have, each pair of them has
by_pairs : (P : Button → Button → Type 0) → P Left Middle → P Left Right → P Middle Left → P Middle Right → P Right Left
    → P Right Middle → (a b : Button) → (a ≡ b → ⊥) → P a b
by_pairs P s t u v w x Left Left other = absurd (other refl)
by_pairs P s t u v w x Left Middle other = s
by_pairs P s t u v w x Left Right other = t
by_pairs P s t u v w x Middle Left other = u
by_pairs P s t u v w x Middle Middle other = absurd (other refl)
by_pairs P s t u v w x Middle Right other = v
by_pairs P s t u v w x Right Left other = w
by_pairs P s t u v w x Right Middle other = x
by_pairs P s t u v w x Right Right other = absurd (other refl)

-- what two buttons come to, whichever goes up first
pub record Both (sight : Sight) (pointer : Pointer) (first second : Button) (start p q end : Corner) : Type 0 where
  pub in_turn : MakesEvents sight (resting pointer) (down first start ∷ down second p ∷ up first q ∷ up second end ∷ [])
      (resting (mouse_at sight end pointer)) (click_event (Keys (together first second)) sight start end ∷ [])
  pub turned : MakesEvents sight (resting pointer) (down first start ∷ down second p ∷ up second q ∷ up first end ∷ [])
      (resting (mouse_at sight end pointer)) (click_event (Keys (together first second)) sight start end ∷ [])

-- what comes after the first of them is down
record Rest (sight : Sight) (pointer : Pointer) (first second : Button) (start p q end : Corner) : Type 0 where
  in_turn : MakesEvents sight (held pointer (Some (Keys (button_alone first))) sight first start)
      (down second p ∷ up first q ∷ up second end ∷ []) (resting (mouse_at sight end pointer))
      (click_event (Keys (together first second)) sight start end ∷ [])
  turned : MakesEvents sight (held pointer (Some (Keys (button_alone first))) sight first start)
      (down second p ∷ up second q ∷ up first end ∷ []) (resting (mouse_at sight end pointer))
      (click_event (Keys (together first second)) sight start end ∷ [])

rest_of_two : (sight : Sight) (pointer : Pointer) (first second : Button) (start p q end : Corner) → (first ≡ second → ⊥)
    → Rest sight pointer first second start p q end
unfolding handled by_question fresh hand_after_button gone_down click_meant gone_up rested released released_at pressed_more click_called
    keys_with_button
rest_of_two sight pointer first second start p q end other =
    by_pairs (λ a b. Rest sight pointer a b start p q end) (record { in_turn = made; turned = made })
    (record { in_turn = made; turned = made }) (record { in_turn = made; turned = made })
    (record { in_turn = made; turned = made }) (record { in_turn = made; turned = made })
    (record { in_turn = made; turned = made }) first second other

pub two_buttons : (sight : Sight) (pointer : Pointer) (first second : Button) (start p q end : Corner)
    → (first ≡ second → ⊥) → is_seen sight start ≡ true → Both sight pointer first second start p q end
two_buttons sight pointer first second start p q end other seen =
    let one = seen_down sight pointer first start seen in
    let rest = rest_of_two sight pointer first second start p q end other in
    record { in_turn = after_one one rest.in_turn; turned = after_one one rest.turned }

-- ---- three buttons

by_orders : (P : Button → Button → Button → Type 0) → P Left Middle Right → P Left Right Middle → P Middle Left Right
    → P Middle Right Left → P Right Left Middle → P Right Middle Left
    → (a b c : Button) → AreThree a b c → P a b c
by_orders P s t u v w x Left Left c are = absurd (are.first_two refl)
by_orders P s t u v w x Middle Middle c are = absurd (are.first_two refl)
by_orders P s t u v w x Right Right c are = absurd (are.first_two refl)
by_orders P s t u v w x Left b Left are = absurd (are.ends refl)
by_orders P s t u v w x Middle b Middle are = absurd (are.ends refl)
by_orders P s t u v w x Right b Right are = absurd (are.ends refl)
by_orders P s t u v w x a Left Left are = absurd (are.last_two refl)
by_orders P s t u v w x a Middle Middle are = absurd (are.last_two refl)
by_orders P s t u v w x a Right Right are = absurd (are.last_two refl)
by_orders P s t u v w x Left Middle Right are = s
by_orders P s t u v w x Left Right Middle are = t
by_orders P s t u v w x Middle Left Right are = u
by_orders P s t u v w x Middle Right Left are = v
by_orders P s t u v w x Right Left Middle are = w
by_orders P s t u v w x Right Middle Left are = x

-- the hand whose gesture is called off, with all buttons down
abbrev off : Pointer → Sight → Corner → Corner → Hand
off pointer sight start last = record {
  armed = None;
  gesture = Some (record {
    click = None;
    start = spot_at sight start;
    down = record { left = true; middle = true; right = true };
  });
  paste = None;
  asked = None;
  asks = File;
  pointer = mouse_at sight last pointer;
}

abbrev Falls : Pointer → (Button → Option Click) → Sight → Corner → Corner → Corner → Button → Button → Button → Type 0
Falls pointer click sight start p q a b c =
    MakesEvents sight (held pointer (click a) sight a start) (down b p ∷ down c q ∷ []) (off pointer sight start q) []

fallen_seen : (sight : Sight) (pointer : Pointer) (start p q : Corner) (a b c : Button) → AreThree a b c
    → Falls pointer (λ button. Some (Keys (button_alone button))) sight start p q a b c
unfolding handled by_question fresh hand_after_button gone_down click_meant pressed_more click_called keys_with_button
fallen_seen sight pointer start p q a b c are =
    by_orders (Falls pointer (λ button. Some (Keys (button_alone button))) sight start p q) made made made made made made a b c are

fallen_unseen : (sight : Sight) (pointer : Pointer) (start p q : Corner) (a b c : Button) → AreThree a b c
    → Falls pointer (λ button. None) sight start p q a b c
unfolding handled by_question fresh hand_after_button gone_down click_meant pressed_more click_called keys_with_button
fallen_unseen sight pointer start p q a b c are =
    by_orders (Falls pointer (λ button. None) sight start p q) made made made made made made a b c are

fallen : (sight : Sight) (pointer : Pointer) (start p q : Corner) (a b c : Button) → AreThree a b c
    → MakesEvents sight (resting pointer) (down a start ∷ down b p ∷ down c q ∷ []) (off pointer sight start q) []
fallen sight pointer start p q a b c are =
    by_test (is_seen sight start)
    (λ seen. after_one (seen_down sight pointer a start seen) (fallen_seen sight pointer start p q a b c are))
    (λ unseen. after_one (unseen_down sight pointer a start unseen) (fallen_unseen sight pointer start p q a b c are))

abbrev Rises : Pointer → Sight → Corner → Corner → Corner → Corner → Corner → Button → Button → Button → Type 0
Rises pointer sight start last p q r x y z =
    MakesEvents sight (off pointer sight start last) (up x p ∷ up y q ∷ up z r ∷ []) (resting (mouse_at sight r pointer)) []

risen : (sight : Sight) (pointer : Pointer) (start last p q r : Corner) (x y z : Button) → AreThree x y z
    → Rises pointer sight start last p q r x y z
unfolding handled by_question fresh hand_after_button gone_up rested released released_at
risen sight pointer start last p q r x y z are =
    by_orders (Rises pointer sight start last p q r) made made made made made made x y z are

pub three_buttons : (sight : Sight) (pointer : Pointer) (a b c x y z : Button) (start p q r s end : Corner)
    → AreThree a b c → AreThree x y z
    → MakesEvents sight (resting pointer) (down a start ∷ down b p ∷ down c q ∷ up x r ∷ up y s ∷ up z end ∷ [])
    (resting (mouse_at sight end pointer)) []
three_buttons sight pointer a b c x y z start p q r s end falls rises =
    let f = fallen sight pointer start p q a b c falls in
    let g = risen sight pointer start q r s end x y z rises in
    let downs = down a start ∷ down b p ∷ down c q ∷ [] in
    let ups = up x r ∷ up y s ∷ up z end ∷ [] in
    record {
      hand_is = ap (λ h. hand_after sight h ups) f.hand_is ∙ g.hand_is;
      events_are = posted_of_both sight (resting pointer) downs ups
          ∙ ap (λ l. l ++ posted_events sight (hand_after sight (resting pointer) downs) ups) f.events_are
          ∙ ap (λ h. posted_events sight h ups) f.hand_is ∙ g.events_are;
    }

-- ---- one button and a key

-- the hand after a function key
abbrev pub armed : Pointer → Click → Hand
armed pointer click = record {
  armed = Some click;
  gesture = None;
  paste = None;
  asked = None;
  asks = File;
  pointer = started pointer;
}

-- what a key comes to and a click after it
abbrev pub Says : Sight → Pointer → FunctionKey → Option Click → Type 0
Says sight pointer key None = Unit {0}
Says sight pointer key (Some click) = handled sight (Function key) (resting pointer) ≡ (armed pointer click, Nothing)

first_armed : (pointer : Pointer) (click : Click) (shown : Option Spot)
    → armed_with click shown (resting pointer) ≡ (armed pointer click, Nothing)
unfolding armed_with is_armed_with
first_armed pointer click None = refl
first_armed pointer click (Some at) = refl

pub each_says : (sight : Sight) (pointer : Pointer) (key : FunctionKey) → Says sight pointer key (says key)
unfolding handled by_question fresh by_function
each_says sight pointer F1 = first_armed pointer Mark pointer.shown
each_says sight pointer F2 = first_armed pointer (Keys keys.Middle) pointer.shown
each_says sight pointer F3 = first_armed pointer (Keys keys.Right) pointer.shown
each_says sight pointer F4 = first_armed pointer (Keys keys.LeftMiddle) pointer.shown
each_says sight pointer F5 = first_armed pointer (Keys keys.LeftRight) pointer.shown
each_says sight pointer F6 = first_armed pointer (Keys keys.RightLeft) pointer.shown
each_says sight pointer F7 = first_armed pointer (Keys keys.RightMiddle) pointer.shown
each_says sight pointer F8 = tt
each_says sight pointer F9 = tt
each_says sight pointer F10 = tt
each_says sight pointer F11 = tt
each_says sight pointer F12 = first_armed pointer (Keys keys.Left) pointer.shown

armed_down : (sight : Sight) (pointer : Pointer) (click : Click) (start : Corner) → is_seen sight start ≡ true
    → handled sight (down Left start) (armed pointer click) ≡ (held (started pointer) (Some click) sight Left start, Nothing)
unfolding handled by_question fresh hand_after_button gone_down begun click_meant
armed_down sight pointer click start seen = rw seen refl

left_up : (sight : Sight) (pointer : Pointer) (click : Click) (start end : Corner)
    → MakesEvents sight (held pointer (Some click) sight Left start) (up Left end ∷ []) (resting (mouse_at sight end pointer))
    (click_event click sight start end ∷ [])
unfolding handled by_question fresh hand_after_button gone_up rested released released_at
left_up sight pointer Mark start end = made
left_up sight pointer (Keys keys) start end = made

pub said_click : (sight : Sight) (pointer : Pointer) (key : FunctionKey) (click : Click) (start end : Corner)
    → says key ≡ Some click → is_seen sight start ≡ true
    → MakesEvents sight (resting pointer) (Function key ∷ down Left start ∷ up Left end ∷ [])
    (resting (mouse_at sight end (started pointer))) (click_event click sight start end ∷ [])
said_click sight pointer key click start end is seen =
    let first = subst (λ (o : Option Click). Says sight pointer key o) is (each_says sight pointer key) in
    after_one first (after_one (armed_down sight pointer click start seen) (left_up sight (started pointer) click start end))

alt_down : (sight : Sight) (pointer : Pointer) (control : Bool) (start : Corner) → is_seen sight start ≡ true
    → handled sight (down_with true control Left start) (resting pointer)
    ≡ (held pointer (Some (Keys keys.Middle)) sight Left start, Nothing)
unfolding handled by_question fresh hand_after_button gone_down begun click_meant
alt_down sight pointer control start seen = rw seen refl

pub held_click : (sight : Sight) (pointer : Pointer) (control : Bool) (start end : Corner) → is_seen sight start ≡ true
    → MakesEvents sight (resting pointer) (down_with true control Left start ∷ up Left end ∷ [])
    (resting (mouse_at sight end pointer)) (click_event (Keys keys.Middle) sight start end ∷ [])
held_click sight pointer control start end seen =
    after_one (alt_down sight pointer control start seen) (left_up sight pointer (Keys keys.Middle) start end)

control_down : (sight : Sight) (pointer : Pointer) (start : Corner) → is_seen sight start ≡ true
    → handled sight (down_with false true Left start) (resting pointer)
    ≡ (held pointer (Some (Keys keys.Right)) sight Left start, Nothing)
unfolding handled by_question fresh hand_after_button gone_down begun click_meant
control_down sight pointer start seen = rw seen refl

pub control_click : (sight : Sight) (pointer : Pointer) (start end : Corner) → is_seen sight start ≡ true
    → MakesEvents sight (resting pointer) (down_with false true Left start ∷ up Left end ∷ [])
    (resting (mouse_at sight end pointer)) (click_event (Keys keys.Right) sight start end ∷ [])
control_click sight pointer start end seen =
    after_one (control_down sight pointer start seen) (left_up sight pointer (Keys keys.Right) start end)

pub ruleset clicks_of_one = (held_click, control_click)
