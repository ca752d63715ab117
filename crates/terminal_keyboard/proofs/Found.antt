-- Spelled presses are found again.
use Rattle.std.proofs.Common.{◌≡◌, ℕ, ◌+◌, ◌-◌, ◌*◌, ◌<◌, ◌≤◌, Bool, true, false, List, [], ◌∷◌, ◌++◌}
use Rattle.std.proofs.Common.{Some, None, nat_eq, refl, sym, ap, subst, ◌∙◌, arith, inl, inr, min}
use Rattle.std.specs.Prelude.{◌||◌, ◌==◌, not, nat_le, nat_lt, Option}
use Rattle.std.specs.List.{list_all, filter_map, cons_option}
use Rattle.std.proofs.lemmas.Bool.Decides.{nat_tests}
use Rattle.event_bytes.specs.Bytes.{lies_within, is_digit, is_text_byte}
use Rattle.terminal_presses.specs.declared.press.Heard.{Heard}
use Rattle.terminal_presses.specs.declared.press.Heard.TheVariants.{Byte, Quiet}
use Rattle.terminal_presses.specs.declared.press.Button.{Button}
use Rattle.terminal_presses.specs.declared.press.Button.TheVariants.{Left, Middle, Right}
use Rattle.terminal_presses.specs.declared.press.Arrow.{Arrow as ArrowKey}
use Rattle.terminal_presses.specs.declared.press.Arrow.TheVariants as arrow
use Rattle.terminal_presses.specs.declared.press.Page.{Page as PageKey}
use Rattle.terminal_presses.specs.declared.press.Page.TheVariants as page
use Rattle.terminal_presses.specs.declared.press.FunctionKey.{FunctionKey}
use Rattle.terminal_presses.specs.declared.press.FunctionKey.TheVariants.{F1, F2, F3, F4, F5, F6, F7, F8, F9, F10}
use Rattle.terminal_presses.specs.declared.press.FunctionKey.TheVariants.{F11, F12}
use Rattle.terminal_presses.specs.declared.press.Scroll.{Scroll as ScrollKey}
use Rattle.terminal_presses.specs.declared.press.Scroll.TheVariants.{WheelUp, WheelDown, PageUp, PageDown, First, Last}
use Rattle.terminal_presses.specs.declared.press.MouseReport.{MouseReport}
use Rattle.terminal_presses.specs.declared.press.WheelReport.{WheelReport}
use Rattle.terminal_presses.specs.declared.press.Press.{Press}
use Rattle.terminal_presses.specs.declared.press.Press.TheVariants.{Character, Foreign, Control, Back, Delete, Escape}
use Rattle.terminal_presses.specs.declared.press.Press.TheVariants.{Arrow}
use Rattle.terminal_presses.specs.declared.press.Press.TheVariants.{Page, Function, Mouse, PasteBegins, PasteEnds, Size}
use Rattle.terminal_presses.specs.declared.press.Press.TheVariants.{Leap, Scroll, Wheel, FileFails, Unknown}
use Rattle.terminal_presses.specs.declared.press.Presses.{Presses}
use Rattle.terminal_presses.specs.declared.press.Presses.TheVariants.{Nothing}
use Rattle.terminal_presses.specs.Singles.{single}
use Rattle.terminal_keyboard.specs.declared.place.Mark.{Mark}
use Rattle.terminal_keyboard.specs.declared.place.Mark.TheVariants as mark
use Rattle.terminal_keyboard.specs.declared.place.Numbers.{Numbers}
use Rattle.terminal_keyboard.specs.declared.place.SequencePlace.{SequencePlace}
use Rattle.terminal_keyboard.specs.declared.place.SequencePlace.TheVariants as place
use Rattle.terminal_keyboard.specs.declared.parser.Parser.{Parser}
use Rattle.terminal_keyboard.specs.Presses.{grounded, preceded, press_alone, function_at, arrow_at, lettered}
use Rattle.terminal_keyboard.specs.Presses.{numbered_key}
use Rattle.terminal_keyboard.specs.Presses.{longer, with_digit, with_number, mouse_mark, reported_press, moused}
use Rattle.terminal_keyboard.specs.Presses.{sized, unmarked_press}
use Rattle.terminal_keyboard.specs.Presses.{sequence_end, after_ground, after_escape, after_shift, after_console}
use Rattle.terminal_keyboard.specs.Presses.{after_sequence, after_byte, after_quiet, sequence_after, at_rest}
use Rattle.terminal_keyboard.specs.Presses.{heard_by, in_order}
use Rattle.terminal_keyboard.specs.Presses.{parser_after, presses_heard, held_with, with_shift, with_alt}
use Rattle.terminal_keyboard.specs.Presses.{scroll_with_alt, with_control, arrow_with_control}
use Rattle.terminal_keyboard.specs.Presses.{arrow_with_alt}
use Rattle.terminal_keyboard.specs.Presses.{wheel_press}
use Rattle.terminal_keyboard.specs.Spelling.{value_from, IsNumeral, report_number, report_end, IsMouseText, IsReport}
use Rattle.terminal_keyboard.specs.Spelling.{IsWheel, IsSize}
use Rattle.terminal_keyboard.specs.Spelling.{IsControlSpelled, byte_with_alt, number_held, wheel_number}
use Rattle.terminal_keyboard.specs.Spelling.{IsLongCharacter}
use Rattle.terminal_keyboard.specs.Spelling.{is_control, arrow_spellings, leap_spellings, scroll_spellings}
use Rattle.terminal_keyboard.specs.Spelling.{page_spelling}
use Rattle.terminal_keyboard.specs.Spelling.{by_digit, function_spellings, key_sequence, IsOneOf, SpellsPress}
use Rattle.terminal_keyboard.specs.Spelling.{bytes_heard, IsPressHeard}
use Rattle.terminal_keyboard.specs.Spelling.{is_alone_with_alt}
use Rattle.terminal_keyboard.specs.Spelling.{AreHeard}
use Rattle.terminal_presses.specs.Runs.{Corner, moved_with, report_with}
use Rattle.terminal_presses.proofs.Tests.{both, is_not}
use Rattle.terminal_keyboard.proofs.Pieces.{parser_of_both, pressed_of_both}

-- that press is found in what is heard, and nothing is left of it
abbrev Finds : Press → List Heard → Type 0
Finds press heard = (parser_after at_rest heard ≡ at_rest) × (presses_heard at_rest heard ≡ press ∷ [])

-- ---- tests

neither : (a b : Bool) → not (a || b) ≡ true → (a ≡ false) × (b ≡ false)
neither true b h = absurd cc
neither false true h = absurd cc
neither false false h = (refl, refl)

none_of : (a b : Bool) → a || b ≡ false → (a ≡ false) × (b ≡ false)
none_of true b h = absurd cc
none_of false b h = (refl, h)

-- ---- single bytes

abbrev in_some : Option Press → List Press
in_some None = []
in_some (Some press) = press ∷ []

alone_in_order : (o : Option Press)
    → ((press_alone (place.Ground, o)).0 ≡ place.Ground) × (in_order (press_alone (place.Ground, o)).1 ≡ in_some o)
alone_in_order None = (refl, refl)
alone_in_order (Some press) = (refl, refl)

byte_heard : (b : ℕ) (o : Option Press) → grounded b ≡ (place.Ground, o)
    → ((heard_by at_rest (Byte b)).0 ≡ at_rest) × (in_order (heard_by at_rest (Byte b)).1 ≡ in_some o)
unfolding heard_by sequence_after after_byte after_ground
byte_heard b o is =
    let (at, said) = alone_in_order o in
    (rw (is, at) refl, rw is said)

found_by : (b : ℕ) (press : Press) → grounded b ≡ (place.Ground, Some press) → Finds press (bytes_heard (b ∷ []))
unfolding heard_by sequence_after after_byte after_ground
found_by b press is = (rw is refl, rw is refl)

not_escape : (b : ℕ) → is_text_byte b ≡ true → nat_eq b 27 ≡ false
unfolding is_text_byte
not_escape b is = grind (arith, nat_tests)

character_grounded : (b : ℕ) → is_text_byte b ≡ true → grounded b ≡ (place.Ground, Some (Character b))
unfolding grounded single
character_grounded b is = rw (not_escape b is, is) refl

low_byte : (b : ℕ) → nat_lt b 32 ≡ true → nat_eq b 127 ≡ false
low_byte b low = grind (arith, nat_tests)

control_grounded : (b : ℕ) → is_control b ≡ true → grounded b ≡ (place.Ground, Some (Control b))
unfolding grounded single
control_grounded b is =
    let (low, others) = both (nat_lt b 32) (not (is_text_byte b || ((b == 8) || (b == 27)))) is in
    let (no_text, keys) = neither (is_text_byte b) ((b == 8) || (b == 27)) others in
    let (no_back, no_escape) = none_of (b == 8) (b == 27) keys in
    rw (no_escape, no_text, no_back, low_byte b low, low) refl

-- what is no text byte, no key of its own and no control
high_byte : (b : ℕ) → 128 ≤ b
    → (nat_eq b 27 ≡ false) × (is_text_byte b ≡ false) × (nat_eq b 8 ≡ false) × (nat_eq b 127 ≡ false)
    × (nat_lt b 32 ≡ false)
unfolding is_text_byte
high_byte b high = (
  grind (arith, nat_tests),
  grind (arith, nat_tests),
  grind (arith, nat_tests),
  grind (arith, nat_tests),
  grind (arith, nat_tests),
)

foreign_grounded : (b : ℕ) → 192 ≤ b → grounded b ≡ (place.Ground, Some Foreign)
unfolding grounded single
foreign_grounded b high =
    let (a, c, d, e, f) = high_byte b (omega arith) in
    let g : nat_lt b 192 ≡ false = grind (arith, nat_tests) in
    rw (a, c, d, e, f, g) refl

follower_grounded : (b : ℕ) → lies_within 128 191 b ≡ true → grounded b ≡ (place.Ground, None)
unfolding grounded single
follower_grounded b is =
    let least : 128 ≤ b = grind (arith, nat_tests) in
    let (a, c, d, e, f) = high_byte b least in
    let g : nat_lt b 192 ≡ true = grind (arith, nat_tests) in
    rw (a, c, d, e, f, g) refl

-- a byte between two spellings, and then others
byte_before : (b : ℕ) (o : Option Press) (more : List Heard) → grounded b ≡ (place.Ground, o)
    → (parser_after at_rest (Byte b ∷ more) ≡ parser_after at_rest more)
    × (presses_heard at_rest (Byte b ∷ more) ≡ in_some o ++ presses_heard at_rest more)
byte_before b o more is =
    let (at, said) = byte_heard b o is in (
      ap (λ p. parser_after p more) at,
      ap (λ l. l ++ presses_heard (heard_by at_rest (Byte b)).0 more) said ∙ ap (λ p. in_some o ++ presses_heard p more) at,
    )

followers_found : (rest : List ℕ) → list_all (lies_within 128 191) rest ≡ true
    → (parser_after at_rest (bytes_heard rest) ≡ at_rest) × (presses_heard at_rest (bytes_heard rest) ≡ [])
followers_found [] all = (refl, refl)
followers_found (b ∷ rest) all =
    let (one, others) = both (lies_within 128 191 b) (list_all (lies_within 128 191) rest) all in
    let (parser, presses) = followers_found rest others in
    let first = byte_before b None (bytes_heard rest) (follower_grounded b one) in
    (first.0 ∙ parser, first.1 ∙ presses)

foreign_first : (first : ℕ) (rest : List ℕ) → 192 ≤ first → list_all (lies_within 128 191) rest ≡ true
    → Finds Foreign (bytes_heard (first ∷ rest))
foreign_first first rest high all =
    let (parser, presses) = followers_found rest all in
    let one = byte_before first (Some Foreign) (bytes_heard rest) (foreign_grounded first high) in
    (one.0 ∙ parser, one.1 ∙ ap (λ l. Foreign ∷ l) presses)

foreign_found : (text : List ℕ) → IsLongCharacter text → Finds Foreign (bytes_heard text)
foreign_found text is =
    subst (λ t. Finds Foreign (bytes_heard t)) (sym is.parts) (foreign_first is.first is.rest is.high is.goes_on)

-- ---- spellings as they stand

abbrev AllFound : Press → List (List ℕ) → Type 0
AllFound press [] = Unit {0}
AllFound press (one ∷ others) = Finds press (bytes_heard one) × AllFound press others

one_found : (press : Press) (texts : List (List ℕ)) (text : List ℕ) → AllFound press texts → IsOneOf texts text
    → Finds press (bytes_heard text)
one_found press [] text all is = absurd is
one_found press (one ∷ others) text all (inl same) = subst (λ t. Finds press (bytes_heard t)) (sym same) all.0
one_found press (one ∷ others) text all (inr is) = one_found press others text all.1 is

back_found : AllFound Back ((8 ∷ []) ∷ (127 ∷ []) ∷ [])
unfolding heard_by sequence_after after_byte after_ground grounded single is_text_byte
back_found = ((refl, refl), ((refl, refl), tt))

escape_found : Finds Escape (Byte 27 ∷ Quiet ∷ [])
unfolding heard_by sequence_after after_byte after_quiet after_ground grounded
escape_found = (refl, refl)

arrow_found : (key : ArrowKey) → AllFound (Arrow key) (arrow_spellings key)
unfolding heard_by sequence_after after_byte after_ground grounded after_escape after_shift after_sequence is_digit with_digit
    with_number longer sequence_end unmarked_press held_with with_control arrow_with_control lettered numbered_key arrow_at
arrow_found arrow.Up = ((refl, refl), ((refl, refl), tt))
arrow_found arrow.Down = ((refl, refl), ((refl, refl), tt))
arrow_found arrow.Right = ((refl, refl), ((refl, refl), tt))
arrow_found arrow.Left = ((refl, refl), ((refl, refl), tt))
arrow_found arrow.Home = ((refl, refl), ((refl, refl), ((refl, refl), ((refl, refl), tt))))
arrow_found arrow.End = ((refl, refl), ((refl, refl), ((refl, refl), ((refl, refl), tt))))
arrow_found arrow.WordRight = ((refl, refl), tt)
arrow_found arrow.WordLeft = ((refl, refl), tt)

leap_found : (key : ArrowKey) → AllFound (Leap key) (leap_spellings key)
unfolding heard_by sequence_after after_byte after_ground grounded after_escape after_sequence is_digit with_digit
    with_number longer sequence_end unmarked_press held_with with_shift lettered arrow_at
leap_found arrow.Up = ((refl, refl), tt)
leap_found arrow.Down = ((refl, refl), tt)
leap_found arrow.Right = ((refl, refl), tt)
leap_found arrow.Left = ((refl, refl), tt)
leap_found arrow.Home = ((refl, refl), tt)
leap_found arrow.End = ((refl, refl), tt)
leap_found arrow.WordRight = tt
leap_found arrow.WordLeft = tt

scroll_found : (scroll : ScrollKey) → AllFound (Scroll scroll) (scroll_spellings scroll)
unfolding heard_by sequence_after after_byte after_ground grounded after_escape after_sequence is_digit with_digit
    with_number longer sequence_end unmarked_press held_with with_control arrow_with_control lettered numbered_key
scroll_found PageUp = ((refl, refl), tt)
scroll_found PageDown = ((refl, refl), tt)
scroll_found First = ((refl, refl), tt)
scroll_found Last = ((refl, refl), tt)
scroll_found WheelUp = tt
scroll_found WheelDown = tt

page_found : (key : PageKey) → Finds (Page key) (bytes_heard (page_spelling key))
unfolding heard_by sequence_after after_byte after_ground grounded after_escape after_sequence is_digit with_digit with_number
    longer sequence_end unmarked_press held_with with_alt scroll_with_alt arrow_with_alt lettered arrow_at numbered_key
page_found page.Up = (refl, refl)
page_found page.Down = (refl, refl)
page_found page.Right = (refl, refl)
page_found page.Left = (refl, refl)

function_found : (key : FunctionKey) → AllFound (Function key) (function_spellings key)
unfolding heard_by sequence_after after_byte after_ground grounded after_escape after_shift after_sequence after_console
    is_digit with_digit longer sequence_end unmarked_press held_with lettered numbered_key function_at
function_found F1 = ((refl, refl), ((refl, refl), ((refl, refl), ((refl, refl), ((refl, refl), tt)))))
function_found F2 = ((refl, refl), ((refl, refl), ((refl, refl), ((refl, refl), ((refl, refl), tt)))))
function_found F3 = ((refl, refl), ((refl, refl), ((refl, refl), ((refl, refl), ((refl, refl), tt)))))
function_found F4 = ((refl, refl), ((refl, refl), ((refl, refl), ((refl, refl), ((refl, refl), tt)))))
function_found F5 = ((refl, refl), ((refl, refl), ((refl, refl), tt)))
function_found F6 = ((refl, refl), ((refl, refl), tt))
function_found F7 = ((refl, refl), ((refl, refl), tt))
function_found F8 = ((refl, refl), tt)
function_found F9 = ((refl, refl), tt)
function_found F10 = ((refl, refl), tt)
function_found F11 = ((refl, refl), ((refl, refl), tt))
function_found F12 = ((refl, refl), tt)

pub paste_found : Finds PasteBegins (bytes_heard (key_sequence (50 ∷ 48 ∷ 48 ∷ 126 ∷ [])))
    × Finds PasteEnds (bytes_heard (key_sequence (50 ∷ 48 ∷ 49 ∷ 126 ∷ [])))
unfolding heard_by sequence_after after_byte after_ground grounded after_escape after_sequence is_digit with_digit longer
    sequence_end unmarked_press held_with numbered_key
paste_found = ((refl, refl), (refl, refl))

delete_found : Finds Delete (bytes_heard (by_digit 51))
unfolding heard_by sequence_after after_byte after_ground grounded after_escape after_sequence is_digit with_digit longer
    sequence_end unmarked_press held_with numbered_key
delete_found = (refl, refl)

failure_found : Finds FileFails (bytes_heard (key_sequence (50 ∷ 48 ∷ 50 ∷ 126 ∷ [])))
unfolding heard_by sequence_after after_byte after_ground grounded after_escape after_sequence is_digit with_digit longer
    sequence_end unmarked_press held_with numbered_key
failure_found = (refl, refl)

-- ---- numbers

-- what is heard by one parser goes on as what is heard by another
abbrev Goes : Parser → List Heard → Parser → List Heard → Type 0
Goes p heard q more = (parser_after p heard ≡ parser_after q more) × (presses_heard p heard ≡ presses_heard q more)

goes_on : (p : Parser) (a : List Heard) (q : Parser) (b : List Heard) (r : Parser) (c : List Heard)
    → Goes p a q b → Goes q b r c → Goes p a r c
goes_on p a q b r c first second = (first.0 ∙ second.0, first.1 ∙ second.1)

abbrev numbers : Mark → ℕ → ℕ → ℕ → ℕ → Numbers
numbers m last first second third = record {
  mark = m;
  last = last;
  first = first;
  second = second;
  third = third;
}

abbrev amid : Numbers → Parser
amid s = record { place = place.Sequence s }

-- the numbers, with these digits more
abbrev with_digits : Numbers → List ℕ → Numbers
with_digits s [] = s
with_digits s (b ∷ bs) = with_digits (with_digit s (b - 48)) bs

digit_heard : (s : Numbers) (b : ℕ) → is_digit b ≡ true
    → heard_by (amid s) (Byte b) ≡ (amid (with_digit s (b - 48)), Nothing)
unfolding heard_by sequence_after after_byte after_sequence
digit_heard s b is = rw is refl

digits_go : (s : Numbers) (digits text : List ℕ) → list_all is_digit digits ≡ true
    → Goes (amid s) (bytes_heard (digits ++ text)) (amid (with_digits s digits)) (bytes_heard text)
digits_go s [] text all = (refl, refl)
digits_go s (b ∷ bs) text all =
    let (one, others) = both (is_digit b) (list_all is_digit bs) all in
    let (parser, presses) = digits_go (with_digit s (b - 48)) bs text others in
    let first = digit_heard s b one in (
      ap (λ (x : Parser × Presses). parser_after x.0 (bytes_heard (bs ++ text))) first ∙ parser,
      ap (λ (x : Parser × Presses). in_order x.1 ++ presses_heard x.0 (bytes_heard (bs ++ text))) first ∙ presses,
    )

-- the number that they make of one in front of them, as far as it is told apart
abbrev grown : ℕ → List ℕ → ℕ
grown n [] = n
grown n (b ∷ bs) = grown (longer n (b - 48)) bs

value_grows : (n : ℕ) (digits : List ℕ) → n ≤ value_from n digits
value_grows n [] = omega arith
value_grows n (b ∷ bs) = let h = value_grows (n * 10 + (b - 48)) bs in omega (arith, h)

grown_is : (n : ℕ) (digits : List ℕ) → value_from n digits ≤ 65535 → grown n digits ≡ value_from n digits
unfolding longer
grown_is n [] most = refl
grown_is n (b ∷ bs) most =
    let h = value_grows (n * 10 + (b - 48)) bs in
    let e : min (n * 10 + (b - 48)) 65535 ≡ n * 10 + (b - 48) = omega (arith, h, most) in
    rw e (grown_is (n * 10 + (b - 48)) bs most)

numeral_value : (n : ℕ) (digits : List ℕ) → IsNumeral n digits → grown 0 digits ≡ n
numeral_value n digits is =
    let most : value_from 0 digits ≤ 65535 = omega (arith, is.value, is.small) in
    grown_is 0 digits most ∙ is.value

first_digits : (m : Mark) (v x y : ℕ) (digits : List ℕ)
    → with_digits (numbers m 0 v x y) digits ≡ numbers m 0 (grown v digits) x y
unfolding with_digit
first_digits m v x y [] = refl
first_digits m v x y (b ∷ bs) = first_digits m (longer v (b - 48)) x y bs

second_digits : (m : Mark) (x v y : ℕ) (digits : List ℕ)
    → with_digits (numbers m 1 x v y) digits ≡ numbers m 1 x (grown v digits) y
unfolding with_digit
second_digits m x v y [] = refl
second_digits m x v y (b ∷ bs) = second_digits m x (longer v (b - 48)) y bs

third_digits : (m : Mark) (x y v : ℕ) (digits : List ℕ)
    → with_digits (numbers m 2 x y v) digits ≡ numbers m 2 x y (grown v digits)
unfolding with_digit
third_digits m x y v [] = refl
third_digits m x y v (b ∷ bs) = third_digits m x y (longer v (b - 48)) bs

numeral_goes : (s t : Numbers) (n : ℕ) (digits text : List ℕ) → IsNumeral n digits → with_digits s digits ≡ t
    → Goes (amid s) (bytes_heard (digits ++ text)) (amid t) (bytes_heard text)
numeral_goes s t n digits text is so =
    subst (λ u. Goes (amid s) (bytes_heard (digits ++ text)) (amid u) (bytes_heard text)) so (digits_go s digits text is.digits_all)

first_goes : (m : Mark) (n : ℕ) (digits text : List ℕ) → IsNumeral n digits
    → Goes (amid (numbers m 0 0 0 0)) (bytes_heard (digits ++ 59 ∷ text)) (amid (numbers m 1 n 0 0)) (bytes_heard text)
unfolding heard_by sequence_after after_byte after_sequence is_digit with_number
first_goes m n digits text is =
    numeral_goes (numbers m 0 0 0 0) (numbers m 0 n 0 0) n digits (59 ∷ text) is
    (first_digits m 0 0 0 digits ∙ ap (λ v. numbers m 0 v 0 0) (numeral_value n digits is))

second_goes : (m : Mark) (x n : ℕ) (digits text : List ℕ) → IsNumeral n digits
    → Goes (amid (numbers m 1 x 0 0)) (bytes_heard (digits ++ 59 ∷ text)) (amid (numbers m 2 x n 0)) (bytes_heard text)
unfolding heard_by sequence_after after_byte after_sequence is_digit with_number
second_goes m x n digits text is =
    numeral_goes (numbers m 1 x 0 0) (numbers m 1 x n 0) n digits (59 ∷ text) is
    (second_digits m x 0 0 digits ∙ ap (λ v. numbers m 1 x v 0) (numeral_value n digits is))

third_goes : (m : Mark) (x y n : ℕ) (digits text : List ℕ) → IsNumeral n digits
    → Goes (amid (numbers m 2 x y 0)) (bytes_heard (digits ++ text)) (amid (numbers m 2 x y n)) (bytes_heard text)
third_goes m x y n digits text is =
    numeral_goes (numbers m 2 x y 0) (numbers m 2 x y n) n digits text is
    (third_digits m x y 0 digits ∙ ap (λ v. numbers m 2 x y v) (numeral_value n digits is))

-- ---- mouse reports

abbrev corner : ℕ → ℕ → Corner
corner column row = record { column = column; row = row }

abbrev Again : Button → Bool → ℕ → ℕ → Bool → Bool → Bool → Type 0
Again button down column row shift alt control =
    reported_press (numbers mark.Mouse 2 (report_number (report_with down shift alt control button (corner column row))) column
    row) down ≡ moved_with down shift alt control button (corner column row)

by_bools : (P : Bool → Bool → Bool → Type 0) → P true true true → P true true false → P true false true
    → P true false false → P false true true → P false true false → P false false true → P false false false
    → (a b c : Bool) → P a b c
by_bools P s t u v w x y z true true true = s
by_bools P s t u v w x y z true true false = t
by_bools P s t u v w x y z true false true = u
by_bools P s t u v w x y z true false false = v
by_bools P s t u v w x y z false true true = w
by_bools P s t u v w x y z false true false = x
by_bools P s t u v w x y z false false true = y
by_bools P s t u v w x y z false false false = z

reported_again : (button : Button) (down shift alt control : Bool) (column row : ℕ)
    → Again button down column row shift alt control
unfolding reported_press
reported_again Left down shift alt control column row =
    by_bools (Again Left down column row) refl refl refl refl refl refl refl refl shift alt control
reported_again Middle down shift alt control column row =
    by_bools (Again Middle down column row) refl refl refl refl refl refl refl refl shift alt control
reported_again Right down shift alt control column row =
    by_bools (Again Right down column row) refl refl refl refl refl refl refl refl shift alt control

abbrev reporting : MouseReport → Parser
reporting report = amid (numbers mark.Mouse 2 (report_number report) report.column report.row)

abbrev ReportEnds : MouseReport → ℕ → Type 0
ReportEnds report last =
    (parser_after (reporting report) (bytes_heard (last ∷ [])) ≡ at_rest)
    × (presses_heard (reporting report) (bytes_heard (last ∷ [])) ≡ Mouse report ∷ [])

report_ends : (button : Button) (down shift alt control : Bool) (column row : ℕ)
    → ReportEnds (report_with down shift alt control button (corner column row)) (report_end down)
unfolding heard_by sequence_after after_byte after_sequence is_digit sequence_end moused
report_ends button true shift alt control column row =
    (refl, rw (reported_again button true shift alt control column row) refl)
report_ends button false shift alt control column row =
    (refl, rw (reported_again button false shift alt control column row) refl)

report_begins : (text : List ℕ)
    → Goes at_rest (bytes_heard (27 ∷ 91 ∷ 60 ∷ text)) (amid (numbers mark.Mouse 0 0 0 0)) (bytes_heard text)
unfolding heard_by sequence_after after_byte after_ground grounded after_escape after_sequence is_digit mouse_mark
report_begins text = (refl, refl)

-- what is heard amid a report before its end
abbrev reporting_at : ℕ → ℕ → ℕ → Parser
reporting_at n column row = amid (numbers mark.Mouse 2 n column row)

-- a report says what it says by its end
abbrev Ends : ℕ → ℕ → ℕ → ℕ → Press → Type 0
Ends n column row last press =
    (parser_after (reporting_at n column row) (bytes_heard (last ∷ [])) ≡ at_rest)
    × (presses_heard (reporting_at n column row) (bytes_heard (last ∷ [])) ≡ press ∷ [])

mouse_found : (n column row last : ℕ) (press : Press) (text : List ℕ) → IsMouseText n column row last text
    → Ends n column row last press → Finds press (bytes_heard text)
mouse_found n column row last press text is e =
    let end = last ∷ [] in
    let a = report_begins (is.number ++ 59 ∷ (is.across ++ 59 ∷ (is.down ++ end))) in
    let b = first_goes mark.Mouse n is.number (is.across ++ 59 ∷ (is.down ++ end)) is.number_is in
    let c = second_goes mark.Mouse n column is.across (is.down ++ end) is.column_is in
    let d = third_goes mark.Mouse n column row is.down end is.row_is in
    subst (λ t. Finds press (bytes_heard t)) (sym is.parts)
    (a.0 ∙ b.0 ∙ c.0 ∙ d.0 ∙ e.0, a.1 ∙ b.1 ∙ c.1 ∙ d.1 ∙ e.1)

report_found : (report : MouseReport) (text : List ℕ) → IsReport report text → Finds (Mouse report) (bytes_heard text)
report_found report text is =
    mouse_found (report_number report) report.column report.row (report_end report.is_down) (Mouse report) text is
    (report_ends report.button report.is_down report.with_shift report.with_alt report.with_control report.column report.row)

abbrev wheel_of : Bool → ℕ → ℕ → WheelReport
wheel_of up column row = record { is_up = up; column = column; row = row }

abbrev WheelAgain : Bool → ℕ → ℕ → Bool → Bool → Bool → Type 0
WheelAgain up column row shift alt control =
    reported_press (numbers mark.Mouse 2 (number_held (wheel_number up) shift alt control) column row) true
    ≡ Wheel (wheel_of up column row)

wheel_again : (up shift alt control : Bool) (column row : ℕ) → WheelAgain up column row shift alt control
unfolding reported_press wheel_press
wheel_again true shift alt control column row =
    by_bools (WheelAgain true column row) refl refl refl refl refl refl refl refl shift alt control
wheel_again false shift alt control column row =
    by_bools (WheelAgain false column row) refl refl refl refl refl refl refl refl shift alt control

wheel_ends : (up shift alt control : Bool) (column row : ℕ)
    → Ends (number_held (wheel_number up) shift alt control) column row 77 (Wheel (wheel_of up column row))
unfolding heard_by sequence_after after_byte after_sequence is_digit sequence_end moused
wheel_ends up shift alt control column row = (refl, rw (wheel_again up shift alt control column row) refl)

wheel_found : (report : WheelReport) (text : List ℕ) → IsWheel report text → Finds (Wheel report) (bytes_heard text)
wheel_found report text (shift, alt, control, is) =
    mouse_found (number_held (wheel_number report.is_up) shift alt control) report.column report.row 77 (Wheel report) text is
    (wheel_ends report.is_up shift alt control report.column report.row)

-- ---- sizes

size_begins : (text : List ℕ)
    → Goes at_rest (bytes_heard (27 ∷ 91 ∷ 56 ∷ 59 ∷ text)) (amid (numbers mark.Plain 1 8 0 0)) (bytes_heard text)
unfolding heard_by sequence_after after_byte after_ground grounded after_escape after_sequence is_digit with_digit longer
    with_number
size_begins text = (refl, refl)

size_ends : (rows columns : ℕ)
    → (parser_after (amid (numbers mark.Plain 2 8 rows columns)) (bytes_heard (116 ∷ [])) ≡ at_rest)
    × (presses_heard (amid (numbers mark.Plain 2 8 rows columns)) (bytes_heard (116 ∷ [])) ≡ Size rows columns ∷ [])
unfolding heard_by sequence_after after_byte after_sequence is_digit sequence_end unmarked_press sized
size_ends rows columns = (refl, refl)

size_found : (rows columns : ℕ) (text : List ℕ) → IsSize rows columns text → Finds (Size rows columns) (bytes_heard text)
size_found rows columns text is =
    let a = size_begins (is.high ++ 59 ∷ (is.wide ++ 116 ∷ [])) in
    let b = second_goes mark.Plain 8 rows is.high (is.wide ++ 116 ∷ []) is.rows_are in
    let c = third_goes mark.Plain 8 rows columns is.wide (116 ∷ []) is.columns_are in
    let d = size_ends rows columns in
    subst (λ t. Finds (Size rows columns) (bytes_heard t)) (sym is.parts)
    (a.0 ∙ b.0 ∙ c.0 ∙ d.0, a.1 ∙ b.1 ∙ c.1 ∙ d.1)

-- ---- presses

alt_found : Finds (Control 25) (bytes_heard (byte_with_alt 122))
unfolding heard_by sequence_after after_byte after_ground grounded after_escape
alt_found = (refl, refl)

alt_f_found : Finds (Control 2) (bytes_heard (byte_with_alt 102))
unfolding heard_by sequence_after after_byte after_ground grounded after_escape
alt_f_found = (refl, refl)

control_found : (b : ℕ) (text : List ℕ) → IsControlSpelled b text → Finds (Control b) (bytes_heard text)
control_found b text (inl is) =
    subst (λ t. Finds (Control b) (bytes_heard t)) (sym is.1) (found_by b (Control b) (control_grounded b is.0))
control_found b text (inr (inl is)) =
    subst (λ t. Finds (Control b) (bytes_heard t)) (sym is.1)
    (subst (λ n. Finds (Control n) (bytes_heard (byte_with_alt 122))) (sym is.0) alt_found)
control_found b text (inr (inr is)) =
    subst (λ t. Finds (Control b) (bytes_heard t)) (sym is.1)
    (subst (λ n. Finds (Control n) (bytes_heard (byte_with_alt 102))) (sym is.0) alt_f_found)

spelled_found : (press : Press) (text : List ℕ) → SpellsPress press text → Finds press (bytes_heard text)
spelled_found (Character b) text is =
    subst (λ t. Finds (Character b) (bytes_heard t)) (sym is.1) (found_by b (Character b) (character_grounded b is.0))
spelled_found Foreign text is = foreign_found text is
spelled_found (Control b) text is = control_found b text is
spelled_found Back text is = one_found Back ((8 ∷ []) ∷ (127 ∷ []) ∷ []) text back_found is
spelled_found Delete text is = subst (λ t. Finds Delete (bytes_heard t)) (sym is) delete_found
spelled_found Escape text is = absurd is
spelled_found (Arrow key) text is =
    one_found (Arrow key) (arrow_spellings key) text (arrow_found key) is
spelled_found (Leap key) text is = one_found (Leap key) (leap_spellings key) text (leap_found key) is
spelled_found (Scroll scroll) text is =
    one_found (Scroll scroll) (scroll_spellings scroll) text (scroll_found scroll) is
spelled_found (Page key) text is = subst (λ t. Finds (Page key) (bytes_heard t)) (sym is) (page_found key)
spelled_found (Function key) text is = one_found (Function key) (function_spellings key) text (function_found key) is
spelled_found (Mouse report) text is = report_found report text is
spelled_found (Wheel report) text is = wheel_found report text is
spelled_found PasteBegins text is = subst (λ t. Finds PasteBegins (bytes_heard t)) (sym is) paste_found.0
spelled_found PasteEnds text is = subst (λ t. Finds PasteEnds (bytes_heard t)) (sym is) paste_found.1
spelled_found (Size rows columns) text is = size_found rows columns text is
spelled_found FileFails text is = subst (λ t. Finds FileFails (bytes_heard t)) (sym is) failure_found
spelled_found Unknown text is = absurd is

heard_found : (press : Press) (heard : List Heard) → IsPressHeard press heard → Finds press heard
heard_found press heard (inl s) = subst (λ h. Finds press h) (sym s.is) (spelled_found press s.text s.spells)
heard_found press heard (inr e) =
    subst (λ p. Finds p heard) (sym e.0) (subst (λ h. Finds Escape h) (sym e.1) escape_found)

pub all_found : (presses : List Press) (heard : List Heard) → AreHeard presses heard
    → (parser_after at_rest heard ≡ at_rest) × (presses_heard at_rest heard ≡ presses)
all_found [] heard is = (ap (λ h. parser_after at_rest h) is, ap (λ h. presses_heard at_rest h) is)
all_found (press ∷ presses) heard is =
    let (front, rest, one, others, parts) = is in
    let first = heard_found press front one in
    let more = all_found presses rest others in (
      ap (λ h. parser_after at_rest h) parts ∙ parser_of_both at_rest front rest
          ∙ ap (λ p. parser_after p rest) first.0 ∙ more.0,
      ap (λ h. presses_heard at_rest h) parts ∙ pressed_of_both at_rest front rest
          ∙ ap (λ l. l ++ presses_heard (parser_after at_rest front) rest) first.1
          ∙ ap (λ p. press ∷ presses_heard p rest) first.0 ∙ ap (λ l. press ∷ l) more.1,
    )

-- ---- an escape byte that begins no other spelling

preceded_is : (next : SequencePlace × Option Press)
    → ((preceded Escape next).0 ≡ (press_alone next).0)
    × (in_order (preceded Escape next).1 ≡ Escape ∷ in_order (press_alone next).1)
unfolding preceded
preceded_is (at, None) = (refl, refl)
preceded_is (at, Some press) = (refl, refl)

pub escape_alone : (b : ℕ) (more : List Heard) → b < 32
    → presses_heard at_rest (Byte 27 ∷ Byte b ∷ more) ≡ Escape ∷ presses_heard at_rest (Byte b ∷ more)
unfolding heard_by sequence_after after_byte after_ground grounded after_escape
escape_alone b more low =
    let bracket : nat_eq b 91 ≡ false = grind (arith, nat_tests) in
    let letter : nat_eq b 79 ≡ false = grind (arith, nat_tests) in
    let digit : nat_le 49 b ≡ false = grind (arith, nat_tests) in
    let again : nat_eq b 122 ≡ false = grind (arith, nat_tests) in
    let before : nat_eq b 102 ≡ false = grind (arith, nat_tests) in
    let space : nat_eq b 32 ≡ false = grind (arith, nat_tests) in
    let below : nat_lt b 32 ≡ true = grind (arith, nat_tests) in
    let e = preceded_is (grounded b) in
    rw (bracket, letter, digit, space, again, before, below, e.0, e.1) refl

pub alt_alone : (b : ℕ) (more : List Heard) → is_alone_with_alt b ≡ true
    → presses_heard at_rest (Byte 27 ∷ Byte b ∷ more) ≡ Unknown ∷ presses_heard at_rest more
unfolding heard_by sequence_after after_byte after_ground grounded after_escape
alt_alone b more is =
    let f = (b == 102) || lies_within 49 55 b in
    let keys = (b == 122) || f in
    let (above, others) = none_of (nat_le b 32) ((b == 79) || ((b == 91) || keys)) (is_not _ is) in
    let (letter, rest) = none_of (b == 79) ((b == 91) || keys) others in
    let (bracket, these) = none_of (b == 91) keys rest in
    let (again, last) = none_of (b == 122) f these in
    let (before, digit) = none_of (b == 102) (lies_within 49 55 b) last in
    let space : nat_eq b 32 ≡ false = grind (arith, nat_tests) in
    let high : nat_lt b 32 ≡ false = grind (arith, nat_tests) in
    rw (bracket, letter, digit, space, again, before, high) refl

-- ---- what is pasted

single_grounded : (b : ℕ) → nat_eq b 27 ≡ false → grounded b ≡ (place.Ground, single b)
unfolding grounded
single_grounded b no_escape = rw no_escape refl

some_first : (o : Option Press) (l : List Press) → in_some o ++ l ≡ cons_option o l
some_first None l = refl
some_first (Some press) l = refl

-- bytes among which no escape byte is are what each says by itself
pub bytes_found : (text : List ℕ) → list_all (λ b. not (b == 27)) text ≡ true
    → (parser_after at_rest (bytes_heard text) ≡ at_rest) × (presses_heard at_rest (bytes_heard text) ≡ filter_map single text)
bytes_found [] all = (refl, refl)
bytes_found (b ∷ text) all =
    let (one, others) = both (not (b == 27)) (list_all (λ b. not (b == 27)) text) all in
    let (parser, presses) = bytes_found text others in
    let first = byte_before b (single b) (bytes_heard text) (single_grounded b (is_not (nat_eq b 27) one)) in (
      first.0 ∙ parser,
      first.1 ∙ ap (λ l. in_some (single b) ++ l) presses ∙ some_first (single b) (filter_map single text),
    )
