-- The parts of an event, and what follows for spellings.
use Rattle.std.proofs.Common.{◌≡◌, ℕ, ◌+◌, ◌<◌, ◌≤◌, ◌^◌, Bool, true, false, nat_eq, List, ◌++◌, length}
use Rattle.std.proofs.Common.{Some, refl, sym, ap, subst, ◌∙◌, arith, length-append}
use Rattle.std.specs.Prelude.{IsTrue, ◌&&◌, map, slice_get, option_map}
use Rattle.std.specs.List.{range_with_len}
use Rattle.std.proofs.lemmas.List.FromFn.{get_or-range_with_len}
use Rattle.std.proofs.lemmas.Option.{slice_get-map, slice_get_within, get_or_from_slice_get}
use Rattle.std.proofs.lemmas.Bool.{eqb-true, leb-true, eq-eqb}
use Rattle.event_bytes.specs.declared.keys.Key.{Key as KeyOf}
use Rattle.event_bytes.specs.declared.keys.Key.TheVariants.{Back, Copy, Paste, Cut, Escape}
use Rattle.event_bytes.specs.declared.keys.Keys.{Keys}
use Rattle.event_bytes.specs.declared.keys.Keys.TheVariants.{Left, LeftMiddle, LeftRight, Middle, MiddleLeft}
use Rattle.event_bytes.specs.declared.keys.Keys.TheVariants.{MiddleRight, Right, RightLeft, RightMiddle}
use Rattle.event_bytes.specs.declared.event.Cell.{Cell}
use Rattle.event_bytes.specs.declared.event.Drag.{Drag}
use Rattle.event_bytes.specs.declared.event.Event.{Event}
use Rattle.event_bytes.specs.declared.event.Event.TheVariants.{Typed, Key, Mark, Point, File}
use Rattle.event_bytes.specs.Bytes.{is_name, is_file_bytes, is_typed_bytes}
use Rattle.event_bytes.specs.Keys.{all_of_keyboard, all_of_mouse, key_numbered, key_number, keys_of, keys_number}
use Rattle.event_bytes.specs.Parts.{Reader, ◌>>=◌, byte_at, byte, word_bytes, counted_bytes, IsPart}
use Rattle.event_bytes.specs.Spelling.{IsByte, IsEvent, kind, event_body, spelling, BeginsWithEvent}
use Rattle.event_bytes.specs.Reading.{name_at, file_bytes_at, typed_bytes_at, event_file_at, key_at, keys_at, event_cell_at}
use Rattle.event_bytes.specs.Reading.{drag_at}
use Rattle.event_bytes.specs.Reading.{typed_body_at, key_body_at, mark_body_at, point_body_at, file_body_at, body_at}
use Rattle.event_bytes.specs.Reading.{event_at}
use Rattle.event_bytes.proofs.PartLaws.{some_is, whole, field, last, only, recast, tail, made, either, none, numbered}
use Rattle.event_bytes.proofs.PartLaws.{byte_part, word_part, counted_part}

both : (a b : Bool) → a && b ≡ true → (a ≡ true) × (b ≡ true)
both true b h = (refl, h)
both false b h = absurd cc

short_name : (name : List ℕ) → is_name name ≡ true → length name ≤ 31
short_name name valid = leb-true (length name) 31 (both _ _ valid).0

short_file : (bytes : List ℕ) → is_file_bytes bytes ≡ true → length bytes ≤ 900
short_file bytes valid = leb-true (length bytes) 900 (both _ _ valid).0

short_typed : (bytes : List ℕ) → is_typed_bytes bytes ≡ true → length bytes ≤ 900
short_typed bytes valid = short_file bytes (both _ _ valid).1

pub name_part : IsPart (counted_bytes byte) (λ name. IsTrue (is_name name)) name_at
unfolding name_at
name_part = recast (λ name fits. fits.1) (λ name valid. (omega (arith, short_name name valid), valid))
    (only is_name (counted_part byte_part))

file_bytes_part : IsPart (counted_bytes word_bytes) (λ bytes. IsTrue (is_file_bytes bytes)) file_bytes_at
unfolding file_bytes_at
file_bytes_part =
    recast (λ bytes fits. fits.1) (λ bytes valid. (omega (arith, short_file bytes valid), valid))
    (only is_file_bytes (counted_part word_part))

-- a name, and the bytes of the file
abbrev Pair : Type 0
Pair = List ℕ × List ℕ

file_part : IsPart (λ (f : Pair). counted_bytes byte f.0 ++ counted_bytes word_bytes f.1) (λ f. IsTrue (is_name f.0)
    × IsTrue (is_file_bytes f.1)) event_file_at
unfolding event_file_at
file_part = whole (
    field _ (λ (f : Pair). f.0) name_part (λ name _.
    last (λ (f : Pair). f.1) (λ bytes. (name, bytes)) file_bytes_part (λ bytes. (tt, refl)) (λ bytes. refl)
    (λ f known. ap (λ n. (n, f.1)) (sym known.1))))

typed_part : IsPart (counted_bytes word_bytes) (λ bytes. IsTrue (is_typed_bytes bytes)) typed_bytes_at
unfolding typed_bytes_at
typed_part =
    recast (λ bytes fits. fits.1) (λ bytes valid. (omega (arith, short_typed bytes valid), valid))
    (only is_typed_bytes (counted_part word_part))

-- ---- keys by their numbers, which are their places in the list of all

module _ {A : Type 0} (all : List A) (number : A → ℕ) (in_order : map number all ≡ range_with_len 0 (length all)) where
  place_is_number : (n : ℕ) (a : A) → slice_get all n ≡ Some a → n ≡ number a
  place_is_number n a there =
      let low : n < length all = slice_get_within all n a there in
      let here : slice_get (range_with_len 0 (length all)) n ≡ Some (number a) =
      ap (λ l. slice_get l n) (sym in_order) ∙ slice_get-map number all n ∙ ap (option_map number) there in
      let first = get_or-range_with_len 0 (length all) n 0 low in
      let second = get_or_from_slice_get (range_with_len 0 (length all)) n (number a) 0 here in
      omega (arith, first, second)

  listed : length all ≤ 256 → ((a : A) → slice_get all (number a) ≡ Some a)
      → IsPart (λ a. byte (number a)) (λ a. Unit {0})
      (λ bytes. byte_at bytes >>= λ n. slice_get all n.0 >>= λ a. Some (a, n.1))
  listed few again =
      numbered number (slice_get all) (λ a. let low = slice_get_within all (number a) a (again a) in
      omega (arith, few, low)) again place_is_number

key_again : (key : KeyOf) → key_numbered (key_number key) ≡ Some key
key_again Back = refl
key_again Copy = refl
key_again Paste = refl
key_again Cut = refl
key_again Escape = refl

keys_again : (keys : Keys) → keys_of (keys_number keys) ≡ Some keys
keys_again Left = refl
keys_again LeftMiddle = refl
keys_again LeftRight = refl
keys_again Middle = refl
keys_again MiddleLeft = refl
keys_again MiddleRight = refl
keys_again Right = refl
keys_again RightLeft = refl
keys_again RightMiddle = refl

key_part : IsPart (λ key. byte (key_number key)) (λ key. Unit {0}) key_at
unfolding key_at
key_part = listed all_of_keyboard key_number refl (omega arith) key_again

keys_part : IsPart (λ keys. byte (keys_number keys)) (λ keys. Unit {0}) keys_at
unfolding keys_at
keys_part = listed all_of_mouse keys_number refl (omega arith) keys_again

-- ---- cells

abbrev cell_bytes : Cell → List ℕ
cell_bytes c = byte c.x ++ byte c.y

abbrev IsCell : Cell → Type 0
IsCell c = IsByte c.x × IsByte c.y

cell_part : IsPart cell_bytes IsCell event_cell_at
unfolding event_cell_at
cell_part = whole (
    field _ (λ (c : Cell). c.x) byte_part (λ x _.
    last (λ (c : Cell). c.y) (λ y. cell x y) byte_part (λ y. (tt, refl)) (λ y. refl)
    (λ c known. ap (λ n. cell n c.y) (sym known.1))))
  where
    cell : ℕ → ℕ → Cell
    cell x y = record { x = x; y = y }

abbrev drag_bytes : Drag → List ℕ
drag_bytes d = byte (keys_number d.keys) ++ (cell_bytes d.pressed ++ cell_bytes d.released)

abbrev IsDrag : Drag → Type 0
IsDrag d = Unit {0} × (IsCell d.pressed × IsCell d.released)

drag_part : IsPart drag_bytes IsDrag drag_at
unfolding drag_at
drag_part = whole (
    field _ (λ (d : Drag). d.keys) keys_part (λ keys _.
    field _ (λ (d : Drag). d.pressed) cell_part (λ pressed _.
    last (λ (d : Drag). d.released) (λ released. drag keys pressed released) cell_part (λ released. ((tt, refl), refl))
    (λ released. refl)
    (λ d known. (λ k. drag (sym known.0.1 k) (sym known.1 k) d.released)))))
  where
    drag : Keys → Cell → Cell → Drag
    drag keys pressed released = record { keys = keys; pressed = pressed; released = released }

-- ---- the five kinds

-- an event of a kind
abbrev IsOf : ℕ → Event → Type 0
IsOf number event = IsEvent event × (Unit {0} × (kind event ≡ number))

-- what an event of a kind is made of
typed_by : (event : Event) → IsOf 1 event → (bytes : List ℕ) × ((Typed bytes ≡ event) × IsTrue (is_typed_bytes bytes))
typed_by (Typed bytes) is = (bytes, (refl, is.0))
typed_by (Key key) is = absurd (cc (is.1.1))
typed_by (Mark x y) is = absurd (cc (is.1.1))
typed_by (Point keys x0 y0 x1 y1) is = absurd (cc (is.1.1))
typed_by (File name bytes) is = absurd (cc (is.1.1))

key_by : (event : Event) → IsOf 2 event → (key : KeyOf) × ((Key key ≡ event) × Unit {0})
key_by (Typed bytes) is = absurd (cc (is.1.1))
key_by (Key key) is = (key, (refl, tt))
key_by (Mark x y) is = absurd (cc (is.1.1))
key_by (Point keys x0 y0 x1 y1) is = absurd (cc (is.1.1))
key_by (File name bytes) is = absurd (cc (is.1.1))

abbrev marked : Cell → Event
marked c = Mark c.x c.y

mark_by : (event : Event) → IsOf 3 event → (c : Cell) × ((marked c ≡ event) × IsCell c)
mark_by (Typed bytes) is = absurd (cc (is.1.1))
mark_by (Key key) is = absurd (cc (is.1.1))
mark_by (Mark x y) is = (record { x = x; y = y }, (refl, is.0))
mark_by (Point keys x0 y0 x1 y1) is = absurd (cc (is.1.1))
mark_by (File name bytes) is = absurd (cc (is.1.1))

abbrev pointed : Drag → Event
pointed d = Point d.keys d.pressed.x d.pressed.y d.released.x d.released.y

point_by : (event : Event) → IsOf 4 event → (d : Drag) × ((pointed d ≡ event) × IsDrag d)
point_by (Typed bytes) is = absurd (cc (is.1.1))
point_by (Key key) is = absurd (cc (is.1.1))
point_by (Mark x y) is = absurd (cc (is.1.1))
point_by (Point keys x0 y0 x1 y1) is =
    let (a, b, c, d) = is.0 in (
      record { keys = keys; pressed = record { x = x0; y = y0 }; released = record { x = x1; y = y1 } },
      (refl, (tt, ((a, b), (c, d)))),
    )
point_by (File name bytes) is = absurd (cc (is.1.1))

file_by : (event : Event) → IsOf 5 event → (f : Pair)
    × ((File f.0 f.1 ≡ event) × (IsTrue (is_name f.0) × IsTrue (is_file_bytes f.1)))
file_by (Typed bytes) is = absurd (cc (is.1.1))
file_by (Key key) is = absurd (cc (is.1.1))
file_by (Mark x y) is = absurd (cc (is.1.1))
file_by (Point keys x0 y0 x1 y1) is = absurd (cc (is.1.1))
file_by (File name bytes) is = ((name, bytes), (refl, is.0))

typed_body_part : IsPart event_body (IsOf 1) typed_body_at
unfolding typed_body_at
typed_body_part = made (λ bytes. Typed bytes) typed_part (λ bytes. refl) (λ bytes fits. (fits, (tt, refl))) typed_by

key_body_part : IsPart event_body (IsOf 2) key_body_at
unfolding key_body_at
key_body_part = made (λ key. Key key) key_part (λ key. refl) (λ key fits. (tt, (tt, refl))) key_by

mark_body_part : IsPart event_body (IsOf 3) mark_body_at
unfolding mark_body_at
mark_body_part = made marked cell_part (λ c. refl) (λ c fits. (fits, (tt, refl))) mark_by

point_body_part : IsPart event_body (IsOf 4) point_body_at
unfolding point_body_at
point_body_part =
    made pointed drag_part (λ d. refl) (λ d fits. let (u, cells) = fits in
    ((cells.0.0, cells.0.1, cells.1.0, cells.1.1), (tt, refl))) point_by

file_body_part : IsPart event_body (IsOf 5) file_body_at
unfolding file_body_at
file_body_part = made (λ f. File f.0 f.1) file_part (λ f. refl) (λ f fits. (fits, (tt, refl))) file_by

-- one of the kinds, or none
at_number : (number wanted : ℕ) {read : Reader Event} → IsPart event_body (IsOf wanted) read → nat_eq number wanted ≡ true
    → IsPart event_body (IsOf number) read
at_number number wanted {read} part same =
    subst (λ n. IsPart event_body (IsOf n) read) (sym (eqb-true number wanted same)) part

no_other : (number : ℕ) → nat_eq number 1 ≡ false → nat_eq number 2 ≡ false → nat_eq number 3 ≡ false
    → nat_eq number 4 ≡ false → nat_eq number 5 ≡ false
    → (event : Event) → IsOf number event → ⊥
no_other number a b c d e (Typed bytes) is = absurd (cc (a, eq-eqb number 1 (sym is.1.1)))
no_other number a b c d e (Key key) is = absurd (cc (b, eq-eqb number 2 (sym is.1.1)))
no_other number a b c d e (Mark x y) is = absurd (cc (c, eq-eqb number 3 (sym is.1.1)))
no_other number a b c d e (Point keys x0 y0 x1 y1) is = absurd (cc (d, eq-eqb number 4 (sym is.1.1)))
no_other number a b c d e (File name bytes) is = absurd (cc (e, eq-eqb number 5 (sym is.1.1)))

body_part : (number : ℕ) → IsPart event_body (IsOf number) (body_at number)
unfolding body_at
body_part number =
    either (nat_eq number 1) (at_number number 1 typed_body_part) (λ not1.
    either (nat_eq number 2) (at_number number 2 key_body_part) (λ not2.
    either (nat_eq number 3) (at_number number 3 mark_body_part) (λ not3.
    either (nat_eq number 4) (at_number number 4 point_body_part) (λ not4.
    either (nat_eq number 5) (at_number number 5 file_body_part)
    (λ not5. none (no_other number not1 not2 not3 not4 not5))))))

kind_small : (event : Event) → kind event < 2 ^ 8
kind_small (Typed bytes) = omega arith
kind_small (Key key) = omega arith
kind_small (Mark x y) = omega arith
kind_small (Point keys x0 y0 x1 y1) = omega arith
kind_small (File name bytes) = omega arith

pub event_part : IsPart spelling IsEvent event_at
unfolding spelling event_at
event_part =
    recast (λ event fits. fits.1) (λ event valid. (kind_small event, valid))
    (whole (field body_at kind byte_part (λ number _. tail (body_part number))))

-- ---- what begins with an event

pub begins_read : (bytes : List ℕ) (event : Event) → (begins : BeginsWithEvent bytes event)
    → event_at bytes ≡ Some (event, begins.rest)
begins_read bytes event begins = ap event_at begins.parts ∙ event_part.again event begins.rest begins.valid

pub one_begins : (bytes : List ℕ) (e f : Event) → BeginsWithEvent bytes e → BeginsWithEvent bytes f → e ≡ f
one_begins bytes e f first second =
    ap (λ (x : Event × List ℕ). x.0)
    (some_is {A = Event × List ℕ} (e, first.rest) (f, second.rest) (sym (begins_read bytes e first)
    ∙ begins_read bytes f second))

pub read_begins : (bytes : List ℕ) (event : Event) (rest : List ℕ) → event_at bytes ≡ Some (event, rest)
    → BeginsWithEvent bytes event
read_begins bytes event rest is = let t = event_part.takes bytes event rest is in
    record { valid = t.fits; rest = rest; parts = t.parts }

pub read_length : (bytes : List ℕ) (event : Event) (rest : List ℕ) → event_at bytes ≡ Some (event, rest)
    → length bytes ≡ length (spelling event) + length rest
read_length bytes event rest is = ap length (event_part.takes bytes event rest is).parts
    ∙ length-append (spelling event) rest

-- ---- lengths

pub length_within : (event : Event) → IsEvent event → (2 ≤ length (spelling event)) × (length (spelling event) ≤ 935)
unfolding spelling
length_within (Typed bytes) valid =
    let whole : length (spelling (Typed bytes)) ≡ 3 + length bytes = omega arith in
    (omega (arith, whole), omega (arith, whole, short_typed bytes valid))
length_within (Key key) valid = (omega arith, omega arith)
length_within (Mark x y) valid = (omega arith, omega arith)
length_within (Point keys x0 y0 x1 y1) valid = (omega arith, omega arith)
length_within (File name bytes) valid =
    let whole : length (spelling (File name bytes)) ≡ 4 + length name + length bytes =
    omega (arith, length-append (counted_bytes byte name) (counted_bytes word_bytes bytes)) in
    (omega (arith, whole), omega (arith, whole, short_name name valid.0, short_file bytes valid.1))
