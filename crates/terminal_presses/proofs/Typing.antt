-- The events of a paste type what is pasted.
use Rattle.std.proofs.Common.{◌≡◌, ℕ, ◌+◌, ◌<◌, ◌≤◌, Bool, true, false, nat_eq, nat_lt, List, [], ◌∷◌, ◌++◌}
use Rattle.std.proofs.Common.{length, Some, None, refl, sym, ap, subst, ◌∙◌, arith, append_assoc, length-append}
use Rattle.std.specs.Prelude.{◌==◌, not, nat_le, map, Option, option_map, if◌then◌else◌}
use Rattle.std.specs.List.{list_all, filter_map, cons_option}
use Rattle.std.proofs.lemmas.List.Folds.{list_all-append}
use Rattle.std.proofs.lemmas.List.{append-nil}
use Rattle.std.proofs.lemmas.Bool.{ltb-true, ltb-false, eqb-true}
use Rattle.std.proofs.lemmas.Bool.Decides.{nat_tests}
use Rattle.event_bytes.specs.Bytes.{lies_within, is_text_byte}
use Rattle.event_bytes.specs.declared.event.Event.{Event}
use Rattle.event_bytes.specs.declared.event.Event.TheVariants.{Typed}
use Rattle.terminal_presses.specs.declared.press.Press.{Press}
use Rattle.terminal_presses.specs.declared.press.Press.TheVariants.{Character, Foreign, Control, Back, Delete, Escape}
use Rattle.terminal_presses.specs.declared.press.Press.TheVariants.{Arrow}
use Rattle.terminal_presses.specs.declared.press.Press.TheVariants.{Page, Function, Mouse, PasteBegins, PasteEnds, Size}
use Rattle.terminal_presses.specs.declared.press.Press.TheVariants.{Leap, Scroll, Wheel, FileFails, Unknown}
use Rattle.terminal_presses.specs.Sights.{Sight}
use Rattle.terminal_presses.specs.declared.action.Action.{Action}
use Rattle.terminal_presses.specs.declared.action.Action.TheVariants.{Nothing, Post}
use Rattle.terminal_presses.specs.declared.paste.Paste.{Paste}
use Rattle.terminal_presses.specs.declared.hand.Hand.{Hand}
use Rattle.terminal_presses.specs.declared.asks.Asks.TheVariants.{File}
use Rattle.terminal_presses.specs.Singles.{single}
use Rattle.terminal_presses.specs.Pastes.{typing_action, added, in_profile, pasted_byte, with_byte, after_line_feed}
use Rattle.terminal_presses.specs.Pastes.{pasted_more}
use Rattle.terminal_presses.specs.Pastes.{pasted_if_any, pasted_on}
use Rattle.terminal_presses.specs.Hands.{idle, ends_paste, pasting, fresh, by_question, handled}
use Rattle.terminal_presses.specs.Runs.{events_of_action, hand_after, posted_events, MakesEvents, typed_byte}
use Rattle.terminal_presses.specs.Runs.{line_ends, pasted_text}
use Rattle.terminal_presses.specs.Runs.{paste_of, Types}
use Rattle.terminal_presses.proofs.Tests.{both, is_not, by_test}

-- ---- bytes that wait for an event

-- what waits for an event can be typed, and is too short for one
record Waits (waiting : List ℕ) : Type 0 where
  text : list_all is_text_byte waiting ≡ true
  short : length waiting < 900

abbrev paste : Bool → List ℕ → Paste
paste after_return waiting = record { after_return = after_return; bytes = waiting; drops = false }

-- the events of bytes that are pasted, until the paste ends
abbrev typed_events : List ℕ → Paste → List Event
typed_events [] p = events_of_action (typing_action p.bytes)
typed_events (c ∷ cs) p = events_of_action (pasted_more c p).1 ++ typed_events cs (pasted_more c p).0

-- a byte that is pasted, as it is typed: a line feed is told apart still
abbrev as_typed : ℕ → ℕ
as_typed c = if c == 10 then 10 else in_profile c

one_more : (waiting : List ℕ) (b : ℕ) → list_all is_text_byte waiting ≡ true → is_text_byte b ≡ true
    → list_all is_text_byte (waiting ++ b ∷ []) ≡ true
one_more waiting b all one = list_all-append is_text_byte waiting (b ∷ []) ∙ rw (all, one) refl

can_type : (waiting : List ℕ) → list_all is_text_byte waiting ≡ true → 1 ≤ length waiting → length waiting ≤ 900
    → typing_action waiting ≡ Post (Typed waiting)
unfolding typing_action
can_type waiting all least most =
    let l : nat_le 1 (length waiting) ≡ true = grind (arith, nat_tests) in
    let m : nat_le (length waiting) 900 ≡ true = grind (arith, nat_tests) in
    rw (l, m, all) refl

-- an event of 900 bytes, and then those that type the rest
types_more : (front rest : List ℕ) (events : List Event) → length front ≡ 900 → Types events rest
    → Types (Typed front ∷ events) (front ++ rest)
types_more front rest [] len is =
    let same : front ++ rest ≡ front = ap (λ r. front ++ r) is ∙ append-nil front in
    subst (λ t. Types (Typed front ∷ []) t) (sym same) (refl, omega arith, omega arith)
types_more front rest (event ∷ events) len is = (front, rest, refl, len, refl, is)

-- what is left is typed where the paste ends
types_left : (waiting : List ℕ) → Waits waiting → Types (events_of_action (typing_action waiting)) waiting
unfolding typing_action
types_left [] is = refl
types_left (b ∷ waiting) is =
    let short = is.short in
    let e = can_type (b ∷ waiting) is.text (omega arith) (omega arith) in
    subst (λ a. Types (events_of_action a) (b ∷ waiting)) (sym e) (refl, omega arith, omega arith)

-- the events of these bytes type what waits and then them, whatever waits
abbrev AreTyped : List ℕ → Type 0
AreTyped cs = (after_return : Bool) (waiting : List ℕ) → Waits waiting
    → Types (typed_events cs (paste after_return waiting)) (waiting ++ line_ends after_return (map as_typed cs))

-- what was added is what happens next, and then the events of these bytes
abbrev Continues : Bool → List ℕ → List ℕ → List ℕ × Action → Type 0
Continues after_return cs text next = Types (events_of_action next.1 ++ typed_events cs (paste after_return next.0)) text

added_short : (b : ℕ) (waiting : List ℕ) → nat_lt (length waiting + 1) 900 ≡ true
    → added b waiting ≡ (waiting ++ b ∷ [], Nothing)
unfolding added
added_short b waiting short = rw short refl

added_whole : (b : ℕ) (waiting : List ℕ) → nat_lt (length waiting + 1) 900 ≡ false
    → added b waiting ≡ ([], typing_action (waiting ++ b ∷ []))
unfolding added
added_whole b waiting whole = rw whole refl

continues_short : (b : ℕ) (after_return : Bool) (waiting cs : List ℕ) → is_text_byte b ≡ true → Waits waiting
    → AreTyped cs → nat_lt (length waiting + 1) 900 ≡ true
    → Continues after_return cs (waiting ++ b ∷ line_ends after_return (map as_typed cs)) (waiting ++ b ∷ [], Nothing)
continues_short b after_return waiting cs is waits are short =
    let more = length-append waiting (b ∷ []) in
    let room = ltb-true _ _ short in
    let less : length (waiting ++ b ∷ []) < 900 = omega (arith, more, room) in
    subst (λ t. Types (typed_events cs (paste after_return (waiting ++ b ∷ []))) t)
    (append_assoc waiting (b ∷ []) (line_ends after_return (map as_typed cs)))
    (are after_return (waiting ++ b ∷ []) (record { text = one_more waiting b waits.text is; short = less }))

continues_whole : (b : ℕ) (after_return : Bool) (waiting cs : List ℕ) → is_text_byte b ≡ true → Waits waiting
    → AreTyped cs → nat_lt (length waiting + 1) 900 ≡ false
    → Continues after_return cs (waiting ++ b ∷ line_ends after_return (map as_typed cs))
    ([], typing_action (waiting ++ b ∷ []))
continues_whole b after_return waiting cs is waits are full =
    let more = length-append waiting (b ∷ []) in
    let least = ltb-false _ _ full in
    let short = waits.short in
    let whole : length (waiting ++ b ∷ []) ≡ 900 = omega (arith, more, least, short) in
    let all = one_more waiting b waits.text is in
    let e = can_type (waiting ++ b ∷ []) all (omega (arith, whole)) (omega (arith, whole)) in
    let rest = line_ends after_return (map as_typed cs) in
    subst (λ a. Continues after_return cs (waiting ++ b ∷ rest) ([], a)) (sym e)
    (subst (λ t. Types (Typed (waiting ++ b ∷ []) ∷ typed_events cs (paste after_return [])) t)
    (append_assoc waiting (b ∷ []) rest)
    (types_more (waiting ++ b ∷ []) rest (typed_events cs (paste after_return [])) whole
    (are after_return [] (record { text = refl; short = omega arith }))))

-- a byte that can be typed, and then others
types_byte : (b : ℕ) (before after_return : Bool) (waiting cs : List ℕ) → is_text_byte b ≡ true → Waits waiting
    → AreTyped cs
    → Types (events_of_action (with_byte b after_return (paste before waiting)).1
    ++ typed_events cs (with_byte b after_return (paste before waiting)).0)
    (waiting ++ b ∷ line_ends after_return (map as_typed cs))
unfolding with_byte
types_byte b before after_return waiting cs is waits are =
    let text = waiting ++ b ∷ line_ends after_return (map as_typed cs) in
    (elim (nat_lt (length waiting + 1) 900) as (λ v. nat_lt (length waiting + 1) 900 ≡ v
    → Continues after_return cs text (added b waiting)) [
      | true ↦ λ e. subst (λ n. Continues after_return cs text n) (sym (added_short b waiting e))
          (continues_short b after_return waiting cs is waits are e)
      | false ↦ λ e. subst (λ n. Continues after_return cs text n) (sym (added_whole b waiting e))
          (continues_whole b after_return waiting cs is waits are e)
    ]) refl

return_typed : is_text_byte 13 ≡ true
unfolding is_text_byte
return_typed = refl

types_feed : (before : Bool) (waiting cs : List ℕ) → Waits waiting → AreTyped cs
    → Types (events_of_action (after_line_feed (paste before waiting)).1 ++ typed_events cs (after_line_feed (paste before waiting)).0)
    (waiting ++ line_ends before (10 ∷ map as_typed cs))
unfolding after_line_feed
types_feed true waiting cs waits are = are false waiting waits
types_feed false waiting cs waits are = types_byte 13 false false waiting cs return_typed waits are

-- ---- bytes as they are typed

text_no_feed : (b : ℕ) → is_text_byte b ≡ true → nat_eq b 10 ≡ false
unfolding is_text_byte
text_no_feed b is = grind (arith, nat_tests)

other_no_return : (b : ℕ) → is_text_byte b ≡ false → nat_eq b 13 ≡ false
unfolding is_text_byte
other_no_return b is = grind (arith, nat_tests)

mark_typed : is_text_byte 63 ≡ true
unfolding is_text_byte
mark_typed = refl

mark_profile : in_profile 63 ≡ 63
unfolding in_profile is_text_byte
mark_profile = refl

abbrev InProfile : ℕ → Type 0
InProfile b = (is_text_byte (in_profile b) ≡ true) × (nat_eq (in_profile b) 10 ≡ false)
    × (nat_eq (in_profile b) 13 ≡ nat_eq b 13)

profile_is : (b : ℕ) → InProfile b
unfolding in_profile
profile_is b =
    (elim (is_text_byte b) as (λ v. is_text_byte b ≡ v → InProfile b) [
      | true ↦ λ e. (rw e e, rw e (text_no_feed b e), rw e refl)
      | false ↦ λ e. (rw e mark_typed, rw e refl, rw e (sym (other_no_return b e)))
    ]) refl

typed_types : (cs : List ℕ) → AreTyped cs
unfolding pasted_more
typed_types [] after_return waiting waits =
    subst (λ t. Types (events_of_action (typing_action waiting)) t) (sym (append-nil waiting)) (types_left waiting waits)
typed_types (c ∷ cs) after_return waiting waits =
    let (text, no_feed, same) = profile_is c in
    (elim (nat_eq c 10) as (λ v. nat_eq c 10 ≡ v → Types (typed_events (c ∷ cs) (paste after_return waiting)) (waiting
    ++ line_ends after_return (map as_typed (c ∷ cs)))) [
      | true ↦ λ e. rw e (types_feed after_return waiting cs waits (typed_types cs))
      | false ↦ λ e. rw (e, no_feed, same)
          (types_byte (in_profile c) after_return (nat_eq c 13) waiting cs text waits (typed_types cs))
    ]) refl

-- ---- presses while a paste goes on

abbrev amid : Hand → Paste → Hand
amid hand p = record hand { paste = Some p; asked = None; asks = File }

-- the terminal's size doesn't count, where nothing is dropped
record GoesOn (press : Press) (p : Paste) : Type 0 where
  paste_is : (pasted_on press p).0 ≡ (pasted_if_any (pasted_byte press) p).0
  events_are : events_of_action (pasted_on press p).1 ≡ events_of_action (pasted_if_any (pasted_byte press) p).1

goes_on_with : (press : Press) (p : Paste) → p.drops ≡ false → GoesOn press p
unfolding pasted_on pasted_byte
goes_on_with (Character b) p is = record { paste_is = rw is refl; events_are = rw is refl }
goes_on_with Foreign p is = record { paste_is = rw is refl; events_are = rw is refl }
goes_on_with (Control b) p is = record { paste_is = rw is refl; events_are = rw is refl }
goes_on_with Back p is = record { paste_is = rw is refl; events_are = rw is refl }
goes_on_with Delete p is = record { paste_is = rw is refl; events_are = rw is refl }
goes_on_with Escape p is = record { paste_is = rw is refl; events_are = rw is refl }
goes_on_with (Arrow arrow) p is = record { paste_is = rw is refl; events_are = rw is refl }
goes_on_with (Leap arrow) p is = record { paste_is = rw is refl; events_are = rw is refl }
goes_on_with (Scroll scroll) p is = record { paste_is = rw is refl; events_are = rw is refl }
goes_on_with (Page page) p is = record { paste_is = rw is refl; events_are = rw is refl }
goes_on_with (Function key) p is = record { paste_is = rw is refl; events_are = rw is refl }
goes_on_with (Wheel report) p is = record { paste_is = rw is refl; events_are = rw is refl }
goes_on_with (Mouse report) p is = record { paste_is = rw is refl; events_are = rw is refl }
goes_on_with PasteBegins p is = record { paste_is = rw is refl; events_are = rw is refl }
goes_on_with PasteEnds p is = record { paste_is = rw is refl; events_are = rw is refl }
goes_on_with (Size rows columns) p is = record { paste_is = refl; events_are = refl }
goes_on_with FileFails p is = record { paste_is = rw is refl; events_are = rw is refl }
goes_on_with Unknown p is = record { paste_is = rw is refl; events_are = rw is refl }

feed_keeps : (p : Paste) → (after_line_feed p).0.drops ≡ p.drops
unfolding after_line_feed with_byte
feed_keeps p = by_test p.after_return (λ e. rw e refl) (λ e. rw e refl)

-- nothing that is pasted has the rest dropped
keeps : (o : Option ℕ) (p : Paste) → (pasted_if_any o p).0.drops ≡ p.drops
unfolding pasted_more with_byte
keeps None p = refl
keeps (Some b) p = by_test (nat_eq b 10) (λ e. rw e (feed_keeps p)) (λ e. rw e refl)

amid_handled : (sight : Sight) (press : Press) (hand : Hand) (p : Paste) → not (ends_paste press) ≡ true
    → handled sight press (amid hand p) ≡ (amid hand (pasted_on press p).0, (pasted_on press p).1)
unfolding handled by_question pasting
amid_handled sight press hand p is = rw (is_not (ends_paste press) is) refl

next_events : (o : Option ℕ) (cs : List ℕ) (p : Paste)
    → typed_events (cons_option o cs) p
    ≡ events_of_action (pasted_if_any o p).1 ++ typed_events cs (pasted_if_any o p).0
next_events None cs p = refl
next_events (Some c) cs p = refl

presses_make : (sight : Sight) (hand : Hand) (p : Paste) (presses : List Press)
    → p.drops ≡ false → list_all (λ q. not (ends_paste q)) presses ≡ true
    → MakesEvents sight (amid hand p) (presses ++ PasteEnds ∷ []) (idle hand)
    (typed_events (filter_map pasted_byte presses) p)
unfolding handled by_question pasting
presses_make sight hand p [] whole all = record {
  hand_is = refl;
  events_are = append-nil (events_of_action (typing_action p.bytes));
}
presses_make sight hand p (press ∷ presses) whole all =
    let (one, others) = both _ _ all in
    let next = pasted_if_any (pasted_byte press) p in
    let h = amid_handled sight press hand p one in
    let on = goes_on_with press p whole in
    let more = presses_make sight hand next.0 presses (keeps (pasted_byte press) p ∙ whole) others in
    let rest = presses ++ PasteEnds ∷ [] in
    record {
      hand_is = ap (λ (x : Hand × Action). hand_after sight x.0 rest) h
          ∙ ap (λ q. hand_after sight (amid hand q) rest) on.paste_is ∙ more.hand_is;
      events_are = ap (λ (x : Hand × Action). events_of_action x.1 ++ posted_events sight x.0 rest) h
          ∙ ap (λ l. l ++ posted_events sight (amid hand (pasted_on press p).0) rest) on.events_are
          ∙ ap (λ q. events_of_action next.1 ++ posted_events sight (amid hand q) rest) on.paste_is
          ∙ ap (λ l. events_of_action next.1 ++ l) more.events_are
          ∙ sym (next_events (pasted_byte press) (filter_map pasted_byte presses) p);
    }

-- ---- what the bytes of a text are

-- the byte that is pasted where a press may be
abbrev said : Option Press → Option ℕ
said None = None
said (Some press) = pasted_byte press

abbrev goes_on : Option Press → Bool
goes_on None = true
goes_on (Some press) = not (ends_paste press)

abbrev IsTyped : ℕ → Type 0
IsTyped b = (option_map as_typed (said (single b)) ≡ typed_byte b) × (goes_on (single b) ≡ true)

-- the bytes of which each has a rule of its own
record FollowTheirRules : Type 0 where
  escape : IsTyped 27
  back : IsTyped 8
  delete : IsTyped 127
  feed : IsTyped 10

ruled : FollowTheirRules
unfolding single pasted_byte in_profile is_text_byte
ruled = record { escape = (refl, refl); back = (refl, refl); delete = (refl, refl); feed = (refl, refl) }

text_profile : (b : ℕ) → is_text_byte b ≡ true → in_profile b ≡ b
unfolding in_profile
text_profile b is = rw is refl

other_profile : (b : ℕ) → is_text_byte b ≡ false → in_profile b ≡ 63
unfolding in_profile
other_profile b is = rw is refl

typed_text : (b : ℕ) → nat_eq b 27 ≡ false → is_text_byte b ≡ true → IsTyped b
unfolding single pasted_byte
typed_text b no_escape is =
    let no_feed = text_no_feed b is in
    (rw (no_escape, is, no_feed, text_profile b is) refl, rw (no_escape, is) refl)

low_no_follower : (b : ℕ) → nat_lt b 32 ≡ true → lies_within 128 191 b ≡ false
low_no_follower b low = grind (arith, nat_tests)

high_no_feed : (b : ℕ) → nat_lt b 32 ≡ false → nat_eq b 10 ≡ false
high_no_feed b high = grind (arith, nat_tests)

between_follows : (b : ℕ) → is_text_byte b ≡ false → nat_eq b 127 ≡ false → nat_lt b 32 ≡ false → nat_lt b 192 ≡ true
    → lies_within 128 191 b ≡ true
unfolding is_text_byte
between_follows b no_text no_back high low = grind (arith, nat_tests)

high_no_follower : (b : ℕ) → nat_lt b 192 ≡ false → lies_within 128 191 b ≡ false
high_no_follower b high = grind (arith, nat_tests)

typed_low : (b : ℕ) → nat_eq b 27 ≡ false → is_text_byte b ≡ false → nat_eq b 8 ≡ false → nat_eq b 127 ≡ false
    → nat_lt b 32 ≡ true → nat_eq b 10 ≡ false → IsTyped b
unfolding single pasted_byte
typed_low b no_escape no_text no_back no_delete low no_feed = (
  rw (no_escape, no_text, no_back, no_delete, low, no_feed, low_no_follower b low, other_profile b no_text) refl,
  rw (no_escape, no_text, no_back, no_delete, low) refl,
)

typed_high : (b : ℕ) → nat_eq b 27 ≡ false → is_text_byte b ≡ false → nat_eq b 8 ≡ false → nat_eq b 127 ≡ false
    → nat_lt b 32 ≡ false → nat_lt b 192 ≡ false → IsTyped b
unfolding single pasted_byte
typed_high b no_escape no_text no_back no_delete high higher = (
  rw (
    no_escape,
    no_text,
    no_back,
    no_delete,
    high,
    higher,
    mark_profile,
    high_no_feed b high,
    high_no_follower b higher,
  ) refl,
  rw (no_escape, no_text, no_back, no_delete, high, higher) refl,
)

typed_follower : (b : ℕ) → nat_eq b 27 ≡ false → is_text_byte b ≡ false → nat_eq b 8 ≡ false → nat_eq b 127 ≡ false
    → nat_lt b 32 ≡ false → nat_lt b 192 ≡ true → IsTyped b
unfolding single
typed_follower b no_escape no_text no_back no_delete high low =
    let follows = between_follows b no_text no_delete high low in (
      rw (no_escape, no_text, no_back, no_delete, high, low, high_no_feed b high, follows) refl,
      rw (no_escape, no_text, no_back, no_delete, high, low) refl,
    )

at_number : (b n : ℕ) → IsTyped n → nat_eq b n ≡ true → IsTyped b
at_number b n is same = subst IsTyped (sym (eqb-true b n same)) is

byte_typed : (b : ℕ) → IsTyped b
byte_typed b =
    by_test (nat_eq b 27) (at_number b 27 ruled.escape) (λ no_escape.
    by_test (is_text_byte b) (typed_text b no_escape) (λ no_text.
    by_test (nat_eq b 8) (at_number b 8 ruled.back) (λ no_back.
    by_test (nat_eq b 127) (at_number b 127 ruled.delete) (λ no_delete.
    by_test (nat_lt b 32) (λ low.
    by_test (nat_eq b 10) (at_number b 10 ruled.feed) (typed_low b no_escape no_text no_back no_delete low)) (λ high.
    by_test (nat_lt b 192) (typed_follower b no_escape no_text no_back no_delete high)
    (typed_high b no_escape no_text no_back no_delete high))))))

map_option : (o : Option ℕ) (cs : List ℕ)
    → map as_typed (cons_option o cs) ≡ cons_option (option_map as_typed o) (map as_typed cs)
map_option None cs = refl
map_option (Some c) cs = refl

said_first : (o : Option Press) (presses : List Press)
    → filter_map pasted_byte (cons_option o presses) ≡ cons_option (said o) (filter_map pasted_byte presses)
said_first None presses = refl
said_first (Some press) presses = refl

all_first : (o : Option Press) (presses : List Press) → goes_on o ≡ true
    → list_all (λ q. not (ends_paste q)) presses ≡ true
    → list_all (λ q. not (ends_paste q)) (cons_option o presses) ≡ true
all_first None presses one others = others
all_first (Some press) presses one others = rw (one, others) refl

-- what the bytes of a text say by themselves goes on with a paste, and is typed as the text is
text_is : (text : List ℕ)
    → (map as_typed (filter_map pasted_byte (filter_map single text)) ≡ filter_map typed_byte text)
    × (list_all (λ q. not (ends_paste q)) (filter_map single text) ≡ true)
text_is [] = (refl, refl)
text_is (b ∷ text) =
    let (is, one) = byte_typed b in
    let (are, others) = text_is text in (
      ap (λ l. map as_typed l) (said_first (single b) (filter_map single text))
          ∙ map_option (said (single b)) (filter_map pasted_byte (filter_map single text))
          ∙ ap (λ o. cons_option o (map as_typed (filter_map pasted_byte (filter_map single text)))) is
          ∙ ap (λ l. cons_option (typed_byte b) l) are,
      all_first (single b) (filter_map single text) one others,
    )

-- ---- whole pastes

pub paste_typed : (sight : Sight) (hand : Hand) (text : List ℕ)
    → Types (posted_events sight (idle hand) (paste_of text)) (pasted_text text)
unfolding handled by_question fresh
paste_typed sight hand text =
    let (are, all) = text_is text in
    let presses = filter_map single text in
    let m = presses_make sight (idle hand) (paste false []) presses refl all in
    let cs = filter_map pasted_byte presses in
    let t = typed_types cs false [] (record { text = refl; short = omega arith }) in
    subst (λ es. Types es (pasted_text text)) (sym m.events_are)
    (subst (λ l. Types (typed_events cs (paste false [])) (line_ends false l)) are t)

pub paste_leaves : (sight : Sight) (hand : Hand) (text : List ℕ)
    → hand_after sight (idle hand) (paste_of text) ≡ idle hand
unfolding handled by_question fresh
paste_leaves sight hand text =
    (presses_make sight (idle hand) (paste false []) (filter_map single text) refl (text_is text).1).hand_is
