-- The name of a host file is typed.
use Rattle.std.proofs.Common.{◌≡◌, ℕ, ◌≤◌, ◌+◌, true, false, nat_lt, nat_le, List, [], ◌∷◌, ◌++◌, length}
use Rattle.std.proofs.Common.{nat_eq, Some, None, subst, refl, sym, ap, ◌∙◌, arith, append_assoc, length-append}
use Rattle.std.specs.Prelude.{◌&&◌, map, Option}
use Rattle.std.specs.List.{list_all, filter_map, cons_option}
use Rattle.event_bytes.specs.Bytes.{is_text_byte}
use Rattle.std.proofs.lemmas.Bool.{eqb-true}
use Rattle.terminal_presses.specs.declared.press.Press.{Press}
use Rattle.std.proofs.lemmas.List.{append-nil}
use Rattle.std.proofs.lemmas.Bool.Decides.{nat_tests}
use Rattle.terminal_presses.specs.declared.press.Press.TheVariants.{Character, Escape, PasteEnds}
use Rattle.terminal_presses.specs.declared.action.Action.{Action}
use Rattle.terminal_presses.specs.declared.action.Action.TheVariants.{Nothing, TypeFile}
use Rattle.terminal_presses.specs.declared.hand.Hand.{Hand}
use Rattle.terminal_presses.specs.declared.asks.Asks.TheVariants.{File}
use Rattle.terminal_presses.specs.Sights.{Sight}
use Rattle.host_names.specs.HostNames.{is_host_byte, is_host_name}
use Rattle.terminal_presses.specs.Asking.{entered, lengthened, name_after_byte, answered, pasted_name}
use Rattle.terminal_presses.specs.Hands.{idle, asking, answered_on, answering, pasting_name, by_question, handled}
use Rattle.terminal_presses.specs.Pastes.{new_paste}
use Rattle.terminal_presses.specs.Singles.{single}
use Rattle.terminal_presses.specs.Runs.{events_of_action, hand_after, posted_events, MakesEvents, name_byte}
use Rattle.terminal_presses.specs.Runs.{name_with, paste_of}
use Rattle.terminal_presses.proofs.Tests.{both, by_test}

no_return : (b : ℕ) → is_host_byte b ≡ true → nat_eq b 13 ≡ false
no_return b is = grind (arith, nat_tests)

byte_typed : (sight : Sight) (hand : Hand) (b : ℕ) (name : List ℕ) → is_host_byte b ≡ true
    → nat_lt (length name) 255 ≡ true
    → handled sight (Character b) (asking name hand) ≡ (asking (name ++ b ∷ []) hand, Nothing)
unfolding handled by_question answered_on answering answered name_after_byte lengthened
byte_typed sight hand b name is room = rw (no_return b is, is, room) refl

-- what is typed of a name, and then the rest of it
rest_typed : (sight : Sight) (hand : Hand) (name rest : List ℕ) → list_all is_host_byte rest ≡ true
    → length name + length rest ≤ 255
    → MakesEvents sight (asking name hand) (map Character rest) (asking (name ++ rest) hand) []
rest_typed sight hand name [] all most = record {
  hand_is = ap (λ n. asking n hand) (sym (append-nil name));
  events_are = refl;
}
rest_typed sight hand name (b ∷ rest) all most =
    let (one, others) = both (is_host_byte b) (list_all is_host_byte rest) all in
    let room : nat_lt (length name) 255 ≡ true = grind (arith, nat_tests) in
    let first = byte_typed sight hand b name one room in
    let long = length-append name (b ∷ []) in
    let more = rest_typed sight hand (name ++ b ∷ []) rest others (omega (arith, long)) in
    record {
      hand_is = ap (λ (x : Hand × Action). hand_after sight x.0 (map Character rest)) first ∙ more.hand_is
          ∙ ap (λ n. asking n hand) (append_assoc name (b ∷ []) rest);
      events_are =
          ap (λ (x : Hand × Action). events_of_action x.1 ++ posted_events sight x.0 (map Character rest)) first ∙ more.events_are;
    }

pub name_typed : (sight : Sight) (hand : Hand) (name : List ℕ) → is_host_name name ≡ true
    → MakesEvents sight (asking [] hand) (map Character name) (asking name hand) []
name_typed sight hand name is =
    let (short, all) = both (nat_le (length name) 255) (list_all is_host_byte name) is in
    let most : length name ≤ 255 = grind (arith, nat_tests) in
    rest_typed sight hand [] name all (omega arith)

pub name_entered : (sight : Sight) (hand : Hand) (name : List ℕ) → 1 ≤ length name
    → handled sight (Character 13) (asking name hand) ≡ (idle hand, TypeFile name)
unfolding handled by_question answered_on answering answered name_after_byte entered
name_entered sight hand [] least = absurd (omega arith)
name_entered sight hand (b ∷ name) least = refl

pub name_called_off : (sight : Sight) (hand : Hand) (name : List ℕ)
    → handled sight Escape (asking name hand) ≡ (idle hand, Nothing)
unfolding handled by_question answered_on answering answered
name_called_off sight hand name = refl

-- ---- the name is pasted

-- the hand while the name is pasted
abbrev naming : List ℕ → Hand → Hand
naming name hand = record hand { paste = Some new_paste; asked = Some name; asks = File }

abbrev in_some : Option Press → List Press
in_some None = []
in_some (Some press) = press ∷ []

cons_before : (o : Option Press) (xs ys : List Press) → cons_option o xs ++ ys ≡ cons_option o (xs ++ ys)
cons_before None xs ys = refl
cons_before (Some press) xs ys = refl

abbrev IsNamed : Sight → Hand → List ℕ → ℕ → Type 0
IsNamed sight hand name b =
    MakesEvents sight (naming name hand) (in_some (single b)) (naming (name_byte name b) hand) []

-- a byte that can't stand in a name leaves it as it is
no_name_byte : (name : List ℕ) (b : ℕ) → is_host_byte b ≡ false → name_byte name b ≡ name
no_name_byte name b other = rw other refl

text_named : (sight : Sight) (hand : Hand) (name : List ℕ) (b : ℕ) → nat_eq b 27 ≡ false → is_text_byte b ≡ true
    → IsNamed sight hand name b
unfolding handled by_question answered_on pasting_name pasted_name lengthened single
text_named sight hand name b no_escape is =
    by_test (is_host_byte b && nat_lt (length name) 255)
    (λ e. record { hand_is = rw (no_escape, is, e) refl; events_are = rw (no_escape, is, e) refl })
    (λ e. record { hand_is = rw (no_escape, is, e) refl; events_are = rw (no_escape, is, e) refl })

low_named : (sight : Sight) (hand : Hand) (name : List ℕ) (b : ℕ) → nat_eq b 27 ≡ false → is_text_byte b ≡ false
    → nat_eq b 8 ≡ false → nat_eq b 127 ≡ false → nat_lt b 32 ≡ true → IsNamed sight hand name b
unfolding handled by_question answered_on pasting_name pasted_name single
low_named sight hand name b no_escape no_text no_back no_delete low =
    let other : is_host_byte b ≡ false = grind (arith, nat_tests) in
    record {
      hand_is = rw (no_escape, no_text, no_back, no_delete, low, other) refl;
      events_are = rw (no_escape, no_text, no_back, no_delete, low) refl;
    }

high_no_name : (b : ℕ) → is_text_byte b ≡ false → nat_lt b 32 ≡ false → is_host_byte b ≡ false
unfolding is_text_byte
high_no_name b no_text high = grind (arith, nat_tests)

high_named : (sight : Sight) (hand : Hand) (name : List ℕ) (b : ℕ) → nat_eq b 27 ≡ false → is_text_byte b ≡ false
    → nat_eq b 8 ≡ false → nat_eq b 127 ≡ false → nat_lt b 32 ≡ false → IsNamed sight hand name b
unfolding handled by_question answered_on pasting_name pasted_name single
high_named sight hand name b no_escape no_text no_back no_delete high =
    let other = high_no_name b no_text high in
    by_test (nat_lt b 192)
    (λ e. record {
      hand_is = rw (no_escape, no_text, no_back, no_delete, high, e, other) refl;
      events_are = rw (no_escape, no_text, no_back, no_delete, high, e) refl;
    })
    (λ e. record {
      hand_is = rw (no_escape, no_text, no_back, no_delete, high, e, other) refl;
      events_are = rw (no_escape, no_text, no_back, no_delete, high, e) refl;
    })

-- the bytes of which each has a rule of its own
record FollowTheirRules (sight : Sight) (hand : Hand) (name : List ℕ) : Type 0 where
  escape : IsNamed sight hand name 27
  back : IsNamed sight hand name 8
  delete : IsNamed sight hand name 127

ruled : (sight : Sight) (hand : Hand) (name : List ℕ) → FollowTheirRules sight hand name
unfolding handled by_question answered_on pasting_name pasted_name single is_text_byte
ruled sight hand name = record {
  escape = record { hand_is = refl; events_are = refl };
  back = record { hand_is = refl; events_are = refl };
  delete = record { hand_is = refl; events_are = refl };
}

byte_named : (sight : Sight) (hand : Hand) (name : List ℕ) (b : ℕ) → IsNamed sight hand name b
byte_named sight hand name b =
    let rules = ruled sight hand name in
    let at = λ (n : ℕ) (is : IsNamed sight hand name n) (same : nat_eq b n ≡ true).
    subst (IsNamed sight hand name) (sym (eqb-true b n same)) is in
    by_test (nat_eq b 27) (at 27 rules.escape) (λ no_escape.
    by_test (is_text_byte b) (text_named sight hand name b no_escape) (λ no_text.
    by_test (nat_eq b 8) (at 8 rules.back) (λ no_back.
    by_test (nat_eq b 127) (at 127 rules.delete) (λ no_delete.
    by_test (nat_lt b 32) (low_named sight hand name b no_escape no_text no_back no_delete)
    (high_named sight hand name b no_escape no_text no_back no_delete)))))

-- what a byte may say, and then others
after_byte : {sight : Sight} {hand next last : Hand} (o : Option Press) (presses : List Press)
    → MakesEvents sight hand (in_some o) next [] → MakesEvents sight next presses last []
    → MakesEvents sight hand (cons_option o presses) last []
after_byte {sight} None presses one more = record {
  hand_is = ap (λ h. hand_after sight h presses) one.hand_is ∙ more.hand_is;
  events_are = ap (λ h. posted_events sight h presses) one.hand_is ∙ more.events_are;
}
after_byte {sight} {hand} {next} (Some press) presses one more =
    let none : events_of_action (handled sight press hand).1 ≡ [] =
    sym (append-nil (events_of_action (handled sight press hand).1)) ∙ one.events_are in
    record {
      hand_is = ap (λ h. hand_after sight h presses) one.hand_is ∙ more.hand_is;
      events_are = ap (λ h. events_of_action (handled sight press hand).1 ++ posted_events sight h presses) one.hand_is
          ∙ ap (λ l. l ++ posted_events sight next presses) none ∙ more.events_are;
    }

text_pasted : (sight : Sight) (hand : Hand) (name text : List ℕ)
    → MakesEvents sight (naming name hand) (filter_map single text ++ PasteEnds ∷ []) (asking (name_with name text) hand) []
unfolding handled by_question answered_on pasting_name
text_pasted sight hand name [] = record { hand_is = refl; events_are = refl }
text_pasted sight hand name (b ∷ text) =
    let more = text_pasted sight hand (name_byte name b) text in
    let all = after_byte (single b) (filter_map single text ++ PasteEnds ∷ []) (byte_named sight hand name b) more in
    subst (λ l. MakesEvents sight (naming name hand) l (asking (name_with name (b ∷ text)) hand) [])
    (sym (cons_before (single b) (filter_map single text) (PasteEnds ∷ []))) all

pub name_pasted : (sight : Sight) (hand : Hand) (name text : List ℕ)
    → MakesEvents sight (asking name hand) (paste_of text) (asking (name_with name text) hand) []
unfolding handled by_question answered_on answering
name_pasted sight hand name text =
    let rest = text_pasted sight hand name text in
    record { hand_is = rest.hand_is; events_are = rest.events_are }

pub ruleset names_said = (name_entered, name_called_off)
