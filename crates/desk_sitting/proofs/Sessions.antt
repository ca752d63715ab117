-- The session after an event was posted.
use Rattle.std.proofs.Common.{◌≡◌, inl, inr, ◌+◌, true, false, refl, sym, ap, ◌∙◌, Bool}
use Rattle.std.specs.Prelude.{if◌then◌else◌}
use Rattle.std.proofs.lemmas.Bool.{cond-true, cond-false, eqb-true, eq-eqb}
use Rattle.std.proofs.lemmas.Bool.{and_from, false_from_ne_true, and_parts}
use Rattle.event_bytes.specs.declared.event.Event.{Event}
use Rattle.desktop_definitions.specs.Desktop.{Desktop}
use Rattle.desktop_definitions.specs.Step.{step}
use Rattle.store_layout.specs.declared.layout.TheConstants.{LAST_EPOCH, LAYOUT}
use Rattle.desk_journal.specs.Session.{Session, HasRoomIn, IsDue, is_due, is_last, is_worn, renewed, stepped}
use Rattle.desk_journal.specs.Session.{taken}
use Rattle.desk_journal.proofs.Due.{due_or_room, due_is_due, due_parts, room_not_due}

-- a session by its four parts
pub session_parts : (s t : Session) → s.desktop ≡ t.desktop → s.layout ≡ t.layout → s.epoch ≡ t.epoch
    → s.events ≡ t.events → s ≡ t
session_parts s t desktop layout epoch events = λ k. record {
  desktop = desktop k;
  layout = layout k;
  epoch = epoch k;
  events = events k;
}

pub is_it_worn : (s : Session) → s.epoch ≡ LAST_EPOCH → IsDue s → is_worn s ≡ true
is_it_worn s last full = and_from (is_due s) (is_last s) (due_is_due s full)
    (eq-eqb s.epoch LAST_EPOCH last)

worn_parts : (s : Session) → is_worn s ≡ true → (s.epoch ≡ LAST_EPOCH) × IsDue s
worn_parts s worn =
    let both = and_parts (is_due s) (is_last s) worn in
    (eqb-true s.epoch LAST_EPOCH both.1, due_parts s both.0)

pub not_worn : (s : Session) → ((s.epoch ≡ LAST_EPOCH) × IsDue s → ⊥) → is_worn s ≡ false
not_worn s none = false_from_ne_true (is_worn s) (λ worn. none (worn_parts s worn))

-- whether or not a checkpoint comes first, an event that is accepted is one step
pub taken_steps : (s : Session) (event : Event) → is_worn s ≡ false
    → (taken s event).desktop ≡ (step s.desktop event).desktop
taken_steps s event room = ap (λ (t : Session). t.desktop)
    (cond-false (is_worn s) s (stepped (if is_due s then renewed s else s) event) room)
    ∙ ap (λ (d : Desktop). (step d event).desktop) (either_way (is_due s))
  where
    either_way : (b : Bool) → (if b then renewed s else s).desktop ≡ s.desktop
    either_way true = refl
    either_way false = refl

-- the store says this of its session after a post
pub is_taken : (s now : Session) (event : Event) → is_worn s ≡ false → now.desktop ≡ (step s.desktop event).desktop
    → (HasRoomIn s → (now.epoch ≡ s.epoch) × (now.events ≡ s.events + 1))
    → (IsDue s → (now.epoch ≡ s.epoch + 1) × (now.events ≡ 1)) → now.layout ≡ LAYOUT → now ≡ taken s event
is_taken s now event room desktop more anew layout = elim (due_or_room s) [
  | inr below ↦ session_parts now (stepped s event) desktop (layout ∙ sym below.1) (more below).0 (more below).1
      ∙ sym (ap (λ t. stepped t event)
      (cond-false (is_due s) (renewed s) s (room_not_due s below)))
      ∙ sym (cond-false (is_worn s) s _ room)
  | inl full ↦ session_parts now (stepped (renewed s) event) desktop layout (anew full).0 (anew full).1
      ∙ sym (ap (λ t. stepped t event)
      (cond-true (is_due s) (renewed s) s (due_is_due s full)))
      ∙ sym (cond-false (is_worn s) s _ room)
]
