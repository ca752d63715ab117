-- What an event and a checkpoint are answered.
use Rattle.std.proofs.Common.{◌≡◌, ◌≢◌, inl, inr, ◌+◌, true, false, sym, ap, ◌∙◌}
use Rattle.std.specs.Prelude.{codes}
use Rattle.std.proofs.lemmas.Bool.{cond-true, cond-false, eqb-true, eq-eqb, ne_eqb}
use Rattle.std.proofs.lemmas.Bool.{and_from, false_from_ne_true, and_parts}
use Rattle.event_bytes.specs.declared.event.Event.{Event}
use Rattle.desktop_definitions.specs.declared.reply.Reply.{Reply}
use Rattle.desktop_definitions.specs.Desktop.{Desktop}
use Rattle.desktop_definitions.specs.Step.{step, Outcome, outcome_of}
use Rattle.store_layout.specs.declared.layout.TheConstants.{LAST_EPOCH, LAYOUT}
use Rattle.script_lines.specs.declared.request.Request.TheVariants.{Post, Checkpoint}
use Rattle.screen_pictures.specs.Printed.{ended_line}
use Rattle.script_lines.specs.Answer.{reply_line}
use Rattle.desk_journal.specs.Session.{Session, HasRoomIn, IsDue, is_due, is_last, is_worn, renewed, stepped}
use Rattle.desk_journal.proofs.Due.{due_or_room, due_is_due, due_parts, room_not_due}
use Rattle.oberon_main.specs.Answers.{answer, session_after}

-- a session by its four parts
session_parts : (s t : Session) → s.desktop ≡ t.desktop → s.layout ≡ t.layout → s.epoch ≡ t.epoch → s.events ≡ t.events
    → s ≡ t
session_parts s t desktop layout epoch events = λ k. record {
  desktop = desktop k;
  layout = layout k;
  epoch = epoch k;
  events = events k;
}

is_it_worn : (s : Session) → s.epoch ≡ LAST_EPOCH → IsDue s → is_worn s ≡ true
is_it_worn s last full = and_from (is_due s) (is_last s) (due_is_due s full)
    (eq-eqb s.epoch LAST_EPOCH last)

pub worn_parts : (s : Session) → is_worn s ≡ true → (s.epoch ≡ LAST_EPOCH) × IsDue s
worn_parts s worn =
    let both = and_parts (is_due s) (is_last s) worn in
    (eqb-true s.epoch LAST_EPOCH both.1, due_parts s both.0)

not_worn : (s : Session) → ((s.epoch ≡ LAST_EPOCH) × IsDue s → ⊥) → is_worn s ≡ false
not_worn s none = false_from_ne_true (is_worn s) (λ worn. none (worn_parts s worn))

pub worn_answer : (s : Session) (event : Event) → s.epoch ≡ LAST_EPOCH → IsDue s
    → answer s (Post event) ≡ ended_line (codes "worn")
unfolding answer
worn_answer s event last full = cond-true (is_worn s) (ended_line (codes "worn")) (reply_line (step s.desktop event).reply)
    (is_it_worn s last full)

pub worn_after : (s : Session) (event : Event) → s.epoch ≡ LAST_EPOCH → IsDue s
    → session_after s (Post event) ≡ s
unfolding session_after
worn_after s event last full = cond-true (is_worn s) s _ (is_it_worn s last full)

pub reply_answer : (s : Session) (event : Event) (d : Desktop) (reply : Reply)
    → ((s.epoch ≡ LAST_EPOCH) × IsDue s → ⊥) → outcome_of d reply ≡ step s.desktop event
    → answer s (Post event) ≡ reply_line reply
unfolding answer
reply_answer s event d reply room is =
    cond-false (is_worn s) (ended_line (codes "worn")) (reply_line (step s.desktop event).reply) (not_worn s room)
    ∙ sym (ap (λ (p : Outcome). reply_line p.reply) is)

pub reply_after : (s now : Session) (event : Event) (reply : Reply)
    → ((s.epoch ≡ LAST_EPOCH) × IsDue s → ⊥) → outcome_of now.desktop reply ≡ step s.desktop event
    → (HasRoomIn s → (now.epoch ≡ s.epoch) × (now.events ≡ s.events + 1))
    → (IsDue s → (now.epoch ≡ s.epoch + 1) × (now.events ≡ 1)) → now.layout ≡ LAYOUT → now ≡ session_after s (Post event)
unfolding session_after
reply_after s now event reply room is more anew layout =
    let desktop : now.desktop ≡ (step s.desktop event).desktop = ap (λ (p : Outcome). p.desktop) is in
    elim (due_or_room s) [
      | inr below ↦ session_parts now (stepped s event) desktop (layout ∙ sym below.1) (more below).0 (more below).1
          ∙ sym (ap (λ t. stepped t event)
          (cond-false (is_due s) (renewed s) s (room_not_due s below)))
          ∙ sym (cond-false (is_worn s) s _ (not_worn s room))
      | inl full ↦ session_parts now (stepped (renewed s) event) desktop layout (anew full).0 (anew full).1
          ∙ sym (ap (λ t. stepped t event)
          (cond-true (is_due s) (renewed s) s (due_is_due s full)))
          ∙ sym (cond-false (is_worn s) s _ (not_worn s room))
    ]

-- ---- a checkpoint

pub last_answer : (s : Session) → s.epoch ≡ LAST_EPOCH → answer s Checkpoint ≡ ended_line (codes "worn")
unfolding answer
last_answer s last = cond-true (is_last s) (ended_line (codes "worn")) (ended_line (codes "ok")) (eq-eqb s.epoch LAST_EPOCH last)

pub last_after : (s : Session) → s.epoch ≡ LAST_EPOCH → session_after s Checkpoint ≡ s
unfolding session_after
last_after s last = cond-true (is_last s) s (renewed s) (eq-eqb s.epoch LAST_EPOCH last)

pub renewed_answer : (s : Session) → s.epoch ≢ LAST_EPOCH → answer s Checkpoint ≡ ended_line (codes "ok")
unfolding answer
renewed_answer s other = cond-false (is_last s) (ended_line (codes "worn")) (ended_line (codes "ok")) (ne_eqb s.epoch LAST_EPOCH other)

pub renewed_after : (s now : Session) → s.epoch ≢ LAST_EPOCH → now.desktop ≡ s.desktop → now.layout ≡ LAYOUT
    → now.epoch ≡ s.epoch + 1 → now.events ≡ 0 → now ≡ session_after s Checkpoint
unfolding session_after
renewed_after s now other desktop layout epoch events =
    session_parts now (renewed s) desktop layout epoch events
    ∙ sym (cond-false (is_last s) s (renewed s) (ne_eqb s.epoch LAST_EPOCH other))
