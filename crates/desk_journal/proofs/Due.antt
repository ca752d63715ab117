-- Whether a checkpoint is due before the next event.
use Rattle.std.proofs.Common.{◌≡◌, ◌⊎◌, inl, inr, true, false, ap, arith}
use Rattle.std.specs.Prelude.{not, nat_lt, ◌==◌}
use Rattle.std.proofs.lemmas.Bool.{lt-ltb, ltb-true, eq-eqb, eqb-true, and_from, and_parts, cases_lt, cases_eq}
use Rattle.std.proofs.lemmas.Bool.{false_from_ne_true}
use Rattle.store_layout.proofs.Bits.{clash}
use Rattle.store_layout.specs.declared.layout.TheConstants.{JOURNAL_EVENTS, LAYOUT}
use Rattle.desk_journal.specs.Session.{Session, HasRoomIn, IsDue, has_journal_room, is_due}

pub due_or_room : (s : Session) → IsDue s ⊎ HasRoomIn s
due_or_room s = elim (cases_lt s.events JOURNAL_EVENTS) [
  | inl few ↦ elim (cases_eq s.layout LAYOUT) [
    | inl newest ↦ inr (few, newest)
    | inr other ↦ inl (inr other)
  ]
  | inr full ↦ inl (inl full)
]

pub has_it : (s : Session) → HasRoomIn s → has_journal_room s ≡ true
has_it s room = and_from (nat_lt s.events JOURNAL_EVENTS) (s.layout == LAYOUT)
    (lt-ltb s.events JOURNAL_EVENTS room.0) (eq-eqb s.layout LAYOUT room.1)

pub has_none : (s : Session) → IsDue s → has_journal_room s ≡ false
has_none s due = false_from_ne_true (has_journal_room s) (λ is.
    let both = and_parts (nat_lt s.events JOURNAL_EVENTS) (s.layout == LAYOUT) is in
    elim due [
      | inl full ↦ omega (arith, full, ltb-true s.events JOURNAL_EVENTS both.0)
      | inr other ↦ other (eqb-true s.layout LAYOUT both.1)
    ])

pub room_not_due : (s : Session) → HasRoomIn s → is_due s ≡ false
room_not_due s room = ap (λ b. not b) (has_it s room)

pub due_is_due : (s : Session) → IsDue s → is_due s ≡ true
due_is_due s due = ap (λ b. not b) (has_none s due)

pub due_parts : (s : Session) → is_due s ≡ true → IsDue s
due_parts s is = elim (due_or_room s) [
  | inl due ↦ due
  | inr room ↦ absurd (clash is (room_not_due s room))
]
