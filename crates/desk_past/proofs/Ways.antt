-- An event that is posted behind what was done before it. `d` is what is known of a disk.
use Rattle.std.proofs.Common.{◌≡◌, ◌≢◌, ◌⊎◌, inl, inr, ◌+◌, ◌<◌, ◌≤◌, ℕ, refl, sym, ◌∙◌, ap, subst, arith, true, false}
use Rattle.std.specs.Prelude.{Result, Ok, Err, IfErr, IfOk, OnOk, IsErrOf}
use Rattle.std.proofs.lemmas.Bool.{cases_lt, false≢true}
use Rattle.sector_disk.specs.declared.disk.Disk.{Ghosts}
use Rattle.sector_disk.specs.Faults.{FailsAs}
use Rattle.sector_disk.specs.Trail.{LeavesOnly}
use Rattle.sector_disk.proofs.Touching.{chained, weakened}
use Rattle.event_bytes.specs.declared.event.Event.{Event}
use Rattle.desktop_definitions.specs.Desktop.{Desktop}
use Rattle.desktop_definitions.specs.declared.reply.Reply.{Reply}
use Rattle.desktop_definitions.specs.Step.{step, step_in}
use Rattle.desktop_definitions.specs.Unread.{StepsUnread}
use Rattle.store_layout.specs.declared.layout.TheConstants.{JOURNAL_EVENTS, LAYOUT}
use Rattle.store_layout.specs.Meaning.{Means, MeansEither}
use Rattle.store_slots.specs.Device.{IsSameDevice}
use Rattle.store_slots.specs.Errors.{OfCheckpoint, OfDesktop, OfLook, OfPost}
use Rattle.store_slots.specs.declared.error.Error.{Error}
use Rattle.store_slots.specs.declared.error.Error.TheVariants.{Fault, MustReopen, Worn}
use Rattle.desk_journal.specs.Checkpointing.{IsRenewed, LeavesDesktop}
use Rattle.desk_journal.specs.Posting.{AnswersMustReopen, AnswersWorn, HasJournalRoom, IsAcknowledged, IsDueBefore, IsLast}
use Rattle.desk_journal.specs.Posting.{LeavesEither}
use Rattle.desk_journal.specs.View.{StoreView}
use Rattle.desk_past.specs.Beginning.{IsAside}
use Rattle.desk_past.specs.Keeping.{CanTurn, IsTurned, IsUnturned, IsWayMade}

-- a journal that has room needs no checkpoint
pub no_need : {D : Type 0} (store : StoreView D) → HasJournalRoom store → IsDueBefore store → ⊥
no_need store room need = elim need [
  | inl full ↦ omega (arith, full, room.0)
  | inr other ↦ other room.1
]

pub room_or_due : {D : Type 0} (store : StoreView D) → HasJournalRoom store ⊎ IsDueBefore store
room_or_due store = elim (cases_lt store.events JOURNAL_EVENTS) [
  | inl few ↦ elim (cases_lt store.layout LAYOUT) [
    | inl less ↦ inr (inr (λ is. omega (arith, less, is)))
    | inr least ↦ elim (cases_lt LAYOUT store.layout) [
      | inl more ↦ inr (inr (λ is. omega (arith, more, is)))
      | inr most ↦ inl (few, omega (arith, least, most))
    ]
  ]
  | inr full ↦ inr (inl full)
]

module _ {D : Type 0} (d : Ghosts D) where
  -- ---- ways

  pub way_none : (store : StoreView D) → IsWayMade d store store
  way_none store = record {
    usable = refl;
    desktop = λ honest. refl;
    kept = refl;
    way = inl refl;
    turn = inl (record { layout = refl; epoch = refl; events = refl });
  }

  pub way_aside : {old new : StoreView D} → CanTurn old → IsAside d old new → IsWayMade d old new
  way_aside can aside = record {
    usable = aside.usable ∙ sym can.0;
    desktop = aside.desktop;
    kept = aside.kept;
    way = inr can;
    turn = inl (record { layout = aside.layout; epoch = aside.epoch; events = aside.events });
  }

  pub way_renewed : {old new : StoreView D} → CanTurn old → IsDueBefore old → IsRenewed d old new → IsWayMade d old new
  way_renewed can due renewed = record {
    usable = renewed.usable ∙ sym can.0;
    desktop = renewed.desktop;
    kept = renewed.kept;
    way = inr can;
    turn = inr (record { due = due; layout = renewed.layout; epoch = renewed.epoch; events = renewed.events });
  }

  -- ---- posts behind them

  due_on : {old new : StoreView D} → IsUnturned old new → IsDueBefore old → IsDueBefore new
  due_on same due = subst (λ (x : ℕ × ℕ). (JOURNAL_EVENTS ≤ x.0) ⊎ ¬ (x.1 ≡ LAYOUT))
      (λ i. (sym same.events i, sym same.layout i)) due

  room_on : {old new : StoreView D} → IsUnturned old new → HasJournalRoom old → HasJournalRoom new
  room_on same room = (omega (arith, same.events, room.0), same.layout ∙ room.1)

  room_anew : {old new : StoreView D} → IsTurned old new → HasJournalRoom new
  room_anew turned = (omega (arith, turned.events), turned.layout)

  pub room_renewed : {old new : StoreView D} → IsRenewed d old new → HasJournalRoom new
  room_renewed renewed = (omega (arith, renewed.events), renewed.layout)

  pub only_first : (event : Event) (old mid : StoreView D) → LeavesDesktop d old mid → LeavesEither d event old mid
  only_first event old mid first usable honest = weakened (first usable honest) (λ c means. inl means)

  module _ {old mid : StoreView D} (new : StoreView D) (made : IsWayMade d old mid) where
    pub either_then : (event : Event) → IsSameDevice d old.disk mid.disk → LeavesDesktop d old mid
        → LeavesEither d event mid new → LeavesEither d event old new
    either_then event device first second usable honest =
        chained (weakened (first usable honest) (λ c means. inl means))
        (subst (λ (x : ℕ × Desktop). LeavesOnly (d.trail mid.disk) (d.trail new.disk)
        (MeansEither x.0 x.1 (step x.1 event).desktop)) (λ i. (device.as_large i, made.desktop honest i))
        (second (made.usable ∙ usable) (device.still honest)))

    pub starved_then : IsSameDevice d old.disk mid.disk → LeavesDesktop d old mid → LeavesDesktop d mid new
        → LeavesDesktop d old new
    starved_then device first second usable honest =
        chained (first usable honest)
        (subst (λ (x : ℕ × Desktop). LeavesOnly (d.trail mid.disk) (d.trail new.disk) (Means x.0 x.1))
        (λ i. (device.as_large i, made.desktop honest i)) (second (made.usable ∙ usable) (device.still honest)))

    pub acknowledged_then : (event : Event) (reply : Reply) → IsSameDevice d old.disk mid.disk
        → IsAcknowledged d event reply mid new → IsAcknowledged d event reply old new
    acknowledged_then event reply device second = record {
      stepped = record {
        done = λ honest. second.stepped.done (device.still honest)
            ∙ ap (λ desktop. step_in LAYOUT desktop event) (made.desktop honest);
        unread = subst (λ kept. StepsUnread LAYOUT kept new.kept event reply) made.kept second.stepped.unread;
        known = second.stepped.known;
        refusal = λ code is. second.stepped.refusal code is ∙ made.kept;
      };
      durable = second.durable;
      more = λ room. elim made.turn [
        | inl same ↦ let after = second.more (room_on same room) in (
          after.0 ∙ same.epoch,
          after.1 ∙ ap (λ n. n + 1) same.events,
        )
        | inr turned ↦ absurd (no_need old room turned.due)
      ];
      anew = λ due. elim made.turn [
        | inl same ↦ let after = second.anew (due_on same due) in (
          after.0 ∙ ap (λ n. n + 1) same.epoch,
          after.1,
        )
        | inr turned ↦ let after = second.more (room_anew turned) in (
          after.0 ∙ turned.epoch,
          after.1 ∙ ap (λ n. n + 1) turned.events,
        )
      ];
      layout = second.layout;
      usable = second.usable;
    }

    -- where an event is turned away nothing was done before it
    same_at_last : IsLast mid → IsDueBefore mid → mid ≡ old
    same_at_last last due = elim made.way [
      | inl same ↦ same
      | inr can ↦ elim made.turn [
        | inl same ↦ absurd (can.1 (sym same.epoch ∙ last.1))
        | inr turned ↦ absurd (no_need mid (room_anew turned) due)
      ]
    ]

    pub worn_then : (answer : Result Reply Error) → AnswersWorn answer mid new → AnswersWorn answer old new
    worn_then answer worn = record {
      only = λ refused. let at = worn.only refused in
          subst (λ store. IsLast store × IsDueBefore store) (same_at_last at.0 at.1) at;
      always = λ when. elim made.way [
        | inl same ↦ worn.always (subst (λ store. IsLast store × IsDueBefore store) (sym same) when)
        | inr can ↦ absurd (can.1 when.0.1)
      ];
      unchanged = λ refused. let at = worn.only refused in worn.unchanged refused ∙ same_at_last at.0 at.1;
    }

    pub reopen_then : (answer : Result Reply Error) → AnswersMustReopen answer mid new
        → AnswersMustReopen answer old new
    reopen_then answer reopen = record {
      only = λ refused. sym made.usable ∙ reopen.only refused;
      always = λ must. reopen.always (made.usable ∙ must);
      unchanged = λ refused. elim made.way [
        | inl same ↦ reopen.unchanged refused ∙ same
        | inr can ↦ absurd (false≢true (sym can.0 ∙ sym made.usable ∙ reopen.only refused))
      ];
    }

  -- ---- nothing was posted

  pub worn_none : {old : StoreView D} (new : StoreView D) (answer : Result Reply Error) → CanTurn old
      → (IsErrOf answer Worn → ⊥) → AnswersWorn answer old new
  worn_none new answer can other = record {
    only = λ refused. absurd (other refused);
    always = λ when. absurd (can.1 when.0.1);
    unchanged = λ refused. absurd (other refused);
  }

  pub reopen_none : {old : StoreView D} (new : StoreView D) (answer : Result Reply Error) → CanTurn old
      → (IsErrOf answer MustReopen → ⊥) → AnswersMustReopen answer old new
  reopen_none new answer can other = record {
    only = λ refused. absurd (other refused);
    always = λ must. absurd (false≢true (sym can.0 ∙ must));
    unchanged = λ refused. absurd (other refused);
  }

-- ---- errors

-- an error of a page is one of a post
pub of_page : (e : Error) → OfDesktop e → OfPost e
of_page e (inl memory) = inl memory
of_page e (inr fault) = inr (inl fault)

-- an error of a checkpoint of a store in use, whose epoch isn't the last one
pub of_turn : (e : Error) → OfCheckpoint e → (e ≡ MustReopen → ⊥) → (e ≡ Worn → ⊥) → OfDesktop e
of_turn e (inl fault) usable room = inr fault
of_turn e (inr (inl reopen)) usable room = absurd (usable reopen)
of_turn e (inr (inr worn)) usable room = absurd (room worn)

-- an error of a checkpoint is one of a post
pub of_checkpoint : (e : Error) → OfCheckpoint e → OfPost e
of_checkpoint e (inl fault) = inr (inl fault)
of_checkpoint e (inr (inl reopen)) = inr (inr (inl reopen))
of_checkpoint e (inr (inr worn)) = inr (inr (inr worn))

-- an error of a look is one of a post
pub of_look : (e : Error) → OfLook e → OfPost e
of_look e (inl memory) = inl memory
of_look e (inr (inl fault)) = inr (inl fault)
of_look e (inr (inr reopen)) = inr (inr (inl reopen))

-- an error of a look at a store in use
pub of_used : (e : Error) → OfLook e → (e ≡ MustReopen → ⊥) → OfDesktop e
of_used e (inl memory) usable = inl memory
of_used e (inr (inl fault)) usable = inr fault
of_used e (inr (inr reopen)) usable = absurd (usable reopen)

-- what a page's error isn't
pub never : {T : Type 0} (answer : Result T Error) (x : Error) → IfErr answer OfDesktop → (OfDesktop x → ⊥)
    → answer ≡ Err x → ⊥
never answer x errors not is = not (subst (λ r. IfErr r OfDesktop) is errors)

pub not_worn : OfDesktop Worn → ⊥
not_worn (inl memory) = let wrong : ⊥ = cc memory in wrong
not_worn (inr fault) = let wrong : ⊥ = cc fault in wrong

pub not_reopen : OfDesktop MustReopen → ⊥
not_reopen (inl memory) = let wrong : ⊥ = cc memory in wrong
not_reopen (inr fault) = let wrong : ⊥ = cc fault in wrong

-- ---- two facts of what was returned

pub ok_with : {T E : Type 0} (answer : Result T E) {P : T → Type 0} {Q R : Type 0} → IfOk answer P → OnOk answer Q
    → ((x : T) → P x → Q → R) → OnOk answer R
ok_with (Ok x) p q f = f x p q
ok_with (Err e) p q f = tt
