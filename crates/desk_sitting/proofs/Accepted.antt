-- The events of presses that are accepted lead to the desktop after them.
use Rattle.std.proofs.Common.{◌≡◌, ◌≤◌, inl, inr, ℕ, zero, suc, Bool, true, false, [], ◌∷◌, ◌++◌, Option, Some, None}
use Rattle.std.proofs.Common.{refl, sym}
use Rattle.std.proofs.Common.{◌∙◌, ap, arith, length, append_assoc, append-nil}
use Rattle.std.specs.Prelude.{if◌then◌else◌, ◌&&◌, List}
use Rattle.std.proofs.lemmas.Bool.{cond-true, cond-false}
use Rattle.event_bytes.specs.declared.event.Event.{Event}
use Rattle.desktop_definitions.specs.Step.{step, steps}
use Rattle.store_layout.proofs.Bits.{true_or_false}
use Rattle.desk_journal.specs.Session.{Session, is_due, is_worn, renewed, stepped, taken}
use Rattle.desk_journal.proofs.Prefixes.{steps_both}
use Rattle.terminal_presses.specs.declared.press.Press.{Press}
use Rattle.terminal_presses.specs.declared.action.Action.{Action}
use Rattle.terminal_presses.specs.declared.hand.Hand.{Hand}
use Rattle.desk_sitting.specs.Sittings.{meant_by}
use Rattle.press_tasks.specs.declared.task.Task.{Task}
use Rattle.desk_sitting.specs.Sittings.{most_plans}
use Rattle.desk_sitting.specs.Questions.{unasked}
use Rattle.press_plans.specs.Plans.{Plan, Aims, Asks, Events, Keeps, PutsAway, Refused as NotDone, Says, Shows, Tells, plan_of}
use Rattle.desk_sitting.specs.Sittings.{Seat, accepted_as, accepted_by, accepted_in, accepted_one, accepted_stage}
use Rattle.desk_sitting.specs.Sittings.{acted}
use Rattle.desk_sitting.specs.Sittings.{accepted_unasked, after_planned, after_post, after_posts, after_press}
use Rattle.desk_sitting.specs.Sittings.{after_stage}
use Rattle.desk_sitting.specs.Sittings.{after_task, asks_first, does, does_all, done_by, done_so, noted_at, task_in}
use Rattle.desk_sitting.specs.Sittings.{with_marks, task_left, planned, with_hand}
use Rattle.desk_sitting.specs.Sittings.{accepted_of}

-- ---- one event

either_way : (s : Session) (b : Bool) → (if b then renewed s else s).desktop ≡ s.desktop
either_way s true = refl
either_way s false = refl

-- whether or not the journal is renewed first, an event that is accepted is one step
taken_steps : (s : Session) (event : Event)
    → (taken s event).desktop ≡ steps s.desktop (if is_worn s then [] else event ∷ [])
taken_steps s event =
    let next = stepped (if is_due s then renewed s else s) event in
    elim (true_or_false (is_worn s)) [
      | inl worn ↦ ap (λ (t : Session). t.desktop) (cond-true (is_worn s) s next worn)
          ∙ sym (ap (steps s.desktop) (cond-true (is_worn s) [] (event ∷ []) worn))
      | inr room ↦ ap (λ (t : Session). t.desktop) (cond-false (is_worn s) s next room)
          ∙ ap (λ d. (step d event).desktop) (either_way s (is_due s))
          ∙ sym (ap (steps s.desktop) (cond-false (is_worn s) [] (event ∷ []) room))
    ]

none_or_one : (worn : Bool) (event : Event) → length (if worn then [] else event ∷ []) ≤ 1
none_or_one true event = omega arith
none_or_one false event = omega arith

-- one event at most is accepted, and it is one step
pub one_steps : (event : Event) (d : Seat) → (length (accepted_one d.session event) ≤ 1)
    × ((after_post event d).session.desktop ≡ steps d.session.desktop (accepted_one d.session event))
unfolding after_post
one_steps event d = (none_or_one (is_worn d.session) event, taken_steps d.session event)

-- ---- events, one after another

either_same : {A : Type 0} (b : Bool) (x : A) → (if b then x else x) ≡ x
either_same true x = refl
either_same false x = refl

both_true : (a b : Bool) → a && b ≡ true → (a ≡ true) × (b ≡ true)
both_true true b is = (refl, is)
both_true false b is = absurd cc

pub alone_posted : (event : Event) (d : Seat) → after_posts (event ∷ []) d ≡ after_post event d
alone_posted event d = either_same (does d.session event) (after_post event d)

pub alone_accepted : (event : Event) (s : Session) → accepted_by s (event ∷ []) ≡ accepted_one s event
alone_accepted event s = ap (λ es. accepted_one s event ++ es) (either_same (does s event) [])
    ∙ append-nil (accepted_one s event)

-- others come behind events that are all done
pub posted_both : (first more : List Event) (d : Seat) → does_all d.session first ≡ true
    → after_posts (first ++ more) d ≡ after_posts more (after_posts first d)
unfolding after_post
posted_both [] more d all = refl
posted_both (event ∷ first) more d all =
    let is = both_true (does d.session event) (does_all (taken d.session event) first) all in
    let next : Seat = after_post event d in
    cond-true (does d.session event) (after_posts (first ++ more) next) next is.0
    ∙ posted_both first more next is.1
    ∙ sym (ap (after_posts more) (cond-true (does d.session event) (after_posts first next) next is.0))

pub all_both : (first more : List Event) (d : Seat) → does_all d.session first ≡ true
    → does_all d.session (first ++ more) ≡ does_all (after_posts first d).session more
unfolding after_post
all_both [] more d all = refl
all_both (event ∷ first) more d all =
    let is = both_true (does d.session event) (does_all (taken d.session event) first) all in
    let next : Seat = after_post event d in
    ap (λ b. b && does_all (taken d.session event) (first ++ more)) is.0
    ∙ all_both first more next is.1
    ∙ sym (ap (λ (t : Seat). does_all t.session more)
    (cond-true (does d.session event) (after_posts first next) next is.0))

pub accepted_both : (first more : List Event) (d : Seat) → does_all d.session first ≡ true
    → accepted_by d.session (first ++ more)
    ≡ accepted_by d.session first ++ accepted_by (after_posts first d).session more
unfolding after_post
accepted_both [] more d all = refl
accepted_both (event ∷ first) more d all =
    let is = both_true (does d.session event) (does_all (taken d.session event) first) all in
    let one : List Event = accepted_one d.session event in
    let next : Seat = after_post event d in
    ap (λ es. one ++ es) (cond-true (does d.session event) (accepted_by next.session (first ++ more)) [] is.0
    ∙ accepted_both first more next is.1)
    ∙ sym (append_assoc one (accepted_by next.session first) (accepted_by (after_posts first next).session more))
    ∙ sym (ap (λ es. (one ++ es) ++ accepted_by (after_posts first next).session more)
    (cond-true (does d.session event) (accepted_by next.session first) [] is.0))
    ∙ sym (ap (λ (t : Seat). accepted_by d.session (event ∷ first) ++ accepted_by t.session more)
    (cond-true (does d.session event) (after_posts first next) next is.0))

all_steps : (events : List Event) (d : Seat)
    → (after_posts events d).session.desktop ≡ steps d.session.desktop (accepted_by d.session events)
unfolding after_post
all_steps [] d = refl
all_steps (event ∷ events) d =
    let one : List Event = accepted_one d.session event in
    let next : Seat = after_post event d in
    elim (true_or_false (does d.session event)) [
      | inl done ↦ ap (λ (t : Seat). t.session.desktop)
          (cond-true (does d.session event) (after_posts events next) next done)
          ∙ all_steps events next
          ∙ ap (λ desktop. steps desktop (accepted_by next.session events)) (taken_steps d.session event)
          ∙ sym (steps_both d.session.desktop one (accepted_by next.session events))
          ∙ sym (ap (λ es. steps d.session.desktop (one ++ es))
          (cond-true (does d.session event) (accepted_by next.session events) [] done))
      | inr not_done ↦ ap (λ (t : Seat). t.session.desktop)
          (cond-false (does d.session event) (after_posts events next) next not_done)
          ∙ taken_steps d.session event
          ∙ sym (ap (steps d.session.desktop) (append-nil one))
          ∙ sym (ap (λ es. steps d.session.desktop (one ++ es))
          (cond-false (does d.session event) (accepted_by next.session events) [] not_done))
    ]

-- ---- a task

planned_steps : (plan : Plan) (d : Seat) → (after_planned plan d).session.desktop
    ≡ steps d.session.desktop (accepted_by d.session (planned plan))
planned_steps (NotDone why) d = refl
planned_steps (Events events next) d = all_steps events d
planned_steps (Says line) d = refl
planned_steps (Aims cell) d = refl
planned_steps (Shows cell) d = refl
planned_steps (Tells saying) d = refl
planned_steps (Asks before) d = refl
planned_steps (Keeps words next) d = refl
planned_steps (PutsAway next) d = refl

stage_steps : (left : Option Task) (d : Seat)
    → (after_stage left d).session.desktop ≡ steps d.session.desktop (accepted_stage left d)
stage_steps None d = refl
stage_steps (Some task) d = planned_steps (plan_of task d.session.desktop) d

task_steps : (n : ℕ) (left : Option Task) (d : Seat)
    → (after_task n left d).session.desktop ≡ steps d.session.desktop (accepted_in n left d)
task_steps zero left d = refl
task_steps (suc n) left d =
    let rest : List Event = accepted_in n (task_left left d.session) (after_stage left d) in
    task_steps n (task_left left d.session) (after_stage left d)
    ∙ ap (λ desktop. steps desktop rest) (stage_steps left d)
    ∙ sym (steps_both d.session.desktop (accepted_stage left d) rest)

-- with nothing left to do nothing is accepted
pub none_accepted : (n : ℕ) (d : Seat) → accepted_in n None d ≡ []
none_accepted zero d = refl
none_accepted (suc n) d = none_accepted n d

so_steps : (left : Option Task) (a : Action) (d : Seat) → (done_so left a d).session.desktop
    ≡ steps d.session.desktop (accepted_in most_plans left d)
so_steps None a d = sym (ap (steps d.session.desktop) (none_accepted most_plans d))
so_steps (Some task) a d = task_steps most_plans (Some task) d

action_steps : (a : Action) (d : Seat) → (done_by a d).session.desktop ≡ steps d.session.desktop (accepted_as a d)
unfolding done_by accepted_as
action_steps a d = so_steps (task_in d.sitting a) a (noted_at a d)

-- the hand is nothing to a question
pub hand_asks : (a : Action) (press : Press) (next : Hand × Action) (d : Seat)
    → asks_first a (record d { sitting = with_hand next (with_marks press d.sitting) }) ≡ asks_first a d
hand_asks a press next d = refl

-- a question is asked, or else it is done
acted_steps : (a : Action) (d : Seat) → (acted a d).session.desktop ≡ steps d.session.desktop (accepted_unasked a d)
unfolding acted
acted_steps a d =
    let plain : Seat = record d { sitting = unasked a d.sitting } in
    elim (true_or_false (asks_first a d)) [
      | inl asks ↦ ap (λ (t : Seat). t.session.desktop) (cond-true (asks_first a d) _ _ asks)
          ∙ sym (ap (steps d.session.desktop) (cond-true (asks_first a d) [] (accepted_as a plain) asks))
      | inr done ↦ ap (λ (t : Seat). t.session.desktop) (cond-false (asks_first a d) _ _ done)
          ∙ action_steps a plain
          ∙ sym (ap (steps d.session.desktop) (cond-false (asks_first a d) [] (accepted_as a plain) done))
    ]

pub press_steps : (press : Press) (d : Seat)
    → (after_press press d).session.desktop ≡ steps d.session.desktop (accepted_of press d)
unfolding after_press
press_steps press d =
    let made = meant_by press d.sitting in
    let held = record d { sitting = with_hand made (with_marks press d.sitting) } in
    let events = accepted_unasked made.1 held in
    elim (true_or_false d.sitting.leaves) [
      | inl left ↦ ap (λ (t : Seat). t.session.desktop) (cond-true d.sitting.leaves d (acted made.1 held) left)
          ∙ sym (ap (steps d.session.desktop) (cond-true d.sitting.leaves [] events left))
      | inr here ↦ ap (λ (t : Seat). t.session.desktop) (cond-false d.sitting.leaves d (acted made.1 held) here)
          ∙ acted_steps made.1 held
          ∙ sym (ap (steps d.session.desktop) (cond-false d.sitting.leaves [] events here))
    ]
