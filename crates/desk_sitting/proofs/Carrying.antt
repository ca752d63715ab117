-- A task is done plan by plan.
use Rattle.std.proofs.Common.{◌≡◌, ◌≤◌, ℕ, zero, suc, true, false, List, [], ◌∷◌, ◌++◌, Some, None, Ok, Err, refl}
use Rattle.std.proofs.Common.{sym, ◌∙◌, ap, subst}
use Rattle.std.proofs.Common.{append_assoc, append-nil, arith}
use Rattle.std.specs.Prelude.{Bool, ◌&&◌, not, if◌then◌else◌, Option, is_some, Result}
use Rattle.std.proofs.lemmas.Bool.{false≢true}
use Rattle.sector_disk.specs.declared.disk.Disk.{Ghosts}
use Rattle.event_bytes.specs.declared.event.Event.{Event}
use Rattle.desk_journal.specs.Errors.{Error}
use Rattle.desk_journal.specs.Looking.{OnlyLooks}
use Rattle.desk_journal.specs.Session.{session_of}
use Rattle.desk_journal.specs.View.{StoreView, IsDurable}
use Rattle.status_line.specs.declared.deed.Deed.{Deed}
use Rattle.desk_sitting.specs.declared.sitting.Sitting.{Sitting}
use Rattle.press_tasks.specs.declared.task.Task.{Task}
use Rattle.press_tasks.specs.declared.task.TheConstants.{MOST_PLANS}
use Rattle.desk_sitting.specs.Sittings.{most_plans}
use Rattle.desk_sitting.specs.Doing.{ComesToSeat, DoesPress, seat_of}
use Rattle.desk_sitting.specs.Pasts.{KeepsPast}
use Rattle.desk_sitting.specs.Sittings.{Seat, accepted_by, accepted_in, accepted_stage, after_planned, after_post}
use Rattle.desk_sitting.specs.Sittings.{accepted_one, after_posts}
use Rattle.desk_sitting.specs.Sittings.{after_stage, after_task, does, kept_follows, left_by, task_left, planned}
use Rattle.desk_sitting.specs.Sittings.{went_on}
use Rattle.press_tasks.specs.Tasks.{deed_of_task}
use Rattle.press_plans.specs.Plans.{Plan, plan_of}
use Rattle.desk_sitting.proofs.Accepted.{alone_accepted, alone_posted, none_accepted}
use Rattle.desk_sitting.proofs.Pressed.{alone_press, event_press, look_press, press_both, press_same, press_short}
use Rattle.desk_sitting.proofs.Pressed.{unseen_press}
use Rattle.desk_sitting.proofs.Taking.{same_session}

-- ---- plans, one after another

-- what is left of a task after so many plans
abbrev pub left_in : ℕ → Option Task → Seat → Option Task
left_in zero left seat = left
left_in (suc n) left seat = left_in n (task_left left seat.session) (after_stage left seat)

task_more : (n : ℕ) (left : Option Task) (seat : Seat)
    → after_task (suc n) left seat ≡ after_stage (left_in n left seat) (after_task n left seat)
task_more zero left seat = refl
task_more (suc n) left seat = task_more n (task_left left seat.session) (after_stage left seat)

left_more : (n : ℕ) (left : Option Task) (seat : Seat)
    → left_in (suc n) left seat ≡ task_left (left_in n left seat) (after_task n left seat).session
left_more zero left seat = refl
left_more (suc n) left seat = left_more n (task_left left seat.session) (after_stage left seat)

accepted_more : (n : ℕ) (left : Option Task) (seat : Seat) → accepted_in (suc n) left seat
    ≡ accepted_in n left seat ++ accepted_stage (left_in n left seat) (after_task n left seat)
accepted_more zero left seat = append-nil (accepted_stage left seat)
accepted_more (suc n) left seat =
    let next : Option Task = task_left left seat.session in
    let after : Seat = after_stage left seat in
    ap (λ es. accepted_stage left seat ++ es) (accepted_more n next after)
    ∙ sym (append_assoc (accepted_stage left seat) (accepted_in n next after)
    (accepted_stage (left_in n next after) (after_task n next after)))

-- those of the first plans come first
accepted_front : (n k : ℕ) (left : Option Task) (seat : Seat) → n ≤ k
    → (more : List Event) × (accepted_in n left seat ++ more ≡ accepted_in k left seat)
accepted_front zero k left seat most = (accepted_in k left seat, refl)
accepted_front (suc n) zero left seat most = absurd (omega (arith, most))
accepted_front (suc n) (suc k) left seat most =
    let rest = accepted_front n k (task_left left seat.session) (after_stage left seat) (omega (arith, most)) in (
      rest.0,
      append_assoc (accepted_stage left seat) (accepted_in n (task_left left seat.session) (after_stage left seat)) rest.0
          ∙ ap (λ es. accepted_stage left seat ++ es) rest.1,
    )

-- the number of plans, which no other proof has to know
pub plans_are : most_plans ≡ MOST_PLANS
unfolding most_plans
plans_are = refl

pub within_plans : {n : ℕ} → n ≤ MOST_PLANS → n ≤ most_plans
within_plans {n} most = subst (λ (k : ℕ). n ≤ k) (sym plans_are) most

-- where nothing is left no plan more does anything
none_done : (n : ℕ) (seat : Seat) → after_task n None seat ≡ seat
none_done zero seat = refl
none_done (suc n) seat = none_done n seat

rest_done : (n k : ℕ) (left : Option Task) (seat : Seat) → n ≤ k → left_in n left seat ≡ None
    → (accepted_in k left seat ≡ accepted_in n left seat) × (after_task k left seat ≡ after_task n left seat)
rest_done zero k left seat most is = (
  ap (λ l. accepted_in k l seat) is ∙ none_accepted k seat,
  ap (λ l. after_task k l seat) is ∙ none_done k seat,
)
rest_done (suc n) zero left seat most is = absurd (omega (arith, most))
rest_done (suc n) (suc k) left seat most is =
    let rest = rest_done n k (task_left left seat.session) (after_stage left seat) (omega (arith, most)) is in
    (ap (λ es. accepted_stage left seat ++ es) rest.0, rest.1)

pub none_of : (left : Option Task) (none : Bool) → is_some left ≡ not none → none ≡ true → left ≡ None
none_of None none is so = refl
none_of (Some task) none is so = absurd (false≢true (sym (is ∙ ap not so)))

-- ---- one plan

and_true : (b : Bool) → b && true ≡ b
and_true true = refl
and_true false = refl

-- what is left, where one event was to be done
pub left_after_one : (done : Bool) (next : Option Task) (event : Event) (seat : Seat) (left : Option Task)
    → left ≡ (if done then next else None) → done ≡ does seat.session event
    → left ≡ (if does seat.session event && true then next else None)
left_after_one done next event seat left is told =
    is ∙ ap (λ (b : Bool). if b then next else None) (told ∙ sym (and_true (does seat.session event)))

pub went_so : (task : Task) (s t : Sitting) {s' : Sitting} {deed : Option Deed} {follows : Option Bool} → deed ≡ deed_of_task task
    → follows ≡ kept_follows task s → s' ≡ went_on deed follows t
    → s' ≡ went_on (deed_of_task task) (kept_follows task s) t
went_so task s t {follows = follows} is_deed is_follows is =
    is ∙ ap (λ o. went_on o follows t) is_deed ∙ ap (λ f. went_on (deed_of_task task) f t) is_follows

module _ {D : Type 0} (d : Ghosts D) where
  -- one event is a list of one
  pub one_event : {T : Type 0} (event : Event) (result : Result T Error) (s s' : Sitting) (old new : StoreView D)
      → ComesToSeat d (after_post event (seat_of s old)) result s' old new
      → KeepsPast d (accepted_one (session_of old) event) result old new
      → DoesPress d (accepted_by (session_of old) (event ∷ [])) (after_posts (event ∷ []) (seat_of s old)) result s' old new
  one_event event result s s' old new comes past = press_same d result (λ honest durable. (
    sym (alone_accepted event (session_of old)),
    sym (alone_posted event (seat_of s old)),
  )) (event_press d event result s s' old new comes past)

  -- a slice has the events
  pub of_slice : {T : Type 0} {slice events : List Event} (same : slice ≡ events) {result : Result T Error} (s : Sitting)
      {s' : Sitting} {old new : StoreView D}
      → DoesPress d (accepted_by (session_of old) slice) (after_posts slice (seat_of s old)) result s' old new
      → DoesPress d (accepted_by (session_of old) events) (after_posts events (seat_of s old)) result s' old new
  of_slice same {result = result} s {s' = s'} {old = old} {new = new} press = subst
      (λ es. DoesPress d (accepted_by (session_of old) es) (after_posts es (seat_of s old)) result s' old new) same press

  -- a call that failed is one, whatever it was to come to
  pub press_broken : {T U : Type 0} {error : Error} {events : List Event} {seat : Seat} (next : Seat) {s' s'' : Sitting}
      {old new : StoreView D} → DoesPress d {T = U} events seat (Err error) s' old new
      → DoesPress d {T = T} events next (Err error) s'' old new
  press_broken next press = record {
    done = tt;
    undone = press.undone;
    usable = tt;
    faults = record {
      rose = λ fault. press.faults.rose (cc fault);
      calm = λ fine. press.faults.calm (λ fault. fine (cc fault));
      errors = press.faults.errors;
    };
    device = press.device;
  }

  -- the sitting changes once more
  changed_press : {T U : Type 0} {x : U} (value : T) (f : Sitting → Sitting) {events : List Event} {next : Seat}
      {s' : Sitting} (s'' : Sitting) {old new : StoreView D} → s'' ≡ f s' → DoesPress d events next (Ok x) s' old new
      → DoesPress d events (record next { sitting = f next.sitting }) (Ok value) s'' old new
  changed_press value f s'' {new = new} is press = record {
    done = λ honest durable.
        let before = press.done honest durable in
        record {
          seat = ap (λ t. seat_of t new) is ∙ ap (λ (e : Seat). record e { sitting = f e.sitting }) before.seat;
          goes = before.goes;
        };
    undone = tt;
    usable = press.usable;
    faults = record {
      rose = λ wrong. absurd (cc wrong);
      calm = λ other. press.faults.calm (λ wrong. absurd (cc wrong));
      errors = tt;
    };
    device = press.device;
  }

  -- nothing is left to do
  pub none_left : {T : Type 0} {value : T} (s : Sitting) (store : StoreView D) → store.must_reopen ≡ false
      → DoesPress d (accepted_stage None (seat_of s store)) (after_stage None (seat_of s store)) (Ok value) s store store
  none_left {value = value} s store usable = alone_press d value (seat_of s store) s store usable refl

  -- the look fails by which a plan is made
  pub stage_unseen : {A T : Type 0} {old mid : StoreView D} → old.must_reopen ≡ false → (error : Error) (events : List Event)
      (next : Seat) (s : Sitting) {s' : Sitting} → OnlyLooks {T = A} d (Err error) old mid
      → DoesPress d {T = T} events next (Err error) s' old mid
  stage_unseen {T = T} usable error events next s looks =
      press_broken {U = T} next (unseen_press d usable error events next s looks)

  module _ {A : Type 0} (value : A) (task : Task) (plan : Plan) (s : Sitting) {old mid : StoreView D}
      (usable : old.must_reopen ≡ false) (looks : OnlyLooks d (Ok value) old mid)
      (is : d.honest old.disk → plan ≡ plan_of task old.desktop) where
    abbrev origin : Seat
    origin = seat_of s old

    -- the events of a plan that was made of the desktop are those of its task
    accepted_so : d.honest old.disk
        → accepted_by (session_of mid) (planned plan) ≡ accepted_stage (Some task) origin
    accepted_so honest = ap (λ session. accepted_by session (planned plan)) (same_session d looks honest)
        ∙ ap (λ p. accepted_by (session_of old) (planned p)) (is honest)

    seat_so : d.honest old.disk → after_planned plan (seat_of s mid) ≡ after_planned (plan_of task old.desktop) origin
    seat_so honest =
        ap (λ session. after_planned plan (record { sitting = s; session = session })) (same_session d looks honest)
        ∙ ap (λ p. after_planned p origin) (is honest)

    pub stage_done : {T U : Type 0} {x : U} (next : T) (t s' : Sitting) {new : StoreView D}
        → s' ≡ went_on (deed_of_task task) (kept_follows task s) t
        → DoesPress d (accepted_by (session_of mid) (planned plan)) (after_planned plan (seat_of s mid)) (Ok x) t mid new
        → DoesPress d (accepted_stage (Some task) origin) (after_stage (Some task) origin) (Ok next) s' old new
    stage_done next t s' ended press =
        let f : Sitting → Sitting = went_on (deed_of_task task) (kept_follows task s) in
        press_same d (Ok next) (λ honest durable. (
          accepted_so honest,
          ap (λ (e : Seat). record e { sitting = f e.sitting }) (seat_so honest),
        ))
        (changed_press next f s' ended (press_both d (look_press d usable value s looks) press))

    pub stage_broken : {T U : Type 0} (error : Error) (t s' : Sitting) {new : StoreView D}
        → DoesPress d {T = U} (accepted_by (session_of mid) (planned plan)) (after_planned plan (seat_of s mid)) (Err error) t
        mid new
        → DoesPress d {T = T} (accepted_stage (Some task) origin) (after_stage (Some task) origin) (Err error) s' old new
    stage_broken error t s' press = press_same d (Err error) (λ honest durable. (accepted_so honest, refl))
        (press_broken (after_stage (Some task) origin) (press_both d (look_press d usable value s looks) press))

    -- what is left of it
    pub stage_left : (next : Option Task)
        → (d.honest mid.disk → IsDurable d mid → next ≡ left_by plan (session_of mid))
        → d.honest old.disk → IsDurable d old → next ≡ task_left (Some task) (session_of old)
    stage_left next told honest durable =
        let seen = look_press d usable value s looks in
        told (seen.device.still honest) (seen.done honest durable).goes.durable
        ∙ ap (λ session. left_by plan session) (same_session d looks honest)
        ∙ ap (λ p. left_by p (session_of old)) (is honest)

  -- ---- one plan more

  module _ (i : ℕ) (first left : Option Task) (s s' : Sitting) {old mid : StoreView D}
      (before : DoesPress d {T = Unit} (accepted_in i first (seat_of s old)) (after_task i first (seat_of s old)) (Ok tt) s'
      old mid)
      (is : d.honest old.disk → IsDurable d old → left ≡ left_in i first (seat_of s old)) where
    abbrev start : Seat
    start = seat_of s old

    same_seat : d.honest old.disk → IsDurable d old → seat_of s' mid ≡ after_task i first start
    same_seat honest durable = (before.done honest durable).seat

    pub next_stage : {T : Type 0} (result : Result T Error) {s'' : Sitting} {new : StoreView D}
        → DoesPress d (accepted_stage left (seat_of s' mid)) (after_stage left (seat_of s' mid)) result s'' mid new
        → DoesPress d (accepted_in (suc i) first start) (after_task (suc i) first start) result s'' old new
    next_stage result press = press_same d result (λ honest durable. (
      ap (λ e. accepted_in i first start ++ accepted_stage left e) (same_seat honest durable)
          ∙ ap (λ l. accepted_in i first start ++ accepted_stage l (after_task i first start)) (is honest durable)
          ∙ sym (accepted_more i first start),
      ap (after_stage left) (same_seat honest durable)
          ∙ ap (λ l. after_stage l (after_task i first start)) (is honest durable)
          ∙ sym (task_more i first start),
    ))
        (press_both d before press)

    pub next_left : (next : Option Task) {k : ℕ} → suc i ≡ k
        → (d.honest mid.disk → IsDurable d mid → next ≡ task_left left (session_of mid))
        → d.honest old.disk → IsDurable d old → next ≡ left_in k first start
    next_left next more told honest durable =
        told (before.device.still honest) (before.done honest durable).goes.durable
        ∙ ap (λ (e : Seat). task_left left e.session) (same_seat honest durable)
        ∙ ap (λ l. task_left l (after_task i first start).session) (is honest durable)
        ∙ sym (left_more i first start)
        ∙ ap (λ n. left_in n first start) more

    pub broken_stage : {T U : Type 0} (k : ℕ) → suc i ≤ k → (error : Error) {s'' : Sitting} {new : StoreView D}
        → DoesPress d {T = U} (accepted_stage left (seat_of s' mid)) (after_stage left (seat_of s' mid)) (Err error) s'' mid new
        → DoesPress d {T = T} (accepted_in k first start) (after_task k first start) (Err error) s'' old new
    broken_stage {T = T} k most error {s'' = s''} {new = new} press =
        let front = accepted_front (suc i) k first start most in
        subst (λ es. DoesPress d {T = T} es (after_task k first start) (Err error) s'' old new) front.1
        (press_short d front.0 (after_task k first start)
        (press_broken {T = T} (after_task (suc i) first start) (next_stage (Err error) press)))

  -- nothing is left, and so all plans are made
  pub carried_early : {T : Type 0} {x : T} (first left : Option Task) (s : Sitting) {i j k : ℕ} {s' : Sitting}
      {old new : StoreView D} → suc i ≡ j → j ≤ k
      → (d.honest old.disk → IsDurable d old → left ≡ left_in j first (seat_of s old)) → left ≡ None
      → DoesPress d (accepted_in (suc i) first (seat_of s old)) (after_task (suc i) first (seat_of s old)) (Ok x) s' old new
      → DoesPress d (accepted_in k first (seat_of s old)) (after_task k first (seat_of s old)) (Ok x) s' old new
  carried_early {x = x} first left s {i = i} {j = j} {k = k} {old = old} more most is none press =
      press_same d (Ok x) (λ honest durable.
      let rest = rest_done j k first (seat_of s old) most (sym (is honest durable) ∙ none) in (
        ap (λ n. accepted_in n first (seat_of s old)) more ∙ sym rest.0,
        ap (λ n. after_task n first (seat_of s old)) more ∙ sym rest.1,
      )) press

  -- all plans are made
  pub carried_to : {T : Type 0} {x : T} (first : Option Task) (s : Sitting) {i k : ℕ} {s' : Sitting} {old new : StoreView D}
      → i ≡ k
      → DoesPress d (accepted_in i first (seat_of s old)) (after_task i first (seat_of s old)) (Ok x) s' old new
      → DoesPress d (accepted_in k first (seat_of s old)) (after_task k first (seat_of s old)) (Ok x) s' old new
  carried_to {x = x} first s {old = old} is press = press_same d (Ok x) (λ honest durable. (
    ap (λ n. accepted_in n first (seat_of s old)) is,
    ap (λ n. after_task n first (seat_of s old)) is,
  )) press
