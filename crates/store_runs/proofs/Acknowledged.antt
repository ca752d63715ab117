-- What a crash leaves of posts and checkpoints, one after another: a prefix of the accepted events that holds every
-- acknowledged one.
use Rattle.std.proofs.Common.{◌≡◌, ◌⊎◌, inl, inr, ℕ, List, [], ◌∷◌, ◌++◌, Ok, Err, refl, sym, ◌∙◌, ap, subst, true, false}
use Rattle.std.proofs.Common.{append_assoc, append-nil}
use Rattle.std.specs.Prelude.{flat_map}
use Rattle.std.specs.List.{AllByRecursion}
use Rattle.sector_disk.specs.declared.disk.Disk.{Ghosts}
use Rattle.sector_disk.specs.Trail.{Content, now, Leaves, LeavesOnly}
use Rattle.sector_disk.proofs.Touching.{at_last, chained, weakened}
use Rattle.event_bytes.specs.declared.event.Event.{Event}
use Rattle.desktop_definitions.specs.Step.{Outcome, step, steps}
use Rattle.store_layout.proofs.Bits.{clash}
use Rattle.store_layout.specs.Meaning.{Means, MeansEither}
use Rattle.desk_journal.specs.Checkpointing.{IsCheckpointed}
use Rattle.desk_journal.specs.Errors.{Error, Fault, Worn}
use Rattle.desk_journal.specs.Posting.{IsPosted}
use Rattle.desk_journal.specs.Prefixes.{MeansPrefix}
use Rattle.desk_journal.specs.View.{StoreView}
use Rattle.desk_journal.proofs.Passing.{at_start}
use Rattle.desk_journal.proofs.Prefixes.{steps_both, whole_prefix, no_prefix, fewer_acknowledged, prefix_of_more}
use Rattle.desk_journal.proofs.Prefixes.{prefix_behind}
use Rattle.desk_journal.proofs.Stepped.{stepped_newest}
use Rattle.store_runs.specs.declared.call.StoreCall.{StoreCall}
use Rattle.store_runs.specs.declared.call.StoreCall.TheVariants.{Post as Posting, Checkpoint}
use Rattle.store_runs.specs.Deeds.{Deed, DoesDeed, IsRun, StoreAnswer, called, undone, brought, deeds_of}
use Rattle.store_runs.specs.Run.{HasFailed, PrefixLaw, accepted, acknowledged}
use Rattle.store_runs.proofs.Surviving.{all_fail, all_stay, deed_within, lasts}

-- ---- the events of deeds

abbrev all_accepted : List Deed → List Event
all_accepted deeds = flat_map accepted deeds

abbrev all_acknowledged : List Deed → List Event
all_acknowledged deeds = flat_map acknowledged deeds

none_acknowledged : (deed : Deed) → HasFailed deed → acknowledged deed ≡ []
none_acknowledged (called (Posting event) (Ok reply)) failed = absurd cc
none_acknowledged (called (Posting event) (Err e)) failed = refl
none_acknowledged (called Checkpoint answer) failed = refl
none_acknowledged (undone count answer) failed = refl
none_acknowledged (brought documents answer) failed = refl

all_unacknowledged : (deeds : List Deed) → AllByRecursion HasFailed deeds → all_acknowledged deeds ≡ []
all_unacknowledged [] failed = refl
all_unacknowledged (deed ∷ more) failed =
    ap (λ es. es ++ all_acknowledged more) (none_acknowledged deed failed.0) ∙ all_unacknowledged more failed.1

accepted_both : (calls more : List (StoreCall × StoreAnswer))
    → all_accepted (deeds_of (calls ++ more)) ≡ all_accepted (deeds_of calls) ++ all_accepted (deeds_of more)
accepted_both [] more = refl
accepted_both (made ∷ calls) more =
    let first = accepted (called made.0 made.1) in
    ap (λ es. first ++ es) (accepted_both calls more)
    ∙ sym (append_assoc first (all_accepted (deeds_of calls)) (all_accepted (deeds_of more)))

-- the event of a post that failed
accepted_of : (event : Event) (e other : Error) → e ≡ other
    → accepted (called (Posting event) (Err e)) ≡ accepted (called (Posting event) (Err other))
accepted_of event e other is = ap (λ x. accepted (called (Posting event) (Err x))) is

module _ {D : Type 0} (d : Ghosts D) (size : ℕ) where
  abbrev Shown : StoreView D → Type 0
  Shown store = Leaves (now (d.trail store.disk)) (Means size store.desktop)

  -- between two states a crash leaves a prefix of these events
  abbrev LeavesSome : List Event → StoreView D → StoreView D → Type 0
  LeavesSome events old new = LeavesOnly (d.trail old.disk) (d.trail new.disk) (MeansPrefix size old.desktop [] events)

  -- A store is in use behind deeds of which these events were acknowledged and those accepted: they are the same.
  record GoesOn (said taken : List Event) (old new : StoreView D) : Type 0 where
    pub usable : new.must_reopen ≡ false
    pub shown : Shown new
    pub desktop : new.desktop ≡ steps old.desktop taken
    pub each : said ≡ taken

  -- ---- one deed

  -- where the store must be opened again behind it, it wasn't acknowledged
  record AfterDeed (deed : Deed) (old new : StoreView D) : Type 0 where
    pub moments : LeavesSome (accepted deed) old new
    pub next : GoesOn (acknowledged deed) (accepted deed) old new ⊎ (new.must_reopen ≡ true) × (acknowledged deed ≡ [])

  module _ (old new : StoreView D) (honest : d.honest old.disk) (as_large : d.size old.disk ≡ size) (shown : Shown old)
      (usable : old.must_reopen ≡ false) where
    -- nothing was accepted, and a crash leaves what it left
    unrecorded : (events : List Event)
        → LeavesOnly (d.trail old.disk) (d.trail new.disk) (Means (d.size old.disk) old.desktop)
        → LeavesSome events old new
    unrecorded events moments = weakened moments (λ c means.
        no_prefix size old.desktop events c (subst (λ n. Means n old.desktop c) as_large means))

    -- an event, which may be there
    recorded : (event : Event) → LeavesOnly (d.trail old.disk) (d.trail new.disk)
        (MeansEither (d.size old.disk) old.desktop (step old.desktop event).desktop) → LeavesSome (event ∷ []) old new
    recorded event moments = weakened moments (λ c either. elim either [
      | inl means ↦ no_prefix size old.desktop (event ∷ []) c (subst (λ n. Means n old.desktop c) as_large means)
      | inr means ↦ fewer_acknowledged size old.desktop (event ∷ []) (event ∷ []) c
          (whole_prefix size old.desktop (event ∷ []) [] c
          (subst (λ n. Means n (step old.desktop event).desktop c) as_large means))
    ])

    -- the store is as it was
    unmoved : (deed : Deed) → new ≡ old → accepted deed ≡ [] → acknowledged deed ≡ [] → AfterDeed deed old new
    unmoved deed same none nothing = record {
      moments = subst (λ (v : StoreView D). LeavesSome (accepted deed) old v) (sym same)
          (at_start (d.trail old.disk) _ (λ c image. no_prefix size old.desktop (accepted deed) c (shown c image)));
      next = inl (record {
        usable = ap (λ (v : StoreView D). v.must_reopen) same ∙ usable;
        shown = subst Shown (sym same) shown;
        desktop = ap (λ (v : StoreView D). v.desktop) same ∙ sym (ap (steps old.desktop) none);
        each = nothing ∙ sym none;
      });
    }

    post_after : (event : Event) (answer : StoreAnswer) → IsPosted d event answer old new
        → AfterDeed (called (Posting event) answer) old new
    post_after event (Ok reply) does = record {
      moments = recorded event (does.any_moment usable honest);
      next = inl (record {
        usable = does.ok.usable;
        shown = lasts d size new (does.behaves.within.as_large ∙ as_large) (does.behaves.within.still honest)
            does.ok.durable;
        desktop = ap (λ (o : Outcome). o.desktop) (stepped_newest d does.ok honest);
        each = refl;
      });
    }
    post_after event (Err e) does = elim does.behaves.faults.errors [
      | inl none ↦
          let starved = does.memory (ap (λ x. Err x) none) in
          record {
            moments = unrecorded (accepted (called (Posting event) (Err e))) (starved.unrecorded usable honest);
            next = inr (starved.closed, refl);
          }
      | inr later ↦ elim later [
        | inl failed ↦ record {
          moments = subst (λ es. LeavesSome es old new) (sym (accepted_of event e Fault failed))
              (recorded event (does.any_moment usable honest));
          next = inr (does.fault (ap (λ x. Err x) failed), refl);
        }
        | inr other ↦ elim other [
          | inl must ↦ absurd (clash (does.behaves.reopen.only (ap (λ x. Err x) must)) usable)
          | inr worn ↦ unmoved (called (Posting event) (Err e)) (does.worn.unchanged (ap (λ x. Err x) worn))
              (accepted_of event e Worn worn) refl
        ]
      ]
    ]

    renewal_after : (answer : StoreAnswer) → IsCheckpointed d answer old new
        → AfterDeed (called Checkpoint answer) old new
    renewal_after (Ok reply) does = record {
      moments = unrecorded [] (does.any_moment usable honest);
      next = inl (record {
        usable = does.ok.usable;
        shown = lasts d size new (does.behaves.within.as_large ∙ as_large) (does.behaves.within.still honest)
            does.ok.durable;
        desktop = does.ok.desktop honest;
        each = refl;
      });
    }
    renewal_after (Err e) does = elim does.behaves.faults.errors [
      | inl failed ↦ record {
        moments = unrecorded [] (does.any_moment usable honest);
        next = inr (does.fault (ap (λ x. Err x) failed), refl);
      }
      | inr other ↦ elim other [
        | inl must ↦ absurd (clash (does.behaves.reopen.only (ap (λ x. Err x) must)) usable)
        | inr worn ↦ unmoved (called Checkpoint (Err e)) (does.worn.unchanged (ap (λ x. Err x) worn)) refl refl
      ]
    ]

    call_after : (call : StoreCall) (answer : StoreAnswer) → DoesDeed d (called call answer) old new
        → AfterDeed (called call answer) old new
    call_after (Posting event) answer does = post_after event answer does
    call_after Checkpoint answer does = renewal_after answer does.0

  -- ---- deeds, one after another

  -- What they leave: the acknowledged events are the first of the accepted ones, and at last a crash leaves all of them.
  record AfterDeeds (deeds : List Deed) (old new : StoreView D) : Type 0 where
    pub moments : LeavesSome (all_accepted deeds) old new
    pub rest : List Event
    pub parts : all_accepted deeds ≡ all_acknowledged deeds ++ rest
    pub last : Leaves (now (d.trail new.disk))
        (MeansPrefix size old.desktop (all_acknowledged deeds) (all_accepted deeds))
    pub next : GoesOn (all_acknowledged deeds) (all_accepted deeds) old new ⊎ (new.must_reopen ≡ true)

  none_after : (store : StoreView D) → Shown store → store.must_reopen ≡ false → AfterDeeds [] store store
  none_after store shown usable =
      let prefix : Leaves (now (d.trail store.disk)) (MeansPrefix size store.desktop [] [])
      = λ c image. no_prefix size store.desktop [] c (shown c image) in
      record {
        moments = at_start (d.trail store.disk) _ prefix;
        rest = [];
        parts = refl;
        last = prefix;
        next = inl (record { usable = usable; shown = shown; desktop = refl; each = refl });
      }

  module _ (old mid new : StoreView D) (said taken : List Event) (one : GoesOn said taken old mid) where
    -- what is left of later events is left behind these
    behind : (acked events : List Event) (c : Content) → MeansPrefix size mid.desktop acked events c
        → MeansPrefix size old.desktop (said ++ acked) (taken ++ events) c
    behind acked events c p = subst (λ es. MeansPrefix size old.desktop (es ++ acked) (taken ++ events) c) (sym one.each)
        (prefix_behind size old.desktop taken acked events c
        (subst (λ x. MeansPrefix size x acked events c) one.desktop p))

    -- the first of all are those acknowledged
    in_front : (acked events rest : List Event) → events ≡ acked ++ rest → taken ++ events ≡ (said ++ acked) ++ rest
    in_front acked events rest parts = ap (λ es. taken ++ es) parts ∙ sym (append_assoc taken acked rest)
        ∙ sym (ap (λ es. (es ++ acked) ++ rest) one.each)

    goes_further : (acked events : List Event) → GoesOn acked events mid new → GoesOn (said ++ acked) (taken ++ events) old new
    goes_further acked events more = record {
      usable = more.usable;
      shown = more.shown;
      desktop = more.desktop ∙ ap (λ x. steps x events) one.desktop ∙ sym (steps_both old.desktop taken events);
      each = ap (λ es. es ++ acked) one.each ∙ ap (λ es. taken ++ es) more.each;
    }

    later_moments : (events : List Event) → LeavesSome events mid new → LeavesOnly (d.trail mid.disk) (d.trail new.disk)
        (MeansPrefix size old.desktop said (taken ++ events))
    later_moments events moments = weakened moments (λ c p.
        subst (λ es. MeansPrefix size old.desktop es (taken ++ events) c) (append-nil said) (behind [] events c p))

  -- a deed, and what comes behind it
  module _ (deed : Deed) (more : List Deed) (old mid new : StoreView D) (one : AfterDeed deed old mid) where
    begun : LeavesOnly (d.trail old.disk) (d.trail mid.disk)
        (MeansPrefix size old.desktop [] (accepted deed ++ all_accepted more))
    begun = weakened one.moments (λ c p. prefix_of_more size old.desktop [] (accepted deed) (all_accepted more) c p)

    -- it goes on
    then_after : GoesOn (acknowledged deed) (accepted deed) old mid → AfterDeeds more mid new
        → AfterDeeds (deed ∷ more) old new
    then_after goes after =
        let said = acknowledged deed in
        let taken = accepted deed in
        record {
          moments = chained begun (weakened (later_moments old mid new said taken goes (all_accepted more) after.moments)
              (λ c p. fewer_acknowledged size old.desktop said (taken ++ all_accepted more) c p));
          rest = after.rest;
          parts = in_front old mid new said taken goes (all_acknowledged more) (all_accepted more) after.rest after.parts;
          last = λ c image. behind old mid new said taken goes (all_acknowledged more) (all_accepted more) c
              (after.last c image);
          next = elim after.next [
            | inl further ↦ inl (goes_further old mid new said taken goes (all_acknowledged more) (all_accepted more) further)
            | inr must ↦ inr must
          ];
        }

    -- the store must be opened again
    ends_after : mid.must_reopen ≡ true → acknowledged deed ≡ [] → IsRun d more mid new → AfterDeeds (deed ∷ more) old new
    ends_after must nothing run =
        let same = all_stay d more mid new run must in
        let none : [] ≡ acknowledged deed ++ all_acknowledged more = sym (
        ap (λ es. es ++ all_acknowledged more) nothing
        ∙ all_unacknowledged more (all_fail d more mid new run must)) in
        let moments = subst (λ (v : StoreView D). LeavesSome (accepted deed ++ all_accepted more) old v) (sym same) begun in
        record {
          moments = moments;
          rest = accepted deed ++ all_accepted more;
          parts = ap (λ es. es ++ (accepted deed ++ all_accepted more)) none;
          last = λ c image. subst (λ es. MeansPrefix size old.desktop es (accepted deed ++ all_accepted more) c) none
              (at_last moments c image);
          next = inr (ap (λ (v : StoreView D). v.must_reopen) same ∙ must);
        }

  calls_after : (calls : List (StoreCall × StoreAnswer)) (old new : StoreView D) → d.honest old.disk
      → d.size old.disk ≡ size → Shown old → old.must_reopen ≡ false → IsRun d (deeds_of calls) old new
      → AfterDeeds (deeds_of calls) old new
  calls_after [] old new honest as_large shown usable run =
      subst (AfterDeeds [] old) (sym run) (none_after old shown usable)
  calls_after (made ∷ calls) old new honest as_large shown usable run =
      let deed : Deed = called made.0 made.1 in
      let mid = run.0 in
      let within = deed_within d deed old mid run.1 in
      let one = call_after old mid honest as_large shown usable made.0 made.1 run.1 in
      elim one.next [
        | inl goes ↦ then_after deed (deeds_of calls) old mid new one goes
            (calls_after calls mid new (within.still honest) (within.as_large ∙ as_large) goes.shown goes.usable run.2)
        | inr ends ↦ ends_after deed (deeds_of calls) old mid new one ends.0 ends.1 run.2
      ]

  -- ---- calls, and more behind them

  all_within : (deeds : List Deed) (old new : StoreView D) → IsRun d deeds old new → d.honest old.disk
      → d.honest new.disk × (d.size new.disk ≡ d.size old.disk)
  all_within [] old new run honest = subst (λ (v : StoreView D). d.honest v.disk × (d.size v.disk ≡ d.size old.disk))
      (sym run) (honest, refl)
  all_within (deed ∷ more) old new run honest =
      let within = deed_within d deed old run.0 run.1 in
      let later = all_within more run.0 new run.2 (within.still honest) in
      (later.0, later.1 ∙ within.as_large)

  -- behind calls that were answered, from this state on
  abbrev LeavesAccepted : List (StoreCall × StoreAnswer) → List (StoreCall × StoreAnswer) → StoreView D → StoreView D
      → StoreView D → Type 0
  LeavesAccepted calls more old mid new = (rest : List Event)
      × (all_accepted (deeds_of (calls ++ more)) ≡ all_acknowledged (deeds_of calls) ++ rest)
      × LeavesOnly (d.trail mid.disk) (d.trail new.disk) (MeansPrefix size old.desktop
      (all_acknowledged (deeds_of calls)) (all_accepted (deeds_of (calls ++ more))))

  keep_acknowledged : (calls more : List (StoreCall × StoreAnswer)) (old mid new : StoreView D) → d.honest old.disk
      → d.size old.disk ≡ size → Shown old → old.must_reopen ≡ false → IsRun d (deeds_of calls) old mid
      → IsRun d (deeds_of more) mid new → LeavesAccepted calls more old mid new
  keep_acknowledged calls more old mid new honest as_large shown usable run further =
      let said = all_acknowledged (deeds_of calls) in
      let taken = all_accepted (deeds_of calls) in
      let later = all_accepted (deeds_of more) in
      let all : taken ++ later ≡ all_accepted (deeds_of (calls ++ more)) = sym (accepted_both calls more) in
      let after = calls_after calls old mid honest as_large shown usable run in
      let within = all_within (deeds_of calls) old mid run honest in
      let whole : (rest : List Event) → taken ++ later ≡ said ++ rest
      → LeavesOnly (d.trail mid.disk) (d.trail new.disk) (MeansPrefix size old.desktop said (taken ++ later))
      → LeavesAccepted calls more old mid new = λ rest parts moments. (
        rest,
        sym all ∙ parts,
        subst (λ es. LeavesOnly (d.trail mid.disk) (d.trail new.disk) (MeansPrefix size old.desktop said es)) all moments,
      ) in
      elim after.next [
        | inl goes ↦
            let rest = calls_after more mid new within.0 (within.1 ∙ as_large) goes.shown goes.usable further in
            whole later (ap (λ es. es ++ later) (sym goes.each))
            (later_moments old mid new said taken goes later rest.moments)
        | inr must ↦ whole (after.rest ++ later)
            (ap (λ es. es ++ later) after.parts ∙ append_assoc said after.rest later)
            (subst (λ (v : StoreView D). LeavesOnly (d.trail mid.disk) (d.trail v.disk)
            (MeansPrefix size old.desktop said (taken ++ later)))
            (sym (all_stay d (deeds_of more) mid new further must))
            (at_start (d.trail mid.disk) _ (λ c image. prefix_of_more size old.desktop said taken later c
            (after.last c image))))
      ]

pub keeps_acknowledged : {D : Type 0} (d : Ghosts D) → PrefixLaw d
keeps_acknowledged d calls more old mid new run further usable durable honest =
    keep_acknowledged d (d.size old.disk) calls more old mid new honest refl
    (lasts d (d.size old.disk) old refl honest durable) usable run further
