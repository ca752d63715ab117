-- What a crash leaves of a run, deed by deed.
use Rattle.std.proofs.Common.{◌≡◌, ◌⊎◌, inl, inr, ℕ, List, [], ◌∷◌, Result, Ok, Err, refl, sym}
use Rattle.std.proofs.Common.{◌∙◌, ap, subst, true, false}
use Rattle.std.specs.Prelude.{IfOk, IsErr, IsErrOf}
use Rattle.std.specs.List.{AllByRecursion}
use Rattle.std.specs.Result.{result_map_both}
use Rattle.sector_disk.specs.declared.disk.Disk.{Ghosts}
use Rattle.sector_disk.specs.Trail.{Content, now, Leaves, LeavesOnly}
use Rattle.sector_disk.proofs.Touching.{at_last, read_is_an_image, weakened}
use Rattle.event_bytes.specs.declared.event.Event.{Event}
use Rattle.desktop_definitions.specs.declared.reply.Reply.{Reply}
use Rattle.desktop_definitions.specs.Desktop.{Desktop}
use Rattle.desktop_definitions.specs.Step.{Outcome, outcome_of, step, steps_in}
use Rattle.document_filing.specs.Bringing.{Documents, brought_in}
use Rattle.store_layout.proofs.Bits.{clash, true_or_false}
use Rattle.store_layout.specs.declared.layout.TheConstants.{LAYOUT}
use Rattle.store_layout.specs.Meaning.{Standing, Stands, Means, MeansEither, desktop_of}
use Rattle.desk_journal.specs.Checkpointing.{IsCheckpointed}
use Rattle.desk_journal.specs.Device.{StaysWithin}
use Rattle.desk_journal.specs.Errors.{Error, Fault, MustReopen, NoMemory, Worn}
use Rattle.desk_journal.specs.Posting.{AnswersMustReopen, IsPosted}
use Rattle.desk_journal.specs.Undoing.{IsLeft, IsTakenBack, LeavesUndone, ShowsStanding}
use Rattle.desk_journal.specs.View.{StoreView, IsDurable}
use Rattle.desk_journal.proofs.Behind.{led_back}
use Rattle.desk_journal.proofs.Passing.{at_start, shows_means}
use Rattle.desk_journal.proofs.Stepped.{stepped_newest}
use Rattle.store_runs.specs.declared.call.StoreCall.TheVariants.{Post as Posting, Checkpoint}
use Rattle.store_runs.specs.Deeds.{Deed, DoesDeed, IsRun, PromisesBringing, PromisesUndo, StoreAnswer}
use Rattle.store_runs.specs.Deeds.{called, undone, brought}
use Rattle.store_runs.specs.Run.{LeadsAs, HasFailed, LeadsTo, SurvivalLaw, RunSurvives}

-- what was returned, by the events that it hands back
pub told_undone : {D V : Type 0} (d : Ghosts D) (items : V → List Event) (count : ℕ) (result : Result V Error)
    (old new : StoreView D) → LeavesUndone d count old new → IfOk result (λ v. IsTakenBack d count (items v) old new)
    → (IsErr result → old.must_reopen ≡ false → new.must_reopen ≡ false → IsLeft d old new)
    → AnswersMustReopen result old new → StaysWithin d old.disk new.disk
    → PromisesUndo d count (result_map_both items (λ e. e) result) old new
told_undone d items count (Ok v) old new moments ok left reopen within = record {
  any_moment = moments;
  ok = ok;
  left = λ wrong. absurd cc;
  reopen = record {
    only = λ wrong. absurd cc;
    always = λ must. absurd (let never : IsErrOf (Ok v) MustReopen = reopen.always must in cc);
    unchanged = λ wrong. absurd cc;
  };
  within = within;
}
told_undone {V = V} d items count (Err e) old new moments ok left reopen within = record {
  any_moment = moments;
  ok = tt;
  left = λ wrong. left refl;
  reopen = record {
    only = λ is. reopen.only (same is);
    always = λ must. let there : e ≡ MustReopen = cc (reopen.always must) in ap (λ x. Err x) there;
    unchanged = λ is. reopen.unchanged (same is);
  };
  within = within;
}
  where
    same : IsErrOf {T = List Event} (Err e) MustReopen → IsErrOf {T = V} (Err e) MustReopen
    same is = let there : e ≡ MustReopen = cc is in ap (λ x. Err x) there

-- an error hands no events back
none_told : (answer : Result (List Event) Error) (events : List Event) → IsErr answer
    → IfOk answer (λ told. told ≡ events)
none_told (Ok back) events wrong = absurd cc
none_told (Err e) events wrong = tt

-- ---- what every deed leaves of the disk

pub deed_within : {D : Type 0} (d : Ghosts D) (deed : Deed) (old new : StoreView D) → DoesDeed d deed old new
    → StaysWithin d old.disk new.disk
deed_within d (called (Posting event) answer) old new does = does.behaves.within
deed_within d (called Checkpoint answer) old new does = does.0.behaves.within
deed_within d (undone count answer) old new does = does.within
deed_within d (brought documents answer) old new does = does.behaves.within

-- ---- where the store must be opened again nothing changes

deed_stays : {D : Type 0} (d : Ghosts D) (deed : Deed) (old new : StoreView D) → DoesDeed d deed old new
    → old.must_reopen ≡ true → new ≡ old
deed_stays d (called (Posting event) answer) old new does must =
    does.behaves.reopen.unchanged (does.behaves.reopen.always must)
deed_stays d (called Checkpoint answer) old new does must =
    does.0.behaves.reopen.unchanged (does.0.behaves.reopen.always must)
deed_stays d (undone count answer) old new does must = does.reopen.unchanged (does.reopen.always must)
deed_stays d (brought documents answer) old new does must =
    does.behaves.reopen.unchanged (does.behaves.reopen.always must)

pub all_stay : {D : Type 0} (d : Ghosts D) (deeds : List Deed) (old new : StoreView D) → IsRun d deeds old new
    → old.must_reopen ≡ true → new ≡ old
all_stay d [] old new run must = run
all_stay d (deed ∷ more) old new run must =
    let same = deed_stays d deed old run.0 run.1 must in
    all_stay d more run.0 new run.2 (ap (λ v. v.must_reopen) same ∙ must) ∙ same

-- where it leads by the error
leads_by : (outcome : Outcome) (from to : Desktop) (e other : Error) → e ≡ other → LeadsAs outcome from (Err other) to
    → LeadsAs outcome from (Err e) to
leads_by outcome from to e other is leads = subst (λ x. LeadsAs outcome from (Err x) to) (sym is) leads

-- what fails so fails
fails : {T : Type 0} (answer : Result T Error) (e : Error) → IsErrOf answer e → IsErr answer
fails (Ok value) e is = absurd cc
fails (Err other) e is = refl

deed_fails : {D : Type 0} (d : Ghosts D) (deed : Deed) (old new : StoreView D) → DoesDeed d deed old new
    → old.must_reopen ≡ true → HasFailed deed
deed_fails d (called (Posting event) answer) old new does must = fails answer MustReopen (does.behaves.reopen.always must)
deed_fails d (called Checkpoint answer) old new does must = fails answer MustReopen (does.0.behaves.reopen.always must)
deed_fails d (undone count answer) old new does must = fails answer MustReopen (does.reopen.always must)
deed_fails d (brought documents answer) old new does must = fails answer MustReopen (does.behaves.reopen.always must)

pub all_fail : {D : Type 0} (d : Ghosts D) (deeds : List Deed) (old new : StoreView D) → IsRun d deeds old new
    → old.must_reopen ≡ true → AllByRecursion HasFailed deeds
all_fail d [] old new run must = tt
all_fail d (deed ∷ more) old new run must = (
  deed_fails d deed old run.0 run.1 must,
  all_fail d more run.0 new run.2 (ap (λ v. v.must_reopen) (deed_stays d deed old run.0 run.1 must) ∙ must),
)

-- ---- one deed of a store in use

module _ {D : Type 0} (d : Ghosts D) (size : ℕ) where
  -- a crash now leaves what the store shows
  abbrev pub Lasts : StoreView D → Type 0
  Lasts store = Leaves (now (d.trail store.disk)) (Means size store.desktop)

  pub lasts : (store : StoreView D) → d.size store.disk ≡ size → d.honest store.disk → IsDurable d store → Lasts store
  lasts store as_large honest durable = λ c image. subst (λ n. Means n store.desktop c) as_large
      (shows_means (d.size store.disk) store.epoch store.events store.desktop c (durable honest c image))

  module _ (deed : Deed) (more : List Deed) (store mid last : StoreView D) (honest : d.honest store.disk)
      (as_large : d.size store.disk ≡ size) (shown : Lasts store) (within : StaysWithin d store.disk mid.disk)
      (run : IsRun d more mid last)
      (goes : mid.must_reopen ≡ false → Lasts mid
      → RunSurvives size mid.desktop (d.trail mid.disk) (d.trail last.disk) more) where
    abbrev Goal : Type 0
    Goal = RunSurvives size store.desktop (d.trail store.disk) (d.trail last.disk) (deed ∷ more)

    abbrev LeavesEither : Desktop → Type 0
    LeavesEither next = LeavesOnly (d.trail store.disk) (d.trail mid.disk) (MeansEither size store.desktop next)

    -- by the size of the disk
    sized : (next : Desktop)
        → LeavesOnly (d.trail store.disk) (d.trail mid.disk) (MeansEither (d.size store.disk) store.desktop next)
        → LeavesEither next
    sized next moments = subst (λ n. LeavesOnly (d.trail store.disk) (d.trail mid.disk) (MeansEither n store.desktop next))
        as_large moments

    only_sized : (next : Desktop)
        → LeavesOnly (d.trail store.disk) (d.trail mid.disk) (Means (d.size store.disk) store.desktop) → LeavesEither next
    only_sized next moments = sized next (weakened moments (λ c means. inl means))

    still_lasts : IsDurable d mid → Lasts mid
    still_lasts = lasts mid (within.as_large ∙ as_large) (within.still honest)

    -- the deed was done, and one goes on from where it led
    goes_on : LeadsTo store.desktop deed mid.desktop → LeavesEither mid.desktop → Lasts mid → mid.must_reopen ≡ false
        → Goal
    goes_on leads moments means usable = (mid.desktop, d.trail mid.disk, leads, moments, inl (means, goes usable means))

    -- the store must be opened again
    stops : (next : Desktop) → LeadsTo store.desktop deed next → HasFailed deed → LeavesEither next
        → mid.must_reopen ≡ true → Goal
    stops next leads wrong moments must =
        let same : d.trail last.disk ≡ d.trail mid.disk = ap (λ v. d.trail v.disk) (all_stay d more mid last run must) in
        (next, d.trail mid.disk, leads, moments, inr (same, (wrong, all_fail d more mid last run must)))

    -- it changed nothing
    unmoved : mid ≡ store → store.must_reopen ≡ false → LeadsTo store.desktop deed store.desktop → Goal
    unmoved same usable leads =
        goes_on (subst (λ (v : StoreView D). LeadsTo store.desktop deed v.desktop) (sym same) leads)
        (subst (λ (v : StoreView D). LeavesOnly (d.trail store.disk) (d.trail v.disk)
        (MeansEither size store.desktop v.desktop)) (sym same)
        (at_start (d.trail store.disk) _ (λ c image. inl (shown c image))))
        (subst Lasts (sym same) shown) (ap (λ (v : StoreView D). v.must_reopen) same ∙ usable)

    -- it led to this outcome
    arrives : (outcome : Outcome) (reply : Reply) → outcome_of mid.desktop reply ≡ outcome
        → LeadsTo store.desktop deed mid.desktop
        → LeavesOnly (d.trail store.disk) (d.trail mid.disk)
        (MeansEither (d.size store.disk) store.desktop outcome.desktop)
        → IsDurable d mid → mid.must_reopen ≡ false → Goal
    arrives outcome reply is leads moments durable usable =
        let there : mid.desktop ≡ outcome.desktop = ap (λ (o : Outcome). o.desktop) is in
        goes_on leads (subst LeavesEither (sym there) (sized outcome.desktop moments)) (still_lasts durable) usable

  -- an event is posted, or not
  post_on : (event : Event) (answer : StoreAnswer) (more : List Deed) (store mid last : StoreView D)
      → d.honest store.disk → d.size store.disk ≡ size → Lasts store → store.must_reopen ≡ false
      → IsPosted d event answer store mid → IsRun d more mid last
      → (mid.must_reopen ≡ false → Lasts mid
      → RunSurvives size mid.desktop (d.trail mid.disk) (d.trail last.disk) more)
      → RunSurvives size store.desktop (d.trail store.disk) (d.trail last.disk) (called (Posting event) answer ∷ more)
  post_on event (Ok reply) more store mid last honest as_large shown usable does run goes =
      let is = stepped_newest d does.ok honest in
      arrives (called (Posting event) (Ok reply)) more store mid last honest as_large shown does.behaves.within run goes
      (step store.desktop event) reply is is (does.any_moment usable honest) does.ok.durable does.ok.usable
  post_on event (Err e) more store mid last honest as_large shown usable does run goes =
      let deed : Deed = called (Posting event) (Err e) in
      let within = does.behaves.within in
      let sized_only = only_sized deed more store mid last honest as_large shown within run goes in
      elim does.behaves.faults.errors [
        | inl none ↦
            let starved = does.memory (ap (λ x. Err x) none) in
            stops deed more store mid last honest as_large shown within run goes store.desktop
            (leads_by (step store.desktop event) store.desktop store.desktop e NoMemory none refl) refl
            (sized_only store.desktop (starved.unrecorded usable honest)) starved.closed
        | inr later ↦ elim later [
          | inl failed ↦ stops deed more store mid last honest as_large shown within run goes
              (step store.desktop event).desktop
              (leads_by (step store.desktop event) store.desktop (step store.desktop event).desktop e Fault failed refl) refl
              (sized deed more store mid last honest as_large shown within run goes (step store.desktop event).desktop
              (does.any_moment usable honest)) (does.fault (ap (λ x. Err x) failed))
          | inr other ↦ elim other [
            | inl must ↦ absurd (clash (does.behaves.reopen.only (ap (λ x. Err x) must)) usable)
            | inr worn ↦ unmoved deed more store mid last honest as_large shown within run goes
                (does.worn.unchanged (ap (λ x. Err x) worn)) usable
                (leads_by (step store.desktop event) store.desktop store.desktop e Worn worn refl)
          ]
        ]
      ]

  -- a checkpoint is made, or not
  renewal_on : (answer : StoreAnswer) (more : List Deed) (store mid last : StoreView D)
      → d.honest store.disk → d.size store.disk ≡ size → Lasts store → store.must_reopen ≡ false
      → IsCheckpointed d answer store mid → IsRun d more mid last
      → (mid.must_reopen ≡ false → Lasts mid
      → RunSurvives size mid.desktop (d.trail mid.disk) (d.trail last.disk) more)
      → RunSurvives size store.desktop (d.trail store.disk) (d.trail last.disk) (called Checkpoint answer ∷ more)
  renewal_on (Ok reply) more store mid last honest as_large shown usable does run goes =
      let deed : Deed = called Checkpoint (Ok reply) in
      let within = does.behaves.within in
      goes_on deed more store mid last honest as_large shown within run goes (does.ok.desktop honest)
      (only_sized deed more store mid last honest as_large shown within run goes mid.desktop
      (does.any_moment usable honest))
      (still_lasts deed more store mid last honest as_large shown within run goes does.ok.durable) does.ok.usable
  renewal_on (Err e) more store mid last honest as_large shown usable does run goes =
      let deed : Deed = called Checkpoint (Err e) in
      let within = does.behaves.within in
      elim does.behaves.faults.errors [
        | inl failed ↦ stops deed more store mid last honest as_large shown within run goes store.desktop refl refl
            (only_sized deed more store mid last honest as_large shown within run goes store.desktop
            (does.any_moment usable honest)) (does.fault (ap (λ x. Err x) failed))
        | inr other ↦ elim other [
          | inl must ↦ absurd (clash (does.behaves.reopen.only (ap (λ x. Err x) must)) usable)
          | inr worn ↦ unmoved deed more store mid last honest as_large shown within run goes
              (does.worn.unchanged (ap (λ x. Err x) worn)) usable refl
        ]
      ]

  -- documents are brought, or not
  bring_on : (documents : Documents) (answer : StoreAnswer) (more : List Deed) (store mid last : StoreView D)
      → d.honest store.disk → d.size store.disk ≡ size → Lasts store → store.must_reopen ≡ false
      → PromisesBringing d documents answer store mid → IsRun d more mid last
      → (mid.must_reopen ≡ false → Lasts mid
      → RunSurvives size mid.desktop (d.trail mid.disk) (d.trail last.disk) more)
      → RunSurvives size store.desktop (d.trail store.disk) (d.trail last.disk) (brought documents answer ∷ more)
  bring_on documents (Ok reply) more store mid last honest as_large shown usable does run goes =
      let is = does.ok.brought.done honest in
      arrives (brought documents (Ok reply)) more store mid last honest as_large shown does.behaves.within run goes
      (brought_in store.desktop documents) reply is is (does.any_moment usable honest) does.ok.durable does.ok.usable
  bring_on documents (Err e) more store mid last honest as_large shown usable does run goes =
      let deed : Deed = brought documents (Err e) in
      let within = does.behaves.within in
      elim does.behaves.faults.errors [
        | inl none ↦
            let unwritten = does.memory (ap (λ x. Err x) none) in
            stops deed more store mid last honest as_large shown within run goes store.desktop
            (leads_by (brought_in store.desktop documents) store.desktop store.desktop e NoMemory none refl) refl
            (weakened (unwritten.unwritten.unwritten honest) (λ c old. inl (shown c old))) unwritten.closed
        | inr later ↦ elim later [
          | inl failed ↦ stops deed more store mid last honest as_large shown within run goes
              (brought_in store.desktop documents).desktop
              (leads_by (brought_in store.desktop documents) store.desktop (brought_in store.desktop documents).desktop e Fault
              failed refl) refl
              (sized deed more store mid last honest as_large shown within run goes
              (brought_in store.desktop documents).desktop (does.any_moment usable honest))
              (does.fault (ap (λ x. Err x) failed))
          | inr other ↦ elim other [
            | inl must ↦ absurd (clash (does.behaves.reopen.only (ap (λ x. Err x) must)) usable)
            | inr worn ↦ unmoved deed more store mid last honest as_large shown within run goes
                (does.worn.unchanged (ap (λ x. Err x) worn)) usable
                (leads_by (brought_in store.desktop documents) store.desktop store.desktop e Worn worn refl)
          ]
        ]
      ]

  -- events are taken back, or not
  module _ (count : ℕ) (answer : Result (List Event) Error) (more : List Deed) (store mid last : StoreView D)
      (honest : d.honest store.disk) (as_large : d.size store.disk ≡ size) (shown : Lasts store)
      (usable : store.must_reopen ≡ false) (does : PromisesUndo d count answer store mid) (run : IsRun d more mid last)
      (goes : mid.must_reopen ≡ false → Lasts mid
      → RunSurvives size mid.desktop (d.trail mid.disk) (d.trail last.disk) more) where
    abbrev made : Deed
    made = undone count answer

    abbrev Undone : Type 0
    Undone = RunSurvives size store.desktop (d.trail store.disk) (d.trail last.disk) (made ∷ more)

    abbrev means : Means size store.desktop (now (d.trail store.disk)).reads
    means = shown (now (d.trail store.disk)).reads (read_is_an_image (now (d.trail store.disk)))

    abbrev s : Standing
    s = means.0

    here : ShowsStanding d store s
    here = subst (λ n. Stands n (now (d.trail store.disk)).reads s) (sym as_large) means.1

    either_stands : (rest : Standing) (desktop : Desktop) → desktop_of rest ≡ desktop → (c : Content)
        → Stands (d.size store.disk) c rest ⊎ Stands (d.size store.disk) c s → MeansEither size store.desktop desktop c
    either_stands rest desktop is c stands = elim stands [
      | inl left ↦ inr (rest, subst (λ n. Stands n c rest) as_large left, is)
      | inr all ↦ inl (s, subst (λ n. Stands n c s) as_large all, means.2)
    ]

    -- they were taken back
    is_back : (back : List Event) → IsTakenBack d count back store mid → IfOk answer (λ told. told ≡ back) → Undone
    is_back back taken told =
        let b = taken.back honest s here in
        goes_on made more store mid last honest as_large shown does.within run goes (
          s.version,
          back,
          ap (λ x. steps_in s.version x back) b.1.desktop ∙ sym (led_back back s b.0 b.1.leaves.is_rest) ∙ means.2,
          told,
        )
        (weakened b.1.leaves.any_moment (either_stands b.0 mid.desktop (sym b.1.desktop)))
        (still_lasts made more store mid last honest as_large shown does.within run goes taken.durable) taken.usable

    -- nothing was written
    is_left : IsLeft d store mid → mid.must_reopen ≡ false → IfOk answer (λ told. told ≡ []) → Undone
    is_left left still told =
        let same = left.desktop honest in
        let unwritten = left.disk.unwritten honest in
        goes_on made more store mid last honest as_large shown does.within run goes (LAYOUT, [], same, told)
        (weakened unwritten (λ c old. inl (shown c old)))
        (λ c image. subst (λ x. Means size x c) (sym same) (shown c (at_last unwritten c image))) still

    -- it stopped amid the write
    is_cut : IsErr answer → HasFailed made → mid.must_reopen ≡ true → Undone
    is_cut wrong failed must =
        let m = does.any_moment usable honest s here in
        stops made more store mid last honest as_large shown does.within run goes (desktop_of m.1)
        (s.version, m.0, sym (led_back m.0 s m.1 m.3.is_rest) ∙ means.2, none_told answer m.0 wrong) failed
        (weakened m.3.any_moment (either_stands m.1 (desktop_of m.1) refl)) must

  undo_on : (count : ℕ) (answer : Result (List Event) Error) (more : List Deed) (store mid last : StoreView D)
      → d.honest store.disk → d.size store.disk ≡ size → Lasts store → store.must_reopen ≡ false
      → PromisesUndo d count answer store mid → IsRun d more mid last
      → (mid.must_reopen ≡ false → Lasts mid
      → RunSurvives size mid.desktop (d.trail mid.disk) (d.trail last.disk) more)
      → RunSurvives size store.desktop (d.trail store.disk) (d.trail last.disk) (undone count answer ∷ more)
  undo_on count (Ok back) more store mid last honest as_large shown usable does run goes =
      is_back count (Ok back) more store mid last honest as_large shown usable does run goes back does.ok refl
  undo_on count (Err e) more store mid last honest as_large shown usable does run goes =
      elim (true_or_false mid.must_reopen) [
        | inl must ↦ is_cut count (Err e) more store mid last honest as_large shown usable does run goes refl refl must
        | inr still ↦ is_left count (Err e) more store mid last honest as_large shown usable does run goes
            (does.left refl usable still) still tt
      ]

  -- all that comes
  deeds_on : (deeds : List Deed) (store last : StoreView D) → d.honest store.disk → d.size store.disk ≡ size
      → Lasts store → store.must_reopen ≡ false → IsRun d deeds store last
      → RunSurvives size store.desktop (d.trail store.disk) (d.trail last.disk) deeds
  deeds_on [] store last honest as_large shown usable run =
      ap (λ (v : StoreView D). d.trail v.disk) run
  deeds_on (deed ∷ more) store last honest as_large shown usable run =
      let within = deed_within d deed store run.0 run.1 in
      does deed run.1 (λ still means.
      deeds_on more run.0 last (within.still honest) (within.as_large ∙ as_large) means still run.2)
    where
      does : (deed : Deed) → DoesDeed d deed store run.0
          → (run.0.must_reopen ≡ false → Lasts run.0
          → RunSurvives size run.0.desktop (d.trail run.0.disk) (d.trail last.disk) more)
          → RunSurvives size store.desktop (d.trail store.disk) (d.trail last.disk) (deed ∷ more)
      does (called (Posting event) answer) made goes =
          post_on event answer more store run.0 last honest as_large shown usable made run.2 goes
      does (called Checkpoint answer) made goes =
          renewal_on answer more store run.0 last honest as_large shown usable made.0 run.2 goes
      does (undone count answer) made goes =
          undo_on count answer more store run.0 last honest as_large shown usable made run.2 goes
      does (brought documents answer) made goes =
          bring_on documents answer more store run.0 last honest as_large shown usable made run.2 goes

pub survives : {D : Type 0} (d : Ghosts D) → SurvivalLaw d
survives d deeds old new run usable durable honest =
    deeds_on d (d.size old.disk) deeds old new honest refl (lasts d (d.size old.disk) old refl honest durable) usable run
