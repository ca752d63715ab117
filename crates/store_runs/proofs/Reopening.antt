-- Calls that were all answered Ok, and then the store opened again.
use Rattle.std.proofs.Common.{◌≡◌, inl, inr, ℕ, ◌+◌, ◌<◌, List, [], ◌∷◌, ◌++◌, length, take, drop, get_or, Ok, Err}
use Rattle.std.proofs.Common.{length-append, refl, sym, ◌∙◌, ap, subst, arith, Bool, false}
use Rattle.std.specs.Prelude.{if◌then◌else◌, Result, IfErr}
use Rattle.std.proofs.lemmas.List.{take_more, take_at, take-append-drop}
use Rattle.sector_disk.specs.declared.disk.Disk.{Ghosts}
use Rattle.sector_disk.specs.Trail.{Content, Trail, LeavesOnly, now}
use Rattle.sector_disk.proofs.Touching.{weakened, chained, at_last, read_is_an_image}
use Rattle.event_bytes.specs.declared.event.Event.{Event}
use Rattle.desktop_definitions.specs.declared.reply.Reply.{Reply}
use Rattle.desktop_definitions.specs.Desktop.{Desktop}
use Rattle.desktop_definitions.specs.Step.{step, steps, Outcome}
use Rattle.store_layout.specs.declared.layout.TheConstants.{LAST_EPOCH, LAYOUT}
use Rattle.store_layout.proofs.Bits.{clash}
use Rattle.store_layout.specs.Finding.{FindingLaw, FindsOneThing}
use Rattle.store_layout.specs.Meaning.{Means}
use Rattle.store_runs.specs.declared.call.StoreCall.{StoreCall}
use Rattle.store_runs.specs.declared.call.StoreCall.TheVariants.{Post as Posting, Checkpoint}
use Rattle.desk_journal.specs.Device.{WritesNothing, IsSameDevice, result_of}
use Rattle.desk_journal.specs.Errors.{Error, OfOpen}
use Rattle.desk_journal.specs.Errors.{Worn}
use Rattle.desk_journal.specs.Opening.{IsNoStore}
use Rattle.desk_journal.specs.Posting.{IsAcknowledged}
use Rattle.desk_journal.proofs.Stepped.{stepped_newest}
use Rattle.desk_journal.specs.Session.{session_of}
use Rattle.desk_journal.proofs.Due.{due_or_room, has_it, has_none}
use Rattle.desk_journal.proofs.Passing.{shows_means}
use Rattle.desk_journal.proofs.Prefixes.{steps_both}
use Rattle.desk_journal.specs.Prefixes.{MeansPrefix}
use Rattle.store_runs.specs.Deeds.{DoesDeed, StoreAnswer, called}
use Rattle.store_runs.specs.Reopening.{StoreCounts, StopsAReopening, all_counted, counts_after, counts_of, events_in}
use Rattle.desk_journal.specs.View.{StoreView, IsDurable}

-- the same device, call after call
pub same_device : {D : Type 0} (d : Ghosts D) (a b c : D) → IsSameDevice d a b → IsSameDevice d b c → IsSameDevice d a c
same_device d a b c one two = record {
  as_large = two.as_large ∙ one.as_large;
  still = λ h. two.still (one.still h);
  already = λ h. one.already (two.already h);
}

-- ---- one call that was answered Ok

pub record GoesOn {D : Type 0} (d : Ghosts D) (call : StoreCall) (old new : StoreView D) : Type 0 where
  pub device : IsSameDevice d old.disk new.disk
  pub calm : d.failures new.disk ≡ d.failures old.disk
  pub usable : new.must_reopen ≡ false
  pub durable : IsDurable d new
  pub desktop : d.honest old.disk → new.desktop ≡ steps old.desktop (events_in (call ∷ []))
  pub counts : counts_of new ≡ counts_after call (counts_of old)

-- an event more, where the journal has room, or as the first one after a checkpoint
counts_posted : {D : Type 0} (d : Ghosts D) (event : Event) (reply : Reply) (old new : StoreView D)
    → IsAcknowledged d event reply old new → counts_of new ≡ counts_after (Posting event) (counts_of old)
counts_posted d event reply old new told = elim (due_or_room (session_of old)) [
  | inr room ↦
      let there = told.more room in
      (λ i. record { layout = (told.layout ∙ sym room.1) i; epoch = there.0 i; events = there.1 i })
      ∙ sym (ap next (has_it (session_of old) room))
  | inl due ↦
      let there = told.anew due in
      (λ i. record { layout = told.layout i; epoch = there.0 i; events = there.1 i })
      ∙ sym (ap next (has_none (session_of old) due))
]
  where
    next : Bool → StoreCounts
    next b =
        if b
        then record { layout = old.layout; epoch = old.epoch; events = old.events + 1 }
        else record { layout = LAYOUT; epoch = old.epoch + 1; events = 1 }

pub went_on : {D : Type 0} (d : Ghosts D) (call : StoreCall) (reply : Reply) (old new : StoreView D)
    → DoesDeed d (called call (Ok reply)) old new → GoesOn d call old new
went_on d (Posting event) reply old new p = record {
  device = p.behaves.device;
  calm = p.behaves.faults.calm (λ wrong. absurd cc);
  usable = p.ok.usable;
  durable = p.ok.durable;
  desktop = λ h. ap (λ (o : Outcome). o.desktop) (stepped_newest d p.ok h);
  counts = counts_posted d event reply old new p.ok;
}
went_on d Checkpoint reply old new p = record {
  device = p.0.behaves.device;
  calm = p.0.behaves.faults.calm (λ wrong. absurd cc);
  usable = p.0.ok.usable;
  durable = p.0.ok.durable;
  desktop = p.0.ok.desktop;
  counts = λ i. record { layout = p.0.ok.layout i; epoch = p.0.ok.epoch i; events = p.0.ok.events i };
}

-- ---- calls one after another

events_append : (a b : List StoreCall) → events_in (a ++ b) ≡ events_in a ++ events_in b
events_append [] b = refl
events_append (Posting event ∷ a) b = ap (λ es. event ∷ es) (events_append a b)
events_append (Checkpoint ∷ a) b = events_append a b

counted_append : (a : List StoreCall) (call : StoreCall) (n : StoreCounts)
    → all_counted (a ++ call ∷ []) n ≡ counts_after call (all_counted a n)
counted_append [] call n = refl
counted_append (other ∷ a) call n = counted_append a call (counts_after other n)

-- the first calls, and one more
module _ (calls : List StoreCall) (k : ℕ) (call : StoreCall) (room : k < length calls)
    (here : call ≡ get_or calls k call) where
  calls_next : take (k + 1) calls ≡ take k calls ++ call ∷ []
  calls_next = take_more calls k call room ∙ ap (λ c. take k calls ++ c ∷ []) (sym here)

  pub counts_next : (n m m' : StoreCounts) → m ≡ all_counted (take k calls) n → m' ≡ counts_after call m
      → m' ≡ all_counted (take (k + 1) calls) n
  counts_next n m m' was is = is ∙ ap (counts_after call) was ∙ sym (counted_append (take k calls) call n)
      ∙ sym (ap (λ cs. all_counted cs n) calls_next)

  pub desktop_next : (first desktop desktop' : Desktop) → desktop ≡ steps first (events_in (take k calls))
      → desktop' ≡ steps desktop (events_in (call ∷ [])) → desktop' ≡ steps first (events_in (take (k + 1) calls))
  desktop_next first desktop desktop' was is = is ∙ ap (λ d. steps d (events_in (call ∷ []))) was
      ∙ sym (ap (λ cs. steps first (events_in cs)) calls_next
      ∙ ap (steps first) (events_append (take k calls) (call ∷ []))
      ∙ steps_both first (events_in (take k calls)) (events_in (call ∷ [])))

-- ---- what a crash leaves
module _ (size : ℕ) (first : Desktop) (calls : List StoreCall) where
  abbrev Some : Content → Type 0
  Some = MeansPrefix size first [] (events_in calls)

  -- the desktop after the first k calls
  pub after_some : (k : ℕ) (c : Content) → Means size (steps first (events_in (take k calls))) c → Some c
  after_some k c means =
      let front = events_in (take k calls) in
      let rest = events_in (drop k calls) in
      let whole : events_in calls ≡ front ++ rest = ap events_in (sym (take-append-drop k calls))
      ∙ events_append (take k calls) (drop k calls) in
      let long : length (events_in calls) ≡ length front + length rest = ap length whole ∙ length-append front rest in
      record {
        count = length front;
        none_lost = omega arith;
        within = omega (arith, long);
        means = subst (λ es. Means size (steps first es) c)
            (sym (ap (take (length front)) whole ∙ take_at front rest (length front) refl)) means;
      }

  -- a call more, whatever it answers
  pub call_more : {D : Type 0} (d : Ghosts D) (k : ℕ) (call : StoreCall) (answer : StoreAnswer) (start : Trail)
      (old new : StoreView D) → k < length calls → call ≡ get_or calls k call → old.must_reopen ≡ false
      → d.honest old.disk → d.size old.disk ≡ size → old.desktop ≡ steps first (events_in (take k calls))
      → LeavesOnly start (d.trail old.disk) Some → DoesDeed d (called call answer) old new
      → LeavesOnly start (d.trail new.disk) Some
  call_more d k (Posting event) answer start old new room here usable honest as_large is before p =
      chained before (weakened (p.any_moment usable honest) (λ c either. elim either [
        | inl means ↦ after_some k c
            (subst (λ d'. Means size d' c) is (subst (λ n. Means n old.desktop c) as_large means))
        | inr means ↦ after_some (k + 1) c (subst (λ d'. Means size d' c)
            (desktop_next calls k (Posting event) room here first old.desktop (step old.desktop event).desktop is refl)
            (subst (λ n. Means n (step old.desktop event).desktop c) as_large means))
      ]))
  call_more d k Checkpoint answer start old new room here usable honest as_large is before p =
      chained before (weakened (p.0.any_moment usable honest) (λ c means. after_some k c
      (subst (λ d'. Means size d' c) is (subst (λ n. Means n old.desktop c) as_large means))))

  -- and then only reads
  pub then_read : (old mid new : Trail) → LeavesOnly old mid Some → WritesNothing mid new → LeavesOnly old new Some
  then_read old mid new before run = chained before (weakened run (λ c image. at_last before c image))

-- ---- why it stops, over an honest disk

-- a call of a store in use stops for want of memory, by a fault, or since it is worn
pub call_stops : {D : Type 0} (d : Ghosts D) (call : StoreCall) (e : Error) (old new : StoreView D)
    → old.must_reopen ≡ false → DoesDeed d (called call (Err e)) old new → StopsAReopening e
call_stops d (Posting event) e old new usable p = elim p.behaves.faults.errors [
  | inl none ↦ inl none
  | inr (inl failed) ↦ inr (inl failed)
  | inr (inr (inl closed)) ↦ absurd (clash (p.behaves.reopen.only (ap Err closed)) usable)
  | inr (inr (inr worn)) ↦ inr (inr worn)
]
call_stops d Checkpoint e old new usable p = elim p.0.behaves.faults.errors [
  | inl failed ↦ inr (inl failed)
  | inr (inl closed) ↦ absurd (clash (p.0.behaves.reopen.only (ap Err closed)) usable)
  | inr (inr worn) ↦ inr (inr worn)
]

-- and it is worn only in the last epoch
pub call_worn : {D : Type 0} (d : Ghosts D) (call : StoreCall) (e : Error) (old new : StoreView D)
    → DoesDeed d (called call (Err e)) old new → e ≡ Worn → old.epoch ≡ LAST_EPOCH
call_worn d (Posting event) e old new p is = (p.worn.only (ap Err is)).0.1
call_worn d Checkpoint e old new p is = (p.0.worn.only (ap Err is)).1

-- opening is never refused so
opening_not_worn : (e : Error) → OfOpen e → e ≡ Worn → ⊥
opening_not_worn e (inl (inl none)) is = cc (none, is)
opening_not_worn e (inl (inr (inl failed))) is = cc (failed, is)
opening_not_worn e (inl (inr (inr foreign))) is = cc (foreign, is)
opening_not_worn e (inr (n, damaged)) is = cc (damaged, is)

pub result_not_worn : {A D : Type 0} (X : Type 0) (r : Result A (Error × D)) → IfErr (result_of r) OfOpen
    → IfErr r (λ e. e.0 ≡ Worn → X)
result_not_worn X (Ok opened) named = tt
result_not_worn X (Err e) named = λ is. absurd (opening_not_worn e.0 named is)

-- what was closed is found again: opening it stops for want of memory or by a fault
module _ {D : Type 0} (d : Ghosts D) (closed : StoreView D) (law : FindingLaw) (honest : d.honest closed.disk)
    (durable : IsDurable d closed) where
  abbrev there : Content
  there = (now (d.trail closed.disk)).reads

  one_thing : FindsOneThing (d.size closed.disk) there
  one_thing = law (d.size closed.disk) there

  meant : Means (d.size closed.disk) closed.desktop there
  meant = shows_means (d.size closed.disk) closed.epoch closed.events closed.desktop there
      (durable honest there (read_is_an_image (now (d.trail closed.disk))))

  pub opening_stops : (e : Error) → OfOpen e → IsNoStore d closed.disk e → StopsAReopening e
  opening_stops e (inl (inl none)) wrong = inl none
  opening_stops e (inl (inr (inl failed))) wrong = inr (inl failed)
  opening_stops e (inl (inr (inr foreign))) wrong =
      absurd (one_thing.not_foreign closed.desktop meant (wrong.foreign foreign honest))
  opening_stops e (inr (n, damaged)) wrong =
      absurd (one_thing.not_damaged closed.desktop n meant (wrong.damaged n damaged honest))

  pub result_stops : {A : Type 0} (disk : D) → disk ≡ closed.disk → (r : Result A (Error × D))
      → IfErr r (λ e. IsNoStore d disk e.0) → IfErr (result_of r) OfOpen → IfErr r (λ e. StopsAReopening e.0)
  result_stops disk is (Ok opened) wrong named = tt
  result_stops disk is (Err e) wrong named =
      opening_stops e.0 named (subst (λ old. IsNoStore d old e.0) is wrong)
