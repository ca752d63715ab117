-- What a gate of a journal that is closed makes of a settled disk.
use Rattle.std.proofs.Common.{◌≡◌, ◌≢◌, inl, inr, ℕ, zero, suc, ◌+◌, ◌<◌, List, [], ◌∷◌, ◌++◌, length, take, drop, ◌≤◌}
use Rattle.std.proofs.Common.{refl, sym, ◌∙◌, ap, subst, arith, true, false}
use Rattle.std.proofs.lemmas.Bool.{cases_eq}
use Rattle.std.proofs.lemmas.List.{drop-append-le, length-take-le, take-append-drop, take_all}
use Rattle.std.proofs.Math.ListN.{drop_of_length-le}
use Rattle.sector_disk.specs.declared.disk.Disk.{Ghosts}
use Rattle.sector_disk.specs.Confined.{IsConfined}
use Rattle.sector_disk.specs.Trail.{Content, Trail, now, LeavesOnly, Touches, Only, Nowhere}
use Rattle.sector_disk.proofs.Touching.{spared, still_reads, still_all, still_settled}
use Rattle.event_bytes.specs.declared.event.Event.{Event}
use Rattle.event_bytes.specs.Spelling.{BeginsWithEvent}
use Rattle.store_layout.specs.declared.layout.TheConstants.{JOURNAL_EVENTS, SLOTS}
use Rattle.store_layout.proofs.Bits.{true_or_false, clash}
use Rattle.store_layout.specs.Layout.{is_open, gate, body, slot_head}
use Rattle.store_layout.specs.Meaning.{IsJournal, Standing, Stands, StandsEither, cut_to, desktop_of}
use Rattle.store_layout.specs.Finding.{FindingLaw, IsForeign, IsDamagedAt}
use Rattle.store_layout.specs.Kept.{IsSettled}
use Rattle.store_layout.proofs.StandingLaws.{journal_short}
use Rattle.store_slots.specs.declared.live.LiveDesktop.{LiveDesktop}
use Rattle.store_slots.specs.declared.error.Error.{Error}
use Rattle.store_slots.specs.declared.error.Error.TheVariants.{NotAStore, Damaged}
use Rattle.store_slots.specs.Errors.{OfDesktop, OfOpen, OfReplay}
use Rattle.store_slots.specs.Live.{IsLive, IsNamed}
use Rattle.store_slots.proofs.Staying.{IsApart, apart_record}
use Rattle.store_slots.specs.Beside.{HasEvents, IsEarlier, within}
use Rattle.store_slots.specs.Load.{IsCutTo}
use Rattle.store_slots.specs.Written.{HasEventAt, IsUpTo}
use Rattle.store_slots.proofs.Recording.{only_gate}

-- ---- journals, where only one gate differs, that of an event

-- it is closed now: the journal ends there
pub journal_cut : (events : List Event) (c c' : Content) (slot k end m : ℕ) → end ≡ k + m → m < length events
    → ((n : ℕ) → n ≢ gate slot end → c' n ≡ c n) → is_open (c' (gate slot end)) ≡ false → IsJournal c slot k events
    → IsJournal c' slot k (take m events)
journal_cut [] c c' slot k end m is low same off journal = absurd (omega (arith, low))
journal_cut (event ∷ events) c c' slot k end zero is low same off journal =
    λ room. let here : end ≡ k = omega (arith, is) in subst (λ j. is_open (c' (gate slot j)) ≡ false) here off
journal_cut (event ∷ events) c c' slot k end (suc m) is low same off journal = (
  journal.0,
  ap is_open (same (gate slot k) (omega (arith, is))) ∙ journal.1,
  subst (λ bytes. BeginsWithEvent bytes event) (sym (same (body slot k) (omega arith))) journal.2,
  journal_cut events c c' slot (k + 1) end m (omega (arith, is)) (omega (arith, low)) same off journal.3,
)

-- it is open still: the journal is as it was
journal_whole : (events : List Event) (c c' : Content) (slot k end : ℕ) → end < k + length events
    → ((n : ℕ) → n ≢ gate slot end → c' n ≡ c n) → is_open (c' (gate slot end)) ≡ true → IsJournal c slot k events
    → IsJournal c' slot k events
journal_whole [] c c' slot k end low same on journal =
    λ room. ap is_open (same (gate slot k) (omega (arith, low))) ∙ journal room
journal_whole (event ∷ events) c c' slot k end low same on journal = (
  journal.0,
  elim (cases_eq k end) [
    | inl here ↦ subst (λ j. is_open (c' (gate slot j)) ≡ true) (sym here) on
    | inr other ↦ ap is_open (same (gate slot k) (omega (arith, other))) ∙ journal.1
  ],
  subst (λ bytes. BeginsWithEvent bytes event) (sym (same (body slot k) (omega arith))) journal.2,
  journal_whole events c c' slot (k + 1) end (omega (arith, low)) same on journal.3,
)

-- ---- a standing, where only the gate of one of its events differs
module _ {size : ℕ} (c c' : Content) (s : Standing) (k : ℕ) (more : k < length s.events) (was : Stands size c s)
    (same : (n : ℕ) → n ≢ gate s.slot k → c' n ≡ c n) where
  room : k < JOURNAL_EVENTS
  room = let short = journal_short s.events c s.slot 0 (omega arith) was.journal in omega (arith, short, more)

  is_short : is_open (c' (gate s.slot k)) ≡ false → Stands size c' (cut_to k s)
  is_short off = only_gate c c' s k room was same (take k s.events)
      (journal_cut s.events c c' s.slot 0 k k (omega arith) more same off was.journal)

  is_whole : is_open (c' (gate s.slot k)) ≡ true → Stands size c' s
  is_whole on = only_gate c c' s k room was same s.events
      (journal_whole s.events c c' s.slot 0 k (omega (arith, more)) same on was.journal)

  either_way : StandsEither size k s c'
  either_way = elim (true_or_false (is_open (c' (gate s.slot k)))) [
    | inl on ↦ inr (is_whole on)
    | inr off ↦ inl (is_short off)
  ]

module _ {size : ℕ} {old new : Trail} {slot k : ℕ} {s : Standing} (at : HasEventAt size old slot k s)
    (run : Touches (Only (gate slot k)) old new) where
  run_here : Touches (Only (gate s.slot k)) old new
  run_here = subst (λ n. Touches (Only (gate n k)) old new) (sym at.slot_is) run

  -- whatever the gate holds
  pub taking : LeavesOnly old new (StandsEither size k s)
  taking = spared (StandsEither size k s) at.settled.quiet run_here
      (λ c same. either_way (now old).reads c s k at.more at.settled.stands same)

  -- it is closed, and nothing is pending
  pub taken : is_open ((now new).reads (gate slot k)) ≡ false → ((n : ℕ) → (now new).pending n ≡ false)
      → IsSettled size new (cut_to k s)
  taken off quiet = record {
    quiet = quiet;
    stands = is_short (now old).reads (now new).reads s k at.more at.settled.stands (still_reads old new run_here)
        (subst (λ n. is_open ((now new).reads (gate n k)) ≡ false) (sym at.slot_is) off);
  }

-- ---- the events of a journal

-- One stands in the body under each of its gates, which is open, and comes behind those before it.
journal_at : (events : List Event) (c : Content) (slot k end j : ℕ) → end ≡ k + j → j < length events
    → IsJournal c slot k events
    → (e : Event) × (is_open (c (gate slot end)) ≡ true) × BeginsWithEvent (c (body slot end)) e
    × (take (suc j) events ≡ take j events ++ e ∷ [])
journal_at [] c slot k end j is low journal = absurd (omega (arith, low))
journal_at (event ∷ events) c slot k end zero is low journal =
    let here : k ≡ end = omega (arith, is) in (
      event,
      subst (λ n. is_open (c (gate slot n)) ≡ true) here journal.1,
      subst (λ n. BeginsWithEvent (c (body slot n)) event) here journal.2,
      refl,
    )
journal_at (event ∷ events) c slot k end (suc j) is low journal =
    let rest = journal_at events c slot (k + 1) end j (omega (arith, is)) (omega (arith, low)) journal.3 in
    (rest.0, rest.1, rest.2, ap (λ l. event ∷ l) rest.3)

-- bytes begin with one event at most
abbrev pub BeginLaw : Type 0
BeginLaw = (bytes : List ℕ) (e f : Event) → BeginsWithEvent bytes e → BeginsWithEvent bytes f → e ≡ f

-- no event was read yet, and all were read
pub none_of : (k : ℕ) (events : List Event) → k ≤ length events → drop k (take k events) ≡ []
none_of k events low = drop_of_length-le (take k events) (omega (arith, length-take-le k events low))

pub all_of : (k end : ℕ) (events read : List Event) → length events ≡ end → drop k (take end events) ≡ read
    → drop k events ≡ read
all_of k end events read long is = ap (drop k) (sym (take_all end events (omega (arith, long)))) ∙ is

module _ {c : Content} {slot end : ℕ} {events : List Event} (has : HasEvents c slot end events) (n : ℕ) (low : n < end)
  where
    found : (e : Event) × (is_open (c (gate slot n)) ≡ true) × BeginsWithEvent (c (body slot n)) e
        × (take (suc n) events ≡ take n events ++ e ∷ [])
    found = journal_at events c slot 0 n n (omega arith) (omega (arith, low, has.long)) has.journal

    -- its gate is open
    pub not_closed : is_open (c (gate slot n)) ≡ false → ⊥
    not_closed off = clash found.1 off

    -- and there is an event
    pub not_none : ((event : Event) → BeginsWithEvent (c (body slot n)) event → ⊥) → ⊥
    not_none none = none found.0 found.2

    -- which comes behind those that were read
    pub one_more : BeginLaw → (k : ℕ) (read : List Event) (event : Event) → k ≤ n
        → BeginsWithEvent (c (body slot n)) event → drop k (take n events) ≡ read
        → drop k (take (n + 1) events) ≡ read ++ event ∷ []
    one_more law k read event behind begins is =
        let next : n + 1 ≡ suc n = omega arith in
        ap (λ m. drop k (take m events)) next
        ∙ ap (drop k) found.3
        ∙ drop-append-le k (take n events) (found.0 ∷ [])
        (omega (arith, behind, length-take-le n events (omega (arith, low, has.long))))
        ∙ ap (λ l. l ++ found.0 ∷ []) is
        ∙ ap (λ e. read ++ e ∷ []) (law (c (body slot n)) found.0 event found.2 begins)

-- ---- reads before that

pub events_still : {D : Type 0} (d : Ghosts D) {disk disk' : D} {slot end : ℕ} {all : List Event}
    → IsConfined d.size d.honest d.trail Nowhere disk disk' → d.honest disk
    → HasEvents (now (d.trail disk)).reads slot end all → HasEvents (now (d.trail disk')).reads slot end all
events_still d {slot = slot} {end = end} {all = all} run honest has =
    subst (λ (c : Content). HasEvents c slot end all) (sym (still_all _ _ (run.moments honest))) has

module _ {D : Type 0} (d : Ghosts D) {disk disk' : D} {slot end : ℕ} {s : Standing}
    (at : IsUpTo (d.size disk) (d.trail disk) slot end s)
    (run : IsConfined d.size d.honest d.trail Nowhere disk disk') (honest : d.honest disk) where
  pub still_up_to : IsUpTo (d.size disk') (d.trail disk') slot end s
  still_up_to = record {
    settled = record {
      quiet = λ n. still_settled (d.trail disk) (d.trail disk') (run.moments honest) n (λ none. none)
          (at.settled.quiet n);
      stands = subst (λ n. Stands n (now (d.trail disk')).reads s) (sym run.as_large)
          (subst (λ c. Stands (d.size disk) c s) (sym (still_all (d.trail disk) (d.trail disk') (run.moments honest)))
          at.settled.stands);
    };
    slot_is = at.slot_is;
    count = at.count;
  }

  pub reads_either : (k : ℕ) → LeavesOnly (d.trail disk) (d.trail disk') (StandsEither (d.size disk) k s)
  reads_either k = spared (StandsEither (d.size disk) k s) at.settled.quiet (run.moments honest)
      (λ c same. inr (subst (λ x. Stands (d.size disk) x s) (sym (λ i n. same n (λ none. none) i)) at.settled.stands))

  -- its journal
  pub events_of : HasEvents (now (d.trail disk)).reads slot end s.events
  events_of = record {
    journal = subst (λ n. IsJournal (now (d.trail disk)).reads n 0 s.events) at.slot_is at.settled.stands.journal;
    long = at.count;
  }

  pub events_after : HasEvents (now (d.trail disk')).reads slot end s.events
  events_after = subst (λ c. HasEvents c slot end s.events)
      (sym (still_all (d.trail disk) (d.trail disk') (run.moments honest))) events_of

  -- what was loaded before the events were read
  pub is_earlier : {disk'' : D} {k number : ℕ} (live : LiveDesktop) {events : List Event} → k ≤ end → s.epoch ≡ number
      → IsCutTo (d.size disk) (now (d.trail disk)).reads k (now (d.trail disk')).reads live
      → IsConfined d.size d.honest d.trail Nowhere disk' disk'' → drop k s.events ≡ events
      → IsEarlier (now (d.trail disk'')).reads slot number k s live events
  is_earlier {disk'' = disk''} {k = k} {number = number} live {events = events} few epoch cut more others =
      let all = cut s at.settled.stands (omega (arith, few, at.count)) in
      subst (λ c. IsEarlier c slot number k s live events)
      (sym (still_all (d.trail disk') (d.trail disk'') (more.moments (run.still honest))))
      (record {
        rest = cut_to k s;
        is_rest = within (λ i. record {
          slot = s.slot;
          version = s.version;
          epoch = s.epoch;
          past = s.past;
          start = s.start;
          events = (sym (take-append-drop k s.events) ∙ ap (λ l. take k s.events ++ l) others) i;
        });
        slot_is = at.slot_is;
        version_is = refl;
        epoch_is = epoch;
        long = length-take-le k s.events (omega (arith, few, at.count));
        shown = all.0;
        named = subst (λ n. IsNamed (now (d.trail disk')).reads n live) at.slot_is all.1;
      })

-- why reading a store stops, where there is one
pub stops_there : (size : ℕ) (c : Content) (s : Standing) → FindingLaw → Stands size c s → (e : Error) → OfOpen e
    → (e ≡ NotAStore → IsForeign size c) → ((n : ℕ) → e ≡ Damaged n → IsDamagedAt size c n) → OfDesktop e
stops_there size c s law stands e (inl (inl none)) foreign damaged = inl none
stops_there size c s law stands e (inl (inr (inl fault))) foreign damaged = inr fault
stops_there size c s law stands e (inl (inr (inr other))) foreign damaged =
    absurd ((law size c).not_foreign (desktop_of s) (s, stands, refl) (foreign other))
stops_there size c s law stands e (inr (n, bad)) foreign damaged =
    absurd ((law size c).not_damaged (desktop_of s) n (s, stands, refl) (damaged n bad))

pub stops_behind : (e : Error) → OfReplay e → ((n : ℕ) → e ≡ Damaged n → ⊥) → OfDesktop e
stops_behind e (inl named) sound = named
stops_behind e (inr (n, bad)) sound = absurd (sound n bad)

-- ---- what the gate is apart from

pub apart_gate : (live : LiveDesktop) (slot k : ℕ) → IsLive live → slot < SLOTS → k < JOURNAL_EVENTS
    → IsApart (Only (gate slot k)) live.pages
apart_gate live slot k is low index n from to here =
    apart_record live.pages live.area slot k is.based low index n from to (inr here)

pub head_kept : (old new : Trail) (slot k : ℕ) → slot < SLOTS → Touches (Only (gate slot k)) old new
    → (now new).reads (slot_head slot) ≡ (now old).reads (slot_head slot)
head_kept old new slot k low run = still_reads old new run (slot_head slot) (λ here. omega (arith, here, low))
