-- What the writes of one event make of a settled disk.
use Rattle.std.proofs.Common.{◌≡◌, ◌≢◌, ◌⊎◌, inl, inr, ℕ, ◌+◌, ◌<◌, List, [], ◌∷◌, ◌++◌, length}
use Rattle.std.proofs.Common.{length-append, refl, sym, ◌∙◌, ap, subst, arith, true, false}
use Rattle.sector_disk.specs.declared.disk.Disk.{Ghosts}
use Rattle.sector_disk.specs.Confined.{IsConfined}
use Rattle.sector_disk.specs.Trail.{Content, Trail, now, LeavesOnly, Touches, Only, Nowhere}
use Rattle.sector_disk.proofs.Touching.{spared, weakened, chained, at_last, still_reads, still_all, still_settled}
use Rattle.event_bytes.specs.declared.event.Event.{Event}
use Rattle.event_bytes.specs.Spelling.{BeginsWithEvent}
use Rattle.desktop_definitions.specs.Desktop.{Desktop}
use Rattle.desktop_definitions.specs.Step.{step, step_in, steps, steps_in, Outcome}
use Rattle.store_layout.specs.declared.layout.TheConstants.{JOURNAL_EVENTS, LABEL, LAYOUT, SLOTS}
use Rattle.store_layout.proofs.Bits.{true_or_false}
use Rattle.store_layout.specs.Layout.{is_open, slot_gate, slot_head, gate, body, image_at, area_at, head}
use Rattle.store_layout.specs.Meaning.{IsJournal, Standing, desktop_of, Stands, Means, MeansEither}
use Rattle.store_layout.specs.Meaning.{and_then}
use Rattle.store_layout.specs.Kept.{IsSettled, ShowsSettled, NextRecord, IsStaged}
use Rattle.store_layout.proofs.StandingLaws.{IsApart, carried_on, footprint, older_stays}
use Rattle.store_slots.specs.Beside.{StandsOneOf}
use Rattle.store_slots.specs.Written.{HasRecord, InRecord, IsUpTo}
use Rattle.store_slots.proofs.Settling.{kept_on, means_on}

-- one event more
pub steps_on : (start : Desktop) (events : List Event) (event : Event) → steps start (events ++ event ∷ [])
    ≡ (step (steps start events) event).desktop
steps_on start [] event = refl
steps_on start (e ∷ events) event = steps_on (step start e).desktop events event

pub steps_in_on : (version : ℕ) (start : Desktop) (events : List Event) (event : Event)
    → steps_in version start (events ++ event ∷ []) ≡ (step_in version (steps_in version start events) event).desktop
steps_in_on version start [] event = refl
steps_in_on version start (e ∷ events) event = steps_in_on version (step_in version start e).desktop events event

-- a step is one in the newest version
pub in_newest : (d : Desktop) (event : Event) → step_in LAYOUT d event ≡ step d event
unfolding step
in_newest d event = refl

-- ---- journals, where only the gate at the end differs

-- it is closed still
journal_shut : (events : List Event) (c c' : Content) (slot k end : ℕ) → end ≡ k + length events
    → ((i : ℕ) → i < end → c' (gate slot i) ≡ c (gate slot i))
    → ((i : ℕ) → i < end → c' (body slot i) ≡ c (body slot i))
    → (end < JOURNAL_EVENTS → is_open (c' (gate slot end)) ≡ false) → IsJournal c slot k events
    → IsJournal c' slot k events
journal_shut [] c c' slot k end is gates bodies closed journal = λ room. let here : end
    ≡ k = omega arith in subst (λ j. is_open (c' (gate slot j)) ≡ false) here (closed (omega arith))
journal_shut (event ∷ events) c c' slot k end is gates bodies closed journal = (
  journal.0,
  ap is_open (gates k (omega arith)) ∙ journal.1,
  subst (λ bytes. BeginsWithEvent bytes event) (sym (bodies k (omega arith))) journal.2,
  journal_shut events c c' slot (k + 1) end (omega arith) gates bodies closed journal.3,
)

-- it is open, over a body with one event more and before a closed gate
journal_longer : (events : List Event) (c c' : Content) (slot k end : ℕ) (new : Event) → end ≡ k + length events
    → ((i : ℕ) → i < end → c' (gate slot i) ≡ c (gate slot i))
    → ((i : ℕ) → i < end → c' (body slot i) ≡ c (body slot i))
    → end < JOURNAL_EVENTS → is_open (c' (gate slot end)) ≡ true → BeginsWithEvent (c' (body slot end)) new
    → (end + 1 < JOURNAL_EVENTS → is_open (c' (gate slot (end + 1))) ≡ false) → IsJournal c slot k events
    → IsJournal c' slot k (events ++ new ∷ [])
journal_longer [] c c' slot k end new is gates bodies room opened begins closed journal =
    let here : end ≡ k = omega arith in
    subst (λ j. IsJournal c' slot j (new ∷ [])) here (room, opened, begins, closed)
journal_longer (event ∷ events) c c' slot k end new is gates bodies room opened begins closed journal = (
  journal.0,
  ap is_open (gates k (omega arith)) ∙ journal.1,
  subst (λ bytes. BeginsWithEvent bytes event) (sym (bodies k (omega arith))) journal.2,
  journal_longer events c c' slot (k + 1) end new (omega arith) gates bodies room opened begins closed journal.3,
)

-- ---- the body and the gate after it

-- the place of the next event is apart from what a standing rests on
next_apart : {size : ℕ} (c : Content) (s : Standing) (k : ℕ) → k ≡ length s.events → k < JOURNAL_EVENTS
    → Stands size c s → (n : ℕ) → NextRecord s.slot k n → IsApart c s n
next_apart c s k long room was n within = record {
  label = λ is. elim within [
    | inl a ↦ omega (arith, a, is)
    | inr a ↦ omega (arith, a.0, is)
  ];
  gates = λ slot low is. elim within [
    | inl a ↦ omega (arith, a, is, low)
    | inr a ↦ omega (arith, a.0, is, low)
  ];
  heads = λ slot low opened is. elim within [
    | inl a ↦ omega (arith, a, is, low)
    | inr a ↦ omega (arith, a.0, is, low)
  ];
  image = λ i below is. elim within [
    | inl a ↦ omega (arith, a, is, was.two, room)
    | inr a ↦ omega (arith, a.0, a.1, is, was.two)
  ];
  area = λ i below is. elim within [
    | inl a ↦ omega (arith, a, is, was.two, room)
    | inr a ↦ omega (arith, a.0, a.1, is, was.two)
  ];
  journal = λ i high below is. elim within [
    | inl a ↦ omega (arith, a, is)
    | inr a ↦ omega (arith, a.0, is, high, long)
  ];
  bodies = λ i high is. elim within [
    | inl a ↦ omega (arith, a, is, high, long)
    | inr a ↦ omega (arith, a.0, is)
  ];
}

staging : (size : ℕ) (old new : Trail) (s : Standing) (k : ℕ) → k ≡ length s.events → k < JOURNAL_EVENTS
    → IsSettled size old s → Touches (NextRecord s.slot k) old new → LeavesOnly old new (λ c. Stands size c s)
staging size old new s k long room was run = spared (λ c. Stands size c s) was.quiet run
    (λ c same. footprint (now old).reads c s was.stands
    (λ n counts. same n (λ within. counts (next_apart (now old).reads s k long room was.stands n within))))

-- ---- the gate

-- all of a standing but the end of its journal stays where only gate k differs
pub only_gate : {size : ℕ} (c c' : Content) (s : Standing) (k : ℕ) → k < JOURNAL_EVENTS → Stands size c s
    → ((n : ℕ) → n ≢ gate s.slot k → c' n ≡ c n) → (events : List Event) → IsJournal c' s.slot 0 events
    → Stands size c' (record s { events = events })
only_gate c c' s k room was same events journal = carried_on c c' s events was
    (same LABEL (omega arith))
    (ap is_open (same (slot_gate s.slot) (omega (arith, was.two))) ∙ was.live)
    (same (slot_head s.slot) (omega (arith, was.two)))
    (λ idle two opened.
    let before = sym (ap is_open (same (slot_gate idle) (omega (arith, two)))) ∙ opened in
    older_stays c c' s.epoch idle (same (slot_head idle) (omega (arith, two))) (was.other idle two before))
    (λ i below. same (image_at s.slot + i) (omega (arith, was.two, room)))
    (λ i below. same (area_at (head c s.slot).area i) (omega (arith, was.two, room)))
    journal

module _ {size : ℕ} (c c' : Content) (s : Standing) (event : Event) (k : ℕ) (long : k ≡ length s.events)
    (room : k < JOURNAL_EVENTS) (was : Stands size c s) (begins : BeginsWithEvent (c (body s.slot k)) event)
    (closed : k + 1 < JOURNAL_EVENTS → is_open (c (gate s.slot (k + 1))) ≡ false)
    (same : (n : ℕ) → n ≢ gate s.slot k → c' n ≡ c n) where
  is_kept : is_open (c' (gate s.slot k)) ≡ false → Stands size c' s
  is_kept off = only_gate c c' s k room was same s.events
      (journal_shut s.events c c' s.slot 0 k (omega (arith, long))
      (λ i low. same (gate s.slot i) (omega (arith, low))) (λ i low. same (body s.slot i) (omega (arith, low)))
      (λ _. off) was.journal)

  is_added : is_open (c' (gate s.slot k)) ≡ true → Stands size c' (and_then s event)
  is_added opened = only_gate c c' s k room was same (s.events ++ event ∷ [])
      (journal_longer s.events c c' s.slot 0 k event (omega (arith, long))
      (λ i low. same (gate s.slot i) (omega (arith, low))) (λ i low. same (body s.slot i) (omega (arith, low)))
      room opened (subst (λ b. BeginsWithEvent b event) (sym (same (body s.slot k) (omega arith))) begins)
      (λ more. ap is_open (same (gate s.slot (k + 1)) (omega arith)) ∙ closed more) was.journal)

  is_either : Stands size c' s ⊎ Stands size c' (and_then s event)
  is_either = elim (true_or_false (is_open (c' (gate s.slot k)))) [
    | inl opened ↦ inr (is_added opened)
    | inr off ↦ inl (is_kept off)
  ]

module _ (size : ℕ) (old new : Trail) (s : Standing) (event : Event) (k : ℕ) (desktop : Desktop)
    (long : k ≡ length s.events) (room : k < JOURNAL_EVENTS) (is : desktop_of s ≡ desktop)
    (was : IsStaged size old s event k) (run : Touches (Only (gate s.slot k)) old new) where
  stepped : desktop_of (and_then s event) ≡ (step_in s.version desktop event).desktop
  stepped = steps_in_on s.version s.start s.events event ∙ ap (λ d. (step_in s.version d event).desktop) is

  sealing_at : LeavesOnly old new (StandsOneOf size s (and_then s event))
  sealing_at = spared (StandsOneOf size s (and_then s event)) was.settled.quiet run
      (λ c same. elim (is_either (now old).reads c s event k long room was.settled.stands was.begins
      was.closed same) [
        | inl stands ↦ inr stands
        | inr stands ↦ inl stands
      ])

  sealing : LeavesOnly old new (MeansEither size desktop (step_in s.version desktop event).desktop)
  sealing = spared (MeansEither size desktop (step_in s.version desktop event).desktop) was.settled.quiet run
      (λ c same. elim (is_either (now old).reads c s event k long room was.settled.stands was.begins
      was.closed same) [
        | inl stands ↦ inl (s, stands, is)
        | inr stands ↦ inr (and_then s event, stands, stepped)
      ])

  sealed : is_open ((now new).reads (gate s.slot k)) ≡ true → ((n : ℕ) → (now new).pending n ≡ false)
      → ShowsSettled size new s.slot s.version s.epoch (k + 1) (step_in s.version desktop event).desktop
  sealed opened quiet = record {
    standing = and_then s event;
    settled = record {
      quiet = quiet;
      stands = is_added (now old).reads (now new).reads s event k long room was.settled.stands was.begins was.closed
          (still_reads old new run) opened;
    };
    slot = refl;
    version_is = refl;
    epoch = refl;
    events = length-append s.events (event ∷ []) ∙ omega (arith, long);
    is = stepped;
  }

-- ---- both, one after the other
module _ {size : ℕ} {d : Trail} {live version number count : ℕ} {desktop : Desktop}
    (kept : ShowsSettled size d live version number count desktop) (room : count < JOURNAL_EVENTS) where
  abbrev s : Standing
  s = kept.standing

  module _ {first : Trail} (stages : Touches (NextRecord live count) d first) where
    here : LeavesOnly d first (λ c. Stands size c s)
    here = staging size d first s count (sym kept.events) room kept.settled
        (subst (λ n. Touches (NextRecord n count) d first) (sym kept.slot) stages)

    pub one_call_at : (event : Event) → LeavesOnly d first (StandsOneOf size s (and_then s event))
    one_call_at event = weakened here (λ c stands. inr stands)

    pub one_call : (event : Event) → LeavesOnly d first (MeansEither size desktop (step_in version desktop event).desktop)
    one_call event = weakened here (λ c stands. inl (s, stands, kept.is))

    module _ {event : Event} {new : Trail} (has : HasRecord (now first) live count event)
        (seals : Touches (Only (gate live count)) first new) where
      staged : IsStaged size first s event count
      staged = record {
        settled = record { quiet = has.quiet; stands = at_last here (now first).reads (λ n settled. refl) };
        begins = subst (λ n. BeginsWithEvent ((now first).reads (body n count)) event) (sym kept.slot) has.begins;
        closed = λ more. subst (λ n. is_open ((now first).reads (gate n (count + 1))) ≡ false) (sym kept.slot)
            (has.closed more);
      }

      seals_here : Touches (Only (gate s.slot count)) first new
      seals_here = subst (λ n. Touches (Only (gate n count)) first new) (sym kept.slot) seals

      pub both_calls_at : LeavesOnly d new (StandsOneOf size s (and_then s event))
      both_calls_at = chained (one_call_at event)
          (sealing_at size first new s event count desktop (sym kept.events) room kept.is staged seals_here)

      pub both_calls : LeavesOnly d new (MeansEither size desktop (step_in version desktop event).desktop)
      both_calls = chained (one_call event)
          (subst (λ v. LeavesOnly first new (MeansEither size desktop (step_in v desktop event).desktop)) kept.version_is
          (sealing size first new s event count desktop (sym kept.events) room kept.is staged seals_here))

      pub recorded : is_open ((now new).reads (gate live count)) ≡ true → ((n : ℕ) → (now new).pending n ≡ false)
          → ShowsSettled size new live version number (count + 1) (step_in version desktop event).desktop
      recorded opened silent = subst (λ n. ShowsSettled size new n version number (count + 1)
          (step_in version desktop event).desktop) kept.slot
          (subst (λ n. ShowsSettled size new s.slot version n (count + 1) (step_in version desktop event).desktop) kept.epoch
          (subst (λ v. ShowsSettled size new s.slot v s.epoch (count + 1) (step_in v desktop event).desktop) kept.version_is
          (sealed size first new s event count desktop (sym kept.events) room kept.is staged seals_here
          (subst (λ n. is_open ((now new).reads (gate n count)) ≡ true) (sym kept.slot) opened) silent)))

      pub recorded_there : is_open ((now new).reads (gate live count)) ≡ true → ((n : ℕ) → (now new).pending n ≡ false)
          → IsSettled size new (and_then s event)
      recorded_there opened silent = record {
        quiet = silent;
        stands = is_added (now first).reads (now new).reads s event count (sym kept.events) room
            staged.settled.stands staged.begins staged.closed (still_reads first new seals_here)
            (subst (λ n. is_open ((now new).reads (gate n count)) ≡ true) (sym kept.slot) opened);
      }

-- what a disk shows is kept on it
abbrev pub kept_of : {size slot k : ℕ} {disk : Trail} {s : Standing} → IsUpTo size disk slot k s
    → ShowsSettled size disk slot s.version s.epoch k (desktop_of s)
kept_of {s = s} at = record {
  standing = s;
  settled = at.settled;
  slot = at.slot_is;
  version_is = refl;
  epoch = refl;
  events = at.count;
  is = refl;
}

-- after reads too
pub still_up : {D : Type 0} (d : Ghosts D) {disk disk' : D} {slot k : ℕ} {s : Standing}
    → IsUpTo (d.size disk) (d.trail disk) slot k s → IsConfined d.size d.honest d.trail Nowhere disk disk'
    → d.honest disk → IsUpTo (d.size disk') (d.trail disk') slot k s
still_up d {disk = disk} {disk' = disk'} {s = s} at run honest = record {
  settled = record {
    quiet = λ n. still_settled (d.trail disk) (d.trail disk') (run.moments honest) n (λ none. none)
        (at.settled.quiet n);
    stands = subst (λ n. Stands n (now (d.trail disk')).reads s) (sym run.as_large)
        (subst (λ c. Stands (d.size disk) c s) (sym (still_all (d.trail disk) (d.trail disk') (run.moments honest)))
        at.settled.stands);
  };
  slot_is = at.slot_is;
  count = at.count;
}

-- the head of the slot is as it was
pub head_stays : (old new : Trail) (slot k : ℕ) → slot < SLOTS → k < JOURNAL_EVENTS → Touches (InRecord slot k) old new
    → (now new).reads (slot_head slot) ≡ (now old).reads (slot_head slot)
head_stays old new slot k low index run = still_reads old new run (slot_head slot) (λ within. elim within [
  | inl (inl a) ↦ omega (arith, a, low)
  | inl (inr a) ↦ omega (arith, a.0, low)
  | inr a ↦ omega (arith, a, low)
])

-- ---- reads, and then the record in a slot of the newest version
module _ {D : Type 0} (d : Ghosts D) {old mid : D} (run : IsConfined d.size d.honest d.trail Nowhere old mid)
    (honest : d.honest old) {live number k : ℕ} {desktop : Desktop}
    (kept : ShowsSettled (d.size old) (d.trail old) live LAYOUT number k desktop) where
  pub kept_then : ShowsSettled (d.size mid) (d.trail mid) live LAYOUT number k desktop
  kept_then = subst (λ n. ShowsSettled n (d.trail mid) live LAYOUT number k desktop) (sym run.as_large)
      (kept_on (d.size old) (d.trail old) (d.trail mid) live LAYOUT number k desktop kept (run.moments honest))

  pub unrecorded : LeavesOnly (d.trail old) (d.trail mid) (Means (d.size old) desktop)
  unrecorded = means_on (d.size old) (d.trail old) (d.trail mid) live LAYOUT number k desktop kept (run.moments honest)

  module _ (event : Event) where
    pub read_only : LeavesOnly (d.trail old) (d.trail mid) (MeansEither (d.size old) desktop (step desktop event).desktop)
    read_only = weakened unrecorded (λ c means. inl means)

    module _ {new : D} where
      pub read_then : LeavesOnly (d.trail mid) (d.trail new)
          (MeansEither (d.size mid) desktop (step_in LAYOUT desktop event).desktop)
          → LeavesOnly (d.trail old) (d.trail new) (MeansEither (d.size old) desktop (step desktop event).desktop)
      read_then after = chained read_only (subst (λ n. LeavesOnly (d.trail mid) (d.trail new)
          (MeansEither n desktop (step desktop event).desktop)) run.as_large
          (subst (λ x. LeavesOnly (d.trail mid) (d.trail new) (MeansEither (d.size mid) desktop x))
          (ap (λ (o : Outcome). o.desktop) (in_newest desktop event)) after))

      pub kept_after : {desktop' : Desktop} → desktop' ≡ (step desktop event).desktop
          → ShowsSettled (d.size mid) (d.trail new) live LAYOUT number (k + 1) (step_in LAYOUT desktop event).desktop
          → ShowsSettled (d.size old) (d.trail new) live LAYOUT number (k + 1) desktop'
      kept_after is after = subst (λ x. ShowsSettled (d.size old) (d.trail new) live LAYOUT number (k + 1) x)
          (ap (λ (o : Outcome). o.desktop) (in_newest desktop event) ∙ sym is)
          (subst (λ n. ShowsSettled n (d.trail new) live LAYOUT number (k + 1) (step_in LAYOUT desktop event).desktop)
          run.as_large after)

-- a call that only reads, before that and alone
pub read_only_at : {D : Type 0} (d : Ghosts D) {disk disk' : D} {slot k : ℕ} {s : Standing}
    → IsUpTo (d.size disk) (d.trail disk) slot k s → IsConfined d.size d.honest d.trail Nowhere disk disk'
    → d.honest disk → (t : Standing) → LeavesOnly (d.trail disk) (d.trail disk') (StandsOneOf (d.size disk) s t)
read_only_at d {disk = disk} {s = s} at run honest t = spared (StandsOneOf (d.size disk) s t) at.settled.quiet
    (run.moments honest)
    (λ c same. inr (subst (λ x. Stands (d.size disk) x s) (sym (λ i n. same n (λ none. none) i)) at.settled.stands))
