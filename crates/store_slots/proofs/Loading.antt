-- Reading a slot: its journal, event by event, and what the disk shows then.
use Rattle.std.proofs.Common.{◌≡◌, ◌⊎◌, inl, inr, ℕ, zero, suc, ◌+◌, ◌<◌, ◌≤◌, List, [], length, take, drop}
use Rattle.std.proofs.Common.{◌∷◌, ◌++◌, length-append, append_assoc}
use Rattle.std.proofs.Common.{refl, sym, ◌∙◌, ap, subst, arith, true, false}
use Rattle.std.proofs.lemmas.List.{append-nil, take-append-le, take_all}
use Rattle.std.proofs.lemmas.Bool.{cases_lt, cases_eq}
use Rattle.std.specs.Prelude.{None}
use Rattle.command_table.specs.Versions.{version_of}
use Rattle.sector_disk.specs.Trail.{Content, Trail, now, Touches, Nowhere}
use Rattle.sector_disk.proofs.Touching.{still_all, still_settled}
use Rattle.event_bytes.specs.declared.event.Event.{Event}
use Rattle.event_bytes.specs.Spelling.{BeginsWithEvent}
use Rattle.desktop_definitions.specs.Desktop.{Desktop}
use Rattle.desktop_definitions.specs.Step.{step_in, steps_in}
use Rattle.store_layout.specs.declared.head.Head.{Head}
use Rattle.store_layout.specs.declared.layout.TheConstants.{FIRST_LAYOUT, JOURNAL_EVENTS, LAYOUT}
use Rattle.store_layout.specs.Layout.{is_open, slot_gate, slot_head, gate, body, image_at, head}
use Rattle.store_layout.specs.Layout.{IsGoodHead}
use Rattle.store_layout.proofs.Bits.{clash}
use Rattle.store_layout.specs.Meaning.{IsJournal, HasImage, Standing, Stands, Shows, full_sectors, desktop_of, cut_to}
use Rattle.store_layout.proofs.StandingLaws.{one_in_use, stands_in_use, journal_leads}
use Rattle.store_layout.specs.Footprint.{IsLedTo}
use Rattle.store_layout.specs.Finding.{IsNoEvent, AreShut, HasBadHead, IsDamage, IsDamagedAt, StandingLaw}
use Rattle.store_layout.specs.Kept.{ShowsSettled}
use Rattle.char_pages.specs.Pages.{saved_sectors, renewed_of}
use Rattle.store_slots.specs.declared.live.LiveDesktop.{LiveDesktop}
use Rattle.store_slots.specs.Live.{IsNamed}
use Rattle.store_slots.specs.Load.{IsLocated, IsJournalReadTo, IsReadUpTo, IsReadWhole}
use Rattle.store_slots.proofs.Recording.{steps_in_on}

-- ---- the journal

pub none_read : (c : Content) (slot version : ℕ) (from : Desktop) → IsJournalReadTo c slot version 0 from from
none_read c slot version from = record {
  events = [];
  count = refl;
  led = λ j below. absurd (omega (arith, below));
  each =
      λ j below. absurd (omega (arith, below));
  goes_on = λ rest journal. journal;
  is = refl;
}

-- one open gate further
led_on : (c : Content) (slot k : ℕ) → IsLedTo c slot k → is_open (c (gate slot k)) ≡ true → IsLedTo c slot (k + 1)
led_on c slot k led opened = λ j below. elim (cases_lt j k) [
  | inl earlier ↦ led j earlier
  | inr last ↦ let here : k ≡ j = omega (arith, below, last) in subst
      (λ i. is_open (c (gate slot i)) ≡ true) here opened
]

-- one event further
pub one_read : (c : Content) (slot version k : ℕ) (from to next : Desktop) (event : Event)
    → IsJournalReadTo c slot version k from to
    → k < JOURNAL_EVENTS → is_open (c (gate slot k)) ≡ true → BeginsWithEvent (c (body slot k)) event
    → next ≡ (step_in version to event).desktop → IsJournalReadTo c slot version (k + 1) from next
one_read c slot version k from to next event was room opened begins is = record {
  events = was.events ++ event ∷ [];
  count = length-append was.events (event ∷ []) ∙ omega (arith, was.count);
  led = led_on c slot k was.led opened;
  each = λ j below. elim (cases_lt j k) [
    | inl earlier ↦ was.each j earlier
    | inr last ↦ let here : k ≡ j = omega (arith, below, last) in subst
        (λ i. (e : Event) × BeginsWithEvent (c (body slot i)) e) here (event, begins)
  ];
  goes_on = λ rest journal. subst (IsJournal c slot 0) (sym (append_assoc was.events (event ∷ []) rest))
      (was.goes_on (event ∷ rest) (room, opened, begins, journal));
  is = is ∙ ap (λ d. (step_in version d event).desktop) was.is ∙ sym (steps_in_on version from was.events event);
}

pub all_read : (c : Content) (slot version k : ℕ) (from to : Desktop) → IsJournalReadTo c slot version k from to
    → (k < JOURNAL_EVENTS → is_open (c (gate slot k)) ≡ false) → IsReadWhole c slot version k from to
all_read c slot version k from to was closed = record {
  events = was.events;
  long = was.count;
  journal = subst (IsJournal c slot 0) (append-nil was.events) (was.goes_on [] closed);
  is = was.is;
}

pub not_read : (c : Content) (slot version k : ℕ) (from to : Desktop) → IsJournalReadTo c slot version k from to
    → k < JOURNAL_EVENTS
    → is_open (c (gate slot k)) ≡ true → ((event : Event) → BeginsWithEvent (c (body slot k)) event → ⊥) → IsNoEvent c slot k
not_read c slot version k from to was room opened none = record {
  within = room;
  led = led_on c slot k was.led opened;
  events =
      was.each;
  none = none;
}

-- the journal behind its first events
pub journal_rest : (events : List Event) (c : Content) (slot k end n : ℕ) → end ≡ k + n → n ≤ length events
    → IsJournal c slot k events → IsJournal c slot end (drop n events)
journal_rest [] c slot k end zero is low journal =
    let here : k ≡ end = omega (arith, is) in subst (λ j. IsJournal c slot j []) here journal
journal_rest [] c slot k end (suc n) is low journal = absurd (omega (arith, low))
journal_rest (event ∷ events) c slot k end zero is low journal =
    let here : k ≡ end = omega (arith, is) in subst (λ j. IsJournal c slot j (event ∷ events)) here journal
journal_rest (event ∷ events) c slot k end (suc n) is low journal =
    journal_rest events c slot (k + 1) end n (omega (arith, is)) (omega (arith, low)) journal.3

-- ---- the whole

-- no slot is open, or the head of one that is open is bad
pub slot_damage : (c : Content) (n : ℕ)
    → ((n ≡ slot_gate 0) × AreShut c) ⊎ ((slot : ℕ) × (n ≡ slot_head slot) × HasBadHead c slot) → IsDamage c n
slot_damage c n found = elim found [ inl shut ↦ inl shut | inr bad ↦ inr (inl bad) ]

module _ {size slot : ℕ} {h : Head} {old mid : Trail} (found : IsLocated size (now old).reads slot h)
    (first : Touches Nowhere old mid) where
  -- what the reads of its head and of others find in the slot
  found_there : (P : Content → Type 0) → (head (now mid).reads slot ≡ h → P (now mid).reads) → P (now old).reads
  found_there P has = subst (λ c. head c slot ≡ h → P c) (still_all old mid first) has found.is

  -- the slot has no image
  pub image_damage : {n : ℕ} → (head (now mid).reads slot ≡ h
      → (n ≡ image_at slot) × ((start : Desktop) → HasImage (now mid).reads slot start → ⊥))
      → IsDamagedAt size (now old).reads n
  image_damage {n = n} none =
      let bad = found_there (λ c. (n ≡ image_at slot) × ((start : Desktop) → HasImage c slot start → ⊥)) none in
      record {
        large = found.large;
        label = found.label;
        damage = inr (inr (inl (slot, bad.0, record { heads = found.heads; used = found.used; none = bad.1 })));
      }

  module _ {start : Desktop} (has : head (now mid).reads slot ≡ h → HasImage (now mid).reads slot start) {late : Trail}
      (second : Touches Nowhere mid late) where
    image : HasImage (now old).reads slot start
    image = found_there (λ c. HasImage c slot start) has

    same : (now late).reads ≡ (now old).reads
    same = still_all mid late second ∙ still_all old mid first

    -- a body under an open gate is no event
    pub body_damage : {n : ℕ} → ((k : ℕ) × (n ≡ body slot k) × IsNoEvent (now late).reads slot k)
        → IsDamagedAt size (now old).reads n
    body_damage bad = record {
      large = found.large;
      label = found.label;
      damage = inr (inr (inr (
        slot,
        bad.0,
        bad.1,
        record {
          heads = found.heads;
          used = found.used;
          start = start;
          image = image;
          body_is = subst (λ c. IsNoEvent c slot bad.0) same bad.2;
        },
      )));
    }

    -- its journal was read whole, by the version of its head
    module _ {version count : ℕ} {desktop : Desktop} (by_head : h.version ≡ version)
        (whole : IsReadWhole (now late).reads slot version count start desktop) where
      abbrev standing : Standing
      standing = record {
        slot = slot;
        version = version;
        epoch = h.epoch;
        past = h.past;
        start = start;
        events = whole.events;
      }

      epoch : (head (now old).reads slot).epoch ≡ h.epoch
      epoch = ap (λ x. x.epoch) found.is

      stands : Stands size (now old).reads standing
      stands = record {
        large = found.large;
        label = found.label;
        two = found.used.two;
        live = found.used.opened;
        good = found.heads slot found.used.two found.used.opened;
        version = ap (λ x. x.version) found.is ∙ by_head;
        epoch = epoch;
        past = ap (λ x. x.past) found.is;
        other = λ idle sum opened. (
          found.heads idle (omega (arith, sum)) opened,
          subst (λ n. (head (now old).reads idle).epoch < n + idle) epoch (found.used.other idle sum opened),
        );
        image = image;
        journal = subst (λ c. IsJournal c slot 0 whole.events) same whole.journal;
      }

      pub shows : Shows size version h.epoch count desktop (now old).reads
      shows = record {
        standing = standing;
        stands = stands;
        version_is = refl;
        epoch = refl;
        events = whole.long;
        is = sym whole.is;
      }

      pub loaded : {last : Trail} → Touches Nowhere late last → ((n : ℕ) → (now mid).pending n ≡ false)
          → ShowsSettled size last slot version h.epoch count desktop
      loaded {last = last} third quiet = record {
        standing = standing;
        settled = record {
          quiet = λ n. still_settled late last third n (λ none. none)
              (still_settled mid late second n (λ none. none) (quiet n));
          stands = subst (λ c. Stands size c standing) (sym (still_all late last third ∙ same)) stands;
        };
        slot = refl;
        version_is = refl;
        epoch = refl;
        events = whole.long;
        is = sym whole.is;
      }

    -- the first events of its journal were read, by the version of its head, so many if there are
    module _ {version most count : ℕ} {desktop : Desktop} (by_head : h.version ≡ version)
        (up : IsReadUpTo (now late).reads slot version most count start desktop) (few : count ≤ most)
        (law : StandingLaw) (s : Standing) (was : Stands size (now old).reads s) (enough : most ≤ length s.events) where
      pub slot_here : slot ≡ s.slot
      slot_here = one_in_use (now old).reads slot s.slot found.used (stands_in_use (now old).reads s was)

      up_here : IsReadUpTo (now old).reads slot version most count start desktop
      up_here = subst (λ c. IsReadUpTo c slot version most count start desktop) same up

      all : count ≡ most
      all = elim (cases_lt count most) [
        | inl less ↦ absurd (clash
            (journal_leads s.events (now old).reads s.slot 0 count was.journal (omega arith)
            (omega (arith, less, enough)))
            (subst (λ n. is_open ((now old).reads (gate n count)) ≡ false) slot_here (up_here.ended less)))
        | inr ge ↦ omega (arith, ge, few)
      ]

      rest : IsJournal (now old).reads slot count (drop count s.events)
      rest = subst (λ n. IsJournal (now old).reads n count (drop count s.events)) (sym slot_here)
          (journal_rest s.events (now old).reads s.slot 0 count count (omega arith) (omega (arith, all, enough))
          was.journal)

      abbrev read_there : Standing
      read_there = record {
        slot = slot;
        version = version;
        epoch = h.epoch;
        past = h.past;
        start = start;
        events = up_here.read.events ++ drop count s.events;
      }

      epoch_there : (head (now old).reads slot).epoch ≡ h.epoch
      epoch_there = ap (λ x. x.epoch) found.is

      stands_there : Stands size (now old).reads read_there
      stands_there = record {
        large = found.large;
        label = found.label;
        two = found.used.two;
        live = found.used.opened;
        good = found.heads slot found.used.two found.used.opened;
        version = ap (λ x. x.version) found.is ∙ by_head;
        epoch = epoch_there;
        past = ap (λ x. x.past) found.is;
        other = λ idle sum opened. (
          found.heads idle (omega (arith, sum)) opened,
          subst (λ n. (head (now old).reads idle).epoch < n + idle) epoch_there (found.used.other idle sum opened),
        );
        image = image;
        journal = up_here.read.goes_on (drop count s.events) rest;
      }

      one : read_there ≡ s
      one = law size (now old).reads read_there s stands_there was

      first_events : up_here.read.events ≡ take most s.events
      first_events =
          sym (take-append-le most up_here.read.events (drop count s.events) (omega (arith, up_here.read.count, all))
          ∙ take_all most up_here.read.events (omega (arith, up_here.read.count, all)))
          ∙ ap (λ x. take most x.events) one

      pub cut_shown : desktop ≡ desktop_of (cut_to most s)
      cut_shown = up_here.read.is ∙ (λ i. steps_in (one i).version (one i).start (first_events i))

-- a good head has a version that there is
pub known_version : {h : Head} → IsGoodHead h → version_of h.version ≡ None → ⊥
known_version {h = h} good none = elim (cases_eq h.version FIRST_LAYOUT) [
  | inl first ↦ (let is : version_of FIRST_LAYOUT ≡ None = subst (λ n. version_of n ≡ None) first none in absurd cc)
  | inr later ↦ elim (cases_eq h.version LAYOUT) [
    | inl last ↦ (let is : version_of LAYOUT ≡ None = subst (λ n. version_of n ≡ None) last none in absurd cc)
    | inr between ↦ (let second : h.version ≡ 2 = omega (arith, good.first, good.newest, later, between) in
        let is : version_of 2 ≡ None = subst (λ n. version_of n ≡ None) second none in absurd cc)
  ]
]

-- the head that was found names what the desktop of it has in the area, after reads
pub named_after : {old mid late last : Trail} (slot : ℕ) {h : Head} (live : LiveDesktop) → head (now old).reads slot ≡ h
    → Touches Nowhere old mid → Touches Nowhere mid late → Touches Nowhere late last
    → live.area ≡ h.area → (renewed_of live.pages ≡ false → saved_sectors live.pages ≡ full_sectors h.written)
    → IsNamed (now last).reads slot live
named_after {old = old} {mid = mid} {late = late} {last = last} slot {h = h} live is first second third area_is
    counted = record {
      area_is = ap (λ x. x.area) here ∙ sym area_is;
      named = λ not. ap (λ x. full_sectors x.written) here ∙ sym (counted not);
    }
  where
    here : head (now last).reads slot ≡ h
    here = ap (λ c. head c slot) (still_all late last third ∙ still_all mid late second ∙ still_all old mid first) ∙ is
