-- What was read of the slot beside the one in use, and what that one shows without its last events.
use Rattle.std.proofs.Common.{◌≡◌, inl, inr, ℕ, ◌+◌, ◌-◌, ◌<◌, ◌≤◌, List, [], ◌∷◌, ◌++◌, length, take, drop}
use Rattle.std.proofs.Common.{refl, sym, ◌∙◌, ap, subst, arith, true, false}
use Rattle.std.specs.Prelude.{IfErr, IsErrOf, Result, Ok, Err}
use Rattle.store_slots.specs.declared.error.Error.{Error}
use Rattle.store_slots.specs.declared.error.Error.TheVariants.{Damaged}
use Rattle.store_slots.specs.Errors.{OfDesktop, OfReplay}
use Rattle.std.proofs.lemmas.List.{length-drop, length-take-le, take-append-drop, take-append-le, take_all}
use Rattle.sector_disk.specs.Trail.{Content, Trail, now, Touches, Nowhere}
use Rattle.sector_disk.proofs.Touching.{still_all, stays_put}
use Rattle.event_bytes.specs.declared.event.Event.{Event}
use Rattle.desktop_definitions.specs.Desktop.{Desktop}
use Rattle.char_pages.specs.Pages.{saved_sectors, renewed_of}
use Rattle.store_layout.specs.declared.head.Head.{Head}
use Rattle.store_layout.specs.declared.layout.TheConstants.{JOURNAL_EVENTS, LAYOUT, SLOTS}
use Rattle.store_layout.specs.Finding.{IsNoEvent, StandingLaw}
use Rattle.store_layout.specs.Layout.{is_open, slot_gate, head, IsGoodHead}
use Rattle.store_layout.specs.Meaning.{IsJournal, HasImage, MakesDesktop, Standing, and_all, area_bytes}
use Rattle.store_layout.specs.Meaning.{cut_to, desktop_of, full_sectors}
use Rattle.store_layout.specs.Meaning.{left_over, slot_image_bytes}
use Rattle.image_format.specs.Laws.{UniqueLaw}
use Rattle.desktop_definitions.specs.Seen.{seen}
use Rattle.desktop_definitions.specs.Step.{steps_in}
use Rattle.std.proofs.lemmas.Bool.{cases_lt}
use Rattle.store_layout.proofs.StandingLaws.{journal_goes_on, journal_leads}
use Rattle.store_layout.proofs.Bits.{clash}
use Rattle.store_slots.specs.declared.live.LiveDesktop.{LiveDesktop}
use Rattle.store_slots.specs.Beside.{CameBefore, HasEvents, HasFormer, IsCountedBack, IsEarlier, IsLoadedUpTo}
use Rattle.store_slots.specs.Beside.{IsRest, StandsBeside, across}
use Rattle.store_slots.specs.Live.{seen_live}
use Rattle.store_slots.specs.Load.{IsReadUpTo}
use Rattle.store_slots.specs.Written.{IsUpTo}
use Rattle.store_slots.proofs.Loading.{all_read, journal_rest, named_after}
use Rattle.store_slots.proofs.TakingBack.{BeginLaw}

-- why a call stops that isn't stopped by damage
pub only_stops : {V : Type 0} (result : Result V Error) → IfErr result OfReplay
    → ((n : ℕ) → IsErrOf result (Damaged n) → ⊥) → IfErr result OfDesktop
only_stops (Ok value) errors sound = tt
only_stops (Err e) (inl named) sound = named
only_stops (Err e) (inr (n, bad)) sound = absurd (sound n (cc bad))

-- no error of a desktop is damage
pub never_damaged : {V : Type 0} (result : Result V Error) (e found : Error) (n : ℕ) → result ≡ Err e → e ≡ found
    → OfDesktop found → IsErrOf result (Damaged n) → ⊥
never_damaged result e found n is same (inl memory) bad = absurd (cc (is, same, memory, bad))
never_damaged result e found n is same (inr fault) bad = absurd (cc (is, same, fault, bad))

-- how many events were taken back, where that went on in the slot beside the one in use
pub counted_across : {slot number end count events head_number k slot' number' left back : ℕ} → slot < SLOTS → end < count
    → 0 < events → events ≤ JOURNAL_EVENTS → head_number + 1 ≡ number → k ≡ events - (count - end) → slot' ≡ 1 - slot
    → number' ≡ head_number → left ≡ k → back ≡ events - k + end
    → IsCountedBack slot number end count slot' number' left back
counted_across {end = end} {count = count} {events = events} two more some few numbered k_is slot_is number_is left_is
    back_is = record {
      few = omega (arith, k_is, back_is, more);
      as_many = elim (cases_lt (count - end) events) [
        | inl less ↦ inr (omega (arith, less, k_is, back_is, more))
        | inr all ↦ inl (omega (arith, all, k_is, left_is))
      ];
      own = λ room. absurd (omega (arith, room, more));
      other = λ _. inr (
        omega (arith, slot_is, two),
        omega (arith, number_is, numbered),
        omega (arith, k_is, back_is, more, some),
      );
      short = λ _. omega (arith, left_is, k_is, more, some, few);
      two = omega (arith, slot_is, two);
    }

-- ---- one slot

pub loaded_up_to : {old mid last : Trail} {slot version most count : ℕ} {h : Head} {start : Desktop} (live : LiveDesktop)
    → head (now old).reads slot ≡ h → Touches Nowhere old mid → Touches Nowhere mid last
    → HasImage (now old).reads slot start
    → IsReadUpTo (now mid).reads slot version most count start (seen_live (now last).reads live) → count ≤ most
    → live.area ≡ h.area → (renewed_of live.pages ≡ false → saved_sectors live.pages ≡ full_sectors h.written)
    → h.version ≡ version → IsLoadedUpTo (now old).reads slot h.version most count (now last).reads live
loaded_up_to {old = old} {mid = mid} {last = last} {slot = slot} {version = version} {most = most} {count = count}
    {start = start} live is
    loads replays image up few area counted by_head = record {
      start = start;
      image = image;
      read = subst (λ v. IsReadUpTo (now old).reads slot v most count start (seen_live (now last).reads live)) (sym by_head)
          (subst (λ c. IsReadUpTo c slot version most count start (seen_live (now last).reads live))
          (still_all old mid loads) up);
      few = few;
      named = named_after slot live is (stays_put Nowhere old) loads replays area counted;
    }

-- under the open gates of a journal there is no body without an event
pub no_bad_body : (c : Content) (slot k : ℕ) (events : List Event) → IsJournal c slot 0 events → IsNoEvent c slot k → ⊥
no_bad_body c slot k events journal bad =
    let there = journal_goes_on events c slot 0 k journal (omega arith) bad.within bad.led in bad.none there.0 there.1

-- ---- a content has one journal and one start of a slot

pub one_journal : BeginLaw → (events events' : List Event) (c : Content) (slot k : ℕ) → IsJournal c slot k events
    → IsJournal c slot k events' → events ≡ events'
one_journal law [] [] c slot k one two = refl
one_journal law [] (e ∷ events') c slot k one two = absurd (clash two.1 (one two.0))
one_journal law (e ∷ events) [] c slot k one two = absurd (clash one.1 (two one.0))
one_journal law (e ∷ events) (e' ∷ events') c slot k one two =
    ap (λ first. first ∷ events) (law _ e e' one.2 two.2)
    ∙ ap (λ rest. e' ∷ rest) (one_journal law events events' c slot (k + 1) one.3 two.3)

pub one_start : UniqueLaw → (h : Head) (image area : List ℕ) (start start' : Desktop) → MakesDesktop h image area start
    → MakesDesktop h image area start' → start ≡ start'
one_start law h image area start start' one two =
    sym one.is
    ∙ ap (seen (area ++ take (left_over h.written) image))
    (law h.version h.written (drop (left_over h.written) image) one.kept two.kept one.spells two.spells)
    ∙ two.is

-- ---- the slot beside the one in use

pub former_found : (c c1 c2 c3 : Content) (slot number : ℕ) {before h : Head} {count : ℕ} (live : LiveDesktop)
    → c1 ≡ c → c2 ≡ c → c3 ≡ c → slot < SLOTS
    → (is_open (c (slot_gate (1 - slot))) ≡ true) × (head c (1 - slot) ≡ before) → IsGoodHead before
    → (before.epoch + 1 ≡ number) × (before.version ≡ LAYOUT)
    → (is_open (c1 (slot_gate slot)) ≡ true) × (head c1 slot ≡ h)
    → (head c2 (1 - slot) ≡ before → IsLoadedUpTo c2 (1 - slot) before.version JOURNAL_EVENTS count c3 live)
    → (head c3 slot ≡ h → HasImage c3 slot (seen_live c3 live)) → h.version ≡ LAYOUT
    → HasFormer c slot number before count
former_found c c1 c2 c3 slot number {before = before} {h = h} {count = count} live e1 e2 e3 two opened good numbered at
    loads starts newest =
    let l = subst (λ x. head x (1 - slot) ≡ before → IsLoadedUpTo x (1 - slot) before.version JOURNAL_EVENTS count c3 live)
    e2 loads opened.1 in
    let whole = all_read c (1 - slot) before.version count l.start (seen_live c3 live) l.read.read l.read.ended in
    let here : head c slot ≡ h = subst (λ x. head x slot ≡ h) e1 at.1 in
    let begun = subst (λ x. head x slot ≡ h → HasImage x slot (seen_live c3 live)) e3 starts here in
    record {
      former = record {
        slot = 1 - slot;
        version = before.version;
        epoch = before.epoch;
        past = before.past;
        start = l.start;
        events = whole.events;
      };
      beside = record {
        two = omega (arith, two);
        live = opened.0;
        good = subst IsGoodHead (sym opened.1) good;
        version = ap (λ x. x.version) opened.1;
        epoch = ap (λ x. x.epoch) opened.1;
        past = ap (λ x. x.past) opened.1;
        image = l.image;
        journal = whole.journal;
      };
      epoch = numbered.0;
      version_is = numbered.1;
      newest = ap (λ x. x.version) here ∙ newest;
      head_is = opened.1;
      long = whole.long;
      starts = subst (HasImage c slot) whole.is begun;
    }

module _ {size : ℕ} {disk : Trail} {slot end : ℕ} {s : Standing} (at : IsUpTo size disk slot end s) {h : Head} {count : ℕ}
    (law : StandingLaw) (has : HasFormer (now disk).reads slot s.epoch h count) where
  abbrev t : Standing
  t = has.former

  -- it starts from the desktop to which the other one leads
  start_is : s.start ≡ desktop_of t
  start_is = ap (λ x. x.start) (law size (now disk).reads s (record s { start = desktop_of t }) at.settled.stands
      (let w = at.settled.stands in record {
        large = w.large;
        label = w.label;
        two = w.two;
        live = w.live;
        good = w.good;
        version = w.version;
        epoch = w.epoch;
        past = w.past;
        other = w.other;
        image = subst (λ n. HasImage (now disk).reads n (desktop_of t)) (sym at.slot_is) has.starts;
        journal = w.journal;
      }))

  pub came_before : CameBefore (now disk).reads s t
  came_before = record {
    beside = subst (λ n. StandsBeside (now disk).reads n t) (sym at.slot_is) has.beside;
    epoch = has.epoch;
    version = has.version_is
        ∙ sym (ap (λ n. (head (now disk).reads n).version) at.slot_is ∙ has.newest)
        ∙ at.settled.stands.version;
    goes_on = start_is;
  }

  t_slot : t.slot ≡ 1 - slot
  t_slot = omega (arith, has.beside.two)

  pub former_events : HasEvents (now disk).reads (1 - slot) count t.events
  former_events = record {
    journal = subst (λ n. IsJournal (now disk).reads n 0 t.events) t_slot has.beside.journal;
    long = has.long;
  }

  pub former_image : HasImage (now disk).reads (1 - slot) t.start
  former_image = subst (λ n. HasImage (now disk).reads n t.start) t_slot has.beside.image

  version_of_head : h.version ≡ t.version
  version_of_head = sym (ap (λ x. x.version) has.head_is) ∙ ap (λ n. (head (now disk).reads n).version) (sym t_slot)
      ∙ has.beside.version

  epoch_of_head : t.epoch ≡ h.epoch
  epoch_of_head = sym has.beside.epoch ∙ ap (λ n. (head (now disk).reads n).epoch) t_slot ∙ ap (λ x. x.epoch) has.head_is

  -- its first events were read, and then the others and those of the slot in use
  module _ {k n : ℕ} (begins : BeginLaw) (unique : UniqueLaw) (low : k < count) (live : LiveDesktop)
      (loaded : IsLoadedUpTo (now disk).reads (1 - slot) h.version k n (now disk).reads live) where
    abbrev c : Content
    c = (now disk).reads

    journal : IsJournal c (1 - slot) 0 t.events
    journal = former_events.journal

    enough : k < length t.events
    enough = omega (arith, low, has.long)

    n_is : n ≡ k
    n_is = elim (cases_lt n k) [
      | inl less ↦ absurd (clash (journal_leads t.events c (1 - slot) 0 n journal (omega arith)
          (omega (arith, less, enough))) (loaded.read.ended less))
      | inr ge ↦ omega (arith, ge, loaded.few)
    ]

    abbrev read : List Event
    read = loaded.read.read.events

    whole : read ++ drop k t.events ≡ t.events
    whole = one_journal begins (read ++ drop k t.events) t.events c (1 - slot) 0
        (loaded.read.read.goes_on (drop k t.events)
        (subst (λ m. IsJournal c (1 - slot) m (drop k t.events)) (sym n_is)
        (journal_rest t.events c (1 - slot) 0 k k (omega arith) (omega (arith, enough)) journal))) journal

    first : read ≡ take k t.events
    first = sym (take-append-le k read (drop k t.events) (omega (arith, loaded.read.read.count, n_is))
        ∙ take_all k read (omega (arith, loaded.read.read.count, n_is)))
        ∙ ap (take k) whole

    begun : loaded.start ≡ t.start
    begun = one_start unique (head c (1 - slot)) (slot_image_bytes c (1 - slot))
        (area_bytes c (head c (1 - slot)).area (full_sectors (head c (1 - slot)).written)) loaded.start t.start
        loaded.image former_image

    shown : seen_live c live ≡ desktop_of (cut_to k t)
    shown = loaded.read.read.is ∙ (λ i. steps_in (version_of_head i) (begun i) (first i))

    parted : (events : List Event) → drop k t.events ≡ events → t ≡ and_all (cut_to k t) events
    parted events is = λ i. record {
      slot = t.slot;
      version = t.version;
      epoch = t.epoch;
      past = t.past;
      start = t.start;
      events = (sym (take-append-drop k t.events) ∙ ap (λ l. take k t.events ++ l) is) i;
    }

    left_over_events : (more all : List Event) → drop k t.events ≡ more → more ++ s.events ≡ all
        → IsRest c all s (cut_to k t)
    left_over_events [] all is others = absurd (omega (arith, ap length is, length-drop k t.events, enough))
    left_over_events (event ∷ more) all is others = across t event more came_before (parted (event ∷ more) is) (sym others)

    pub earlier_there : {all : List Event} → drop k t.events ++ s.events ≡ all
        → IsEarlier c (1 - slot) h.epoch k s live all
    earlier_there {all = all} others = record {
      rest = cut_to k t;
      is_rest = left_over_events (drop k t.events) all refl others;
      slot_is = t_slot;
      version_is = came_before.version;
      epoch_is = epoch_of_head;
      long = length-take-le k t.events (omega (arith, enough));
      shown = shown;
      named = loaded.named;
    }
