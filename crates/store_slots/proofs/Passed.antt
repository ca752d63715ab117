-- Nothing came before the slot in use: why none of the places at which that is said passes over events that did.
use Rattle.std.proofs.Common.{◌≡◌, ℕ, ◌+◌, ◌-◌, ◌<◌, Bool, List, [], ◌∷◌, length, true, false, Decides}
use Rattle.std.proofs.Common.{refl, sym, ◌∙◌, ap, subst, arith}
use Rattle.sector_disk.specs.Trail.{Content, Trail, now}
use Rattle.event_bytes.specs.declared.event.Event.{Event}
use Rattle.desktop_definitions.specs.Desktop.{Desktop}
use Rattle.desktop_definitions.specs.Step.{steps_in}
use Rattle.image_format.specs.Laws.{UniqueLaw}
use Rattle.store_layout.specs.declared.head.Head.{Head}
use Rattle.store_layout.specs.declared.layout.TheConstants.{JOURNAL_EVENTS, LAYOUT}
use Rattle.store_layout.specs.Layout.{is_open, slot_gate, head, IsGoodHead}
use Rattle.store_layout.specs.Meaning.{IsJournal, HasImage, Standing, area_bytes, desktop_of, full_sectors, slot_image_bytes}
use Rattle.store_layout.proofs.Bits.{clash}
use Rattle.store_layout.proofs.StandingLaws.{journal_leads}
use Rattle.store_slots.specs.declared.live.LiveDesktop.{LiveDesktop}
use Rattle.store_slots.specs.Beside.{CameBefore, HasFormer, IsLoadedUpTo, IsOpenSlot, NoFormer, NothingBefore, StandsBeside}
use Rattle.store_slots.specs.Live.{seen_live}
use Rattle.store_slots.specs.Written.{IsUpTo}
use Rattle.store_slots.proofs.Formers.{one_journal, one_start}
use Rattle.store_slots.proofs.Loading.{all_read}
use Rattle.store_slots.proofs.TakingBack.{BeginLaw}

module _ {c : Content} {slot number count : ℕ} {h : Head} (has : HasFormer c slot number h count) where
  abbrev t : Standing
  t = has.former

  t_slot : t.slot ≡ 1 - slot
  t_slot = omega (arith, has.beside.two)

  -- ---- the head of the slot beside

  pub not_closed : is_open (c (slot_gate (1 - slot))) ≡ false → ⊥
  not_closed off = clash (subst (λ n. is_open (c (slot_gate n)) ≡ true) t_slot has.beside.live) off

  pub not_bad : (IsGoodHead (head c (1 - slot)) → ⊥) → ⊥
  not_bad bad = bad (subst (λ n. IsGoodHead (head c n)) t_slot has.beside.good)

  pub epoch_there : {before : Head} → head c (1 - slot) ≡ before → before.epoch + 1 ≡ number
  epoch_there is = ap (λ x. x + 1) (sym (ap (λ x. x.epoch) is) ∙ ap (λ n. (head c n).epoch) (sym t_slot) ∙ has.beside.epoch)
      ∙ has.epoch

  pub version_there : {before : Head} → head c (1 - slot) ≡ before → before.version ≡ LAYOUT
  version_there is = sym (ap (λ x. x.version) is) ∙ ap (λ n. (head c n).version) (sym t_slot) ∙ has.beside.version
      ∙ has.version_is

  -- ---- what it leads to

  pub image_there : HasImage c (1 - slot) t.start
  image_there = subst (λ n. HasImage c n t.start) t_slot has.beside.image

  pub journal_there : IsJournal c (1 - slot) 0 t.events
  journal_there = subst (λ n. IsJournal c n 0 t.events) t_slot has.beside.journal

  -- its journal has events
  pub has_events : {version n : ℕ} {c' : Content} {live : LiveDesktop} → 0 < count
      → IsLoadedUpTo c (1 - slot) version JOURNAL_EVENTS n c' live → n ≡ 0 → ⊥
  has_events {n = n} some loaded none =
      let opened = journal_leads t.events c (1 - slot) 0 n journal_there (omega arith)
      (omega (arith, has.long, some, none)) in
      clash opened (loaded.read.ended (omega (arith, none)))

  -- what was loaded of it is the desktop from which the slot starts
  pub leads_there : {version n : ℕ} {c' : Content} {live : LiveDesktop} → BeginLaw → UniqueLaw → version ≡ LAYOUT
      → IsLoadedUpTo c (1 - slot) version JOURNAL_EVENTS n c' live → HasImage c slot (seen_live c' live)
  leads_there {version = version} {n = n} {c' = c'} {live = live} begins unique newest loaded =
      let whole = all_read c (1 - slot) version n loaded.start (seen_live c' live) loaded.read.read loaded.read.ended in
      let events : whole.events ≡ t.events = one_journal begins whole.events t.events c (1 - slot) 0 whole.journal
      journal_there in
      let start : loaded.start ≡ t.start = one_start unique (head c (1 - slot)) (slot_image_bytes c (1 - slot))
      (area_bytes c (head c (1 - slot)).area (full_sectors (head c (1 - slot)).written)) loaded.start t.start
      loaded.image image_there in
      let by : version ≡ t.version = newest ∙ sym has.version_is in
      let same : seen_live c' live ≡ desktop_of t = whole.is ∙ (λ i. steps_in (by i) (start i) (events i)) in
      subst (HasImage c slot) (sym same) has.starts

-- ---- by what the disk shows

module _ {size : ℕ} {disk : Trail} {slot end : ℕ} {s : Standing} (at : IsUpTo size disk slot end s) where
  abbrev c : Content
  c = (now disk).reads

  pub open_slot : IsOpenSlot c slot
  open_slot = record {
    live = subst (λ n. is_open (c (slot_gate n)) ≡ true) at.slot_is at.settled.stands.live;
    good = subst (λ n. IsGoodHead (head c n)) at.slot_is at.settled.stands.good;
  }

  former_of : (t : Standing) → CameBefore c s t → t.version ≡ LAYOUT
      → HasFormer c slot s.epoch (head c (1 - slot)) (length t.events)
  former_of t came newest = record {
    former = t;
    beside = subst (λ n. StandsBeside c n t) at.slot_is came.beside;
    epoch = came.epoch;
    version_is = newest;
    newest = ap (λ n. (head c n).version) (sym at.slot_is) ∙ at.settled.stands.version ∙ sym came.version ∙ newest;
    head_is = refl;
    long = refl;
    starts = subst (λ n. HasImage c n (desktop_of t)) at.slot_is
        (subst (HasImage c s.slot) came.goes_on at.settled.stands.image);
  }

  no_events : (events : List Event) → (0 < length events → ⊥) → events ≡ []
  no_events [] none = refl
  no_events (e ∷ events) none = absurd (none (omega arith))

  pub nothing_before : {number : ℕ} → s.epoch ≡ number → NoFormer c slot number → NothingBefore c s
  nothing_before {number = number} epoch none t came newest = no_events t.events (λ some.
      none open_slot (head c (1 - slot)) (length t.events) some
      (subst (λ n. HasFormer c slot n (head c (1 - slot)) (length t.events)) epoch (former_of t came newest)))

-- ---- where nothing is found

module _ {c : Content} {slot number : ℕ} where
  -- the slot in use is closed
  pub closed_here : (c1 : Content) → c1 ≡ c → is_open (c1 (slot_gate slot)) ≡ false → NoFormer c slot number
  closed_here c1 same off opened h count some has =
      clash opened.live (subst (λ x. is_open (x (slot_gate slot)) ≡ false) same off)

  -- or its head is bad
  pub bad_here : (c1 : Content) → c1 ≡ c → (IsGoodHead (head c1 slot) → ⊥) → NoFormer c slot number
  bad_here c1 same bad opened h count some has = bad (subst (λ x. IsGoodHead (head x slot)) (sym same) opened.good)

  -- the slot beside it is closed
  pub closed_there : is_open (c (slot_gate (1 - slot))) ≡ false → NoFormer c slot number
  closed_there off opened h count some has = not_closed has off

  -- or its head is bad, or of another version or epoch
  pub bad_there : (IsGoodHead (head c (1 - slot)) → ⊥) → NoFormer c slot number
  bad_there bad opened h count some has = not_bad has bad

  pub another_there : {before : Head} → head c (1 - slot) ≡ before → (before.version ≡ LAYOUT → before.epoch + 1 ≡ number → ⊥)
      → NoFormer c slot number
  another_there is other opened h count some has = other (version_there has is) (epoch_there has is)

  -- it can't be loaded
  pub not_loaded : {before : Head} (c2 : Content) → c2 ≡ c → head c (1 - slot) ≡ before
      → (head c2 (1 - slot) ≡ before → (start : Desktop) (events : List Event) → HasImage c2 (1 - slot) start
      → IsJournal c2 (1 - slot) 0 events → ⊥) → NoFormer c slot number
  not_loaded {before = before} c2 same is bad opened h count some has =
      subst (λ x. head x (1 - slot) ≡ before → (start : Desktop) (events : List Event) → HasImage x (1 - slot) start
      → IsJournal x (1 - slot) 0 events → ⊥) same bad is has.former.start has.former.events (image_there has)
      (journal_there has)

  -- it has no events
  pub none_there : {before : Head} {n : ℕ} {live : LiveDesktop} (c2 c3 : Content) → c2 ≡ c → head c (1 - slot) ≡ before
      → (head c2 (1 - slot) ≡ before → IsLoadedUpTo c2 (1 - slot) before.version JOURNAL_EVENTS n c3 live) → n ≡ 0
      → NoFormer c slot number
  none_there {before = before} {n = n} {live = live} c2 c3 same is loads none opened h count some has =
      has_events has some (subst (λ x. head x (1 - slot) ≡ before
      → IsLoadedUpTo x (1 - slot) before.version JOURNAL_EVENTS n c3 live) same loads is) none

  -- what the slot in use starts from can't be loaded
  pub not_begun : {h : Head} (c1 c3 : Content) → c1 ≡ c → c3 ≡ c → head c1 slot ≡ h
      → (head c3 slot ≡ h → (start : Desktop) → HasImage c3 slot start → ⊥) → NoFormer c slot number
  not_begun {h = h} c1 c3 first third is bad opened h' count some has =
      subst (λ x. head x slot ≡ h → (start : Desktop) → HasImage x slot start → ⊥) third bad
      (subst (λ x. head x slot ≡ h) first is) (desktop_of has.former) has.starts

  -- or is another desktop
  pub not_there : {before h : Head} {n : ℕ} {live : LiveDesktop} {b : Bool} (c1 c2 c3 : Content) → BeginLaw → UniqueLaw
      → c1 ≡ c → c2 ≡ c → c3 ≡ c → head c (1 - slot) ≡ before → before.version ≡ LAYOUT
      → (head c2 (1 - slot) ≡ before → IsLoadedUpTo c2 (1 - slot) before.version JOURNAL_EVENTS n c3 live)
      → head c1 slot ≡ h
      → (h.version ≡ LAYOUT → head c3 slot ≡ h → Decides b (HasImage c3 slot (seen_live c3 live))) → b ≡ false
      → NoFormer c slot number
  not_there {before = before} {h = h} {n = n} {live = live} {b = b} c1 c2 c3 begins unique first second third is newest loads
      here same differs opened h' count some has =
      let loaded = subst (λ x. head x (1 - slot) ≡ before
      → IsLoadedUpTo x (1 - slot) before.version JOURNAL_EVENTS n c3 live) second loads is in
      let image : HasImage c slot (seen_live c3 live) = leads_there has begins unique newest loaded in
      let there : head c slot ≡ h = subst (λ x. head x slot ≡ h) first here in
      let d = subst (λ x. h.version ≡ LAYOUT → head x slot ≡ h → Decides b (HasImage x slot (seen_live c3 live))) third same
      (sym (ap (λ x. x.version) there) ∙ has.newest) there in
      clash (d.1 image) differs
