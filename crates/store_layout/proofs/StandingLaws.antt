-- Which contents show what another one shows: a standing rests on few sectors, and a checkpoint writes none of them.
use Rattle.std.proofs.Common.{◌≡◌, ◌≢◌, inl, inr, ℕ, ◌+◌, ◌*◌, ◌<◌, ◌≤◌, List, [], ◌∷◌, length, true, false}
use Rattle.std.proofs.Common.{refl, sym, ◌∙◌, ap, subst, arith}
use Rattle.std.proofs.lemmas.Bool.{cases_lt, cases_eq}
use Rattle.sector_disk.specs.Trail.{Content}
use Rattle.sector_disk.specs.Stored.{stored}
use Rattle.sector_disk.proofs.StoredLaws.{stored_same}
use Rattle.event_bytes.specs.declared.event.Event.{Event}
use Rattle.event_bytes.specs.Spelling.{BeginsWithEvent}
use Rattle.desktop_definitions.specs.Desktop.{Desktop}
use Rattle.desktop_definitions.specs.Limits.{most_written}
use Rattle.sector_disk.specs.declared.disk.TheConstants.{SECTOR_BYTES}
use Rattle.store_layout.specs.declared.head.Head.{Head}
use Rattle.store_layout.specs.declared.head.PastEnd.{PastEnd}
use Rattle.store_layout.specs.declared.layout.TheConstants.{JOURNAL_EVENTS, LABEL, SLOTS}
use Rattle.store_layout.proofs.Bits.{true_or_false, clash}
use Rattle.store_layout.specs.Layout.{is_label, is_open, slot_gate, slot_head, gate, body, image_at, area_start}
use Rattle.store_layout.specs.Layout.{area_at}
use Rattle.store_layout.specs.Layout.{head, head_of, IsGoodHead}
use Rattle.store_layout.specs.Meaning.{IsJournal, Standing, desktop_of, Stands, Means, MakesDesktop, HasImage, IsOlder}
use Rattle.store_layout.specs.Meaning.{full_sectors}
use Rattle.store_layout.specs.Footprint.{IsLedTo, IsInUse}
use Rattle.store_layout.specs.Kept.{IsNewSlot, IsFront, HasFront, SparesArea, InSlot, InArea, InCheckpoint}

-- a sector that the standing doesn't rest on
pub record IsApart (c : Content) (s : Standing) (n : ℕ) : Type 0 where
  pub label : n ≢ LABEL
  pub gates : (slot : ℕ) → slot < SLOTS → n ≢ slot_gate slot
  pub heads : (slot : ℕ) → slot < SLOTS → is_open (c (slot_gate slot)) ≡ true → n ≢ slot_head slot
  pub image : (k : ℕ) → SECTOR_BYTES * k < (head c s.slot).extent → n ≢ image_at s.slot + k
  pub area : (k : ℕ) → k < full_sectors (head c s.slot).written → n ≢ area_at (head c s.slot).area k
  pub journal : (k : ℕ) → k ≤ length s.events → k < JOURNAL_EVENTS → n ≢ gate s.slot k
  pub bodies : (k : ℕ) → k < length s.events → n ≢ body s.slot k

-- ---- the parts of a slot

-- an image rests on its head, its sectors, and those of the characters that its head names
pub image_stays : (c c' : Content) (slot : ℕ) (start : Desktop) → c' (slot_head slot) ≡ c (slot_head slot)
    → ((k : ℕ) → SECTOR_BYTES * k < (head c slot).extent → c' (image_at slot + k) ≡ c (image_at slot + k))
    → ((k : ℕ) → k < full_sectors (head c slot).written
    → c' (area_at (head c slot).area k) ≡ c (area_at (head c slot).area k))
    → HasImage c slot start → HasImage c' slot start
image_stays c c' slot start same_head same same_area was =
    subst (λ x. MakesDesktop x (stored c' (image_at slot) x.extent) (area x) start) (sym (ap head_of same_head))
    (subst (λ l. MakesDesktop h l (area h) start) (sym (stored_same c c' (image_at slot) h.extent same))
    (subst (λ l. MakesDesktop h (stored c (image_at slot) h.extent) l start)
    (sym (stored_same c c' (area_start h.area) (SECTOR_BYTES * full_sectors h.written)
    (λ k low. same_area k (omega (arith, low)))))
    was))
  where
    h : Head
    h = head c slot

    area : Head → List ℕ
    area x = stored c' (area_start x.area) (SECTOR_BYTES * full_sectors x.written)

-- so do the characters in an area
pub has_front_stays : (c c' : Content) (area saved : ℕ) (characters : List ℕ)
    → ((k : ℕ) → k < saved → c' (area_at area k) ≡ c (area_at area k))
    → HasFront c area saved characters → HasFront c' area saved characters
has_front_stays c c' area saved characters same was =
    stored_same c c' (area_start area) (SECTOR_BYTES * saved) (λ k low. same k (omega (arith, low))) ∙ was

pub front_stays : (c c' : Content) (live area saved : ℕ) (characters : List ℕ)
    → c' (slot_head live) ≡ c (slot_head live) → ((k : ℕ) → k < saved → c' (area_at area k) ≡ c (area_at area k))
    → IsFront c live area saved characters → IsFront c' live area saved characters
front_stays c c' live area saved characters same_head same was = record {
  area_is = ap (λ b. (head_of b).area) same_head ∙ was.area_is;
  named = ap (λ b. full_sectors (head_of b).written) same_head ∙ was.named;
  same = has_front_stays c c' area saved characters same was.same;
}

-- a journal rests on its gates up to the first closed one and the bodies before it
pub journal_stays : (events : List Event) (c c' : Content) (slot k end : ℕ) → end ≡ k + length events
    → ((i : ℕ) → k ≤ i → i ≤ end → i < JOURNAL_EVENTS → c' (gate slot i) ≡ c (gate slot i))
    → ((i : ℕ) → k ≤ i → i < end → c' (body slot i) ≡ c (body slot i))
    → IsJournal c slot k events → IsJournal c' slot k events
journal_stays [] c c' slot k end is gates bodies journal =
    λ room. ap is_open (gates k (omega arith) (omega arith) room) ∙ journal room
journal_stays (event ∷ events) c c' slot k end is gates bodies journal = (
  journal.0,
  ap is_open (gates k (omega arith) (omega arith) journal.0) ∙ journal.1,
  subst (λ bytes. BeginsWithEvent bytes event) (sym (bodies k (omega arith) (omega arith))) journal.2,
  journal_stays events c c' slot (k + 1) end (omega arith) (λ i low high room. gates i (omega arith) high room)
      (λ i low high. bodies i (omega arith) high) journal.3,
)

-- a journal has no more events than there is room for
pub journal_short : (events : List Event) (c : Content) (slot k : ℕ) → k ≤ JOURNAL_EVENTS → IsJournal c slot k events
    → k + length events ≤ JOURNAL_EVENTS
journal_short [] c slot k low journal = omega arith
journal_short (event ∷ events) c slot k low journal =
    (let rest = journal_short events c slot (k + 1) (omega (arith, journal.0)) journal.3 in omega (arith, rest))

-- each gate before the end of a journal is open
pub journal_leads : (events : List Event) (c : Content) (slot k j : ℕ) → IsJournal c slot k events → k ≤ j
    → j < k + length events → is_open (c (gate slot j)) ≡ true
journal_leads [] c slot k j journal low high = absurd (omega (arith, low, high))
journal_leads (event ∷ events) c slot k j journal low high = elim (cases_lt k j) [
  | inl later ↦ journal_leads events c slot (k + 1) j journal.3 (omega (arith, later)) (omega (arith, high))
  | inr here ↦ (let same : k ≡ j = omega (arith, low, here) in
      subst (λ n. is_open (c (gate slot n)) ≡ true) same journal.1)
]

-- where open gates lead on there is an event under the last of them
pub journal_goes_on : (events : List Event) (c : Content) (slot k j : ℕ) → IsJournal c slot k events → k ≤ j
    → j < JOURNAL_EVENTS → IsLedTo c slot (j + 1) → (event : Event) × BeginsWithEvent (c (body slot j)) event
journal_goes_on [] c slot k j journal low room led =
    absurd (clash (led k (omega (arith, low))) (journal (omega (arith, low, room))))
journal_goes_on (event ∷ events) c slot k j journal low room led = elim (cases_lt k j) [
  | inl later ↦ journal_goes_on events c slot (k + 1) j journal.3 (omega (arith, later)) room led
  | inr here ↦ (let same : k ≡ j = omega (arith, low, here) in
      (event, subst (λ n. BeginsWithEvent (c (body slot n)) event) same journal.2))
]

-- ---- which slot is in use

-- one slot at most is in use
pub one_in_use : (c : Content) (slot slot' : ℕ) → IsInUse c slot → IsInUse c slot' → slot ≡ slot'
one_in_use c slot slot' one two = elim (cases_lt slot slot') [
  | inl less ↦ absurd (differ (omega (arith, less, two.two)))
  | inr ge ↦ elim (cases_lt slot' slot) [
    | inl less ↦ absurd (differ (omega (arith, less, one.two)))
    | inr le ↦ omega (arith, ge, le)
  ]
]
  where
    differ : slot + slot' ≡ 1 → ⊥
    differ sum = omega (arith, one.other slot' sum two.opened, two.other slot (omega (arith, sum)) one.opened, sum)

-- the slot of a standing is in use
pub stands_in_use : {size : ℕ} (c : Content) (s : Standing) → Stands size c s → IsInUse c s.slot
stands_in_use c s was = record {
  two = was.two;
  opened = was.live;
  other = λ idle two opened. omega (arith, (was.other idle two opened).1, was.epoch);
}

-- each head under an open gate is good
pub stands_heads : {size : ℕ} (c : Content) (s : Standing) → Stands size c s → (slot : ℕ) → slot < SLOTS
    → is_open (c (slot_gate slot)) ≡ true → IsGoodHead (head c slot)
stands_heads c s was slot low opened = elim (cases_eq slot s.slot) [
  | inl here ↦ subst (λ n. IsGoodHead (head c n)) (sym here) was.good
  | inr other ↦ (was.other slot (omega (arith, low, was.two, other)) opened).0
]

-- ---- a whole standing

-- It goes on, with other events, where the label, the head of its slot, its image and its characters stay, its gate
-- stays open, and the other slot is older, if it is open.
pub carried_on : {size : ℕ} (c c' : Content) (s : Standing) (events : List Event) → Stands size c s
    → c' LABEL ≡ c LABEL → is_open (c' (slot_gate s.slot)) ≡ true → c' (slot_head s.slot) ≡ c (slot_head s.slot)
    → ((idle : ℕ) → s.slot + idle ≡ 1 → is_open (c' (slot_gate idle)) ≡ true → IsOlder c' s.epoch idle)
    → ((k : ℕ) → SECTOR_BYTES * k < (head c s.slot).extent → c' (image_at s.slot + k) ≡ c (image_at s.slot + k))
    → ((k : ℕ) → k < full_sectors (head c s.slot).written
    → c' (area_at (head c s.slot).area k) ≡ c (area_at (head c s.slot).area k))
    → IsJournal c' s.slot 0 events
    → Stands size c' (record {
      slot = s.slot;
      version = s.version;
      epoch = s.epoch;
      past = s.past;
      start = s.start;
      events = events;
    })
carried_on c c' s events was label live same_head other image area journal = record {
  large = was.large;
  label = ap is_label label ∙ was.label;
  two = was.two;
  live = live;
  good = subst (λ b. IsGoodHead (head_of b)) (sym same_head) was.good;
  version = ap (λ b. (head_of b).version) same_head ∙ was.version;
  epoch = ap (λ b. (head_of b).epoch) same_head ∙ was.epoch;
  past = ap (λ b. (head_of b).past) same_head ∙ was.past;
  other = other;
  image = image_stays c c' s.slot s.start same_head image area was.image;
  journal = journal;
}

pub standing_carried : {size : ℕ} (c c' : Content) (s : Standing) → Stands size c s
    → c' LABEL ≡ c LABEL → is_open (c' (slot_gate s.slot)) ≡ true → c' (slot_head s.slot) ≡ c (slot_head s.slot)
    → ((idle : ℕ) → s.slot + idle ≡ 1 → is_open (c' (slot_gate idle)) ≡ true → IsOlder c' s.epoch idle)
    → ((k : ℕ) → SECTOR_BYTES * k < (head c s.slot).extent → c' (image_at s.slot + k) ≡ c (image_at s.slot + k))
    → ((k : ℕ) → k < full_sectors (head c s.slot).written
    → c' (area_at (head c s.slot).area k) ≡ c (area_at (head c s.slot).area k))
    → IsJournal c' s.slot 0 s.events → Stands size c' s
standing_carried c c' s was label live same_head other image area journal =
    carried_on c c' s s.events was label live same_head other image area journal

-- the other slot stays older where its head stays
pub older_stays : (c c' : Content) (epoch idle : ℕ) → c' (slot_head idle) ≡ c (slot_head idle) → IsOlder c epoch idle
    → IsOlder c' epoch idle
older_stays c c' epoch idle same was =
    subst (λ b. IsGoodHead (head_of b) × ((head_of b).epoch < epoch + idle)) (sym same) was

-- What another content shows that is the same in all sectors but those that the standing doesn't rest on.
pub footprint : {size : ℕ} (c c' : Content) (s : Standing) → Stands size c s
    → ((n : ℕ) → ¬ IsApart c s n → c' n ≡ c n) → Stands size c' s
footprint c c' s was same = standing_carried c c' s was
    (same LABEL (λ out. out.label refl))
    (ap is_open (same (slot_gate s.slot) (λ out. out.gates s.slot was.two refl)) ∙ was.live)
    (same (slot_head s.slot) (λ out. out.heads s.slot was.two was.live refl))
    (λ idle two opened.
    let below : idle < SLOTS = omega arith in
    let opened_before = sym (ap is_open (same (slot_gate idle) (λ out. out.gates idle below refl))) ∙ opened in
    older_stays c c' s.epoch idle (same (slot_head idle) (λ out. out.heads idle below opened_before refl))
    (was.other idle two opened_before))
    (λ k within. same (image_at s.slot + k) (λ out. out.image k within refl))
    (λ k within. same (area_at (head c s.slot).area k) (λ out. out.area k within refl))
    (journal_stays s.events c c' s.slot 0 (length s.events) (omega arith)
    (λ i low high room. same (gate s.slot i) (λ out. out.journal i high room refl))
    (λ i low high. same (body s.slot i) (λ out. out.bodies i high refl))
    was.journal)

-- ---- a checkpoint, into the other slot

-- The gate of the other slot may be open, closed or torn, where the other slot is older.
pub other_gate : {size : ℕ} (c c' : Content) (s : Standing) (idle : ℕ) → s.slot + idle ≡ 1 → Stands size c s
    → IsOlder c s.epoch idle → ((n : ℕ) → n ≢ slot_gate idle → c' n ≡ c n) → Stands size c' s
other_gate c c' s idle two was older same = standing_carried c c' s was
    (same LABEL (omega arith))
    (ap is_open (same (slot_gate s.slot) (omega arith)) ∙ was.live)
    (same (slot_head s.slot) (omega arith))
    (λ i is opened.
    let here : i ≡ idle = omega arith in
    subst (IsOlder c' s.epoch) (sym here) (older_stays c c' s.epoch idle (same (slot_head idle) (omega arith)) older))
    (λ k within. same (image_at s.slot + k) (omega arith))
    (λ k within. same (area_at (head c s.slot).area k) (omega arith))
    (journal_stays s.events c c' s.slot 0 (length s.events) (omega arith)
    (λ i low high room. same (gate s.slot i) (omega arith))
    (λ i low high. same (body s.slot i) (omega arith))
    was.journal)

-- What is filled behind the closed gate of the other slot is apart.
pub apart : {size : ℕ} (c : Content) (s : Standing) (idle : ℕ) → s.slot + idle ≡ 1 → Stands size c s
    → is_open (c (slot_gate idle)) ≡ false → (n : ℕ) → InSlot idle n → IsApart c s n
apart c s idle two was closed n within = record {
  label = λ is. elim within [
    | inl a ↦ omega (arith, a, is)
    | inr (inl a) ↦ omega (arith, a, is)
    | inr (inr a) ↦ omega (arith, a.0, is)
  ];
  gates = λ slot low is. elim within [
    | inl a ↦ omega (arith, a, is, low)
    | inr (inl a) ↦ omega (arith, a, is, low)
    | inr (inr a) ↦ omega (arith, a.0, is, low)
  ];
  heads = λ slot low opened is. elim within [
    | inl a ↦ (let here : slot ≡ idle = omega (arith, a, is) in
        absurd (clash (subst (λ j. is_open (c (slot_gate j)) ≡ true) here opened) closed))
    | inr (inl a) ↦ omega (arith, a, is, low)
    | inr (inr a) ↦ omega (arith, a.0, is, low)
  ];
  image = λ k room is. elim within [
    | inl a ↦ omega (arith, a, is, two)
    | inr (inl a) ↦ omega (arith, a, is, two)
    | inr (inr a) ↦ omega (arith, a.0, a.1, is, two, room, was.good.extent)
  ];
  area = λ k room is. elim within [
    | inl a ↦ omega (arith, a, is, two)
    | inr (inl a) ↦ omega (arith, a, is, two)
    | inr (inr a) ↦ omega (arith, a.1, is, two)
  ];
  journal = λ k high room is. elim within [
    | inl a ↦ omega (arith, a, is, two, room)
    | inr (inl a) ↦ omega (arith, a, is, two, room)
    | inr (inr a) ↦ omega (arith, a.0, is, two, room)
  ];
  bodies = λ k high is. elim within [
    | inl a ↦ omega (arith, a, is, two)
    | inr (inl a) ↦ omega (arith, a, is, two)
    | inr (inr a) ↦ (let room = journal_short s.events c s.slot 0 (omega arith) was.journal in
        omega (arith, a.0, is, two, high, room))
  ];
}

-- Sector n of an area, from one on that a head names nothing of, is none that it names: of two areas the one ends
-- before the other begins.
area_differs : (h : Head) (area from k n : ℕ) → SparesArea h area from → h.written ≤ most_written
    → k < full_sectors h.written → InArea area from n → n ≢ area_at h.area k
area_differs h area from k n spares few room within is = elim (cases_lt h.area area) [
  | inl before ↦ omega (arith, within.0, is, room, few, before)
  | inr ge ↦ elim (cases_lt area h.area) [
    | inl behind ↦ omega (arith, within.1, is, behind)
    | inr le ↦ (let here : h.area ≡ area = omega (arith, ge, le) in
        let past = spares here in omega (arith, within.0, is, room, here, past))
  ]
]

-- So are the sectors of an area, from one on that the head of the slot in use names nothing of.
pub area_apart : {size : ℕ} (c : Content) (s : Standing) (area from : ℕ) → Stands size c s
    → SparesArea (head c s.slot) area from → (n : ℕ) → InArea area from n → IsApart c s n
area_apart c s area from was spares n within = record {
  label = λ is. omega (arith, within.0, is);
  gates = λ slot low is. omega (arith, within.0, is, low);
  heads = λ slot low opened is. omega (arith, within.0, is, low);
  image = λ k room is. omega (arith, within.0, is, was.two, room, was.good.extent);
  area = λ k room is. area_differs (head c s.slot) area from k n spares was.good.written room within is;
  journal = λ k high room is. omega (arith, within.0, is, was.two, room);
  bodies = λ k high is. (let room = journal_short s.events c s.slot 0 (omega arith) was.journal in
      omega (arith, within.0, is, was.two, high, room));
}

pub behind_closed : {size : ℕ} (c c' : Content) (s : Standing) (idle area from : ℕ) → s.slot + idle ≡ 1
    → Stands size c s → is_open (c (slot_gate idle)) ≡ false → SparesArea (head c s.slot) area from
    → ((n : ℕ) → ¬ InCheckpoint idle area from n → c' n ≡ c n) → Stands size c' s
behind_closed c c' s idle area from two was closed spares same = footprint c c' s was
    (λ n counts. same n (λ within. counts (elim within [
      | inl a ↦ apart c s idle two was closed n a
      | inr a ↦ area_apart c s area from was spares n a
    ])))

-- Once the gate of a new slot is open, that slot is in use.
pub new_slot : {size : ℕ} (c c' : Content) (s : Standing) (idle version : ℕ) (past : PastEnd) (desktop : Desktop)
    → s.slot + idle ≡ 1 → Stands size c s → IsNewSlot c idle version (s.epoch + 1) past desktop
    → ((n : ℕ) → n ≢ slot_gate idle → c' n ≡ c n) → is_open (c' (slot_gate idle)) ≡ true
    → Stands size c' (record {
      slot = idle;
      version = version;
      epoch = s.epoch + 1;
      past = past;
      start = desktop;
      events = [];
    })
new_slot c c' s idle version past desktop two was new same opened = record {
  large = was.large;
  label = ap is_label (same LABEL (omega arith)) ∙ was.label;
  two = omega arith;
  live = opened;
  good = subst (λ b. IsGoodHead (head_of b)) (sym same_head) new.good;
  version = ap (λ b. (head_of b).version) same_head ∙ new.version_is;
  epoch = ap (λ b. (head_of b).epoch) same_head ∙ new.epoch;
  past = ap (λ b. (head_of b).past) same_head ∙ new.past_is;
  other = λ i is opened_too.
      let here : i ≡ s.slot = omega arith in
      subst (IsOlder c' (s.epoch + 1)) (sym here)
      (older_stays c c' (s.epoch + 1) s.slot (same (slot_head s.slot) (omega arith))
      (was.good, omega (arith, was.epoch)));
  image = image_stays c c' idle desktop same_head (λ k within. same (image_at idle + k) (omega arith))
      (λ k within. same (area_at (head c idle).area k) (omega arith)) new.image;
  journal = λ room. ap is_open (same (gate idle 0) (omega arith)) ∙ new.journal;
}
  where
    same_head : c' (slot_head idle) ≡ c (slot_head idle)
    same_head = same (slot_head idle) (omega arith)

-- A new slot, of whatever version, with the desktop that the old one has come to: it is meant whether the gate is
-- closed, torn or open.
pub either_slot : {size : ℕ} (c c' : Content) (s : Standing) (idle version : ℕ) (past : PastEnd) → s.slot + idle ≡ 1
    → Stands size c s → is_open (c (slot_gate idle)) ≡ false
    → IsNewSlot c idle version (s.epoch + 1) past (desktop_of s)
    → ((n : ℕ) → n ≢ slot_gate idle → c' n ≡ c n) → Means size (desktop_of s) c'
either_slot c c' s idle version past two was closed new same = elim (true_or_false (is_open (c' (slot_gate idle)))) [
  | inl opened ↦ (
    record { slot = idle; version = version; epoch = s.epoch + 1; past = past; start = desktop_of s; events = [] },
    new_slot c c' s idle version past (desktop_of s) two was new same opened,
    refl,
  )
  | inr shut ↦ (
    s,
    standing_carried c c' s was
        (same LABEL (omega arith))
        (ap is_open (same (slot_gate s.slot) (omega arith)) ∙ was.live)
        (same (slot_head s.slot) (omega arith))
        (λ i is opened. let here : i ≡ idle = omega arith in
        absurd (clash (subst (λ j. is_open (c' (slot_gate j)) ≡ true) here opened) shut))
        (λ k within. same (image_at s.slot + k) (omega arith))
        (λ k within. same (area_at (head c s.slot).area k) (omega arith))
        (journal_stays s.events c c' s.slot 0 (length s.events) (omega arith)
        (λ i low high room. same (gate s.slot i) (omega arith))
        (λ i low high. same (body s.slot i) (omega arith))
        was.journal),
    refl,
  )
]
