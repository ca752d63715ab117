-- What opening finds on a disk: a store, no store, or a damaged one.
use Rattle.std.specs.Prelude.{◌≡◌, ◌⊎◌, ◌<◌, ◌≤◌, ◌+◌, ℕ, true, false}
use Rattle.sector_disk.specs.Trail.{Content}
use Rattle.event_bytes.specs.declared.event.Event.{Event}
use Rattle.event_bytes.specs.Spelling.{BeginsWithEvent}
use Rattle.desktop_definitions.specs.Desktop.{Desktop}
use Rattle.store_layout.specs.declared.layout.TheConstants.{JOURNAL_EVENTS, LABEL, SLOTS, STORE_SECTORS}
use Rattle.store_layout.specs.Layout.{is_label, is_open, slot_gate, slot_head, body, image_at, head, IsGoodHead}
use Rattle.store_layout.specs.Meaning.{HasImage, Means, Shows, Standing, Stands}
use Rattle.store_layout.specs.Footprint.{IsLedTo, IsInUse}

-- no store: too small a disk, or another label
abbrev pub IsForeign : ℕ → Content → Type 0
IsForeign size c = (size < STORE_SECTORS) ⊎ (is_label (c LABEL) ≡ false)

-- ---- damages, in the order in which they are looked for

-- each slot is closed
pub record AreShut (c : Content) : Type 0 where
  pub first : is_open (c (slot_gate 0)) ≡ false
  pub second : is_open (c (slot_gate 1)) ≡ false

-- each head under an open gate is good
abbrev pub AreHeadsGood : Content → Type 0
AreHeadsGood c = (slot : ℕ) → slot < SLOTS → is_open (c (slot_gate slot)) ≡ true
    → IsGoodHead (head c slot)

-- the slot is open over a head that isn't good, and no slot before it is so
pub record HasBadHead (c : Content) (slot : ℕ) : Type 0 where
  pub two : slot < SLOTS
  pub opened : is_open (c (slot_gate slot)) ≡ true
  pub bad : IsGoodHead (head c slot) → ⊥
  pub before : (other : ℕ) → other < slot → is_open (c (slot_gate other)) ≡ true
      → IsGoodHead (head c other)

-- the slot in use has no image
pub record HasBadImage (c : Content) (slot : ℕ) : Type 0 where
  pub heads : AreHeadsGood c
  pub used : IsInUse c slot
  pub none : (start : Desktop) → HasImage c slot start → ⊥

-- the slot in use has an image, and the body under gate k is the first that begins with no event, and open gates lead
-- up to it
pub record IsNoEvent (c : Content) (slot k : ℕ) : Type 0 where
  pub within : k < JOURNAL_EVENTS
  pub led : IsLedTo c slot (k + 1)
  pub events : (j : ℕ) → j < k → (event : Event) × BeginsWithEvent (c (body slot j)) event
  pub none : (event : Event) → BeginsWithEvent (c (body slot k)) event → ⊥

pub record HasBadBody (c : Content) (slot k : ℕ) : Type 0 where
  pub heads : AreHeadsGood c
  pub used : IsInUse c slot
  pub start : Desktop
  pub image : HasImage c slot start
  pub body_is : IsNoEvent c slot k

-- the damage is found in sector n
abbrev pub IsDamage : Content → ℕ → Type 0
IsDamage c n = ((n ≡ slot_gate 0) × AreShut c)
    ⊎ (((slot : ℕ) × (n ≡ slot_head slot) × HasBadHead c slot)
    ⊎ (((slot : ℕ) × (n ≡ image_at slot) × HasBadImage c slot)
    ⊎ ((slot : ℕ) × (k : ℕ) × (n ≡ body slot k) × HasBadBody c slot k)))

-- a store whose damage is found in sector n
pub record IsDamagedAt (size : ℕ) (c : Content) (n : ℕ) : Type 0 where
  pub large : STORE_SECTORS ≤ size
  pub label : is_label (c LABEL) ≡ true
  pub damage : IsDamage c n

-- A disk is found to be just one of these: a store, no store, a damaged one. A store has one desktop, and one sector is
-- damaged.
pub record FindsOneThing (size : ℕ) (c : Content) : Type 0 where
  pub one_desktop : (d d' : Desktop) → Means size d c → Means size d' c → d ≡ d'
  pub one_damage : (n n' : ℕ) → IsDamagedAt size c n → IsDamagedAt size c n' → n ≡ n'
  pub not_foreign : (d : Desktop) → Means size d c → IsForeign size c → ⊥
  pub not_damaged : (d : Desktop) (n : ℕ) → Means size d c → IsDamagedAt size c n → ⊥
  pub not_both : (n : ℕ) → IsForeign size c → IsDamagedAt size c n → ⊥

abbrev pub FindingLaw : Type 0
FindingLaw = (size : ℕ) (c : Content) → FindsOneThing size c

-- a content shows one desktop, by one version, one epoch and one number of events
abbrev pub ShowingLaw : Type 0
ShowingLaw = (size : ℕ) (c : Content) (version number count version' number' count' : ℕ)
    (d d' : Desktop)
    → Shows size version number count d c → Shows size version' number' count' d' c
    → (d' ≡ d) × (version' ≡ version) × (number' ≡ number) × (count' ≡ count)

-- a content shows one standing: one slot, one version, one epoch, one start, and one list of events
abbrev pub StandingLaw : Type 0
StandingLaw = (size : ℕ) (c : Content) (s s' : Standing) → Stands size c s → Stands size c s'
    → s ≡ s'
