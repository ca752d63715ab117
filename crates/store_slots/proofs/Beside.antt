-- What a closed gate of the slot in use makes of a settled disk.
use Rattle.std.proofs.Common.{◌≡◌, ◌≢◌, ◌⊎◌, inl, inr, ℕ, ◌+◌, ◌-◌, ◌<◌, ◌≤◌, List, ◌∷◌, ◌++◌, length, take, refl}
use Rattle.std.proofs.Common.{sym, ◌∙◌, ap, subst, arith, length-append, true, false}
use Rattle.sector_disk.specs.Trail.{Content, Trail, now, LeavesOnly, Only, Touches}
use Rattle.sector_disk.proofs.Touching.{spared, still_reads}
use Rattle.store_layout.specs.declared.layout.TheConstants.{AREA, IMAGE_SECTORS, JOURNAL_EVENTS, LABEL, SLOTS}
use Rattle.store_layout.proofs.Bits.{true_or_false, clash}
use Rattle.store_layout.specs.Layout.{is_label, is_open, slot_gate, slot_head, gate, body, image_at, area_at, head}
use Rattle.store_layout.specs.Layout.{head_of, IsGoodHead}
use Rattle.store_layout.specs.Meaning.{Standing, Stands, and_all, cut_to, full_sectors}
use Rattle.store_layout.specs.Kept.{InCheckpoint, IsSettled, OpenGate, SparesArea}
use Rattle.store_layout.proofs.StandingLaws.{area_apart, standing_carried, image_stays, journal_short, journal_stays, older_stays}
use Rattle.store_slots.specs.Beside.{GoesBackTo, IsRest, StandsOver, StandsBeside, StandsOneOf, across, within}
use Rattle.store_slots.proofs.TakingBack.{journal_cut}
use Rattle.event_bytes.specs.declared.event.Event.{Event}
use Rattle.std.proofs.Math.Seq.{take-append_seam}
use Rattle.store_slots.specs.Written.{HasEventAt, HasGate}

module _ {size : ℕ} (c c' : Content) (s t : Standing) (was : Stands size c s) (beside : StandsBeside c s.slot t)
    (same : (n : ℕ) → n ≢ slot_gate s.slot → c' n ≡ c n) where
  stays : is_open (c' (slot_gate s.slot)) ≡ true → Stands size c' s
  stays on = standing_carried c c' s was (same LABEL (omega arith)) on (same (slot_head s.slot) (omega arith))
      (λ idle two opened.
      let before = sym (ap is_open (same (slot_gate idle) (omega (arith, two)))) ∙ opened in
      older_stays c c' s.epoch idle (same (slot_head idle) (omega (arith, two))) (was.other idle two before))
      (λ k within. same (image_at s.slot + k) (omega (arith, was.two)))
      (λ k within. same (area_at (head c s.slot).area k) (omega (arith, was.two)))
      (journal_stays s.events c c' s.slot 0 (length s.events) (omega arith)
      (λ i low high room. same (gate s.slot i) (omega (arith, was.two)))
      (λ i low high. same (body s.slot i) (omega (arith, was.two)))
      was.journal)

  same_head : c' (slot_head t.slot) ≡ c (slot_head t.slot)
  same_head = same (slot_head t.slot) (omega (arith, beside.two))

  goes : is_open (c' (slot_gate s.slot)) ≡ false → Stands size c' t
  goes off = record {
    large = was.large;
    label = ap is_label (same LABEL (omega arith)) ∙ was.label;
    two = omega (arith, beside.two);
    live = ap is_open (same (slot_gate t.slot) (omega (arith, beside.two))) ∙ beside.live;
    good = subst (λ b. IsGoodHead (head_of b)) (sym same_head) beside.good;
    version = ap (λ b. (head_of b).version) same_head ∙ beside.version;
    epoch = ap (λ b. (head_of b).epoch) same_head ∙ beside.epoch;
    past = ap (λ b. (head_of b).past) same_head ∙ beside.past;
    other = λ idle two opened.
        let here : idle ≡ s.slot = omega (arith, two, beside.two) in
        absurd (clash (subst (λ j. is_open (c' (slot_gate j)) ≡ true) here opened) off);
    image = image_stays c c' t.slot t.start same_head
        (λ k within. same (image_at t.slot + k) (omega (arith, was.two)))
        (λ k within. same (area_at (head c t.slot).area k) (omega (arith, was.two))) beside.image;
    journal = journal_stays t.events c c' t.slot 0 (length t.events) (omega arith)
        (λ i low high room. same (gate t.slot i) (omega (arith, was.two)))
        (λ i low high. same (body t.slot i) (omega (arith, was.two)))
        beside.journal;
  }

  one_of : StandsOneOf size s t c'
  one_of = elim (true_or_false (is_open (c' (slot_gate s.slot)))) [
    | inl on ↦ inr (stays on)
    | inr off ↦ inl (goes off)
  ]

module _ {size : ℕ} {old new : Trail} {slot : ℕ} {s t : Standing} (at : StandsOver size old slot s t)
    (run : Touches (OpenGate (now old).reads slot) old new) where
  beside_here : StandsBeside (now old).reads s.slot t
  beside_here = subst (λ n. StandsBeside (now old).reads n t) (sym at.slot_is) at.beside

  pub leaving : LeavesOnly old new (StandsOneOf size s t)
  leaving = spared (StandsOneOf size s t) at.settled.quiet run
      (λ c same. one_of (now old).reads c s t at.settled.stands beside_here
      (λ n other. same n (λ within. other (within.0 ∙ ap slot_gate (sym at.slot_is)))))

  pub left : HasGate (now new) slot false → IsSettled size new t
  left has = record {
    quiet = has.quiet;
    stands = goes (now old).reads (now new).reads s t at.settled.stands beside_here
        (λ n other. still_reads old new run n (λ within. other (within.0 ∙ ap slot_gate (sym at.slot_is))))
        (subst (λ n. is_open ((now new).reads (slot_gate n)) ≡ false) (sym at.slot_is) has.is);
  }

-- ---- a gate of the journal beside

module _ {size : ℕ} (c c' : Content) (slot k : ℕ) (s t : Standing) (slot_is : s.slot ≡ slot) (was : Stands size c s)
    (beside : StandsBeside c slot t) (more : k < length t.events) (same : (n : ℕ) → n ≢ gate t.slot k → c' n ≡ c n) where
  k_room : k < JOURNAL_EVENTS
  k_room = let few = journal_short t.events c t.slot 0 (omega arith) beside.journal in omega (arith, few, more)

  two : t.slot < SLOTS
  two = omega (arith, beside.two)

  -- the slot in use shows what it showed
  stands_aside : Stands size c' s
  stands_aside = standing_carried c c' s was (same LABEL (omega (arith, k_room, two)))
      (ap is_open (same (slot_gate s.slot) (omega (arith, was.two, k_room, two))) ∙ was.live)
      (same (slot_head s.slot) (omega (arith, was.two, k_room, two)))
      (λ idle is opened.
      let before = sym (ap is_open (same (slot_gate idle) (omega (arith, is, k_room, two)))) ∙ opened in
      older_stays c c' s.epoch idle (same (slot_head idle) (omega (arith, is, k_room, two))) (was.other idle is before))
      (λ i within. same (image_at s.slot + i) (omega (arith, was.two, k_room, two)))
      (λ i within. same (area_at (head c s.slot).area i) (omega (arith, was.two, k_room, two)))
      (journal_stays s.events c c' s.slot 0 (length s.events) (omega arith)
      (λ i low high room. same (gate s.slot i) (omega (arith, slot_is, beside.two, k_room, room)))
      (λ i low high. same (body s.slot i) (omega arith))
      was.journal)

  head_aside : c' (slot_head t.slot) ≡ c (slot_head t.slot)
  head_aside = same (slot_head t.slot) (omega (arith, two, k_room))

  -- and where the gate is closed, the slot beside it its first events
  cut_aside : is_open (c' (gate t.slot k)) ≡ false → StandsBeside c' slot (cut_to k t)
  cut_aside off = record {
    two = beside.two;
    live = ap is_open (same (slot_gate t.slot) (omega (arith, two, k_room))) ∙ beside.live;
    good = subst (λ b. IsGoodHead (head_of b)) (sym head_aside) beside.good;
    version = ap (λ b. (head_of b).version) head_aside ∙ beside.version;
    epoch = ap (λ b. (head_of b).epoch) head_aside ∙ beside.epoch;
    past = ap (λ b. (head_of b).past) head_aside ∙ beside.past;
    image = image_stays c c' t.slot t.start head_aside
        (λ i within. same (image_at t.slot + i) (omega (arith, two, k_room)))
        (λ i within. same (area_at (head c t.slot).area i) (omega (arith, two, k_room))) beside.image;
    journal = journal_cut t.events c c' t.slot 0 k k (omega arith) more same off beside.journal;
  }

-- The gate of an event beside the slot in use, and then that of the slot in use.
module _ {size : ℕ} {old mid : Trail} {slot to k : ℕ} {s t : Standing} (at : StandsOver size old slot s t)
    (more : k < length t.events) (to_is : to ≡ 1 - slot) (shut : Touches (Only (gate to k)) old mid) where
  to_here : to ≡ t.slot
  to_here = omega (arith, to_is, at.beside.two)

  shut_here : Touches (Only (gate t.slot k)) old mid
  shut_here = subst (λ n. Touches (Only (gate n k)) old mid) to_here shut

  pub first_moments : LeavesOnly old mid (StandsOneOf size s (cut_to k t))
  first_moments = spared (StandsOneOf size s (cut_to k t)) at.settled.quiet shut_here
      (λ c same. inr (stands_aside (now old).reads c slot k s t at.slot_is at.settled.stands at.beside more same))

  pub over_rest : is_open ((now mid).reads (gate to k)) ≡ false → ((n : ℕ) → (now mid).pending n ≡ false)
      → StandsOver size mid slot s (cut_to k t)
  over_rest off quiet = record {
    settled = record {
      quiet = quiet;
      stands = stands_aside (now old).reads (now mid).reads slot k s t at.slot_is at.settled.stands at.beside more
          (still_reads old mid shut_here);
    };
    slot_is = at.slot_is;
    beside = cut_aside (now old).reads (now mid).reads slot k s t at.slot_is at.settled.stands at.beside more
        (still_reads old mid shut_here) (subst (λ n. is_open ((now mid).reads (gate n k)) ≡ false) to_here off);
  }

-- ---- where the rest stands

-- a standing without these events at its end
cut_off : (rest s : Standing) (events : List Event) (k : ℕ) → s ≡ and_all rest events → length rest.events ≡ k
    → cut_to k s ≡ rest
cut_off rest s events k is long = subst (λ x. cut_to k x ≡ rest) (sym is) (λ i. record {
  slot = rest.slot;
  version = rest.version;
  epoch = rest.epoch;
  past = rest.past;
  start = rest.start;
  events = (ap (λ n. take n (rest.events ++ events)) (sym long) ∙ take-append_seam rest.events events) i;
})

module _ {size : ℕ} {disk : Trail} {slot to k : ℕ} {s rest : Standing} {events : List Event}
    (goes : GoesBackTo size disk slot to k s rest events) where
  -- in the same slot
  pub back_within : to ≡ slot → HasEventAt size disk slot k s × (cut_to k s ≡ rest)
  back_within here = found goes.is_rest
    where
      found : IsRest (now disk).reads events s rest → HasEventAt size disk slot k s × (cut_to k s ≡ rest)
      found (within is) = (
        record {
          settled = goes.settled;
          slot_is = goes.slot_is;
          more = omega (arith, ap (λ x. length x.events) is, length-append rest.events events, goes.long, goes.some);
        },
        cut_off rest s events k is goes.long,
      )
      found (across t event more before is all) =
          absurd (omega (arith, before.beside.two, ap (λ x. x.slot) is, goes.to_is, here, goes.slot_is))

  -- in the other one
  pub back_across : to ≢ slot
      → (t : Standing) × StandsOver size disk slot s t × (k < length t.events) × (cut_to k t ≡ rest)
  back_across other = found goes.is_rest
    where
      found : IsRest (now disk).reads events s rest
          → (t : Standing) × StandsOver size disk slot s t × (k < length t.events) × (cut_to k t ≡ rest)
      found (within is) = absurd (other (sym goes.to_is ∙ sym (ap (λ x. x.slot) is) ∙ goes.slot_is))
      found (across t event more before is all) = (
        t,
        record {
          settled = goes.settled;
          slot_is = goes.slot_is;
          beside = subst (λ n. StandsBeside (now disk).reads n t) goes.slot_is before.beside;
        },
        omega (arith, ap (λ x. length x.events) is, length-append rest.events (event ∷ more), goes.long),
        cut_off rest t (event ∷ more) k is goes.long,
      )

-- ---- what a checkpoint leaves beside

-- The slot that was in use shows still, beside the one that a checkpoint has written, what it showed.
module _ {size : ℕ} (c c' : Content) (s : Standing) (idle area from : ℕ) (two : s.slot + idle ≡ 1) (was : Stands size c s)
    (spares : SparesArea (head c s.slot) area from)
    (same : (n : ℕ) → ¬ ((n ≡ slot_gate idle) ⊎ InCheckpoint idle area from n) → c' n ≡ c n) where
  low : (n : ℕ) → n < AREA → n ≢ slot_gate idle → n ≢ slot_head idle → n ≢ gate idle 0
      → ¬ ((image_at idle ≤ n) × (n < image_at idle + IMAGE_SECTORS)) → c' n ≡ c n
  low n below no_gate no_head no_journal no_image = same n (λ within. elim within [
    | inl x ↦ no_gate x
    | inr (inl (inl x)) ↦ no_head x
    | inr (inl (inr (inl x))) ↦ no_journal x
    | inr (inl (inr (inr x))) ↦ no_image x
    | inr (inr x) ↦ omega (arith, x.0, below)
  ])

  high : (k : ℕ) → k < full_sectors (head c s.slot).written
      → c' (area_at (head c s.slot).area k) ≡ c (area_at (head c s.slot).area k)
  high k room = same (area_at (head c s.slot).area k) (λ within. elim within [
    | inl x ↦ omega (arith, x, two)
    | inr (inl (inl x)) ↦ omega (arith, x, two)
    | inr (inl (inr (inl x))) ↦ omega (arith, x, two)
    | inr (inl (inr (inr x))) ↦ omega (arith, x.1, two)
    | inr (inr x) ↦ (area_apart c s area from was spares (area_at (head c s.slot).area k) x).area k room refl
  ])

  head_same : c' (slot_head s.slot) ≡ c (slot_head s.slot)
  head_same = low (slot_head s.slot) (omega (arith, two)) (omega (arith, two)) (omega (arith, two)) (omega (arith, two))
      (λ x. omega (arith, x.0, two))

  short : length s.events ≤ JOURNAL_EVENTS
  short = let few = journal_short s.events c s.slot 0 (omega arith) was.journal in omega (arith, few)

  pub left_beside : StandsBeside c' idle s
  left_beside = record {
    two = omega (arith, two);
    live = ap is_open (low (slot_gate s.slot) (omega (arith, two)) (omega (arith, two)) (omega (arith, two))
        (omega (arith, two)) (λ x. omega (arith, x.0, two))) ∙ was.live;
    good = subst (λ b. IsGoodHead (head_of b)) (sym head_same) was.good;
    version = ap (λ b. (head_of b).version) head_same ∙ was.version;
    epoch = ap (λ b. (head_of b).epoch) head_same ∙ was.epoch;
    past = ap (λ b. (head_of b).past) head_same ∙ was.past;
    image = image_stays c c' s.slot s.start head_same
        (λ k within. low (image_at s.slot + k) (omega (arith, two, within, was.good.extent)) (omega (arith, two))
        (omega (arith, two)) (omega (arith, two))
        (λ x. omega (arith, x.0, x.1, two, within, was.good.extent)))
        high was.image;
    journal = journal_stays s.events c c' s.slot 0 (length s.events) (omega arith)
        (λ i from to room. low (gate s.slot i) (omega (arith, two, room)) (omega (arith, two)) (omega (arith, two))
        (omega (arith, two, room)) (λ x. omega (arith, x.0, two, room)))
        (λ i from to. low (body s.slot i) (omega (arith, two, to, short)) (omega (arith, two)) (omega (arith, two))
        (omega (arith, two)) (λ x. omega (arith, x.0, two, to, short)))
        was.journal;
  }
