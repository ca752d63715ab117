-- The three steps of a checkpoint: the gate of the other slot is closed, the slot is filled, its gate is opened.
use Rattle.std.proofs.Common.{◌≡◌, ◌≢◌, inl, inr, ℕ, ◌+◌, ◌*◌, ◌<◌, List, [], length, refl, sym, ◌∙◌, ap, subst}
use Rattle.std.proofs.Common.{arith, true, false}
use Rattle.sector_disk.specs.declared.disk.TheConstants.{SECTOR_BYTES}
use Rattle.sector_disk.specs.Trail.{Content, Moment, Trail, now, LeavesOnly, Touches, Only}
use Rattle.sector_disk.proofs.Touching.{spared, still_reads, at_last, read_is_an_image, weakened, chained}
use Rattle.char_pages.specs.Pages.{saved_of}
use Rattle.desktop_definitions.specs.Desktop.{Desktop}
use Rattle.desktop_definitions.specs.Seen.{seen}
use Rattle.store_layout.specs.declared.layout.TheConstants.{LABEL, LAYOUT, SLOTS}
use Rattle.store_layout.proofs.Bits.{true_or_false, clash}
use Rattle.store_layout.specs.Layout.{is_open, slot_gate, slot_head, gate, body, image_at, area_at, head, head_of}
use Rattle.store_layout.specs.Layout.{IsGoodHead}
use Rattle.store_layout.specs.Meaning.{Standing, Stands, MeansEither, full_sectors}
use Rattle.store_layout.specs.Kept.{IsSettled, ShowsSettled, IsFront, HasFront, SparesArea, OpenGate, InCheckpoint, IsNewSlot}
use Rattle.store_layout.proofs.StandingLaws.{footprint, other_gate, behind_closed, new_slot, front_stays}
use Rattle.store_layout.proofs.StandingLaws.{image_stays, standing_carried, journal_stays}
use Rattle.store_slots.specs.declared.live.LiveDesktop.{LiveDesktop}
use Rattle.store_slots.specs.declared.place.SlotPlace.{SlotPlace}
use Rattle.store_slots.specs.Live.{live_characters, seen_live, IsLive, IsNamed}
use Rattle.store_slots.specs.Beside.{StandsBeside, StandsOneOf}
use Rattle.store_slots.specs.Written.{anew_from, ContinuesArea, HasGate, IsFilled, IsBeside, InRenewal}
use Rattle.store_slots.proofs.Staying.{characters_stay, apart_renewal}

-- a gate is in no checkpoint
gate_outside : (slot area saved : ℕ) → slot < 2 → InCheckpoint slot area saved (slot_gate slot) → ⊥
gate_outside slot area saved low within = elim within [
  | inl (inl a) ↦ omega (arith, a)
  | inl (inr (inl a)) ↦ omega (arith, a)
  | inl (inr (inr a)) ↦ omega (arith, a.0, low)
  | inr a ↦ omega (arith, a.0, low)
]

-- where the gate of the other slot stays closed, whatever else becomes of it
gate_shut : {size : ℕ} (c c' : Content) (s : Standing) (idle : ℕ) → s.slot + idle ≡ 1 → Stands size c s
    → ((n : ℕ) → n ≢ slot_gate idle → c' n ≡ c n) → is_open (c' (slot_gate idle)) ≡ false → Stands size c' s
gate_shut c c' s idle two was same shut = standing_carried c c' s was
    (same LABEL (omega arith))
    (ap is_open (same (slot_gate s.slot) (omega arith)) ∙ was.live)
    (same (slot_head s.slot) (omega arith))
    (λ i is opened. let here : i ≡ idle = omega arith in
    absurd (clash (subst (λ j. is_open (c' (slot_gate j)) ≡ true) here opened) shut))
    (λ k within. same (image_at s.slot + k) (omega arith))
    (λ k within. same (area_at (head c s.slot).area k) (omega arith))
    (journal_stays s.events c c' s.slot 0 (length s.events) (omega arith)
    (λ i low high room. same (gate s.slot i) (omega arith))
    (λ i low high. same (body s.slot i) (omega arith))
    was.journal)

-- The disk shows one desktop, and another one comes to the place.
module _ {place : SlotPlace} {size live version number count : ℕ} {desktop : Desktop} (after : Desktop)
    {old first : Trail}
    (was : IsBeside place size old live version number count desktop)
    (closes : Touches (OpenGate (now old).reads place.slot) old first) where
  abbrev idle : ℕ
  idle = place.slot

  abbrev s : Standing
  s = was.kept.standing

  sum : s.slot + idle ≡ 1
  sum = omega (arith, was.two, was.kept.slot)

  as_desktop : {a b : Trail} → LeavesOnly a b (λ c. Stands size c s)
      → LeavesOnly a b (MeansEither size desktop after)
  as_desktop run = weakened run (λ c stands. inl (s, stands, was.kept.is))

  closing : LeavesOnly old first (λ c. Stands size c s)
  closing = spared (λ c. Stands size c s) was.kept.settled.quiet closes (λ c same.
      elim (true_or_false (is_open ((now old).reads (slot_gate idle)))) [
        | inl opened ↦ other_gate (now old).reads c s idle sum was.kept.settled.stands
            (was.kept.settled.stands.other idle sum opened) (λ n other. same n (λ both. other both.0))
        | inr shut ↦ footprint (now old).reads c s was.kept.settled.stands
            (λ n counts. same n (λ both. absurd (clash both.1 shut)))
      ])

  as_one_of : {a b : Trail} → LeavesOnly a b (λ c. Stands size c s)
      → LeavesOnly a b (StandsOneOf size s (anew_from s idle place.past after))
  as_one_of run = weakened run (λ c stands. inr stands)

  pub one_step_at : LeavesOnly old first (StandsOneOf size s (anew_from s idle place.past after))
  one_step_at = as_one_of closing

  pub one_step : LeavesOnly old first (MeansEither size desktop after)
  one_step = as_desktop closing

  -- the head of the slot in use names the same sectors
  still_spared : SparesArea (head (now first).reads s.slot) place.area place.saved
  still_spared = subst (λ n. SparesArea (head (now first).reads n) place.area place.saved) (sym was.kept.slot)
      (subst (λ b. SparesArea (head_of b) place.area place.saved)
      (sym (still_reads old first closes (slot_head live) (λ within. omega (arith, within.0, was.two)))) was.spares)

  module _ {second : Trail} (closed : HasGate (now first) idle false)
      (fills : Touches (InCheckpoint idle place.area place.saved) first second) where
    after_one : IsSettled size first s
    after_one = record {
      quiet = closed.quiet;
      stands = at_last closing (now first).reads (read_is_an_image (now first));
    }

    filling : LeavesOnly first second (λ c. Stands size c s)
    filling = spared (λ c. Stands size c s) closed.quiet fills (λ c same.
        behind_closed (now first).reads c s idle place.area place.saved sum after_one.stands closed.is still_spared
        same)

    pub two_steps_at : LeavesOnly old second (StandsOneOf size s (anew_from s idle place.past after))
    two_steps_at = chained one_step_at (as_one_of filling)

    pub two_steps : LeavesOnly old second (MeansEither size desktop after)
    two_steps = chained one_step (as_desktop filling)

    module _ {new : Trail} {characters : List ℕ}
        (filled : IsFilled (now second) idle LAYOUT place.area place.epoch place.past characters after)
        (opens : Touches (Only (slot_gate idle)) second new) where
      stands_still : Stands size (now second).reads s
      stands_still = at_last filling (now second).reads (read_is_an_image (now second))

      epoch_is : place.epoch ≡ s.epoch + 1
      epoch_is = omega (arith, was.next, was.kept.epoch)

      fresh_too : IsNewSlot (now second).reads idle LAYOUT (s.epoch + 1) place.past after
      fresh_too = subst (λ n. IsNewSlot (now second).reads idle LAYOUT n place.past after) epoch_is filled.new

      -- what the slot shows from then on
      abbrev anew : Standing
      anew = anew_from s idle place.past after

      stands_anew : (c : Content) → ((n : ℕ) → n ≢ slot_gate idle → c n ≡ (now second).reads n)
          → is_open (c (slot_gate idle)) ≡ true → Stands size c anew
      stands_anew c same opened =
          new_slot (now second).reads c s idle LAYOUT place.past after sum stands_still fresh_too same opened

      pub three_steps_at : LeavesOnly old new (StandsOneOf size s (anew_from s idle place.past after))
      three_steps_at = chained two_steps_at (spared (StandsOneOf size s (anew_from s idle place.past after)) filled.quiet opens
          (λ c same. elim (true_or_false (is_open (c (slot_gate idle)))) [
            | inl opened ↦ inl (stands_anew c same opened)
            | inr shut ↦ inr (gate_shut (now second).reads c s idle sum stands_still same shut)
          ]))

      pub three_steps : LeavesOnly old new (MeansEither size desktop after)
      three_steps = chained two_steps (spared (MeansEither size desktop after) filled.quiet opens (λ c same.
          elim (true_or_false (is_open (c (slot_gate idle)))) [
            | inl opened ↦ inr (anew, stands_anew c same opened, refl)
            | inr shut ↦ inl (s, gate_shut (now second).reads c s idle sum stands_still same shut, was.kept.is)
          ]))

      -- once its gate is open
      pub shows_anew : HasGate (now new) idle true → Stands size (now new).reads (anew_from s idle place.past after)
      shows_anew opened = stands_anew (now new).reads (λ n other. still_reads second new opens n other) opened.is

      -- the slot that was in use stands beside it as it was
      pub left_beside : StandsBeside (now new).reads idle s
      left_beside = record {
        two = omega (arith, sum);
        live = ap is_open (same (slot_gate s.slot) (omega (arith, sum))) ∙ stands_still.live;
        good = subst (λ b. IsGoodHead (head_of b)) (sym same_head) stands_still.good;
        version = ap (λ b. (head_of b).version) same_head ∙ stands_still.version;
        epoch = ap (λ b. (head_of b).epoch) same_head ∙ stands_still.epoch;
        past = ap (λ b. (head_of b).past) same_head ∙ stands_still.past;
        image = image_stays (now second).reads (now new).reads s.slot s.start same_head
            (λ k within. same (image_at s.slot + k) (omega (arith, sum)))
            (λ k within. same (area_at (head (now second).reads s.slot).area k) (omega (arith, sum)))
            stands_still.image;
        journal = journal_stays s.events (now second).reads (now new).reads s.slot 0 (length s.events) (omega arith)
            (λ i low high room. same (gate s.slot i) (omega (arith, sum)))
            (λ i low high. same (body s.slot i) (omega (arith, sum))) stands_still.journal;
      }
        where
          same : (n : ℕ) → n ≢ slot_gate idle → (now new).reads n ≡ (now second).reads n
          same n other = still_reads second new opens n other

          same_head : (now new).reads (slot_head s.slot) ≡ (now second).reads (slot_head s.slot)
          same_head = same (slot_head s.slot) (omega (arith, sum))

      pub now_new : HasGate (now new) idle true → ShowsSettled size new place.slot LAYOUT place.epoch 0 after
      now_new opened = record {
        standing = anew;
        settled = record {
          quiet = opened.quiet;
          stands = stands_anew (now new).reads (λ n other. still_reads second new opens n other) opened.is;
        };
        slot = refl;
        version_is = refl;
        epoch = sym epoch_is;
        events = refl;
        is = refl;
      }

-- ---- what is written of a desktop

-- closing the gate leaves what it shows
pub filled_still : (old first : Trail) (m : Moment) (number : ℕ) (place : SlotPlace) (live : LiveDesktop) → IsLive live
    → Touches (OpenGate (now old).reads place.slot) old first
    → IsFilled m place.slot LAYOUT place.area number place.past (live_characters (now first).reads live)
    (seen_live (now first).reads live)
    → IsFilled m place.slot LAYOUT place.area number place.past (live_characters (now old).reads live)
    (seen_live (now old).reads live)
filled_still old first m number place live is closes filled =
    subst (λ l. IsFilled m place.slot LAYOUT place.area number place.past l (seen l live.desktop))
    (characters_stay old first live.pages closes
    (λ n from to within. omega (arith, is.based, from, within.0, place.two))) filled

-- so does opening it
pub front_still : (second new : Trail) (slot area n : ℕ) (characters : List ℕ) → slot < SLOTS
    → Touches (Only (slot_gate slot)) second new → IsFront (now second).reads slot area n characters
    → IsFront (now new).reads slot area n characters
front_still second new slot area n characters low opens =
    front_stays (now second).reads (now new).reads slot area n characters
    (still_reads second new opens (slot_head slot) (omega arith))
    (λ k few. still_reads second new opens (area_at area k) (omega (arith, low)))

-- The desktop that stands in the slot, and then the characters in memory that stand in the area are given up. `old` and
-- `new` are the disk before and after, and `live` and `done` the desktop.
module _ (old new : Trail) (place : SlotPlace) (live done : LiveDesktop) (is : IsLive live)
    (goes : ContinuesArea place live) (run : Touches (InRenewal place) old new)
    (front : IsFront (now new).reads place.slot place.area
    (full_sectors (length (live_characters (now old).reads live))) (live_characters (now old).reads live))
    (kept : done.desktop ≡ live.desktop) (settles : (c : Content)
    → HasFront c place.area (full_sectors live.desktop.written)
    (live_characters c live) → live_characters c done ≡ live_characters c live) where
  stay : live_characters (now new).reads live ≡ live_characters (now old).reads live
  stay = characters_stay old new live.pages run (apart_renewal live place is goes)

  counted : length (live_characters (now old).reads live) ≡ live.desktop.written
  counted = (is.over (now old).reads).counted

  there : HasFront (now new).reads place.area (full_sectors live.desktop.written) (live_characters (now new).reads live)
  there = subst (λ l. HasFront (now new).reads place.area (full_sectors live.desktop.written) l) (sym stay)
      (subst (λ n. HasFront (now new).reads place.area (full_sectors n) (live_characters (now old).reads live)) counted
      front.same)

  pub shown_settled : seen_live (now new).reads done ≡ seen_live (now old).reads live
  shown_settled = λ i. seen ((settles (now new).reads there ∙ stay) i) (kept i)

  pub named_settled : done.area ≡ place.area
      → saved_of done.pages ≡ SECTOR_BYTES * full_sectors live.desktop.written
      → IsNamed (now new).reads place.slot done
  named_settled area_is saved_is = record {
    area_is = front.area_is ∙ sym area_is;
    named = λ not. omega (arith, front.named, counted, saved_is);
  }
