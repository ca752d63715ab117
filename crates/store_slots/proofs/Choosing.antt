-- Which of two slots is in use.
use Rattle.std.proofs.Common.{◌≡◌, ◌⊎◌, inl, inr, ℕ, zero, suc, ◌+◌, ◌<◌, ◌≤◌, refl, sym}
use Rattle.std.proofs.Common.{ap, subst, arith, Bool, true, false}
use Rattle.std.specs.Prelude.{Option, Some, None, IfSome, IfNone, nat_lt, if◌then◌else◌, Result, Ok, Err, IfOk}
use Rattle.std.proofs.lemmas.Bool.{ltb-true, ltb-false}
use Rattle.sector_disk.specs.Trail.{Content}
use Rattle.store_layout.specs.declared.head.Head.{Head}
use Rattle.store_layout.specs.declared.layout.TheConstants.{SLOTS}
use Rattle.store_layout.specs.Layout.{is_open, slot_gate, head, IsGoodHead}
use Rattle.store_layout.specs.Finding.{AreHeadsGood}
use Rattle.store_layout.specs.Footprint.{IsInUse}
use Rattle.store_slots.specs.Load.{IsChosen}
use Rattle.store_layout.proofs.Bits.{clash}

-- what was found in a slot: it is closed, or open over a good head
abbrev pub IsFound : Content → ℕ → Option Head → Type 0
IsFound c slot None = is_open (c (slot_gate slot)) ≡ false
IsFound c slot (Some h) = (is_open (c (slot_gate slot)) ≡ true) × (head c slot ≡ h) × IsGoodHead h

pub found_in : {honest : Type 0} (c c' : Content) (slot : ℕ) (found : Option Head) → c' ≡ c → honest
    → IfNone found (honest → is_open (c' (slot_gate slot)) ≡ false)
    → IfSome found (λ h. honest → (is_open (c' (slot_gate slot)) ≡ true) × (head c' slot ≡ h))
    → IfSome found IsGoodHead → IsFound c slot found
found_in c c' slot None same is closed opened good = subst (λ r. is_open (r (slot_gate slot)) ≡ false) same (closed is)
found_in c c' slot (Some h) same is closed opened good = (
  subst (λ r. is_open (r (slot_gate slot)) ≡ true) same (opened is).0,
  subst (λ r. head r slot ≡ h) same (opened is).1,
  good,
)

pub good_in : (c : Content) (slot : ℕ) (found : Option Head) → IsFound c slot found
    → is_open (c (slot_gate slot)) ≡ true → IsGoodHead (head c slot)
good_in c slot None closed opened = absurd (clash opened closed)
good_in c slot (Some h) found opened = subst IsGoodHead (sym found.1) found.2

one_of_two : (slot : ℕ) → slot < SLOTS → (slot ≡ 0) ⊎ (slot ≡ 1)
one_of_two zero low = inl refl
one_of_two (suc zero) low = inr refl
one_of_two (suc (suc slot)) low = absurd (omega (arith, low))

heads_good : (c : Content) (first second : Option Head) → IsFound c 0 first → IsFound c 1 second → AreHeadsGood c
heads_good c first second in_first in_second = λ slot low opened. elim (one_of_two slot low) [
  | inl is ↦ subst (λ n. IsGoodHead (head c n)) (sym is)
      (good_in c 0 first in_first (subst (λ n. is_open (c (slot_gate n)) ≡ true) is opened))
  | inr is ↦ subst (λ n. IsGoodHead (head c n)) (sym is)
      (good_in c 1 second in_second (subst (λ n. is_open (c (slot_gate n)) ≡ true) is opened))
]

-- a slot is in use, and has this head
abbrev IsUsed : Content → ℕ × Head → Type 0
IsUsed c x = IsInUse c x.0 × (head c x.0 ≡ x.1)

is_used : (c : Content) (slot idle : ℕ) (h : Head) → slot + idle ≡ 1 → IsFound c slot (Some h)
    → (is_open (c (slot_gate idle)) ≡ true → (head c idle).epoch < (head c slot).epoch + idle) → IsUsed c (slot, h)
is_used c slot idle h two found older = (
  record {
    two = omega (arith, two);
    opened = found.0;
    other = λ other sum. let is : idle ≡ other = omega (arith, two, sum) in
        subst (λ n. is_open (c (slot_gate n)) ≡ true → (head c n).epoch < (head c slot).epoch + n) is older;
  },
  found.1,
)

both_used : (c : Content) (first second : Head) (chosen : ℕ × Head) (newer : Bool) → IsFound c 0 (Some first)
    → IsFound c 1 (Some second) → nat_lt first.epoch second.epoch ≡ newer
    → Some chosen ≡ (if newer then Some (1, second) else Some (0, first)) → IsUsed c chosen
both_used c first second chosen true in_first in_second order is =
    let same : chosen ≡ (1, second) = cc is in
    let less : first.epoch < second.epoch = ltb-true first.epoch second.epoch order in
    subst (IsUsed c) (sym same) (is_used c 1 0 second refl in_second (λ opened.
    omega (arith, less, ap (λ h. h.epoch) in_first.1, ap (λ h. h.epoch) in_second.1)))
both_used c first second chosen false in_first in_second order is =
    let same : chosen ≡ (0, first) = cc is in
    let least : second.epoch ≤ first.epoch = ltb-false first.epoch second.epoch order in
    subst (IsUsed c) (sym same) (is_used c 0 1 first refl in_first (λ opened.
    omega (arith, least, ap (λ h. h.epoch) in_first.1, ap (λ h. h.epoch) in_second.1)))

chosen_used : (c : Content) (first second : Option Head) (chosen : ℕ × Head) → IsFound c 0 first → IsFound c 1 second
    → IsChosen first second (Some chosen) → IsUsed c chosen
chosen_used c None None chosen in_first in_second is = absurd cc
chosen_used c (Some first) None chosen in_first in_second is =
    let same : chosen ≡ (0, first) = cc is in
    subst (IsUsed c) (sym same) (is_used c 0 1 first refl in_first (λ opened. absurd (clash opened in_second)))
chosen_used c None (Some second) chosen in_first in_second is =
    let same : chosen ≡ (1, second) = cc is in
    subst (IsUsed c) (sym same) (is_used c 1 0 second refl in_second (λ opened. absurd (clash opened in_first)))
chosen_used c (Some first) (Some second) chosen in_first in_second is =
    both_used c first second chosen (nat_lt first.epoch second.epoch) in_first in_second refl is

pub found_used : (c : Content) (first second : Option Head) (chosen : ℕ × Head) → IsFound c 0 first
    → IsFound c 1 second → IsChosen first second (Some chosen)
    → IsInUse c chosen.0 × AreHeadsGood c × (head c chosen.0 ≡ chosen.1)
found_used c first second chosen in_first in_second is =
    let used = chosen_used c first second chosen in_first in_second is in
    (used.0, heads_good c first second in_first in_second, used.1)

-- of two heads that are good, where there are, the chosen one is good
either_good : (first second : Head) (chosen : ℕ × Head) (newer : Bool) → IsGoodHead first → IsGoodHead second
    → Some chosen ≡ (if newer then Some (1, second) else Some (0, first)) → IsGoodHead chosen.1
either_good first second chosen true in_first in_second is =
    let same : chosen ≡ (1, second) = cc is in subst (λ (x : ℕ × Head). IsGoodHead x.1) (sym same) in_second
either_good first second chosen false in_first in_second is =
    let same : chosen ≡ (0, first) = cc is in subst (λ (x : ℕ × Head). IsGoodHead x.1) (sym same) in_first

pub chosen_good : (first second : Option Head) (chosen : ℕ × Head) → IfSome first IsGoodHead
    → IfSome second IsGoodHead → IsChosen first second (Some chosen) → IsGoodHead chosen.1
chosen_good None None chosen in_first in_second is = absurd cc
chosen_good (Some first) None chosen in_first in_second is =
    let same : chosen ≡ (0, first) = cc is in subst (λ (x : ℕ × Head). IsGoodHead x.1) (sym same) in_first
chosen_good None (Some second) chosen in_first in_second is =
    let same : chosen ≡ (1, second) = cc is in subst (λ (x : ℕ × Head). IsGoodHead x.1) (sym same) in_second
chosen_good (Some first) (Some second) chosen in_first in_second is =
    either_good first second chosen (nat_lt first.epoch second.epoch) in_first in_second is

-- a slot with a good head
pub slot_with_head : {E : Type 0} (result : Result (ℕ × Head) E) → IfOk result (λ x. x.0 < SLOTS)
    → IfOk result (λ x. IsGoodHead x.1) → IfOk result (λ x. (x.0 < SLOTS) × IsGoodHead x.1)
slot_with_head (Ok x) two good = (two, good)
slot_with_head (Err e) two good = tt
