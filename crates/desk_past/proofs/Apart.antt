-- What holds of the parts behind a store.
use Rattle.std.proofs.Common.{◌≡◌, ◌⊎◌, inl, inr, ◌+◌, ◌*◌, ◌/◌, ◌-◌, ◌^◌, ◌<◌, ◌≤◌, ℕ, refl, sym, ap, subst, arith}
use Rattle.std.proofs.lemmas.Bool.{cases_lt}
use Rattle.store_layout.specs.declared.layout.TheConstants.{STORE_SECTORS}
use Rattle.past_pages.specs.declared.parts.TheConstants.{PARTS, PART_SECTORS}
use Rattle.past_pages.specs.Parts.{GoesOnIn, HasParts, IsPartBeside, IsPastPart, LiesBeside, part_base, part_count}
use Rattle.desk_past.specs.Beginning.{HasStartRoom}

-- ---- one part

pub part_far : (size base end : ℕ) → IsPastPart size base end → STORE_SECTORS ≤ base
part_far size base end is = let at = is.begins in omega (arith, at)

pub part_above : (size base end : ℕ) → IsPastPart size base end → PARTS ≤ base
part_above size base end is = let at = is.begins in omega (arith, at)

pub part_room : (size base end : ℕ) → size < 2 ^ 32 → IsPastPart size base end → HasStartRoom size base
part_room size base end few is =
    let at = is.begins in let ends = is.ends in let room = is.room in record {
      behind = omega (arith, at);
      numbered = omega (arith, ends, room, few);
      room = omega (arith, ends, room);
    }

-- a part of a disk that is as large
pub part_as_large : (size size' base end : ℕ) → size ≡ size' → IsPastPart size base end → IsPastPart size' base end
part_as_large size size' base end same is = subst (λ n. IsPastPart n base end) same is

-- ---- two parts

-- they are one, or lie apart
pub parts_apart : (size base end base' end' : ℕ) → IsPastPart size base end → IsPastPart size base' end'
    → (base ≡ base') ⊎ ((end ≤ base') ⊎ (end' ≤ base))
parts_apart size base end base' end' one two =
    let at = one.begins in let at' = two.begins in let ends = one.ends in let ends' = two.ends in
    elim (cases_lt one.place two.place) [
      | inl less ↦ inr (inl (omega (arith, less, at, at', ends)))
      | inr ge ↦ elim (cases_lt two.place one.place) [
        | inl less ↦ inr (inr (omega (arith, less, at, at', ends')))
        | inr le ↦ inl (omega (arith, ge, le, at, at'))
      ]
    ]

pub same_end : (size base end base' end' : ℕ) → IsPastPart size base end → IsPastPart size base' end' → base ≡ base'
    → end ≡ end'
same_end size base end base' end' one two same =
    let ends = one.ends in let ends' = two.ends in omega (arith, ends, ends', same)

-- pages go on in one part at most
pub one_part : (size next base end base' end' : ℕ) → IsPastPart size base end → IsPastPart size base' end'
    → GoesOnIn base end next → GoesOnIn base' end' next → base ≡ base'
one_part size next base end base' end' one two here there =
    elim (parts_apart size base end base' end' one two) [
      | inl same ↦ same
      | inr apart ↦ elim apart [
        | inl below ↦ absurd (omega (arith, below, here.1, there.0))
        | inr above ↦ absurd (omega (arith, above, there.1, here.0))
      ]
    ]

-- a part is beside, or pages go on in it
pub beside_not : (size next from base end : ℕ) → IsPartBeside size next from → IsPastPart size base end
    → GoesOnIn base end next
    → ¬ (from ≡ base)
beside_not size next from base end there part goes same =
    let ends = part.ends in
    there.beside (omega (arith, goes.0, same), omega (arith, goes.1, ends, same))

-- a start in a part that is beside touches nothing of the one in which pages go on
pub lies_beside : (size next from : ℕ) → IsPartBeside size next from → LiesBeside size next from
lies_beside size next from there base end part low high =
    elim (parts_apart size from (from + PART_SECTORS) base end there.part part) [
      | inl same ↦ absurd (beside_not size next from base end there part (low, high) same)
      | inr apart ↦ elim apart [
        | inl below ↦ inl (omega (arith, below))
        | inr above ↦ inr (omega (arith, above, high))
      ]
    ]

-- ---- the part at a place

pub at_place : (size place : ℕ) → place < part_count size → IsPastPart size (part_base place)
    (part_base place + PART_SECTORS)
at_place size place low = record {
  place = place;
  begins = refl;
  ends = refl;
  room = omega (arith, low);
}

pub place_of : (size base end : ℕ) (is : IsPastPart size base end) → is.place < part_count size
place_of size base end is =
    let at = is.begins in let ends = is.ends in let room = is.room in omega (arith, at, ends, room)

-- two parts at least
pub two_parts : (size : ℕ) → HasParts size → 1 < part_count size
two_parts size has = let two = has.two in omega (arith, two)

-- where pages go on in the first part they don't in the second one
pub second_beside : (size next : ℕ) → HasParts size → GoesOnIn (part_base 0) (part_base 0 + PART_SECTORS) next
    → IsPartBeside size next (part_base 1)
second_beside size next has first = record {
  part = at_place size 1 (two_parts size has);
  beside = λ goes. omega (arith, goes.0, first.1);
}
