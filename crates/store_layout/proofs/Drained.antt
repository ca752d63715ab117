-- One byte more that is read out of sectors, and none at the end.
use Rattle.std.proofs.Common.{◌≡◌, ℕ, ◌+◌, ◌/◌, ◌%◌, ◌<◌, ◌≤◌, List, [], ◌∷◌, get_or, drop, suc}
use Rattle.std.proofs.Common.{sym, subst, ◌∙◌, ap, arith}
use Rattle.std.proofs.lemmas.List.{drop_all}
use Rattle.std.proofs.Math.Seq.{drop-cons}
use Rattle.sector_disk.specs.Trail.{Content}
use Rattle.sector_disk.specs.declared.disk.TheConstants.{SECTOR_BYTES}
use Rattle.sector_disk.specs.Stored.{stored}
use Rattle.sector_disk.proofs.StoredLaws.{stored_at, length-stored}

-- the next byte is that of the buffer, though the disk was read in between
pub byte_passed : (c c' : Content) (from from' extent extent' at at' : ℕ) (buffer : List ℕ) → c' ≡ c → from' ≡ from
    → extent' ≡ extent → at' ≡ at → at < extent → buffer ≡ c (from + at / SECTOR_BYTES)
    → drop at (stored c from extent) ≡ get_or buffer (at' % SECTOR_BYTES) 0 ∷ drop (at' + 1) (stored c' from' extent')
byte_passed c c' from from' extent extent' at at' buffer same_c same_from same_extent same_at low is =
    subst (λ n. drop at (stored c from extent)
    ≡ get_or buffer (n % SECTOR_BYTES) 0 ∷ drop (n + 1) (stored c' from' extent')) (sym same_at)
    (drop-cons (stored c from extent) at 0 (omega (arith, low, length-stored c from extent))
    ∙ ap (λ b. b ∷ drop (suc at) (stored c from extent))
    (stored_at c from extent at low ∙ sym (ap (λ l. get_or l (at % SECTOR_BYTES) 0) is))
    ∙ ap (λ n. get_or buffer (at % SECTOR_BYTES) 0 ∷ drop n (stored c from extent)) one
    ∙ ap (λ l. get_or buffer (at % SECTOR_BYTES) 0 ∷ drop (at + 1) l) (sym same))
  where
    one : suc at ≡ at + 1
    one = omega arith

    same : stored c' from' extent' ≡ stored c from extent
    same = λ i. stored (same_c i) (same_from i) (same_extent i)

-- at the end there are none
pub all_passed : (c : Content) (from extent at : ℕ) → extent ≤ at → drop at (stored c from extent) ≡ []
all_passed c from extent at over = drop_all at (stored c from extent) (omega (arith, over, length-stored c from extent))
