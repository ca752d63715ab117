-- Sectors that hold the same.
use Rattle.std.proofs.Common.{◌≡◌, ℕ, List, length, true, sym, ◌∙◌, ap, arith}
use Rattle.std.specs.Cmp.Lexicographic.{bytes_decides, pointwise}
use Rattle.std.proofs.lemmas.List.{ext_get_or}
use Rattle.std.specs.Prelude.{get_or, nat_eq}
use Rattle.sector_disk.specs.declared.disk.TheConstants.{SECTOR_BYTES}
use Rattle.past_pages.specs.Sectors.{HoldsSame}

-- sectors that hold the same bytes are equal
pub equal_sectors : (xs ys : List ℕ) → length xs ≡ SECTOR_BYTES → length ys ≡ SECTOR_BYTES → HoldsSame xs ys
    → pointwise nat_eq xs ys ≡ true
equal_sectors xs ys left right same = (bytes_decides xs ys).1 (ext_get_or 0 xs ys (left ∙ sym right)
    (λ j low. same j (omega (arith, low, left))))

pub held_as : {xs ys a b : List ℕ} → xs ≡ a → ys ≡ b → HoldsSame a b → HoldsSame xs ys
held_as left right same = λ j low.
    ap (λ l. get_or l j 0) left ∙ same j low ∙ sym (ap (λ l. get_or l j 0) right)
