-- One byte more, one sector more, and the last one.
use Rattle.std.proofs.Common.{◌≡◌, ◌≢◌, inl, inr, ℕ, ◌+◌, ◌*◌, ◌<◌, ◌≤◌, List, [], ◌++◌, length, get_or, take}
use Rattle.std.proofs.Common.{append_assoc, replicate, sym, ◌∙◌, ap, subst, arith}
use Rattle.std.proofs.lemmas.Bool.{cases_lt}
use Rattle.std.proofs.lemmas.Bool.Decides.{nat_tests}
use Rattle.std.proofs.lemmas.List.{get_or_past}
use Rattle.std.proofs.lemmas.List.{get_or-replicate, take_rest}
use Rattle.std.proofs.Math.Seq.{take-add}
use Rattle.std.specs.List.{between}
use Rattle.sector_disk.specs.Trail.{Content, Moment, written}
use Rattle.sector_disk.specs.declared.disk.TheConstants.{SECTOR_BYTES}
use Rattle.sector_disk.specs.Stored.{HoldsBytes}
use Rattle.store_layout.specs.declared.filling.Filling.{Filling}
use Rattle.store_layout.specs.Filling.{InRange, IsSpread, HasTaken}

pub reads_here : (m : Moment) (n : ℕ) (bytes : List ℕ) → (written m n bytes).reads n ≡ bytes
reads_here m n bytes = grind (arith, nat_tests)

pub reads_elsewhere : (m : Moment) (n k : ℕ) (bytes : List ℕ) → k ≢ n → (written m n bytes).reads k ≡ m.reads k
reads_elsewhere m n k bytes other = grind (arith, nat_tests)

-- a buffer without bytes
blank : (j : ℕ) (buffer : List ℕ) → buffer ≡ replicate SECTOR_BYTES 0 → j < SECTOR_BYTES → get_or buffer j 0 ≡ 0
blank j buffer zeros low = ap (λ b. get_or b j 0) zeros ∙ get_or-replicate SECTOR_BYTES j 0 0 low

-- the buffer was written behind the full sectors
module _ (m m' : Moment) (from full used : ℕ) (buffer l : List ℕ) (is_written : m' ≡ written m (from + full) buffer)
    (was : IsSpread m.reads from full used buffer l) where
  upto : (k j : ℕ) → k ≤ full → j < SECTOR_BYTES → get_or (m'.reads (from + k)) j 0 ≡ get_or l (SECTOR_BYTES * k + j) 0
  upto k j low within = elim (cases_lt k full) [
    | inl before ↦ ap (λ s. get_or (s.reads (from + k)) j 0) is_written
        ∙ ap (λ b. get_or b j 0) (reads_elsewhere m (from + full) (from + k) buffer (λ at. omega (arith, at, before)))
        ∙ was.above k j before within
    | inr at_end ↦ (let here : k ≡ full = omega (arith, low, at_end) in
        subst (λ n. get_or (m'.reads (from + n)) j 0 ≡ get_or l (SECTOR_BYTES * n + j) 0) (sym here)
        (ap (λ s. get_or (s.reads (from + full)) j 0) is_written
        ∙ ap (λ b. get_or b j 0) (reads_here m (from + full) buffer) ∙ was.rest j within))
  ]

  -- then an empty buffer takes its place
  pub turned : (empty : List ℕ) → used ≡ SECTOR_BYTES → empty ≡ replicate SECTOR_BYTES 0
      → IsSpread m'.reads from (full + 1) 0 empty l
  turned empty all zeros = record {
    count = was.count ∙ omega (arith, all);
    above = λ k j low within. upto k j (omega (arith, low)) within;
    rest = λ j low. blank j empty zeros low
        ∙ sym (get_or_past l (SECTOR_BYTES * (full + 1) + j) 0 (omega (arith, was.count, all)));
  }

  pub held : used ≤ SECTOR_BYTES → HoldsBytes m'.reads from l
  held fits = λ k j low within. upto k j (omega (arith, low, was.count, fits)) within

-- no byte yet
pub none_yet : (c : Content) (from full used : ℕ) (buffer : List ℕ) → full ≡ 0 → used ≡ 0
    → buffer ≡ replicate SECTOR_BYTES 0 → IsSpread c from full used buffer []
none_yet c from full used buffer is_full is_used zeros = record {
  count = omega (arith, is_full, is_used);
  above = λ k j low within. absurd (omega (arith, low, is_full));
  rest = λ j low. blank j buffer zeros low ∙ sym (get_or_past [] (SECTOR_BYTES * full + j) 0 (omega arith));
}

-- what has been taken before a sector is written stands there after it
pub carried : (c c' : Content) (f f' : Filling) (l : List ℕ) → f'.from ≡ f.from → f'.limit ≡ f.limit
    → (IsSpread c f.from f.full f.used f.buffer l → IsSpread c' f.from f'.full f'.used f'.buffer l)
    → HasTaken c f l → HasTaken c' f' l
carried c c' f f' l same_from same_limit step was = λ room.
    subst (λ n. IsSpread c' n f'.full f'.used f'.buffer l) (sym same_from)
    (step (was (subst (λ n. length l ≤ SECTOR_BYTES * n) same_limit room)))

-- a stretch of a list more
pub goes_on : (c : Content) (f : Filling) (before bytes : List ℕ) (i n : ℕ)
    → HasTaken c f ((before ++ take i bytes) ++ take n (between i (length bytes) bytes))
    → HasTaken c f (before ++ take (i + n) bytes)
goes_on c f before bytes i n was = subst (HasTaken c f) longer was
  where
    longer : (before ++ take i bytes) ++ take n (between i (length bytes) bytes) ≡ before ++ take (i + n) bytes
    longer = append_assoc before (take i bytes) (take n (between i (length bytes) bytes))
        ∙ ap (λ l. before ++ (take i bytes ++ take n l)) (take_rest bytes i)
        ∙ ap (λ l. before ++ l) (sym (take-add i n bytes))

-- the sector that is being filled is one of those that may be filled
pub is_within : (from limit full : ℕ) → full < limit → (n : ℕ) → n ≡ from + full → InRange from limit n
is_within from limit full room n at = (omega (arith, at), omega (arith, at, room))
