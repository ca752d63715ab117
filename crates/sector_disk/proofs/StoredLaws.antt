-- Laws of the bytes that stand in sectors.
use Rattle.std.specs.Prelude.{◌≡◌, ◌<◌, ◌≤◌, ◌+◌, ◌-◌, ◌*◌, ◌/◌, ◌%◌, ℕ, List, length, get_or}
use Rattle.std.proofs.Common.{inl, inr, [], ◌∷◌, ◌++◌, take, refl, sym, ◌∙◌, ap, arith, length-append}
use Rattle.std.proofs.lemmas.Bool.{cases_lt}
use Rattle.std.proofs.lemmas.List.{get_or-append_right, get_or_append_left}
use Rattle.std.proofs.lemmas.List.FromFn.{fill_by_all, get_or-map-range_with_len, length-map-range_with_len}
use Rattle.std.proofs.lemmas.List.FromFn.{take-map-range_with_len, map-range_with_len_more}
use Rattle.sector_disk.specs.Trail.{Content}
use Rattle.sector_disk.specs.declared.disk.TheConstants.{SECTOR_BYTES}
use Rattle.sector_disk.specs.Stored.{byte_of, stored, HoldsBytes}

pub length-stored : (c : Content) (from n : ℕ) → length (stored c from n) ≡ n
unfolding stored
length-stored c from n = length-map-range_with_len (byte_of c from) 0 n

pub none_stored : (c : Content) (from : ℕ) → stored c from 0 ≡ []
unfolding stored
none_stored c from = refl

-- byte i is byte i mod 1,024 of sector i div 1,024, counted from the first
pub stored_at : (c : Content) (from n i : ℕ) → i < n → get_or (stored c from n) i 0 ≡ byte_of c from i
unfolding stored
stored_at c from n i low = get_or-map-range_with_len (byte_of c from) 0 n i i 0 low (omega arith)

-- a list with those bytes is what is stored
pub stored_by_index : (c : Content) (from n : ℕ) (l : List ℕ) → length l ≡ n
    → ((i : ℕ) → i < n → get_or l i 0 ≡ byte_of c from i) → stored c from n ≡ l
unfolding stored
stored_by_index c from n l long each = sym (fill_by_all (byte_of c from) l n 0 long each)

-- what is stored rests on these sectors alone
pub stored_same : (c c' : Content) (from n : ℕ) → ((k : ℕ) → SECTOR_BYTES * k < n → c' (from + k) ≡ c (from + k))
    → stored c' from n ≡ stored c from n
stored_same c c' from n same = stored_by_index c' from n (stored c from n) (length-stored c from n)
    (λ i low. stored_at c from n i low
    ∙ sym (ap (λ b. get_or b (i % SECTOR_BYTES) 0) (same (i / SECTOR_BYTES) (omega (arith, low)))))

-- where sectors hold bytes these are stored there
pub stored_held : (c : Content) (from : ℕ) (l : List ℕ) → HoldsBytes c from l → stored c from (length l) ≡ l
stored_held c from l held = stored_by_index c from (length l) l refl (λ i low.
    let whole : SECTOR_BYTES * (i / SECTOR_BYTES) + i % SECTOR_BYTES ≡ i = omega arith in
    ap (λ n. get_or l n 0) (sym whole)
    ∙ sym (held (i / SECTOR_BYTES) (i % SECTOR_BYTES) (omega (arith, low)) (omega arith)))

-- the first of the bytes that are stored
pub take-stored : (c : Content) (from n k : ℕ) → k ≤ n → take k (stored c from n) ≡ stored c from k
unfolding stored
take-stored c from n k le = take-map-range_with_len (byte_of c from) 0 n k le

-- one byte more
pub byte_more : (c : Content) (from n : ℕ) → stored c from (n + 1) ≡ stored c from n ++ byte_of c from n ∷ []
unfolding stored
byte_more c from n = map-range_with_len_more (byte_of c from) 0 n n (omega arith)

-- one sector more
pub sector_more : (c : Content) (from k : ℕ) (b : List ℕ) → c (from + k) ≡ b → length b ≡ SECTOR_BYTES
    → stored c from (SECTOR_BYTES * (k + 1)) ≡ stored c from (SECTOR_BYTES * k) ++ b
sector_more c from k b is wide = stored_by_index c from (SECTOR_BYTES * (k + 1)) (front ++ b)
    (length-append front b ∙ omega (arith, long, wide)) each
  where
    front : List ℕ
    front = stored c from (SECTOR_BYTES * k)

    long : length front ≡ SECTOR_BYTES * k
    long = length-stored c from (SECTOR_BYTES * k)

    each : (i : ℕ) → i < SECTOR_BYTES * (k + 1) → get_or (front ++ b) i 0 ≡ byte_of c from i
    each i low = elim (cases_lt i (SECTOR_BYTES * k)) [
      | inl less ↦ get_or_append_left front b 0 i (omega (arith, less, long))
          ∙ stored_at c from (SECTOR_BYTES * k) i less
      | inr ge ↦ (let here : i / SECTOR_BYTES ≡ k = omega (arith, low, ge) in
          let rest : i % SECTOR_BYTES ≡ i - SECTOR_BYTES * k = omega (arith, low, ge) in
          get_or-append_right front b (SECTOR_BYTES * k) i 0 long ge ∙ ap (λ n. get_or b n 0) (sym rest)
          ∙ sym (ap (λ n. get_or (c (from + n)) (i % SECTOR_BYTES) 0) here
          ∙ ap (λ l. get_or l (i % SECTOR_BYTES) 0) is))
    ]
