-- A disk on which the bytes of a host are loaded, sector after sector.
use Rattle.std.proofs.Common.{◌≡◌, ◌∙◌, ◌+◌, ◌-◌, ◌*◌, ◌==◌, ℕ, List, Bool, true, false, take, drop, slice_range, ap, refl, sym, arith, nat_lt, if◌then◌else◌}
use Rattle.std.proofs.lemmas.Bool.Decides.{nat_tests}
use Rattle.sector_disk.specs.declared.call.DiskCall.TheVariants.{Write, Sync}
use Rattle.sector_disk.specs.Trail.{Content, Moment, now, written, after_sync}
use Rattle.page_disks.specs.Recording.{Recording, recorded, forgotten, trail_since}
use Rattle.page_disks.proofs.Recorded.{forgotten_now, now_more}
use Rattle.page_disks.specs.Loading.{HasLoaded, ReadsWith, sector_of, whole_sectors}

pub none_yet : (bytes : List ℕ) (first : ℕ) (before : Content) → ReadsWith bytes first 0 before before
none_yet bytes first before k = same k
  where
    same : (k : ℕ) → before k ≡ (if nat_lt k first then before k
        else if nat_lt k (first + 0) then sector_of bytes (k - first) else before k)
    same k = grind (arith, nat_tests)

-- the n-th sector of the bytes stands in sector first + n
at_offset : (bytes : List ℕ) (first n k : ℕ) (other : List ℕ) (is : Bool) → (is ≡ true → k ≡ first + n)
    → (if is then sector_of bytes n else other) ≡ (if is then sector_of bytes (k - first) else other)
at_offset bytes first n k other true here =
    let e : n ≡ k - first = omega (arith, here refl) in ap (sector_of bytes) e
at_offset bytes first n k other false here = refl

pub one_more : (bytes : List ℕ) (first n : ℕ) (before : Content) (old new : Recording)
    → ReadsWith bytes first n before (now (trail_since old)).reads
    → now (trail_since new) ≡ written (now (trail_since old)) (first + n) (sector_of bytes n)
    → ReadsWith bytes first (n + 1) before (now (trail_since new)).reads
one_more bytes first n before old new was is k = ap (λ (m : Moment). m.reads k) is
    ∙ ap (λ l. if k == first + n then sector_of bytes n else l) (was k)
    ∙ at_offset bytes first n k _ (k == first + n) (λ here. grind (arith, here, nat_tests)) ∙ same k
  where
    same : (k : ℕ) → (if k == first + n then sector_of bytes (k - first) else (if nat_lt k first then before k
        else if nat_lt k (first + n) then sector_of bytes (k - first) else before k))
        ≡ (if nat_lt k first then before k else if nat_lt k (first + (n + 1)) then sector_of bytes (k - first) else before k)
    same k = grind (arith, nat_tests)

-- a call that was recorded, and then forgotten
pub is_written : (n : ℕ) (sector : List ℕ) (old mid new : Recording) → mid ≡ recorded (Write n sector) old
    → new ≡ forgotten mid
    → now (trail_since new) ≡ written (now (trail_since old)) n sector
is_written n sector old mid new is forgets =
    forgotten_now mid new forgets ∙ now_more old mid (Write n sector) is

pub has_loaded : (bytes : List ℕ) (first : ℕ) (begun old mid new : Recording) → old.size ≡ begun.size
    → ReadsWith bytes first (whole_sectors bytes first begun.size) (now (trail_since begun)).reads
    (now (trail_since old)).reads → mid ≡ recorded Sync old → new ≡ forgotten mid → HasLoaded bytes first begun new
has_loaded bytes first begun old mid new size reads is forgets = record {
  size = ap (λ d. d.size) forgets ∙ ap (λ d. d.size) is ∙ size;
  reads = λ k. ap (λ (m : Moment). m.reads k) moment ∙ reads k;
  settled = λ k. ap (λ (m : Moment). m.pending k) moment;
  untold = ap (λ d. d.since) forgets;
}
  where
    moment : now (trail_since new) ≡ after_sync (now (trail_since old))
    moment = forgotten_now mid new forgets ∙ now_more old mid Sync is

-- the bytes from where sector n has its place
pub sector_is : (bytes sector : List ℕ) (n : ℕ) → sector ≡ slice_range bytes (1024 * n) (1024 * n + 1024)
    → sector ≡ sector_of bytes n
sector_is bytes sector n is = is ∙ ap (λ (k : ℕ). take k (drop (1024 * n) bytes)) (long n)
  where
    long : (n : ℕ) → (1024 * n + 1024) - 1024 * n ≡ 1024
    long n = omega arith
