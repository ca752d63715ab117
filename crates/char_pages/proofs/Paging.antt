-- Characters of which the first stand on a disk: where each is found, writes to other sectors, and more of them on the
-- disk than before.
use Rattle.std.proofs.Common.{◌≡◌, ℕ, ◌+◌, ◌-◌, ◌/◌, ◌%◌, ◌<◌, ◌≤◌, List, ◌++◌, length, get_or, take, drop}
use Rattle.std.proofs.Common.{Result, Ok, Err, sym, ◌∙◌, ap, subst, arith, length-append, slice_range}
use Rattle.std.proofs.lemmas.List.{get_or-append_right, get_or_append_left, take-append-drop, get_or-take, get_or-drop}
use Rattle.std.proofs.lemmas.List.{ext_get_or, length-drop, length-take-le}
use Rattle.std.proofs.Math.Seq.{drop-append-add}
use Rattle.sector_disk.specs.declared.disk.TheConstants.{SECTOR_BYTES}
use Rattle.std.specs.Borrow.{GName}
use Rattle.sector_disk.specs.declared.disk.Disk.{Ghosts}
use Rattle.sector_disk.specs.Trail.{Content, CountsFault, Nowhere, now}
use Rattle.sector_disk.specs.Confined.{IsConfined}
use Rattle.sector_disk.proofs.Touching.{still_all}
use Rattle.char_file.specs.Source.{OnlyReads}
use Rattle.char_pages.specs.declared.pages.Pages.{Pages}
use Rattle.char_pages.specs.declared.occurrences.Counted.{Counted}
use Rattle.char_pages.specs.Cached.{AddsSector}
use Rattle.std.proofs.Common.{Some, slice_get}
use Rattle.char_pages.specs.Occurrences.{AreIndices}
use Rattle.char_pages.specs.Found.{AreFound}
use Rattle.char_pages.specs.Pages.{paged_characters, base_of, saved_of, saved_sectors, rest_of, renewed_of, cached_of, IsTrueOf}
use Rattle.char_pages.specs.Ground.{OnlyLooked, OnSamePages}
use Rattle.char_pages.specs.GroundLaws.{none_more}
use Rattle.char_pages.proofs.Caching.{true_on, true_with}
use Rattle.sector_disk.specs.Stored.{stored}
use Rattle.sector_disk.proofs.StoredLaws.{stored_at, stored_same, length-stored}

module _ (c : Content) (base saved : ℕ) (rest : List ℕ) where
  -- how many there are
  pub length-paged : length (stored c base saved ++ rest) ≡ saved + length rest
  length-paged = length-append (stored c base saved) rest ∙ ap (λ n. n + length rest) (length-stored c base saved)

  -- one on the disk
  pub paged_in_area : (i : ℕ) → i < saved → get_or (stored c base saved ++ rest) i 0
      ≡ get_or (c (base + i / SECTOR_BYTES)) (i % SECTOR_BYTES) 0
  paged_in_area i low = get_or_append_left (stored c base saved) rest 0 i (omega (arith, low, length-stored c base saved))
      ∙ stored_at c base saved i low

  -- one in memory
  pub paged_behind : (i : ℕ) → saved ≤ i → get_or (stored c base saved ++ rest) i 0 ≡ get_or rest (i - saved) 0
  paged_behind i past = get_or-append_right (stored c base saved) rest saved i 0 (length-stored c base saved) past

-- element j of those from a on
in_range : (l : List ℕ) (a n j : ℕ) → j < n → get_or (slice_range l a (a + n)) j 0 ≡ get_or l (a + j) 0
in_range l a n j low = get_or-take (a + n - a) (drop a l) j 0 (omega (arith, low)) ∙ get_or-drop a l j 0

pub long_range : (l : List ℕ) (a n : ℕ) → a + n ≤ length l → length (slice_range l a (a + n)) ≡ n
long_range l a n within = length-take-le (a + n - a) (drop a l) (let long = length-drop a l in omega (arith, long, within))
    ∙ omega arith

-- those from i on that stand in one sector, and some in memory
module _ (c : Content) (base saved : ℕ) (rest : List ℕ) (i n : ℕ) where
  pub range_in_area : saved % SECTOR_BYTES ≡ 0 → i < saved → i % SECTOR_BYTES + n ≤ SECTOR_BYTES
      → length (c (base + i / SECTOR_BYTES)) ≡ SECTOR_BYTES
      → slice_range (stored c base saved ++ rest) i (i + n)
      ≡ slice_range (c (base + i / SECTOR_BYTES)) (i % SECTOR_BYTES) (i % SECTOR_BYTES + n)
  range_in_area whole low within wide = ext_get_or 0 _ _ (long_here ∙ sym long_there) (λ j less.
      in_range (stored c base saved ++ rest) i n j (omega (arith, less, long_here))
      ∙ paged_in_area c base saved rest (i + j) (omega (arith, less, long_here, within, whole, low))
      ∙ (λ k. get_or (c (base + same_sector j (omega (arith, less, long_here)) k))
      (further j (omega (arith, less, long_here)) k) 0)
      ∙ sym (in_range (c (base + i / SECTOR_BYTES)) (i % SECTOR_BYTES) n j (omega (arith, less, long_here))))
    where
      long_here : length (slice_range (stored c base saved ++ rest) i (i + n)) ≡ n
      long_here = long_range (stored c base saved ++ rest) i n
          (omega (arith, length-paged c base saved rest, low, within, whole))

      long_there : length (slice_range (c (base + i / SECTOR_BYTES)) (i % SECTOR_BYTES) (i % SECTOR_BYTES + n)) ≡ n
      long_there = long_range (c (base + i / SECTOR_BYTES)) (i % SECTOR_BYTES) n (omega (arith, wide, within))

      same_sector : (j : ℕ) → j < n → (i + j) / SECTOR_BYTES ≡ i / SECTOR_BYTES
      same_sector j less = omega (arith, less, within)

      further : (j : ℕ) → j < n → (i + j) % SECTOR_BYTES ≡ i % SECTOR_BYTES + j
      further j less = omega (arith, less, within)

  pub range_behind : saved ≤ i → slice_range (stored c base saved ++ rest) i (i + n)
      ≡ slice_range rest (i - saved) (i - saved + n)
  range_behind past = ap (λ k. take k (drop i (stored c base saved ++ rest))) lengths ∙ ap (take (i - saved + n - (i - saved)))
      (ap (λ k. drop k (stored c base saved ++ rest)) (sym at) ∙ drop-append-add (stored c base saved) rest (i - saved))
    where
      lengths : i + n - i ≡ i - saved + n - (i - saved)
      lengths = omega arith

      at : length (stored c base saved) + (i - saved) ≡ i
      at = omega (arith, past, length-stored c base saved)

-- the same characters where their sectors read the same
pub paged_on : (c c' : Content) (base saved : ℕ) (rest : List ℕ) → saved % SECTOR_BYTES ≡ 0
    → ((n : ℕ) → base ≤ n → n < base + saved / SECTOR_BYTES → c' n ≡ c n)
    → stored c' base saved ++ rest ≡ stored c base saved ++ rest
paged_on c c' base saved rest whole same = ap (λ l. l ++ rest) (stored_same c c' base saved
    (λ k low. same (base + k) (omega arith) (omega (arith, low, whole))))

-- what is in memory of sectors is true of another content too, where those read the same
pub told_on : {c c' : Content} (p : Pages)
    → ((n : ℕ) → base_of p ≤ n → n < base_of p + saved_sectors p → c' n ≡ c n) → IsTrueOf c p → IsTrueOf c' p
told_on {c} {c'} p same was = record {
  cached = true_on p.below same was.cached;
  found = λ k counted there. subst (λ bytes. AreIndices p.occurrences.wanted bytes counted.indices.items)
      (sym (same (p.base + counted.number) (omega arith) (low k counted there))) (was.found k counted there);
}
  where
    low : (k : ℕ) (counted : Counted) → slice_get p.occurrences.known.items k ≡ Some (Some counted)
        → p.base + counted.number < p.base + p.saved / SECTOR_BYTES
    low k counted there = let less = p.known k counted there in omega (arith, less)

-- where more of them stand on the disk by now, those needn't be in memory
pub paged_settled : (c : Content) (base saved more : ℕ) (rest : List ℕ) → saved ≤ more
    → stored c base more ≡ take more (stored c base saved ++ rest)
    → stored c base more ++ drop (more - saved) rest ≡ stored c base saved ++ rest
paged_settled c base saved more rest le holds =
    ap (λ l. l ++ drop (more - saved) rest) holds
    ∙ ap (λ l. take more (stored c base saved ++ rest) ++ l) (sym behind)
    ∙ take-append-drop more (stored c base saved ++ rest)
  where
    at : length (stored c base saved) + (more - saved) ≡ more
    at = omega (arith, le, length-stored c base saved)

    behind : drop more (stored c base saved ++ rest) ≡ drop (more - saved) rest
    behind = ap (λ n. drop n (stored c base saved ++ rest)) (sym at)
        ∙ drop-append-add (stored c base saved) rest (more - saved)

-- the same characters where all parts are the same
pub paged_same : {c c' : Content} {base base' saved saved' : ℕ} {rest rest' : List ℕ} → c' ≡ c → base' ≡ base
    → saved' ≡ saved → rest' ≡ rest → stored c' base' saved' ++ rest' ≡ stored c base saved ++ rest
paged_same same_c same_base same_saved same_rest = λ i. stored (same_c i) (same_base i) (same_saved i) ++ same_rest i

-- as many characters, whatever is read
pub paged_as_long : (c c' : Content) (base base' saved saved' : ℕ) (rest rest' : List ℕ) → saved' ≡ saved → rest' ≡ rest
    → length (stored c' base' saved' ++ rest') ≡ length (stored c base saved ++ rest)
paged_as_long c c' base base' saved saved' rest rest' same_saved same_rest = length-paged c' base' saved' rest'
    ∙ (λ i. same_saved i + length (same_rest i)) ∙ sym (length-paged c base saved rest)

-- a call that counts its fault has failed no fewer times
pub no_fewer_by : {T E : Type 0} {old new : ℕ} (result : Result T E) → CountsFault result old new → old ≤ new
no_fewer_by (Ok t) same = omega (arith, same)
no_fewer_by (Err e) rose = omega (arith, rose)

-- a call that needed one sector only looked
pub looked_up : {D : Type 0} {d : Ghosts D} {T E : Type 0} {result : Result T E} {old new : D} {p p' : Pages} {n : ℕ}
    → AddsSector (d.honest old) (now (d.trail old)).reads n (cached_of p) (cached_of p')
    → (d.honest old → IsTrueOf (now (d.trail old)).reads p
    → AreFound (now (d.trail old)).reads (base_of p') p'.occurrences) → base_of p' ≡ base_of p
    → saved_of p' ≡ saved_of p → rest_of p' ≡ rest_of p → renewed_of p' ≡ renewed_of p
    → IsConfined d.size d.honest d.trail Nowhere old new → CountsFault result (d.failures old) (d.failures new)
    → OnlyLooked d result old new p p'
looked_up {p' = p'} adds found base saved rest renewed kept cause = record {
  told = λ h true_of. subst (λ (content : Content). IsTrueOf content p') (sym (still_all _ _ (kept.moments h)))
      (record { cached = true_with adds h true_of.cached; found = found h true_of });
  base = base;
  counted = saved;
  rest = rest;
  renewed = renewed;
  kept = kept;
  cause = cause;
}

-- what was only looked at is a source that was only read: S is the source, which joins pages to their disk
module _ {D : Type 0} {d : Ghosts D} {S : Type 0} (disk_of : S → D) (pages_of : S → Pages)
    (disk_name pages_name : S → GName) where
  pub only_read : {T E : Type 0} {result : Result T E} {old new : S} → disk_name new ≡ disk_name old
      → pages_name new ≡ pages_name old
      → OnlyLooked d result (disk_of old) (disk_of new) (pages_of old) (pages_of new)
      → OnlyReads (λ s. paged_characters (now (d.trail (disk_of s))).reads (pages_of s)) (λ s. d.failures (disk_of s))
      (λ s. d.honest (disk_of s)) (λ a b. OnSamePages d (disk_of a) (disk_of b) (pages_of a) (pages_of b)
      (disk_name a) (disk_name b) (pages_name a) (pages_name b)) old new
  only_read {result = result} same_disk same_pages r = record {
    as_long = paged_as_long _ _ _ _ _ _ _ _ r.counted r.rest;
    same = λ h. paged_same (still_all _ _ (r.kept.moments h)) r.base r.counted r.rest;
    still = r.kept.still;
    already = r.kept.already;
    stands = record {
      confined = r.kept;
      same_base = r.base;
      before = λ not. sym r.renewed ∙ not;
      same_saved = λ not. r.counted;
      only_added = λ not. none_more _ _ r.rest;
      same_disk = same_disk;
      same_pages = same_pages;
    };
    no_fewer = no_fewer_by result r.cause;
  }

-- where none stands on the disk, they are those in memory
pub paged_in_memory : (c : Content) (base saved : ℕ) (rest made : List ℕ) → saved ≡ 0 → rest ≡ made
    → stored c base saved ++ rest ≡ made
unfolding stored
paged_in_memory c base saved rest made none is = ap (λ n. stored c base n ++ rest) none ∙ is
