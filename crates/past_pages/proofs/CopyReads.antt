-- A desktop in a page: sectors that are spelled, and laid on a disk.
use Rattle.std.proofs.Common.{◌≡◌, ◌≢◌, ◌⊎◌, inl, inr, ◌+◌, ◌*◌, ◌^◌, ◌<◌, ◌≤◌, ◌==◌, ℕ, zero, suc, List, [], ◌∷◌, ◌++◌, length, take, drop, refl}
use Rattle.std.proofs.Common.{sym, ◌∙◌, ap, arith, subst, length-append, replicate, true, false}
use Rattle.std.specs.Prelude.{if◌then◌else◌, Bool, Option, Some, None, IsSomeAnd, Result, Ok, Err, IfOk, OnOk}
use Rattle.std.specs.Int.{from_be_bytes, w32}
use Rattle.std.proofs.lemmas.Bool.{cases_lt}
use Rattle.std.proofs.lemmas.Bool.Decides.{nat_tests}
use Rattle.std.proofs.lemmas.List.{append-nil}
use Rattle.std.proofs.lemmas.Nat.{from_be_bytes-to_be_bytes_4}
use Rattle.sector_disk.specs.declared.disk.Disk.{Ghosts}
use Rattle.sector_disk.specs.Memory.{zeros}
use Rattle.sector_disk.specs.Trail.{Content, Moment, now, written}
use Rattle.sector_disk.specs.declared.disk.TheConstants.{SECTOR_BYTES}
use Rattle.desktop_definitions.specs.Desktop.{Desktop}
use Rattle.store_layout.specs.declared.layout.TheConstants.{STORE_SECTORS}
use Rattle.store_layout.specs.Meaning.{Means, Standing, Stands}
use Rattle.desk_journal.proofs.Aside.{stands_behind}
use Rattle.past_pages.specs.declared.copies.TheConstants.{SPELLED}
use Rattle.past_pages.specs.declared.page.TheConstants.{FAR_PAGE, MARK_PAGE}
use Rattle.past_pages.specs.Copies.{Sectors, AreSectors, IsCopyOf, blank_disk, laid_sectors, laid_over}
use Rattle.past_pages.specs.Laying.{IsBlankRoom}
use Rattle.past_pages.specs.Marks.{HasSpelled, IsShownOn}
use Rattle.past_pages.specs.Page.{copy_kind, number, sector_spelling, sector_spellings}
use Rattle.past_pages.proofs.PageReads.{dropped_bytes, drop_both, joined}
use Rattle.past_pages.proofs.StillReads.{resized}

chosen_here : (n : ℕ) (a b : List ℕ) → (if n == n then a else b) ≡ a
chosen_here n a b = grind (arith, nat_tests)

chosen_else : (k n : ℕ) (a b : List ℕ) → k ≢ n → (if k == n then a else b) ≡ b
chosen_else k n a b other = grind (arith, nat_tests)

-- ---- a sector more

laid_behind : (c : Content) (sectors : Sectors) (sector : ℕ × List ℕ) (n : ℕ)
    → laid_over c (sectors ++ sector ∷ []) n ≡ (if n == sector.0 then sector.1 else laid_over c sectors n)
laid_behind c [] sector n = refl
laid_behind c (x ∷ sectors) sector n = laid_behind (λ k. if k == x.0 then x.1 else c k) sectors sector n

spelled_behind : (sectors : Sectors) (sector : ℕ × List ℕ)
    → sector_spellings (sectors ++ sector ∷ []) ≡ sector_spellings sectors ++ sector_spelling sector
spelled_behind [] sector = append-nil (sector_spelling sector)
spelled_behind (x ∷ sectors) sector =
    ap (λ r. sector_spelling x ++ r) (spelled_behind sectors sector)
    ∙ sym (joined (sector_spelling x) (sector_spellings sectors) (sector_spelling sector))

are_behind : (sectors : Sectors) (sector : ℕ × List ℕ) → AreSectors sectors → sector.0 < STORE_SECTORS
    → length sector.1 ≡ SECTOR_BYTES → AreSectors (sectors ++ sector ∷ [])
are_behind [] sector are low long = (low, long, tt)
are_behind (x ∷ sectors) sector are low long = (are.0, are.1, are_behind sectors sector are.2 low long)

-- the sectors before this one were spelled
pub record IsSpelledTo (c : Content) (n : ℕ) (bytes : List ℕ) : Type 0 where
  pub sectors : Sectors
  pub spelled : bytes ≡ sector_spellings sectors
  pub are : AreSectors sectors
  pub same : (k : ℕ) → k < n → laid_sectors sectors k ≡ c k
  pub rest : (k : ℕ) → n ≤ k → laid_sectors sectors k ≡ blank_disk k

pub none_spelled : (c : Content) {bytes : List ℕ} → bytes ≡ [] → IsSpelledTo c 0 bytes
none_spelled c none = record {
  sectors = [];
  spelled = none;
  are = tt;
  same = λ k low. absurd (omega (arith, low));
  rest = λ k low. refl;
}

module _ (c : Content) (n : ℕ) {bytes more : List ℕ} (sector : List ℕ) (low : n < STORE_SECTORS)
    (long : length sector ≡ SECTOR_BYTES) (is : sector ≡ c n) (was : IsSpelledTo c n bytes) where
  blank_on : sector ≡ replicate SECTOR_BYTES 0 → more ≡ bytes → IsSpelledTo c (n + 1) more
  blank_on zeros left = record {
    sectors = was.sectors;
    spelled = left ∙ was.spelled;
    are = was.are;
    same = λ k below. elim (cases_lt k n) [
      | inl before ↦ was.same k before
      | inr not_before ↦ (let here : k ≡ n = omega (arith, below, not_before) in
          subst (λ m. laid_sectors was.sectors m ≡ c m) (sym here) (was.rest n (omega arith) ∙ sym zeros ∙ is))
    ];
    rest = λ k behind. was.rest k (omega (arith, behind));
  }

  sector_on : more ≡ bytes ++ sector_spelling (n, sector) → IsSpelledTo c (n + 1) more
  sector_on put = record {
    sectors = was.sectors ++ (n, sector) ∷ [];
    spelled = put ∙ ap (λ l. l ++ sector_spelling (n, sector)) was.spelled
        ∙ sym (spelled_behind was.sectors (n, sector));
    are = are_behind was.sectors (n, sector) was.are low long;
    same = λ k below. laid_behind blank_disk was.sectors (n, sector) k ∙ elim (cases_lt k n) [
      | inl before ↦ chosen_else k n sector (laid_sectors was.sectors k) (λ here. omega (arith, before, here))
          ∙ was.same k before
      | inr not_before ↦ (let here : k ≡ n = omega (arith, below, not_before) in
          subst (λ m. (if m == n then sector else laid_sectors was.sectors m) ≡ c m) (sym here)
          (chosen_here n sector (laid_sectors was.sectors n) ∙ is))
    ];
    rest = λ k behind. laid_behind blank_disk was.sectors (n, sector) k
        ∙ chosen_else k n sector (laid_sectors was.sectors k) (λ here. omega (arith, behind, here))
        ∙ was.rest k (omega (arith, behind));
  }

  pub spelled_on : (sector ≡ replicate SECTOR_BYTES 0) × (more ≡ bytes) ⊎ (more ≡ bytes ++ sector_spelling (n, sector))
      → IsSpelledTo c (n + 1) more
  spelled_on put = elim put [
    | inl blank ↦ blank_on blank.0 blank.1
    | inr on ↦ sector_on on
  ]

pub all_spelled : (c : Content) (n : ℕ) {bytes : List ℕ} → IsSpelledTo c n bytes → STORE_SECTORS ≤ n
    → HasSpelled c bytes
all_spelled c n was all = record {
  sectors = was.sectors;
  spelled = was.spelled;
  are = was.are;
  same = λ k low. was.same k (omega (arith, low, all));
}

-- in so many bytes at most
pub short_on : (n : ℕ) (sector : List ℕ) {bytes more : List ℕ} → length sector ≡ SECTOR_BYTES
    → (sector ≡ replicate SECTOR_BYTES 0) × (more ≡ bytes) ⊎ (more ≡ bytes ++ sector_spelling (n, sector))
    → length bytes ≤ SPELLED * n → length more ≤ SPELLED * (n + 1)
short_on n sector {bytes = bytes} {more = more} long put short = elim put [
  | inl none ↦ (let same = ap length none.1 in omega (arith, same, short))
  | inr on ↦ (let all = ap length on in
      let four : length (number n) ≡ 4 = refl in
      omega (
        arith,
        all,
        short,
        long,
        four,
        length-append (number n) sector,
        length-append bytes
            (sector_spelling (n, sector)),
      ))
]

-- two facts of what returned Ok
pub made : {T E : Type 0} (answer : Result T E) {P R : T → Type 0} {Q : Type 0} → IfOk answer P → OnOk answer Q
    → ((x : T) → P x → Q → R x) → IfOk answer R
made (Ok x) first second both = both x first second
made (Err e) first second both = tt

pub taken_front : (a b : List ℕ) (n : ℕ) → length a ≡ n → take n (a ++ b) ≡ a
taken_front [] b n long = ap (λ m. take m b) (sym long)
taken_front (x ∷ a) b zero long = absurd (omega (arith, long))
taken_front (x ∷ a) b (suc n) long = ap (λ r. x ∷ r) (taken_front a b n (omega (arith, long)))

-- ---- how long they are

pub spelling_long : (sector : ℕ × List ℕ) → length sector.1 ≡ SECTOR_BYTES → length (sector_spelling sector) ≡ SPELLED
spelling_long sector long =
    let four : length (number sector.0) ≡ 4 = refl in
    omega (arith, long, four, length-append (number sector.0) sector.1)

pub sectors_long : (sectors : Sectors) → AreSectors sectors → length (sector_spellings sectors) ≡ SPELLED * length
    sectors
sectors_long [] are = refl
sectors_long (x ∷ sectors) are =
    let more = sectors_long sectors are.2 in
    omega (arith, more, spelling_long x are.1, length-append (sector_spelling x) (sector_spellings sectors))

-- ---- the store that they are

pub copy_shows : {size : ℕ} {to : Desktop} (c : Content) (sectors : Sectors) → AreSectors sectors
    → ((n : ℕ) → n < STORE_SECTORS → laid_sectors sectors n ≡ c n) → Means size to c → IsCopyOf sectors to
copy_shows c sectors are same means = record {
  are = are;
  standing = means.0;
  stands = resized STORE_SECTORS (laid_sectors sectors) means.0 (omega arith)
      (stands_behind c (laid_sectors sectors) means.0 means.1 same);
  is = means.2;
}

-- ---- sectors that are read

-- the bytes begin with a sector
module _ (bytes : List ℕ) (sector : ℕ × List ℕ) (rest front back : List ℕ) (low : sector.0 < STORE_SECTORS)
    (is : bytes ≡ sector_spelling sector ++ rest) (first : front ≡ take 4 bytes) (left : back ≡ drop 4 bytes) where
  pub place_is : (n : ℕ) → n ≡ from_be_bytes w32 front → n ≡ sector.0
  place_is n told = told ∙ ap (from_be_bytes w32) first ∙ ap (λ l. from_be_bytes w32 (take 4 l)) is
      ∙ from_be_bytes-to_be_bytes_4 sector.0 (omega (arith, low))

  pub back_is : back ≡ sector.1 ++ rest
  back_is = left ∙ ap (drop 4) is ∙ ap (drop 4) (joined (number sector.0) sector.1 rest)

-- what is laid once it was written
pub written_over : (m : Moment) (n : ℕ) (held : List ℕ) (sector : ℕ × List ℕ) (sectors : Sectors) (c : Content)
    → c ≡ (written m n held).reads → n ≡ sector.0 → held ≡ sector.1 → (k : ℕ)
    → laid_over c sectors k ≡ laid_over m.reads (sector ∷ sectors) k
written_over m n held sector sectors c is at same k =
    ap (λ r. laid_over r sectors k) is
    ∙ (λ i. laid_over (λ j. if j == at i then same i else m.reads j) sectors k)

-- the sector that comes next
pub record IsNextSector (k : ℕ) (sectors : Sectors) : Type 0 where
  pub sector : ℕ × List ℕ
  pub low : sector.0 < STORE_SECTORS
  pub long : length sector.1 ≡ SECTOR_BYTES
  pub here : drop k sectors ≡ sector ∷ drop (k + 1) sectors

pub next_sector : (k : ℕ) (sectors : Sectors) → AreSectors sectors → k < length sectors → IsNextSector k sectors
next_sector zero [] are low = absurd (omega (arith, low))
next_sector (suc k) [] are low = absurd (omega (arith, low))
next_sector zero (x ∷ sectors) are low = record { sector = x; low = are.0; long = are.1; here = refl }
next_sector (suc k) (x ∷ sectors) are low =
    let next = next_sector k sectors are.2 (omega (arith, low)) in
    let more : suc k + 1 ≡ suc (k + 1) = omega arith in
    record {
      sector = next.sector;
      low = next.low;
      long = next.long;
      here = next.here ∙ ap (λ m. next.sector ∷ drop m (x ∷ sectors)) (sym more);
    }

-- one sector more was laid
pub next_spelled : (bytes left : List ℕ) (place k : ℕ) (sectors : Sectors) (rest : List ℕ) → left ≡ drop place bytes
    → drop place bytes ≡ sector_spellings (drop k sectors) ++ rest → (next : IsNextSector k sectors)
    → left ≡ sector_spelling next.sector ++ (sector_spellings (drop (k + 1) sectors) ++ rest)
next_spelled bytes left place k sectors rest back at next =
    back ∙ at ∙ ap (λ l. sector_spellings l ++ rest) next.here
    ∙ joined (sector_spelling next.sector) (sector_spellings (drop (k + 1) sectors)) rest

pub rest_spelled : (bytes left : List ℕ) (place k : ℕ) (sectors : Sectors) (rest : List ℕ) → left ≡ drop place bytes
    → drop place bytes ≡ sector_spellings (drop k sectors) ++ rest → (next : IsNextSector k sectors)
    → drop (place + SPELLED) bytes ≡ sector_spellings (drop (k + 1) sectors) ++ rest
rest_spelled bytes left place k sectors rest back at next =
    sym (drop_both place SPELLED bytes) ∙ ap (drop SPELLED) (sym back)
    ∙ ap (λ m. drop m left) (sym (spelling_long next.sector next.long))
    ∙ ap (drop (length (sector_spelling next.sector))) (next_spelled bytes left place k sectors rest back at next)
    ∙ dropped_bytes (sector_spelling next.sector) (sector_spellings (drop (k + 1) sectors) ++ rest)

pub none_left : (k : ℕ) (sectors : Sectors) → length sectors ≤ k → drop k sectors ≡ []
none_left zero [] low = refl
none_left (suc k) [] low = refl
none_left zero (x ∷ sectors) low = absurd (omega (arith, low))
none_left (suc k) (x ∷ sectors) low = none_left k sectors (omega (arith, low))

-- ---- the store on a disk on which they were laid

laid_alike : (c c' : Content) → ((n : ℕ) → c n ≡ c' n) → (sectors : Sectors) (n : ℕ)
    → laid_over c sectors n ≡ laid_over c' sectors n
laid_alike c c' same [] n = same n
laid_alike c c' same (x ∷ sectors) n = laid_alike (λ k. if k == x.0 then x.1 else c k)
    (λ k. if k == x.0 then x.1 else c' k) (λ k. ap (λ held. if k == x.0 then x.1 else held) (same k)) sectors n

pub shown_of_copy : {E : Type 0} (e : Ghosts E) {old new : E} (sectors : Sectors) (to : Desktop) → IsCopyOf sectors to
    → IsBlankRoom e old → e.honest new → e.size new ≡ e.size old
    → ((n : ℕ) → (now (e.trail new)).reads n ≡ laid_over (now (e.trail old)).reads sectors n) → IsShownOn e to new
shown_of_copy e {old = old} {new = new} sectors to copy blank honest large laid_there =
    let room : STORE_SECTORS ≤ e.size new = omega (arith, blank.room, large) in
    record {
      honest = honest;
      large = room;
      means = (
        copy.standing,
        resized (e.size new) (now (e.trail new)).reads copy.standing room
            (stands_behind (laid_sectors sectors) (now (e.trail new)).reads copy.standing copy.stands
            (λ n low. laid_there n ∙ laid_alike (now (e.trail old)).reads blank_disk blank.zeros sectors n)),
        copy.is,
      );
    }

-- a sector that was never written
pub zeros_are : zeros ≡ replicate SECTOR_BYTES 0
unfolding zeros
zeros_are = refl

pub some_then : {X : Type 0} {P Q : X → Type 0} (o : Option X) → IsSomeAnd o P → ((x : X) → P x → Q x) → IsSomeAnd o Q
some_then (Some x) has then_is = then_is x has
some_then None has then_is = has

-- of each kind that has a desktop
pub not_copy : (far : Bool) {kind : ℕ} → kind ≡ copy_kind far → kind ≢ MARK_PAGE → kind ≢ FAR_PAGE → ⊥
not_copy false is four five = four is
not_copy true is four five = five is
