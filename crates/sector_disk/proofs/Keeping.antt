-- What each change of what is kept of the sectors leaves of what they hold.
use Rattle.std.proofs.Common.{◌≡◌, ◌≢◌, inl, inr, ℕ, zero, suc, List, [], ◌∷◌, ◌++◌, length, Bool, if◌then◌else◌}
use Rattle.std.proofs.Common.{true, false, refl, sym, ◌∙◌, ap, arith, ◌==◌, Result, Ok, Err, OnErr}
use Rattle.std.specs.declared.alloc.Global.{Global}
use Rattle.std.specs.declared.option.Option.{Option}
use Rattle.std.specs.declared.option.Option.TheVariants.{None, Some}
use Rattle.std.specs.List.{slice_get}
use Rattle.std.specs.Option.{is_some, unwrap_or}
use Rattle.std.specs.Ordering.{nat_cmp}
use Rattle.std.specs.BTreeMap.{BTreeMap, get, is_at, Updates, IsUnchanged, IsEmpty}
use Rattle.std.specs.Map.{lookup}
use Rattle.std.proofs.lemmas.Bool.{cases_eq}
use Rattle.std.proofs.lemmas.Bool.Decides.{nat_tests}
use Rattle.sector_disk.specs.declared.sectors.KnownSector.{KnownSector}
use Rattle.sector_disk.specs.declared.sectors.Sectors.{Sectors}
use Rattle.sector_disk.specs.Trail.{written, after_sync}
use Rattle.sector_disk.specs.Memory.{zero_moment, zeros}
use Rattle.sector_disk.specs.Settled.{of_sector, settled_place}
use Rattle.sector_disk.specs.Sectors.{latest_bytes, settled_in, settled_of, moment_of, synced_content}
use Rattle.sector_disk.specs.Sectors.{IsAsBefore, IsSectorWritten}

abbrev Map : Type 0
Map = BTreeMap ℕ KnownSector

abbrev Kept : Type 0
Kept = List (ℕ × List ℕ)

none_in : (m : Map) → IsEmpty m → (n : ℕ) → get nat_cmp m n ≡ None
none_in m empty n = ap (lookup (is_at (nat_cmp n))) empty

same_in : (old new : Map) → IsUnchanged old new → (n : ℕ) → get nat_cmp new n ≡ get nat_cmp old n
same_in old new same n = ap (lookup (is_at (nat_cmp n))) same

elsewhere : (k n : ℕ) → k ≢ n → is_at (nat_cmp n) k ≡ false
elsewhere k n other = grind (arith, nat_tests)

tests_same : (k n : ℕ) → k ≡ n → (k == n) ≡ true
tests_same k n same = grind (arith, nat_tests)

tests_other : (k n : ℕ) → k ≢ n → (k == n) ≡ false
tests_other k n other = grind (arith, nat_tests)

-- one more is kept at the next place, and all others stay
next_place : (kept : Kept) (e : ℕ × List ℕ) → slice_get (kept ++ e ∷ []) (length kept) ≡ Some e
next_place [] e = refl
next_place (x ∷ kept) e = next_place kept e

no_place : (kept : Kept) → slice_get kept (length kept) ≡ None
no_place [] = refl
no_place (x ∷ kept) = no_place kept

other_place : (kept : Kept) (e : ℕ × List ℕ) (p : ℕ) → p ≢ length kept → slice_get (kept ++ e ∷ []) p ≡ slice_get kept p
other_place [] e zero other = absurd (other refl)
other_place [] e (suc p) other = refl
other_place (x ∷ kept) e zero other = refl
other_place (x ∷ kept) e (suc p) other = other_place kept e p (λ same. other (ap suc same))

pub kept_next : (kept : Kept) (n : ℕ) (bytes : List ℕ) → settled_place (kept ++ (n, bytes) ∷ []) n (length kept) ≡ Some bytes
unfolding settled_place
kept_next kept n bytes = ap (of_sector n) (next_place kept (n, bytes))
    ∙ ap (λ b. if b then Some bytes else None) (tests_same n n refl)

none_past : (kept : Kept) (n : ℕ) → settled_place kept n (length kept) ≡ None
unfolding settled_place
none_past kept n = ap (of_sector n) (no_place kept)

kept_others : (kept : Kept) (n : ℕ) (bytes : List ℕ) (k p : ℕ) → k ≢ n
    → settled_place (kept ++ (n, bytes) ∷ []) k p ≡ settled_place kept k p
unfolding settled_place
kept_others kept n bytes k p other = elim (cases_eq p (length kept)) [
  | inl here ↦ ap (λ q. of_sector k (slice_get (kept ++ (n, bytes) ∷ []) q)) here
      ∙ ap (of_sector k) (next_place kept (n, bytes))
      ∙ ap (λ b. if b then Some bytes else None) (tests_other n k (λ same. other (sym same)))
      ∙ sym (ap (λ q. of_sector k (slice_get kept q)) here ∙ ap (of_sector k) (no_place kept))
  | inr apart ↦ ap (of_sector k) (other_place kept (n, bytes) p apart)
]

-- all is as it was where the bytes are and what is kept is
all_before : (old new : Sectors)
    → ((k : ℕ) → latest_bytes (get nat_cmp new.latest k) ≡ latest_bytes (get nat_cmp old.latest k))
    → ((k : ℕ) → settled_in new.settled k (get nat_cmp new.latest k) ≡ settled_in old.settled k (get nat_cmp old.latest k))
    → IsAsBefore old new
unfolding moment_of synced_content settled_of
all_before old new reads rest = record {
  reads = λ i. record { reads = λ k. reads k i; pending = λ k. is_some (rest k i) };
  settled = λ i k. unwrap_or (rest k i) (reads k i);
}

-- no memory for the bytes
pub no_room : (old : Sectors) (latest : Map) → IsUnchanged old.latest latest
    → IsAsBefore old (record { alloc = old.alloc; latest = latest; settled = old.settled })
no_room old latest same = all_before old (record { alloc = old.alloc; latest = latest; settled = old.settled })
    (λ k. ap latest_bytes (same_in old.latest latest same k))
    (λ k. ap (settled_in old.settled k) (same_in old.latest latest same k))

-- no memory for what was settled, where a sector was put where it stands already
pub no_room_settled : (old new : Sectors) (n : ℕ) (sector : KnownSector) → get nat_cmp old.latest n ≡ Some sector
    → new.settled ≡ old.settled → Updates nat_cmp old.latest new.latest n (Some sector) → IsAsBefore old new
no_room_settled old new n sector was same put = all_before old new (λ k. ap latest_bytes (entry k))
    (λ k. ap (λ kept. settled_in kept k (get nat_cmp new.latest k)) same ∙ ap (settled_in old.settled k) (entry k))
  where
    entry : (k : ℕ) → get nat_cmp new.latest k ≡ get nat_cmp old.latest k
    entry k = elim (cases_eq k n) [
      | inl here ↦ ap (get nat_cmp new.latest) here ∙ put.1 ∙ sym was ∙ ap (get nat_cmp old.latest) (sym here)
      | inr other ↦ put.2 k (elsewhere k n other)
    ]

pub in_any_case : {T E : Type 0} (result : Result T E) (P : Type 0) → P → OnErr result P
in_any_case (Ok _) P holds = tt
in_any_case (Err _) P holds = holds

-- one after the other
pub still_before : {old mid new : Sectors} → IsAsBefore old mid → IsAsBefore mid new → IsAsBefore old new
still_before first last = record {
  reads = last.reads ∙ first.reads;
  settled = last.settled ∙ first.settled;
}

none_of : (o : Option KnownSector) → is_some o ≡ false → o ≡ None
none_of None is = refl
none_of (Some x) is = absurd (cc)

-- a sector that has no bytes here reads as zeros
pub unwritten : (s : Sectors) (n : ℕ) → is_some (get nat_cmp s.latest n) ≡ false → (moment_of s).reads n ≡ zeros
unfolding moment_of
unwritten s n missing = ap latest_bytes (none_of (get nat_cmp s.latest n) missing)

-- zeros put where no bytes were, as a sector that isn't pending
pub made_room : (old : Sectors) (latest : Map) (n : ℕ) (sector : KnownSector) → sector.bytes ≡ zeros
    → sector.place ≡ length old.settled → is_some (get nat_cmp old.latest n) ≡ false
    → Updates nat_cmp old.latest latest n (Some sector)
    → IsAsBefore old (record { alloc = old.alloc; latest = latest; settled = old.settled })
made_room old latest n sector are past missing put =
    all_before old (record { alloc = old.alloc; latest = latest; settled = old.settled }) reads rest
  where
    none : get nat_cmp old.latest n ≡ None
    none = none_of (get nat_cmp old.latest n) missing

    reads : (k : ℕ) → latest_bytes (get nat_cmp latest k) ≡ latest_bytes (get nat_cmp old.latest k)
    reads k = elim (cases_eq k n) [
      | inl here ↦ ap (λ k. latest_bytes (get nat_cmp latest k)) here ∙ ap latest_bytes put.1 ∙ are
          ∙ sym (ap (λ k. latest_bytes (get nat_cmp old.latest k)) here ∙ ap latest_bytes none)
      | inr other ↦ ap latest_bytes (put.2 k (elsewhere k n other))
    ]

    rest : (k : ℕ) → settled_in old.settled k (get nat_cmp latest k) ≡ settled_in old.settled k (get nat_cmp old.latest k)
    rest k = elim (cases_eq k n) [
      | inl here ↦ ap (λ k. settled_in old.settled k (get nat_cmp latest k)) here ∙ ap (settled_in old.settled n) put.1
          ∙ ap (settled_place old.settled n) past ∙ none_past old.settled n
          ∙ sym (ap (λ k. settled_in old.settled k (get nat_cmp old.latest k)) here ∙ ap (settled_in old.settled n) none)
      | inr other ↦ ap (settled_in old.settled k) (put.2 k (elsewhere k n other))
    ]

-- the write of a sector that has room: its old bytes are kept as those of the last sync, where none were kept yet
module _ (old new : Sectors) (n : ℕ) (bytes : List ℕ) (before after : KnownSector)
    (was : get nat_cmp old.latest n ≡ Some before)
    (put : Updates nat_cmp old.latest new.latest n (Some after))
    (is : after.bytes ≡ bytes)
    (kept : is_some (settled_place old.settled n before.place) ≡ true
    → (new.settled ≡ old.settled) × (after.place ≡ before.place))
    (keeps : is_some (settled_place old.settled n before.place) ≡ false
    → (new.settled ≡ old.settled ++ (n, before.bytes) ∷ []) × (after.place ≡ length old.settled)) where
  abbrev kept_before : Option (List ℕ)
  kept_before = settled_place old.settled n before.place

  first_kept : (o : Option (List ℕ)) (d : List ℕ) → is_some o ≡ true → o ≡ Some (unwrap_or o d)
  first_kept None d none = absurd (cc)
  first_kept (Some x) d some = refl

  first_not : (o : Option (List ℕ)) (d : List ℕ) → is_some o ≡ false → d ≡ unwrap_or o d
  first_not None d none = refl
  first_not (Some x) d some = absurd (cc)

  -- of the sector
  here_by : (b : Bool) → is_some kept_before ≡ b
      → settled_place new.settled n after.place ≡ Some (unwrap_or kept_before before.bytes)
  here_by true pends = ap (λ l. settled_place l n after.place) (kept pends).0 ∙ ap (settled_place old.settled n) (kept pends).1
      ∙ first_kept kept_before before.bytes pends
  here_by false quiet = ap (λ l. settled_place l n after.place) (keeps quiet).0
      ∙ ap (settled_place (old.settled ++ (n, before.bytes) ∷ []) n) (keeps quiet).1
      ∙ kept_next old.settled n before.bytes ∙ ap (λ b. Some b) (first_not kept_before before.bytes quiet)

  -- of another one
  there_by : (b : Bool) → is_some kept_before ≡ b → (k : ℕ) → k ≢ n → (o : Option KnownSector)
      → settled_in new.settled k o ≡ settled_in old.settled k o
  there_by true pends k other o = ap (λ l. settled_in l k o) (kept pends).0
  there_by false quiet k other o = ap (λ l. settled_in l k o) (keeps quiet).0 ∙ each o
    where
      each : (o : Option KnownSector) → settled_in (old.settled ++ (n, before.bytes) ∷ []) k o ≡ settled_in old.settled k o
      each None = refl
      each (Some sector) = kept_others old.settled n before.bytes k sector.place other

  reads : (k : ℕ) → latest_bytes (get nat_cmp new.latest k) ≡ (if k == n then bytes else latest_bytes (get nat_cmp old.latest k))
  reads k = elim (cases_eq k n) [
    | inl here ↦ ap (λ k. latest_bytes (get nat_cmp new.latest k)) here ∙ ap latest_bytes put.1 ∙ is
        ∙ sym (ap (λ b. if b then bytes else latest_bytes (get nat_cmp old.latest k)) (tests_same k n here))
    | inr other ↦ ap latest_bytes (put.2 k (elsewhere k n other))
        ∙ sym (ap (λ b. if b then bytes else latest_bytes (get nat_cmp old.latest k)) (tests_other k n other))
  ]

  of_here : (k : ℕ) → k ≡ n → settled_in new.settled k (get nat_cmp new.latest k)
      ≡ Some (unwrap_or kept_before before.bytes)
  of_here k here = ap (λ k. settled_in new.settled k (get nat_cmp new.latest k)) here ∙ ap (settled_in new.settled n) put.1
      ∙ here_by (is_some kept_before) refl

  of_there : (k : ℕ) → k ≢ n → settled_in new.settled k (get nat_cmp new.latest k)
      ≡ settled_in old.settled k (get nat_cmp old.latest k)
  of_there k other = there_by (is_some kept_before) refl k other (get nat_cmp new.latest k)
      ∙ ap (settled_in old.settled k) (put.2 k (elsewhere k n other))

  pending : (k : ℕ) → is_some (settled_in new.settled k (get nat_cmp new.latest k))
      ≡ (if k == n then true else is_some (settled_in old.settled k (get nat_cmp old.latest k)))
  pending k = elim (cases_eq k n) [
    | inl here ↦ ap is_some (of_here k here) ∙ sym (ap
        (λ b. if b then true else is_some (settled_in old.settled k (get nat_cmp old.latest k))) (tests_same k n here))
    | inr other ↦ ap is_some (of_there k other) ∙ sym (ap
        (λ b. if b then true else is_some (settled_in old.settled k (get nat_cmp old.latest k))) (tests_other k n other))
  ]

  held : (k : ℕ) → unwrap_or (settled_in new.settled k (get nat_cmp new.latest k)) (latest_bytes (get nat_cmp new.latest k))
      ≡ unwrap_or (settled_in old.settled k (get nat_cmp old.latest k)) (latest_bytes (get nat_cmp old.latest k))
  held k = elim (cases_eq k n) [
    | inl here ↦ ap (λ o. unwrap_or o (latest_bytes (get nat_cmp new.latest k))) (of_here k here)
        ∙ sym (ap (λ k. unwrap_or (settled_in old.settled k (get nat_cmp old.latest k)) (latest_bytes (get nat_cmp old.latest k)))
        here ∙ ap (λ o. unwrap_or (settled_in old.settled n o) (latest_bytes o)) was)
    | inr other ↦ ap (λ o. unwrap_or o (latest_bytes (get nat_cmp new.latest k))) (of_there k other)
        ∙ ap (λ o. unwrap_or (settled_in old.settled k (get nat_cmp old.latest k)) (latest_bytes o))
        (put.2 k (elsewhere k n other))
  ]

  pub overwritten : IsSectorWritten old new n bytes
  unfolding moment_of synced_content settled_of
  overwritten = record {
    reads = λ i. record { reads = λ k. reads k i; pending = λ k. pending k i };
    settled = λ i k. held k i;
  }

-- a write after calls that left all as it was
pub written_after : {old mid new : Sectors} {n : ℕ} {bytes : List ℕ} → IsAsBefore old mid → IsSectorWritten mid new n bytes
    → IsSectorWritten old new n bytes
written_after {n = n} {bytes = bytes} same write = record {
  reads = write.reads ∙ ap (λ m. written m n bytes) same.reads;
  settled = write.settled ∙ same.settled;
}

-- where nothing is kept no sector is pending
none_kept : (n : ℕ) (o : Option KnownSector) → settled_in [] n o ≡ None
unfolding settled_place
none_kept n None = refl
none_kept n (Some sector) = refl

-- after a sync, where nothing is kept beside what is read
pub all_settled : (old : Sectors) (kept : Kept) → kept ≡ []
    → moment_of (record { alloc = old.alloc; latest = old.latest; settled = kept }) ≡ after_sync (moment_of old)
unfolding moment_of settled_of
all_settled old kept empty = λ i. record {
  reads = λ k. latest_bytes (get nat_cmp old.latest k);
  pending = λ k. is_some ((ap (λ l. settled_in l k (get nat_cmp old.latest k)) empty
      ∙ none_kept k (get nat_cmp old.latest k)) i);
}

pub settled_reads : (old : Sectors) (kept : Kept) → kept ≡ []
    → synced_content (record { alloc = old.alloc; latest = old.latest; settled = kept }) ≡ (moment_of old).reads
unfolding moment_of synced_content settled_of
settled_reads old kept empty = λ i k. unwrap_or ((ap (λ l. settled_in l k (get nat_cmp old.latest k)) empty
    ∙ none_kept k (get nat_cmp old.latest k)) i) (latest_bytes (get nat_cmp old.latest k))

-- before the first call
pub none_seen : (alloc : Global) (latest : Map) (kept : Kept) → IsEmpty latest
    → moment_of (record { alloc = alloc; latest = latest; settled = kept }) ≡ zero_moment
unfolding moment_of settled_of
none_seen alloc latest kept empty = λ i. record {
  reads = λ k. latest_bytes (none_in latest empty k i);
  pending = λ k. is_some (settled_in kept k (none_in latest empty k i));
}

pub none_held : (alloc : Global) (latest : Map) (kept : Kept) → IsEmpty latest
    → synced_content (record { alloc = alloc; latest = latest; settled = kept }) ≡ zero_moment.reads
unfolding synced_content settled_of
none_held alloc latest kept empty = λ i k. unwrap_or (settled_in kept k (none_in latest empty k i))
    (latest_bytes (none_in latest empty k i))
