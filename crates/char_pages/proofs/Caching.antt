-- A cache of sectors: what is found in it, what a call puts into it, and writes to other sectors.
use Rattle.std.proofs.Common.{◌≡◌, ℕ, ◌+◌, ◌<◌, ◌≤◌, nat_eq, List, [], ◌∷◌, slice_get, Result, OnOk, OnErr, Ok, Err}
use Rattle.std.proofs.Common.{Some, Contains, inl, inr, sym, ◌∙◌, ap, subst, arith}
use Rattle.std.proofs.lemmas.Bool.{eqb-true}
use Rattle.std.specs.Map.{lookup}
use Rattle.lru.specs.LruCache.{LruCache, lru_cache, promoted, put_entries}
use Rattle.lru.proofs.CallerLemmas.{Contains-lookup, Contains-promoted, Contains-put_entries}
use Rattle.lru.proofs.Splits.{Contains-head, Contains-nil}
use Rattle.sector_disk.specs.Trail.{Content}
use Rattle.char_pages.specs.Cached.{AreTrue, AreBelow, AddsNone, AddsSector}

-- the newest entry is one of them
pub first_entry : (cached : List (ℕ × List ℕ)) (entry : ℕ × List ℕ) → slice_get cached 0 ≡ Some entry
    → Contains cached entry
first_entry [] entry is = cc
first_entry (f ∷ cached) entry is =
    let same : f ≡ entry = cc in
    subst (Contains (f ∷ cached)) same (Contains-head f cached)

-- what is found under a number is what the disk reads there
pub found_is_true : {c : Content} {cached : List (ℕ × List ℕ)} {n : ℕ} {bytes : List ℕ} → AreTrue c cached
    → lookup (nat_eq n) cached ≡ Some bytes → bytes ≡ c n
found_is_true {c = c} {cached = cached} {n = n} {bytes = bytes} true_of found =
    let at = Contains-lookup (nat_eq n) cached bytes found in
    true_of.is (at.0, bytes) at.1 ∙ ap c (sym (eqb-true n at.0 at.2))

-- an entry that becomes the newest
pub promoting_adds : {honest : Type 0} {c : Content} {n : ℕ} {old new : LruCache ℕ (List ℕ)}
    → new ≡ lru_cache (promoted (nat_eq n) old.entries) old.cap → AddsSector honest c n old.entries new.entries
promoting_adds {honest = honest} {c = c} {n = n} {old = old} is =
    subst (λ (l : LruCache ℕ (List ℕ)). AddsSector honest c n old.entries l.entries) (sym is)
    (record { each = λ entry there. inl (Contains-promoted (nat_eq n) old.entries entry there) })

pub promoting_none : (n : ℕ) {old new : LruCache ℕ (List ℕ)}
    → new ≡ lru_cache (promoted (nat_eq n) old.entries) old.cap → AddsNone old.entries new.entries
promoting_none n {old = old} is =
    subst (λ (l : LruCache ℕ (List ℕ)). AddsNone old.entries l.entries) (sym is)
    (record { each = Contains-promoted (nat_eq n) old.entries })

pub still_true : {c : Content} {old new : List (ℕ × List ℕ)} → AddsNone old new → AreTrue c old → AreTrue c new
still_true none was = record { is = λ entry there. was.is entry (none.each entry there) }

pub none_adds : {honest : Type 0} {c : Content} {n : ℕ} {old new : List (ℕ × List ℕ)} → AddsNone old new
    → AddsSector honest c n old new
none_adds none = record { each = λ entry there. inl (none.each entry there) }

put_adds : (honest : Type 0) (c : Content) (n : ℕ) (old : LruCache ℕ (List ℕ)) (bytes : List ℕ)
    → (honest → bytes ≡ c n) → AddsSector honest c n old.entries (put_entries nat_eq old n bytes)
put_adds honest c n old bytes is = record {
  each = λ entry there. elim (Contains-put_entries nat_eq old n bytes entry there) [
    | inl was ↦ inl was
    | inr put ↦ inr (
      elim put.1 [
        | inl same ↦ same
        | inr equal ↦ sym (eqb-true n entry.0 equal.2)
      ],
      λ h. put.0 ∙ is h,
    )
  ];
}

-- a sector that was read is put in; where that is refused, the cache is as it was
pub putting_adds : {honest : Type 0} {c : Content} {n : ℕ} {T E : Type 0} (old new : LruCache ℕ (List ℕ))
    {bytes : List ℕ} (result : Result T E) → (honest → bytes ≡ c n)
    → OnOk result (new ≡ lru_cache (put_entries nat_eq old n bytes) old.cap) → OnErr result (new ≡ old)
    → AddsSector honest c n old.entries new.entries
putting_adds {honest = honest} {c = c} {n = n} old new {bytes = bytes} (Ok t) is ok err =
    subst (λ (l : LruCache ℕ (List ℕ)). AddsSector honest c n old.entries l.entries) (sym ok)
    (put_adds honest c n old bytes is)
putting_adds {honest = honest} {c = c} {n = n} old new (Err e) is ok err =
    subst (λ (l : LruCache ℕ (List ℕ)). AddsSector honest c n old.entries l.entries) (sym err)
    (record { each = λ entry there. inl there })

-- after a call that added none
pub adds_after : {honest : Type 0} {c : Content} {n : ℕ} {old mid new : List (ℕ × List ℕ)} → AddsNone old mid
    → AddsSector honest c n mid new → AddsSector honest c n old new
adds_after none adds = record {
  each = λ entry there. elim (adds.each entry there) [
    | inl was ↦ inl (none.each entry was)
    | inr put ↦ inr put
  ];
}

-- with one more, each is still what the disk reads
pub true_with : {honest : Type 0} {c : Content} {n : ℕ} {old new : List (ℕ × List ℕ)} → AddsSector honest c n old new
    → honest → AreTrue c old → AreTrue c new
true_with {c = c} adds h was = record {
  is = λ entry there. elim (adds.each entry there) [
    | inl before ↦ was.is entry before
    | inr here ↦ here.1 h ∙ ap c (sym here.0)
  ];
}

-- and each is still one of so many sectors
pub below_with : {honest : Type 0} {c : Content} {n base many : ℕ} {old new : List (ℕ × List ℕ)}
    → AddsSector honest c n old new → base ≤ n → n < base + many → AreBelow base many old → AreBelow base many new
below_with {base = base} {many = many} adds from to was = record {
  from = λ entry there. elim (adds.each entry there) [
    | inl before ↦ was.from entry before
    | inr here ↦ subst (λ k. base ≤ k) (sym here.0) from
  ];
  to = λ entry there. elim (adds.each entry there) [
    | inl before ↦ was.to entry before
    | inr here ↦ subst (λ k. k < base + many) (sym here.0) to
  ];
}

-- in an empty cache
pub none_below : (base many : ℕ) → AreBelow base many []
none_below base many = record {
  from = λ entry there. absurd (Contains-nil entry there);
  to = λ entry there. absurd (Contains-nil entry there);
}

pub none_true : (c : Content) → AreTrue c []
none_true c = record { is = λ entry there. absurd (Contains-nil entry there) }

-- all of it is true of another content too, where those sectors read the same
pub true_on : {c c' : Content} {base many : ℕ} {cached : List (ℕ × List ℕ)} → AreBelow base many cached
    → ((n : ℕ) → base ≤ n → n < base + many → c' n ≡ c n) → AreTrue c cached → AreTrue c' cached
true_on below same was = record {
  is = λ entry there. was.is entry there ∙ sym (same entry.0 (below.from entry there) (below.to entry there));
}

-- of more sectors they are some as well, and of others where there were none
pub below_moved : {base many base' more : ℕ} {cached : List (ℕ × List ℕ)} → many ≤ more → (0 < many → base' ≡ base)
    → AreBelow base many cached → AreBelow base' more cached
below_moved {base = base} {many = many} {base' = base'} {more = more} le same was = record {
  from = λ entry there. let here = one (was.from entry there) (was.to entry there) in
      omega (arith, here, was.from entry there);
  to = λ entry there. let here = one (was.from entry there) (was.to entry there) in
      omega (arith, here, le, was.to entry there);
} where
  one : {n : ℕ} → base ≤ n → n < base + many → base' ≡ base
  one low high = same (omega (arith, low, high))
