-- What a call does to two legs, said of the sectors before their flags. In the first part `a` and `b` are what is known of
-- any disks; in the second they are what is known of the legs, and the twin sees `within flag a` and `within flag b`.
use Rattle.std.proofs.Common.{◌≡◌, ◌==◌, inl, inr, ℕ, ◌<◌, ◌≤◌, nat_lt, List, [], Bool, true, false, if◌then◌else◌, sym, ◌∙◌}
use Rattle.std.proofs.Common.{ap, arith, Result, Ok, Err, OnOk}
use Rattle.std.proofs.lemmas.Bool.{cases_lt}
use Rattle.std.proofs.lemmas.Bool.Decides.{nat_tests}
use Rattle.sector_disk.specs.declared.disk.Disk.{Ghosts}
use Rattle.sector_disk.specs.Trail.{Content, Moment, now, IsCrashImage, Nowhere, Only}
use Rattle.sector_disk.specs.Confined.{IsConfined}
use Rattle.twin_disk.specs.declared.legs.Left.{Left}
use Rattle.twin_disk.specs.declared.legs.Left.TheVariants.{Both, First, Second}
use Rattle.twin_disk.specs.declared.legs.Legs.{Legs}
use Rattle.twin_disk.specs.Bounded.{bounded_content, bounded_moment, within}
use Rattle.twin_disk.specs.Legs.{Calls, Each, HasSettled, HasWritten, IsFewer, IsHonest, OrFlag, Rests, first_now, read_by, second_now}
use Rattle.twin_disk.specs.Legs.{LegsRead, LegsWritten, LegsSynced}
use Rattle.twin_disk.specs.Marks.{OrMark}

module _ {A B : Type 0} (a : Ghosts A) (b : Ghosts B) where
  -- what every call keeps
  pub record Moves (area : ℕ → Type 0) (old new : Legs A B) : Type 0 where
    pub first : IsConfined a.size a.honest a.trail area old.first new.first
    pub second : IsConfined b.size b.honest b.trail area old.second new.second
    pub fewer : IsFewer old.left new.left
    pub rests : Rests old.left old.first new.first old.second new.second

  pub record Reads {E : Type 0} (n : ℕ) (bytes : List ℕ) (result : Result (Unit {0}) E) (old new : Legs A B)
      : Type 0 where
    pub moves : Moves Nowhere old new
    pub bytes_read : OnOk result (IsHonest a b old → bytes ≡ read_by new.left (first_now a b old) (second_now a b old) n)

  pub record Writes {E : Type 0} (n : ℕ) (bytes : List ℕ) (result : Result (Unit {0}) E) (old new : Legs A B)
      : Type 0 where
    pub moves : Moves (Only n) old new
    pub done : OnOk result (Each new.left
        (a.honest old.first → (first_now a b new).reads ≡ (λ k. if k == n then bytes else (first_now a b old).reads k))
        (b.honest old.second → (second_now a b new).reads ≡ (λ k. if k == n then bytes else (second_now a b old).reads k)))

  pub record Syncs {E : Type 0} (result : Result (Unit {0}) E) (old new : Legs A B) : Type 0 where
    pub moves : Moves Nowhere old new
    pub done : OnOk result (Each new.left
        (a.honest old.first → (k : ℕ) → (first_now a b new).pending k ≡ false)
        (b.honest old.second → (k : ℕ) → (second_now a b new).pending k ≡ false))

tests_low : (m n : ℕ) → m < n → nat_lt m n ≡ true
tests_low m n less = grind (arith, nat_tests)

tests_high : (m n : ℕ) → n ≤ m → nat_lt m n ≡ false
tests_high m n more = grind (arith, nat_tests)

tests_other : (k n : ℕ) → n < k → (k == n) ≡ false
tests_other k n less = grind (arith, nat_tests)

-- up to a flag, two contents are the same as far as their sectors before it are
pub bounded_at : (flag n : ℕ) (c : Content) → n < flag → bounded_content flag c n ≡ c n
bounded_at flag n c low = ap (λ b. if b then c n else []) (tests_low n flag low)

past_at : (flag n : ℕ) (c : Content) → flag ≤ n → bounded_content flag c n ≡ []
past_at flag n c high = ap (λ b. if b then c n else []) (tests_high n flag high)

pub bounded_same : (flag n : ℕ) (c c' : Content) → (n < flag → c n ≡ c' n)
    → bounded_content flag c n ≡ bounded_content flag c' n
bounded_same flag n c c' same = elim (cases_lt n flag) [
  | inl low ↦ bounded_at flag n c low ∙ same low ∙ sym (bounded_at flag n c' low)
  | inr high ↦ past_at flag n c high ∙ sym (past_at flag n c' high)
]

pub settled_at : (flag n : ℕ) (p : ℕ → Bool) → n < flag → (if nat_lt n flag then p n else false) ≡ p n
settled_at flag n p low = ap (λ b. if b then p n else false) (tests_low n flag low)

settled_past : (flag n : ℕ) (p : ℕ → Bool) → flag ≤ n → (if nat_lt n flag then p n else false) ≡ false
settled_past flag n p high = ap (λ b. if b then p n else false) (tests_high n flag high)

bounded_settled : (flag n : ℕ) (p p' : ℕ → Bool) → (n < flag → p n ≡ false → p' n ≡ false)
    → (if nat_lt n flag then p n else false) ≡ false → (if nat_lt n flag then p' n else false) ≡ false
bounded_settled flag n p p' on is = elim (cases_lt n flag) [
  | inl low ↦ settled_at flag n p' low ∙ on low (sym (settled_at flag n p low) ∙ is)
  | inr high ↦ settled_past flag n p' high
]

-- a crash image of a leg is, up to its flag, one of what the twin sees of it
pub bounded_image : (flag : ℕ) (m : Moment) (image : Content) → IsCrashImage m image
    → IsCrashImage (bounded_moment flag m) (bounded_content flag image)
bounded_image flag m image is n settled = bounded_same flag n image m.reads
    (λ low. is n (sym (settled_at flag n m.pending low) ∙ settled))

pub confined_within : {D : Type 0} (d : Ghosts D) (flag : ℕ) {area more : ℕ → Type 0} (old new : D)
    → ((n : ℕ) → n < flag → more n → area n) → IsConfined d.size d.honest d.trail more old new
    → IsConfined (within flag d).size (within flag d).honest (within flag d).trail area old new
confined_within d flag old new inside run = record {
  as_large = run.as_large;
  still = run.still;
  already = run.already;
  moments = λ h. let moved = run.moments h in record {
    later = moved.later;
    kept = λ t le. ap (bounded_moment flag) (moved.kept t le);
    reads = λ t above below n out. bounded_same flag n ((d.trail new).at t).reads (now (d.trail old)).reads
        (λ low. moved.reads t above below n (λ at. out (inside n low at)));
    settled = λ t above below n out was. bounded_settled flag n (now (d.trail old)).pending ((d.trail new).at t).pending
        (λ low is. moved.settled t above below n (λ at. out (inside n low at)) is) was;
  };
}

or_flag_in : (l : Left) (flag : ℕ) (area : ℕ → Type 0) (n : ℕ) → n < flag → OrFlag l flag area n → area n
or_flag_in Both flag area n low (inl at) = at
or_flag_in Both flag area n low (inr is) = absurd (omega (arith, low, is))
or_flag_in First flag area n low at = at
or_flag_in Second flag area n low at = at

read_within : (flag n : ℕ) (l : Left) (x y : Moment) → n < flag
    → read_by l (bounded_moment flag x) (bounded_moment flag y) n ≡ read_by l x y n
read_within flag n Both x y low = bounded_at flag n x.reads low
read_within flag n First x y low = bounded_at flag n x.reads low
read_within flag n Second x y low = bounded_at flag n y.reads low

wrote_within : (flag n : ℕ) (bytes : List ℕ) (m m' : Moment) → n < flag → HasWritten flag n bytes m m'
    → (bounded_moment flag m').reads ≡ (λ k. if k == n then bytes else (bounded_moment flag m).reads k)
wrote_within flag n bytes m m' within wrote = λ i k. each k i
  where
    each : (k : ℕ) → bounded_content flag m'.reads k ≡ (if k == n then bytes else bounded_content flag m.reads k)
    each k = elim (cases_lt k flag) [
      | inl low ↦ bounded_at flag k m'.reads low ∙ wrote k low
          ∙ ap (λ r. if k == n then bytes else r) (sym (bounded_at flag k m.reads low))
      | inr high ↦ past_at flag k m'.reads high ∙ sym (past_at flag k m.reads high)
          ∙ sym (ap (λ b. if b then bytes else bounded_content flag m.reads k) (tests_other k n (omega (arith, high, within))))
    ]

settled_within : (flag : ℕ) (m : Moment) → HasSettled flag m → (k : ℕ) → (bounded_moment flag m).pending k ≡ false
settled_within flag m settled k = elim (cases_lt k flag) [
  | inl low ↦ settled_at flag k m.pending low ∙ settled k low
  | inr high ↦ settled_past flag k m.pending high
]

each_to : (l : Left) {P Q P' Q' : Type 0} → (P → P') → (Q → Q') → Each l P Q → Each l P' Q'
each_to Both f g both = (f both.0, g both.1)
each_to First f g it = f it
each_to Second f g it = g it

ok_to : {T E P Q : Type 0} (r : Result T E) → (P → Q) → OnOk r P → OnOk r Q
ok_to (Ok _) f it = f it
ok_to (Err _) f it = tt

-- before the flag a write touches its own sector
before_mark : (flag n k : ℕ) → k < flag → OrMark flag n k → k ≡ n
before_mark flag n k low (inl is) = is
before_mark flag n k low (inr is) = absurd (omega (arith, low, is))

module _ {A B : Type 0} (a : Ghosts A) (b : Ghosts B) (flag : ℕ) where
  seen_in : {E : Type 0} (more area : ℕ → Type 0) → ((k : ℕ) → k < flag → more k → area k) → (result : Result (Unit {0}) E)
      → (old new : Legs A B) → Calls a b flag more result old new → Moves (within flag a) (within flag b) area old new
  seen_in more area inside result old new calls = record {
    first = confined_within a flag old.first new.first (λ k low at. inside k low (or_flag_in old.left flag more k low at)) calls.first;
    second = confined_within b flag old.second new.second (λ k low at. inside k low (or_flag_in old.left flag more k low at))
        calls.second;
    fewer = calls.fewer;
    rests = calls.rests;
  }

  pub calls_seen : {E : Type 0} (area : ℕ → Type 0) (result : Result (Unit {0}) E) (old new : Legs A B)
      → Calls a b flag area result old new → Moves (within flag a) (within flag b) area old new
  calls_seen area result old new calls = seen_in area area (λ k low at. at) result old new calls

  pub read_seen : {E : Type 0} (n : ℕ) (bytes : List ℕ) (result : Result (Unit {0}) E) (old new : Legs A B) → n < flag
      → LegsRead a b flag n bytes result old new → Reads (within flag a) (within flag b) n bytes result old new
  read_seen n bytes result old new low reads = record {
    moves = calls_seen Nowhere result old new reads.calls;
    bytes_read = ok_to result (λ gives h. gives (record { first = h.first; second = h.second })
        ∙ sym (read_within flag n new.left (first_now a b old) (second_now a b old) low)) reads.bytes_read;
  }

  pub write_seen : {E : Type 0} (n : ℕ) (bytes : List ℕ) (result : Result (Unit {0}) E) (old new : Legs A B) → n < flag
      → LegsWritten a b flag n bytes result old new → Writes (within flag a) (within flag b) n bytes result old new
  write_seen n bytes result old new low writes = record {
    moves = seen_in (OrMark flag n) (Only n) (before_mark flag n) result old new writes.calls;
    done = ok_to result (each_to new.left
        (λ did h. wrote_within flag n bytes (first_now a b old) (first_now a b new) low (did h))
        (λ did h. wrote_within flag n bytes (second_now a b old) (second_now a b new) low (did h))) writes.done;
  }

  pub sync_seen : {E : Type 0} (result : Result (Unit {0}) E) (old new : Legs A B)
      → LegsSynced a b flag result old new → Syncs (within flag a) (within flag b) result old new
  sync_seen result old new syncs = record {
    moves = calls_seen Nowhere result old new syncs.calls;
    done = ok_to result (each_to new.left
        (λ did h. settled_within flag (first_now a b new) (did h))
        (λ did h. settled_within flag (second_now a b new) (did h))) syncs.done;
  }
