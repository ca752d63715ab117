-- What two legs are as one disk: its moments.
use Rattle.std.specs.Prelude.{◌≡◌, ◌≢◌, ◌==◌, ◌||◌, ◌≤◌, ◌<◌, nat_lt, ℕ, zero, suc, List, [], ◌∷◌, length, Bool, true, false, if◌then◌else◌, Result, OnOk, OnErr}
use Rattle.std.specs.declared.option.Option.{Option}
use Rattle.std.specs.declared.option.Option.TheVariants.{None, Some}
use Rattle.sector_disk.specs.declared.disk.Disk.{Ghosts}
use Rattle.sector_disk.specs.Trail.{Moment, Trail, now}
use Rattle.twin_disk.specs.declared.legs.Left.{Left}
use Rattle.twin_disk.specs.declared.legs.Left.TheVariants.{Both, First, Second}
use Rattle.twin_disk.specs.declared.legs.Legs.{Legs}
use Rattle.twin_disk.specs.Flags.{ShowsFlag}
use Rattle.twin_disk.specs.Legs.{first_now, second_now, reads_of, AllFailed, DropsFailed, IsFewer, Rests}

-- what is pending after a sector was written, or all was settled
abbrev pub pending_after : Option ℕ → (ℕ → Bool) → ℕ → Bool
pending_after None pending = λ _. false
pending_after (Some n) pending = λ k. if k == n then true else pending k

module _ {A B : Type 0} (a : Ghosts A) (b : Ghosts B) where
  -- what is pending of either leg at the start
  abbrev pub pending_first : List (Legs A B) → ℕ → Bool
  pending_first [] = λ _. false
  pending_first (l ∷ _) = λ n. (first_now a b l).pending n || (second_now a b l).pending n

  -- what is pending after these calls
  abbrev pub pending_by : (ℕ → Bool) → List (Legs A B) → ℕ → Bool
  pending_by pending [] = pending
  pending_by pending (l ∷ ls) = pending_by (pending_after l.mark pending) ls

  abbrev pub twin_moment : (ℕ → Bool) → Legs A B → Moment
  twin_moment pending l = record { reads = reads_of a b l; pending = pending }

  -- moment t: before call t, and at last as the legs are now
  abbrev pub moment_at : (ℕ → Bool) → List (Legs A B) → Legs A B → ℕ → Moment
  moment_at pending [] l t = twin_moment pending l
  moment_at pending (x ∷ xs) l zero = twin_moment pending x
  moment_at pending (x ∷ xs) l (suc t) = moment_at (pending_after x.mark pending) xs l t

  -- the moments of a twin whose legs were so at the start, at each call that wrote or settled, and now
  abbrev pub twin_trail : List (Legs A B) → List (Legs A B) → Legs A B → Trail
  twin_trail start calls l = record {
    clock = length calls;
    at = moment_at (pending_first start) calls l;
  }

  -- what is pending now
  abbrev pub pending_now : List (Legs A B) → List (Legs A B) → ℕ → Bool
  pending_now start calls = pending_by (pending_first start) calls

  -- what is known of honest legs between calls
  pub record Agrees (lost : Bool) (pending : ℕ → Bool) (l : Legs A B) : Type 0 where
    -- legs in use read the same, and of settled sectors also if none is left
    pub same : lost ≡ false → l.left ≡ Both → (first_now a b l).reads ≡ (second_now a b l).reads
    pub same_settled : l.left ≡ Both → (n : ℕ) → pending n ≡ false
        → (second_now a b l).reads n ≡ (first_now a b l).reads n
    -- what isn't pending is settled in each leg in use
    pub first : l.left ≢ Second → (n : ℕ) → pending n ≡ false → (first_now a b l).pending n ≡ false
    pub second : l.left ≢ First → (n : ℕ) → pending n ≡ false → (second_now a b l).pending n ≡ false

-- What is known of the flags of honest legs between calls: that of a leg that is alone in use says so, and each other one
-- says *in pair*. Where no leg is left, one of both may say anything.
module _ {A B : Type 0} (a : Ghosts A) (b : Ghosts B) (flag : ℕ) where
  pub record IsFlagged (lost : Bool) (l : Legs A B) : Type 0 where
    pub whole : lost ≡ false → l.left ≡ Both
        → ShowsFlag flag false (first_now a b l) × ShowsFlag flag false (second_now a b l)
    pub one : l.left ≡ Both → ¬ ShowsFlag flag false (first_now a b l) → ShowsFlag flag false
        (second_now a b l)
    pub first : l.left ≡ First → ShowsFlag flag true (first_now a b l) × ShowsFlag flag false
        (second_now a b l)
    pub second : l.left ≡ Second → ShowsFlag flag false (first_now a b l) × ShowsFlag flag true
        (second_now a b l)

-- How a call ends: it is a fault just where no leg is left.
module _ {A B : Type 0} (a : Ghosts A) (b : Ghosts B) where
  pub record TwinEnds {E : Type 0} (result : Result (Unit {0}) E) (lost lost' : Bool)
      (old new : Legs A B) : Type 0 where
    pub going : OnOk result ((lost ≡ false) × (lost' ≡ false))
    pub gone : OnErr result (lost' ≡ true)
    -- if a leg was left before, each one in use failed in this call
    pub failed : OnErr result (lost ≡ false → AllFailed a b old new)
    -- a leg is dropped for a call that it failed, and never comes back into use
    pub cause : DropsFailed a b old new
    pub fewer : IsFewer old.left new.left
    -- nothing is asked of a leg that was dropped, nor of either once none is left
    pub rests : Rests old.left old.first new.first old.second new.second
    pub over : lost ≡ true → (new.first ≡ old.first) × (new.second ≡ old.second)

-- legs with this to be recorded of the next call
abbrev pub with_mark : {A B : Type 0} → Option ℕ → Legs A B → Legs A B
with_mark mark l = record { first = l.first; second = l.second; left = l.left; mark = mark }

-- A moment within another one: what is settled in the other one is settled in it, and reads the same. So each crash image
-- of it is one of the other.
pub record IsInside (inner outer : Moment) : Type 0 where
  pub settled : (n : ℕ) → outer.pending n ≡ false → inner.pending n ≡ false
  pub reads : (n : ℕ) → outer.pending n ≡ false → inner.reads n ≡ outer.reads n

-- At which of its moments a twin was when a leg was at its moment u: how many of the calls had been noted before that,
-- where `clock` is the leg's present moment when a call was noted.
abbrev pub moment_when : {L : Type 0} → (L → ℕ) → List L → ℕ → ℕ
moment_when clock [] u = 0
moment_when clock (x ∷ xs) u = if nat_lt (clock x) u then suc (moment_when clock xs u) else 0

abbrev pub is_both : Left → Bool
is_both Both = true
is_both First = false
is_both Second = false

-- at which of its moments a twin was when a leg was dropped: how many calls were noted while both were in use
abbrev pub moment_dropped : {A B : Type 0} → List (Legs A B) → ℕ
moment_dropped [] = 0
moment_dropped (x ∷ xs) = if is_both x.left then suc (moment_dropped xs) else 0

-- which was a leg's moment when the twin was made
abbrev pub start_clock : {L : Type 0} → (L → ℕ) → List L → ℕ
start_clock clock [] = 0
start_clock clock (x ∷ _) = clock x

-- a moment of a leg that isn't before the twin's first one
abbrev pub SinceStart : {L : Type 0} → (L → ℕ) → List L → ℕ → Type 0
SinceStart clock xs u = start_clock clock xs ≤ u

module _ {A B : Type 0} (a : Ghosts A) (b : Ghosts B) {D : Type 0} (d : Ghosts D) (get : Legs A B
    → D) (other : Left) where
  abbrev pub leg_clock : Legs A B → ℕ
  leg_clock l = (d.trail (get l)).clock

  -- what is known of all moments of an honest leg, which is not in use where only the other one is left
  pub record IsLegFollowed (start calls : List (Legs A B)) (l : Legs A B) : Type 0 where
    pub begun : SinceStart leg_clock start (leg_clock l)
    pub beyond : (u : ℕ) → leg_clock l < u → moment_when leg_clock calls u ≡ length calls
    -- each of them is within the twin's at that time
    pub each : (u : ℕ) → SinceStart leg_clock start u → u ≤ leg_clock l
        → IsInside ((d.trail (get l)).at u)
        (moment_at a b (pending_first a b start) calls l (moment_when leg_clock calls u))
    pub both : l.left ≡ Both → moment_dropped calls ≡ length calls
    -- a leg that was dropped is within what the twin was then
    pub dropped : l.left ≡ other → IsInside (now (d.trail (get l)))
        (moment_at a b (pending_first a b start) calls l (moment_dropped calls))
