-- What a call does to two legs, whose flags stand in the sector `flag`.
use Rattle.std.specs.Prelude.{◌≡◌, ◌⊎◌, ◌<◌, ◌==◌, ℕ, List, true, false, if◌then◌else◌}
use Rattle.std.specs.Prelude.{Result, Ok, Err, OnOk, OnErr, IsOk, IsErr, MatchResult}
use Rattle.sector_disk.specs.declared.disk.Disk.{Ghosts}
use Rattle.sector_disk.specs.Trail.{Moment, now, Nowhere, Only, CountsFault}
use Rattle.sector_disk.specs.Confined.{IsConfined}
use Rattle.twin_disk.specs.declared.legs.Left.{Left}
use Rattle.twin_disk.specs.declared.legs.Left.TheVariants.{Both, First, Second}
use Rattle.twin_disk.specs.declared.legs.Legs.{Legs}
use Rattle.twin_disk.specs.declared.legs.Closed.{Closed}
use Rattle.twin_disk.specs.Flags.{ShowsFlag}
use Rattle.twin_disk.specs.Marks.{Opens, OrMark}

-- each leg in use
abbrev pub Each : Left → Type 0 → Type 0 → Type 0
Each Both P Q = P × Q
Each First P Q = P
Each Second P Q = Q

-- no leg comes back into use
abbrev pub IsFewer : Left → Left → Type 0
IsFewer Both new = Unit {0}
IsFewer First new = new ≡ First
IsFewer Second new = new ≡ Second

-- a leg that isn't in use is left as it is
abbrev pub Rests : {A B : Type 0} → Left → A → A → B → B → Type 0
Rests Both x x' y y' = Unit {0}
Rests First x x' y y' = y' ≡ y
Rests Second x x' y y' = x' ≡ x

-- each leg that was dropped
abbrev pub Drops : Left → Left → Type 0 → Type 0 → Type 0
Drops Both Both P Q = Unit {0}
Drops Both First P Q = Q
Drops Both Second P Q = P
Drops First new P Q = Unit {0}
Drops Second new P Q = Unit {0}

-- what is read where these legs are in use
abbrev pub read_by : Left → Moment → Moment → ℕ → List ℕ
read_by Both x y = x.reads
read_by First x y = x.reads
read_by Second x y = y.reads

-- the sectors that a call may touch: its own, and while both legs are in use the flag of the one that is left
abbrev pub OrFlag : Left → ℕ → (ℕ → Type 0) → ℕ → Type 0
OrFlag Both flag area n = area n ⊎ (n ≡ flag)
OrFlag First flag area n = area n
OrFlag Second flag area n = area n

-- a leg reads as after a write, before its flag
abbrev pub HasWritten : ℕ → ℕ → List ℕ → Moment → Moment → Type 0
HasWritten flag n bytes old new = (k : ℕ) → k < flag → new.reads k ≡
    (if k == n then bytes else old.reads k)

-- all of a leg before its flag is settled
abbrev pub HasSettled : ℕ → Moment → Type 0
HasSettled flag m = (k : ℕ) → k < flag → m.pending k ≡ false

-- this leg was made the only one in use, and its flag says so for good; or that failed, and nothing is said of it
pub record StandsAlone {D O E : Type 0} (d : Ghosts D) (flag : ℕ) (only : Left) (result : Result
    (Unit {0}) E) (old new : D)
    (beside beside' : O) (used used' : Left) : Type 0 where
  pub kept : IsConfined d.size d.honest d.trail (Only flag) old new
  pub cause : CountsFault result (d.failures old) (d.failures new)
  pub left : MatchResult result (λ _. used' ≡ only) (λ _. used' ≡ used)
  pub alone : OnOk result (d.honest old → ShowsFlag flag true (now (d.trail new)))
  pub rests : beside' ≡ beside

module _ {A B : Type 0} (a : Ghosts A) (b : Ghosts B) where
  -- what both legs are now
  abbrev pub first_now : Legs A B → Moment
  first_now l = now (a.trail l.first)

  abbrev pub second_now : Legs A B → Moment
  second_now l = now (b.trail l.second)

  abbrev pub reads_of : Legs A B → ℕ → List ℕ
  reads_of l = read_by l.left (first_now l) (second_now l)

  -- each leg does as its clauses say
  pub record IsHonest (l : Legs A B) : Type 0 where
    pub first : a.honest l.first
    pub second : b.honest l.second

  -- each leg that was in use has failed in this call, and none was dropped: none is left
  pub record AllFailed (old new : Legs A B) : Type 0 where
    pub left : new.left ≡ old.left
    pub failed : Each old.left (a.failures old.first < a.failures new.first)
        (b.failures old.second < b.failures new.second)

  -- a leg that was dropped failed in this call
  abbrev pub DropsFailed : Legs A B → Legs A B → Type 0
  DropsFailed old new = Drops old.left new.left (a.failures old.first < a.failures new.first)
      (b.failures old.second < b.failures new.second)

module _ {A B : Type 0} (a : Ghosts A) (b : Ghosts B) (flag : ℕ) where
  -- what two legs together did: what one of them did is done, and then the one that failed is dropped
  abbrev pub Joins : {E : Type 0} → Result (Unit {0}) E → Result (Unit {0}) E → Result (Unit {0}) E
      → Legs A B → Legs A B
      → Type 0
  Joins (Ok _) (Ok _) result old new = IsOk result × (new ≡ old)
  Joins (Ok _) (Err _) result old new =
      StandsAlone a flag First result old.first new.first old.second new.second old.left new.left
  Joins (Err _) (Ok _) result old new =
      StandsAlone b flag Second result old.second new.second old.first new.first old.left new.left
  Joins (Err _) (Err _) result old new = IsErr result × (new ≡ old)

  -- a leg's own sectors were touched at most, and not its flag
  abbrev pub KeepsFirst : (ℕ → Type 0) → Legs A B → Legs A B → Type 0
  KeepsFirst area old new = IsConfined a.size a.honest a.trail area old.first new.first

  abbrev pub KeepsSecond : (ℕ → Type 0) → Legs A B → Legs A B → Type 0
  KeepsSecond area old new = IsConfined b.size b.honest b.trail area old.second new.second

  -- What every call does: the legs in use that it leaves, what it may touch, and whose flag says *alone* then.
  pub record Calls {E : Type 0} (area : ℕ → Type 0) (result : Result (Unit {0}) E)
      (old new : Legs A B) : Type 0 where
    pub first : KeepsFirst (OrFlag old.left flag area) old new
    pub second : KeepsSecond (OrFlag old.left flag area) old new
    pub fewer : IsFewer old.left new.left
    pub rests : Rests old.left old.first new.first old.second new.second
    pub failed : OnErr result (AllFailed a b old new)
    pub cause : DropsFailed a b old new
    -- the flag of one leg at most is touched, and none where no leg is dropped
    pub one : KeepsFirst area old new ⊎ KeepsSecond area old new
    pub none : OnOk result (new.left ≡ old.left → KeepsFirst area old new
        × KeepsSecond area old new)
    -- before it returns Ok, the flag of the leg that is left says *alone*
    pub first_stands : OnOk result (a.honest old.first → old.left ≡ Both → new.left ≡ First
        → ShowsFlag flag true (first_now a b new) × KeepsSecond area old new)
    pub second_stands : OnOk result (b.honest old.second → old.left ≡ Both → new.left ≡ Second
        → ShowsFlag flag true (second_now a b new) × KeepsFirst area old new)

  pub record LegsRead {E : Type 0} (n : ℕ) (bytes : List ℕ) (result : Result (Unit {0}) E)
      (old new : Legs A B)
      : Type 0 where
    pub calls : Calls Nowhere result old new
    pub bytes_read : OnOk result (IsHonest a b old
        → bytes ≡ read_by new.left (first_now a b old) (second_now a b old) n)

  pub record LegsWritten {E : Type 0} (n : ℕ) (bytes : List ℕ) (result : Result (Unit {0}) E)
      (old new : Legs A B)
      : Type 0 where
    pub calls : Calls (OrMark flag n) result old new
    pub done : OnOk result (Each new.left
        (a.honest old.first → HasWritten flag n bytes (first_now a b old) (first_now a b new))
        (b.honest old.second → HasWritten flag n bytes (second_now a b old) (second_now a b new)))

  pub record LegsSynced {E : Type 0} (result : Result (Unit {0}) E)
      (old new : Legs A B) : Type 0 where
    pub calls : Calls Nowhere result old new
    pub done : OnOk result (Each new.left
        (a.honest old.first → HasSettled flag (first_now a b new))
        (b.honest old.second → HasSettled flag (second_now a b new)))

  -- what became of the marks of both
  pub record LegsOpened (closed closed' : Closed) (old new : Legs A B) : Type 0 where
    pub first : Opens a flag closed.first closed'.first old.first new.first
    pub second : Opens b flag closed.second closed'.second old.second new.second
