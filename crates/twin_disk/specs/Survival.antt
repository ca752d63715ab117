-- What a crash may leave of the legs of a twin.
use Rattle.std.specs.Prelude.{◌≡◌, ◌≢◌, ◌≤◌, ◌||◌, ℕ, Bool, false}
use Rattle.sector_disk.specs.declared.disk.Disk.{Ghosts}
use Rattle.sector_disk.specs.Trail.{Content, Moment, Trail, now, IsCrashImage}
use Rattle.twin_disk.specs.declared.legs.Left.{Left}
use Rattle.twin_disk.specs.declared.legs.Left.TheVariants.{Both, First, Second}
use Rattle.twin_disk.specs.declared.legs.Legs.{Legs}
use Rattle.twin_disk.specs.declared.choosing.Leg.{Leg}
use Rattle.twin_disk.specs.declared.choosing.Leg.TheVariants as leg
use Rattle.std.specs.declared.option.Option.{Option}
use Rattle.std.specs.declared.option.Option.TheVariants.{None, Some}
use Rattle.twin_disk.specs.declared.twin.TwinDisk.{TwinDisk}
use Rattle.twin_disk.specs.Bounded.{bounded_content, within}
use Rattle.twin_disk.specs.Legs.{IsHonest}
use Rattle.twin_disk.specs.Twin.{twin_trail, moment_when, moment_dropped, SinceStart}

-- two moments as one: the first one's reads, and what either has pending
abbrev pub either_pending : Moment → Moment → Moment
either_pending x y = record { reads = x.reads; pending = λ n. x.pending n || y.pending n }

-- which leg was dropped
abbrev pub dropped_leg : Left → Option Leg
dropped_leg Both = None
dropped_leg First = Some leg.Second
dropped_leg Second = Some leg.First

-- how many moments a leg has
abbrev pub first_clock : {A B : Type 0} → Ghosts A → Legs A B → ℕ
first_clock a l = (a.trail l.first).clock

abbrev pub second_clock : {A B : Type 0} → Ghosts B → Legs A B → ℕ
second_clock b l = (b.trail l.second).clock

module _ {A B : Type 0} {a : Ghosts A} {b : Ghosts B} where
  abbrev pub first_leg : TwinDisk A B a b → A
  first_leg d = d.legs.first

  abbrev pub second_leg : TwinDisk A B a b → B
  second_leg d = d.legs.second

  -- whether each may still say *closed*
  abbrev pub first_closed : TwinDisk A B a b → Bool
  first_closed d = d.closed.first

  abbrev pub second_closed : TwinDisk A B a b → Bool
  second_closed d = d.closed.second

  abbrev pub legs_left : TwinDisk A B a b → Left
  legs_left d = d.legs.left

  abbrev pub dropped_of : TwinDisk A B a b → Option Leg
  dropped_of d = dropped_leg (legs_left d)

  -- no leg is left
  abbrev pub is_lost : TwinDisk A B a b → Bool
  is_lost d = d.lost

  -- both legs are in use
  abbrev pub HasBothLegs : TwinDisk A B a b → Type 0
  HasBothLegs d = (legs_left d ≡ Both) × (is_lost d ≡ false)

  -- how many sectors the twin has, which is also where the flag of a leg stands
  abbrev pub twin_size : TwinDisk A B a b → ℕ
  twin_size d = d.beside.sector

  -- both legs are honest
  abbrev pub HasHonestLegs : TwinDisk A B a b → Type 0
  HasHonestLegs d = IsHonest (within (twin_size d) a) (within (twin_size d) b) d.legs

  abbrev pub twin_moments : TwinDisk A B a b → Trail
  twin_moments d = twin_trail (within (twin_size d) a) (within
      (twin_size d) b) d.start.items d.calls.items d.legs

  -- each image that a crash now may leave of a leg in use is, up to the flag, one that it may leave of the twin
  pub record Survives (d : TwinDisk A B a b) : Type 0 where
    pub first : HasHonestLegs d → legs_left d ≢ Second → (image : Content)
        → IsCrashImage (now (a.trail (first_leg d))) image
        → IsCrashImage (now (twin_moments d)) (bounded_content (twin_size d) image)
    pub second : HasHonestLegs d → legs_left d ≢ First → (image : Content)
        → IsCrashImage (now (b.trail (second_leg d))) image
        → IsCrashImage (now (twin_moments d)) (bounded_content (twin_size d) image)

  -- at which of its moments the twin was when a leg was at its moment u
  abbrev pub first_when : TwinDisk A B a b → ℕ → ℕ
  first_when d u = moment_when (first_clock a) d.calls.items u

  abbrev pub second_when : TwinDisk A B a b → ℕ → ℕ
  second_when d u = moment_when (second_clock b) d.calls.items u

  -- the moments that a leg made under this twin
  abbrev pub InFirst : TwinDisk A B a b → ℕ → Type 0
  InFirst d u = SinceStart (first_clock a) d.start.items u × (u ≤ (a.trail (first_leg d)).clock)

  abbrev pub InSecond : TwinDisk A B a b → ℕ → Type 0
  InSecond d u = SinceStart (second_clock b) d.start.items u × (u ≤ (b.trail (second_leg d)).clock)

  -- a moment of a leg, and one of the twin: each image that a crash may leave of the leg is, up to the flag, one of the
  -- twin's
  pub record IsCovered (d : TwinDisk A B a b) (leg : Moment) (t : ℕ) : Type 0 where
    pub real : t ≤ (twin_moments d).clock
    pub images : (image : Content) → IsCrashImage leg image
        → IsCrashImage ((twin_moments d).at t) (bounded_content (twin_size d) image)

  -- at every moment each image that a crash may leave of a leg is one that it may leave of the twin, as this was at that
  -- time; also of a leg that was dropped
  pub record SurvivesEach (d : TwinDisk A B a b) : Type 0 where
    pub first : HasHonestLegs d → (u : ℕ) → InFirst d u
        → IsCovered d ((a.trail (first_leg d)).at u) (first_when d u)
    pub second : HasHonestLegs d → (u : ℕ) → InSecond d u
        → IsCovered d ((b.trail (second_leg d)).at u) (second_when d u)

  -- the moment up to which both legs were in use
  abbrev pub dropped_at : TwinDisk A B a b → ℕ
  dropped_at d = moment_dropped d.calls.items

  -- what a crash now leaves of a leg that was dropped is what it might have left of the twin when it was dropped
  pub record HoldsDropped (d : TwinDisk A B a b) : Type 0 where
    pub first : HasHonestLegs d → legs_left d ≡ Second → IsCovered d (now (a.trail (first_leg d)))
        (dropped_at d)
    pub second : HasHonestLegs d → legs_left d ≡ First → IsCovered d (now (b.trail (second_leg d)))
        (dropped_at d)
