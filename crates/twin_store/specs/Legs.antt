-- What a crash leaves of each leg of a twin, and of both.
use Rattle.std.specs.Prelude.{◌≡◌, ◌≢◌, ◌<◌, ◌≤◌, ℕ}
use Rattle.sector_disk.specs.declared.disk.Disk.{Ghosts}
use Rattle.sector_disk.specs.Trail.{Content, Moment, now, IsCrashImage, Leaves}
use Rattle.twin_disk.specs.declared.legs.Left.TheVariants.{First, Second}
use Rattle.twin_disk.specs.declared.twin.TwinDisk.{TwinDisk}
use Rattle.twin_disk.specs.Choosing.{FirstSince, SecondSince, OfChosen, choice_of}
use Rattle.twin_disk.specs.Flags.{says_alone}
use Rattle.twin_disk.specs.Survival.{first_leg, second_leg, legs_left, twin_size, first_when, second_when}
use Rattle.twin_disk.specs.Survival.{InFirst, InSecond}

-- of each two images that a crash may leave of two legs at these moments, the one that their flags choose has P
abbrev pub ChosenHas : ℕ → Moment → Moment → (Content → Type 0) → Type 0
ChosenHas flag x y P = (i j : Content) → IsCrashImage x i → IsCrashImage y j
    → OfChosen (choice_of (says_alone (i flag)) (says_alone (j flag))) (P i) (P j)

-- P depends on the sectors before this one alone
abbrev pub IsOfFirst : ℕ → (Content → Type 0) → Type 0
IsOfFirst size P = (c c' : Content) → ((n : ℕ) → n < size → c n ≡ c' n) → P c → P c'

module _ {A B : Type 0} {a : Ghosts A} {b : Ghosts B} where
  -- at every moment from the old state to the new one a crash leaves an image that has P, of each leg that was in use, and
  -- of both together the one that their flags choose
  pub record LegsLeaveOnly (old new : TwinDisk A B a b) (P : Content → Type 0) : Type 0 where
    pub first : legs_left old ≢ Second → (u : ℕ) → FirstSince old new u
        → Leaves ((a.trail (first_leg new)).at u) P
    pub second : legs_left old ≢ First → (v : ℕ) → SecondSince old new v
        → Leaves ((b.trail (second_leg new)).at v) P
    pub chosen : (u v : ℕ) → FirstSince old new u → SecondSince old new v
        → ChosenHas (twin_size new) ((a.trail (first_leg new)).at u) ((b.trail
        (second_leg new)).at v) P

  -- a crash now leaves an image that has P
  pub record LegsLeave (d : TwinDisk A B a b) (P : Content → Type 0) : Type 0 where
    pub first : legs_left d ≢ Second → Leaves (now (a.trail (first_leg d))) P
    pub second : legs_left d ≢ First → Leaves (now (b.trail (second_leg d))) P
    pub chosen : ChosenHas (twin_size d) (now (a.trail (first_leg d))) (now (b.trail
        (second_leg d))) P

  -- The same as the first by what the new twin has noted: at every moment of a leg since the twin was at this moment of its
  -- own. That is said of a leg that was dropped, too.
  pub record LegsLeaveSince (since : ℕ) (new : TwinDisk A B a b) (P : Content → Type 0)
      : Type 0 where
    pub first : (u : ℕ) → InFirst new u → since ≤ first_when new u
        → Leaves ((a.trail (first_leg new)).at u) P
    pub second : (v : ℕ) → InSecond new v → since ≤ second_when new v
        → Leaves ((b.trail (second_leg new)).at v) P
