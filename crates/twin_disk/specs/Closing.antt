-- Two legs that were closed together, and so hold the same. The mark that says so stands behind their flags.
use Rattle.std.specs.Prelude.{◌≡◌, ◌<◌, ◌≤◌, ◌+◌, ℕ, true}
use Rattle.sector_disk.specs.declared.disk.Disk.{Ghosts}
use Rattle.sector_disk.specs.Trail.{Content, Moment, IsCrashImage, Only}
use Rattle.sector_disk.specs.Confined.{IsConfined}
use Rattle.twin_disk.specs.declared.twin.TwinDisk.{TwinDisk}
use Rattle.twin_disk.specs.Flags.{says_closed}
use Rattle.twin_disk.specs.Survival.{first_leg, second_leg, twin_size, HasHonestLegs}
use Rattle.twin_disk.specs.Choosing.{FirstSince, GoesOn, SecondSince}

-- if both marks are one and the same sector, which says *closed*, all sectors before the flags read the same
abbrev pub IsHonestMark : ℕ → Content → Content → Type 0
IsHonestMark flag i j = says_closed (i (flag + 1)) ≡ true → i (flag + 1) ≡ j (flag + 1) → (n : ℕ)
    → n < flag → i n ≡ j n

-- whatever a crash leaves of two legs at these moments
abbrev pub HasHonestMark : ℕ → Moment → Moment → Type 0
HasHonestMark flag x y = (i j : Content) → IsCrashImage x i → IsCrashImage y j
    → IsHonestMark flag i j

-- the same at all moments of both that a call had
abbrev pub KeepsMark : {A B : Type 0} → Ghosts A → Ghosts B → ℕ → A → A → B → B → Type 0
KeepsMark a b flag one one' other other' = a.honest one → b.honest other → (u v : ℕ)
    → (a.trail one).clock ≤ u → u ≤ (a.trail one').clock
    → (b.trail other).clock ≤ v → v ≤ (b.trail other').clock
    → HasHonestMark flag ((a.trail one').at u) ((b.trail other').at v)

-- the calls of a twin leave no mark that isn't honest
abbrev pub MarksStayHonest : {A B : Type 0} → Ghosts A → Ghosts B → Type 0
MarksStayHonest {A = A} {B = B} a b = (old new : TwinDisk A B a b) → GoesOn old new
    → HasHonestLegs old → (u v : ℕ) → FirstSince old new u → SecondSince old new v
    → HasHonestMark (twin_size new) ((a.trail (first_leg new)).at u) ((b.trail
    (second_leg new)).at v)

module _ {A B : Type 0} {a : Ghosts A} {b : Ghosts B} where
  -- legs of a twin of which no more was touched than their marks, honestly
  pub record IsMarked (twin : TwinDisk A B a b) (one : A) (other : B) : Type 0 where
    pub first : IsConfined a.size a.honest a.trail (Only (twin_size twin + 1)) (first_leg twin) one
    pub second : IsConfined b.size b.honest b.trail (Only (twin_size twin + 1)) (second_leg twin)
        other
    pub marks : KeepsMark a b (twin_size twin) (first_leg twin) one (second_leg twin) other

  -- what becomes of the legs of a twin that is closed: after calls of the twin only their marks are touched, and whatever a
  -- crash left of both since the closing began, their marks are honest
  pub record IsClosed (old : TwinDisk A B a b) (one : A) (other : B) : Type 0 where
    pub last : TwinDisk A B a b
    pub calls : GoesOn old last
    pub first : IsConfined a.size a.honest a.trail (Only (twin_size old + 1)) (first_leg last) one
    pub second : IsConfined b.size b.honest b.trail (Only (twin_size old + 1)) (second_leg last)
        other
    pub marks : KeepsMark a b (twin_size old) (first_leg old) one (second_leg old) other
