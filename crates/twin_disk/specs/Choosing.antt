-- Which leg of a twin is right when both are there.
use Rattle.std.specs.Prelude.{◌≡◌, ◌≢◌, ◌≤◌, ◌⊎◌, ◌++◌, ℕ, List, Bool, true, false}
use Rattle.sector_disk.specs.declared.disk.Disk.{Ghosts}
use Rattle.sector_disk.specs.Trail.{Content, Moment, Trail, IsCrashImage, Touches}
use Rattle.twin_disk.specs.declared.legs.Left.TheVariants.{Both, First, Second}
use Rattle.twin_disk.specs.declared.legs.Legs.{Legs}
use Rattle.twin_disk.specs.declared.twin.TwinDisk.{TwinDisk}
use Rattle.twin_disk.specs.declared.choosing.Choice.{Choice}
use Rattle.twin_disk.specs.declared.choosing.Choice.TheVariants as choice
use Rattle.twin_disk.specs.Bounded.{bounded_content}
use Rattle.twin_disk.specs.Flags.{says_alone}
use Rattle.twin_disk.specs.Legs.{IsFewer}
use Rattle.twin_disk.specs.Marks.{HasOpened}
use Rattle.twin_disk.specs.Survival.{first_closed, first_leg, second_closed, second_leg, legs_left, twin_size, is_lost, twin_moments, HasHonestLegs}

-- which one is chosen where the flags say these: the one that is alone, and of two in pair the first
abbrev pub choice_of : Bool → Bool → Choice
choice_of false false = choice.First
choice_of true false = choice.First
choice_of false true = choice.Second
choice_of true true = choice.Neither

-- what holds of the one that is chosen; and one is
abbrev pub OfChosen : Choice → Type 0 → Type 0 → Type 0
OfChosen choice.First P Q = P
OfChosen choice.Second P Q = Q
OfChosen choice.Neither P Q = ⊥

-- of each two images that a crash may leave of two legs at these moments, the one that their flags choose has P
abbrev pub ChoosesOf : ℕ → Moment → Moment → (Content → Type 0) → Type 0
ChoosesOf flag x y P = (i j : Content) → IsCrashImage x i → IsCrashImage y j
    → OfChosen (choice_of (says_alone (i flag)) (says_alone (j flag)))
    (P (bounded_content flag i)) (P (bounded_content flag j))

-- the sectors but that of a flag
abbrev pub NotFlag : ℕ → ℕ → Type 0
NotFlag flag n = ¬ (n ≡ flag)

-- a flag wasn't touched
abbrev pub KeepsFlag : {D : Type 0} → Ghosts D → ℕ → D → D → Type 0
KeepsFlag d flag old new = d.honest old → Touches (NotFlag flag) (d.trail old) (d.trail new)

-- the past of a trail stayed as it was
pub record HasPast (old new : Trail) : Type 0 where
  pub later : old.clock ≤ new.clock
  pub kept : (t : ℕ) → t ≤ old.clock → new.at t ≡ old.at t

module _ {A B : Type 0} {a : Ghosts A} {b : Ghosts B} where
  -- What a call does to a twin, and calls one after another: what was noted of its calls is noted still, and what they
  -- noted; the flag of one leg at most is touched, and none where a leg had been dropped, or none is dropped; and before a
  -- leg that may say *closed* is written, its mark is gone.
  pub record GoesOn (old new : TwinDisk A B a b) : Type 0 where
    pub more : List (Legs A B)
    pub calls : new.calls.items ≡ old.calls.items ++ more
    pub start : new.start.items ≡ old.start.items
    pub size : twin_size new ≡ twin_size old
    pub past : HasHonestLegs old → HasPast (twin_moments old) (twin_moments new)
    pub fewer : IsFewer (legs_left old) (legs_left new)
    pub over : is_lost old ≡ true → is_lost new ≡ true
    pub first_still : a.honest (first_leg old) → a.honest (first_leg new)
    pub second_still : b.honest (second_leg old) → b.honest (second_leg new)
    pub first : a.honest (first_leg old) → HasPast (a.trail (first_leg old)) (a.trail
        (first_leg new))
    pub second : b.honest (second_leg old) → HasPast (b.trail (second_leg old)) (b.trail
        (second_leg new))
    pub one : KeepsFlag a (twin_size old) (first_leg old) (first_leg new)
        ⊎ KeepsFlag b (twin_size old) (second_leg old) (second_leg new)
    pub none : (legs_left old ≢ Both) ⊎ (is_lost old ≡ true) → KeepsFlag a (twin_size old)
        (first_leg old) (first_leg new)
        × KeepsFlag b (twin_size old) (second_leg old) (second_leg new)
    pub first_opened : a.honest (first_leg old) → HasOpened a (twin_size old) (first_closed old)
        (first_closed new) (first_leg old) (first_leg new)
    pub second_opened : b.honest (second_leg old) → HasOpened b (twin_size old) (second_closed old)
        (second_closed new) (second_leg old) (second_leg new)
    pub same : legs_left new ≡ legs_left old → is_lost new ≡ false → KeepsFlag a (twin_size old)
        (first_leg old) (first_leg new)
        × KeepsFlag b (twin_size old) (second_leg old) (second_leg new)

  -- a moment that a leg made since the old state, or had then
  abbrev pub FirstSince : TwinDisk A B a b → TwinDisk A B a b → ℕ → Type 0
  FirstSince old new u = ((a.trail (first_leg old)).clock ≤ u) × (u ≤ (a.trail
      (first_leg new)).clock)

  abbrev pub SecondSince : TwinDisk A B a b → TwinDisk A B a b → ℕ → Type 0
  SecondSince old new u = ((b.trail (second_leg old)).clock ≤ u) × (u ≤ (b.trail
      (second_leg new)).clock)

  -- an image that the twin may have left since the old state
  pub record IsSince (old new : TwinDisk A B a b) (image : Content) : Type 0 where
    pub moment : ℕ
    pub since : (twin_moments old).clock ≤ moment
    pub real : moment ≤ (twin_moments new).clock
    pub is : IsCrashImage ((twin_moments new).at moment) image

  -- At each moment of a leg that was in use at the old state, each image that a crash may leave of it is one that it may
  -- have left of the twin since then.
  pub record LegsFollow (old new : TwinDisk A B a b) : Type 0 where
    pub first : legs_left old ≢ Second → (u : ℕ) → FirstSince old new u → (image : Content)
        → IsCrashImage ((a.trail (first_leg new)).at u) image → IsSince old new (bounded_content
        (twin_size new) image)
    pub second : legs_left old ≢ First → (u : ℕ) → SecondSince old new u → (image : Content)
        → IsCrashImage ((b.trail (second_leg new)).at u) image → IsSince old new (bounded_content
        (twin_size new) image)

  -- Whatever a crash during the call leaves of both legs, the one that their flags choose is one that it may have left of
  -- the twin since the call began, and so since each call before it.
  pub record ChoosesNewest (old new : TwinDisk A B a b) : Type 0 where
    pub chosen : (u v : ℕ) → FirstSince old new u → SecondSince old new v
        → ChoosesOf (twin_size new) ((a.trail (first_leg new)).at u) ((b.trail
        (second_leg new)).at v) (IsSince old new)

-- calls one after another are as one
abbrev pub CallsCompose : {A B : Type 0} → Ghosts A → Ghosts B → Type 0
CallsCompose {A = A} {B = B} a b = (old mid new : TwinDisk A B a b) → GoesOn old mid
    → GoesOn mid new → GoesOn old new

-- what holds of every call of a twin
abbrev pub CallsFollow : {A B : Type 0} → Ghosts A → Ghosts B → Type 0
CallsFollow {A = A} {B = B} a b = (old new : TwinDisk A B a b) → GoesOn old new → HasHonestLegs old
    → HasHonestLegs new
    → LegsFollow old new

abbrev pub FlagsChooseNewest : {A B : Type 0} → Ghosts A → Ghosts B → Type 0
FlagsChooseNewest {A = A} {B = B} a b = (old new : TwinDisk A B a b) → GoesOn old new
    → HasHonestLegs old
    → HasHonestLegs new → ChoosesNewest old new
