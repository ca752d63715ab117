-- What a crash leaves at every moment of a script that is played: the lines that were answered by then, and at most the
-- next one.
use Rattle.std.specs.Prelude.{◌≡◌, ◌≤◌, ℕ, List, [], ◌∷◌, ◌++◌, length, IfSome}
use Rattle.std.specs.List.{AllByRecursion}
use Rattle.sector_disk.specs.declared.disk.Disk.{Ghosts}
use Rattle.sector_disk.specs.Trail.{Trail, Leaves}
use Rattle.store_layout.specs.Meaning.{Means, MeansEither}
use Rattle.script_lines.specs.Script.{IsLine, BeginsWith}
use Rattle.desk_journal.specs.Session.{Session}
use Rattle.desk_journal.specs.Session.{session_of}
use Rattle.oberon_main.specs.Play.{PlayState}
use Rattle.oberon_main.specs.Surviving.{led_to}

-- These lines were answered one after another between two moments. At each moment of a line a crash leaves the desktop
-- to which the events of the lines before it lead, or the one to which these and its own lead; and once it was
-- answered, the second.
pub data AreAnswered (size : ℕ) (s : Session) (trail : Trail) (from : ℕ) : ℕ → List
    (List ℕ) → Type 0 where
  none : AreAnswered size s trail from from []
  one_more : {mid to : ℕ} {lines : List (List ℕ)} (line : List ℕ)
      → AreAnswered size s trail from mid lines → mid ≤ to
      → ((t : ℕ) → mid ≤ t → t ≤ to
      → Leaves (trail.at t) (MeansEither size (led_to s lines) (led_to s (lines ++ line ∷ []))))
      → Leaves (trail.at to) (Means size (led_to s (lines ++ line ∷ [])))
      → AreAnswered size s trail from to (lines ++ line ∷ [])

-- Lines were played from the one state to the other: some were answered, and at the end perhaps one more was begun.
pub record LeavesLines {D : Type 0} (d : Ghosts D) (old new : PlayState D) : Type 0 where
  pub answered : List (List ℕ)
  pub begun : List (List ℕ)
  pub one : length begun ≤ 1
  pub plain : AllByRecursion IsLine (answered ++ begun)
  -- they are the first lines of the script
  pub begins : IfSome old.left (λ script. BeginsWith script (answered ++ begun))
  -- the past stayed as it was
  pub past : (t : ℕ) → t ≤ (d.trail old.store.disk).clock
      → (d.trail new.store.disk).at t ≡ (d.trail old.store.disk).at t
  -- up to the moment at which the last of them was answered
  pub last : ℕ
  pub each : AreAnswered (d.size old.store.disk) (session_of old.store) (d.trail new.store.disk)
      (d.trail old.store.disk).clock last answered
  -- and from then on
  pub later : last ≤ (d.trail new.store.disk).clock
  pub rest : (t : ℕ) → last ≤ t → t ≤ (d.trail new.store.disk).clock
      → Leaves ((d.trail new.store.disk).at t) (MeansEither (d.size old.store.disk)
      (led_to (session_of old.store) answered) (led_to (session_of old.store) (answered ++ begun)))
