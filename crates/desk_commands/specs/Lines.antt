-- Lines on their way into the log, and what a call asks and promises that puts them there.
use Rattle.std.specs.Prelude.{◌+◌, ◌<◌, ◌≤◌, ◌^◌, ℕ, List, [], length, map, sum_by, Result, OnOk}
use Rattle.arrayvec.specs.ArrayVec.{ArrayVec}
use Rattle.char_file.specs.declared.source.CharSource.{Ghosts}
use Rattle.desktop_definitions.specs.Desktop.{Desktop, KeptDesktop, characters_held}
use Rattle.desktop_definitions.specs.Changed.{IsChanged, IsExtended, IsStanding}
use Rattle.desk_core.specs.declared.stop.Stop.{Stop}
use Rattle.desk_core.specs.declared.stop.Stop.TheVariants.{Fault}
use Rattle.desk_core.specs.Words.{most_written, seen, FailsAs, OnlyReads, IsStop, Uses}

abbrev pub bytes_of_lines : List (ArrayVec ℕ) → List (List ℕ)
bytes_of_lines lines = map (λ line. line.items) lines

-- how many characters they have
abbrev pub length_of_lines : List (ArrayVec ℕ) → ℕ
length_of_lines lines = sum_by (λ line. length line.items) lines

-- So many characters more can go into the log of a desktop that stands over these.
pub record CanLog (characters : List ℕ) (d : KeptDesktop) (count : ℕ) : Type 0 where
  pub stands : IsStanding characters d
  pub room : d.written + count ≤ most_written
  pub short : characters_held (seen [] d) + count < 2 ^ 32

module _ {S : Type 0} (s : Ghosts S) where
  -- The desktop is changed so, and so many characters are added.
  pub record Logs {T : Type 0} (change : Desktop → Desktop) (count : ℕ) (result : Result T Stop)
      (old new : S)
      (before after : KeptDesktop) : Type 0 where
    pub logged : OnOk result
        (IsExtended (s.honest old) (s.characters old) (s.characters new) before after change count)
    pub uses : Uses s result old new

  -- The desktop is changed so, and nothing is written.
  pub record OnlyChangesSo {T : Type 0} (change : Desktop → Desktop) (result : Result T Stop)
      (old new : S)
      (before after : KeptDesktop) : Type 0 where
    pub changed : OnOk result
        (IsChanged (s.honest old) (s.characters old) before after
        (change (seen (s.characters old) before)) 0 0)
    pub reads : OnlyReads s.characters s.failures s.honest s.same_ground old new
    pub faults : FailsAs Fault IsStop result (s.failures old) (s.failures new)
