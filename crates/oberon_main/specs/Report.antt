-- What is said of a store, and the statuses of the program.
use Rattle.std.specs.Prelude.{ℕ, List, ◌++◌, codes}
use Rattle.std.specs.Fmt.{decimal}
use Rattle.desk_journal.specs.Errors.{Error}
use Rattle.desk_journal.specs.Errors.{NoMemory, NotAStore, Damaged}
use Rattle.oberon_main.specs.declared.playing.PlayEnd.{PlayEnd}
use Rattle.oberon_main.specs.declared.playing.PlayEnd.TheVariants.{Done, Memory}
use Rattle.screen_pictures.specs.Printed.{ended_line}

-- a store that can be used: its layout, its epoch, and how many events its journal has
abbrev pub check_line : ℕ → ℕ → ℕ → List ℕ
check_line layout epoch events =
    ended_line (codes "ok layout " ++ decimal layout ++ codes " epoch " ++ decimal epoch
    ++ codes " events " ++ decimal events)

abbrev pub error_line : Error → List ℕ
error_line NotAStore = ended_line (codes "not a store")
error_line (Damaged sector) = ended_line (codes "damaged " ++ decimal sector)
error_line NoMemory = ended_line (codes "memory")
error_line _ = ended_line (codes "fault")

abbrev pub refusal_status : Error → ℕ
refusal_status NotAStore = 3
refusal_status (Damaged sector) = 3
refusal_status NoMemory = 5
refusal_status _ = 4

abbrev pub end_status : PlayEnd → ℕ
end_status Done = 0
end_status Memory = 5
end_status _ = 4
