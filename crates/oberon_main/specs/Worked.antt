-- An answer that was worked out.
use Rattle.std.specs.Prelude.{◌≡◌, ◌↔◌, ◌∷◌, [], ℕ, List, Result, IfOk, OnOk, IsOk, IsErrOf, false}
use Rattle.sector_disk.specs.declared.disk.Disk.{Ghosts}
use Rattle.sector_disk.specs.Faults.{OneOf, FailsAs}
use Rattle.desk_journal.specs.Device.{IsOnlyRead}
use Rattle.desk_journal.specs.Errors.{Error}
use Rattle.desk_journal.specs.Errors.{NoMemory}
use Rattle.desk_journal.specs.View.{StoreView}
use Rattle.oberon_main.specs.declared.answering.Answer.{Answer}
use Rattle.oberon_main.specs.declared.answering.Answer.TheVariants.{Short, Long}
use Rattle.oberon_main.specs.declared.playing.PlayEnd.{PlayEnd}
use Rattle.oberon_main.specs.declared.playing.PlayEnd.TheVariants.{Fault, Memory}
use Rattle.script_lines.specs.declared.request.Request.{Request}
use Rattle.desk_journal.specs.Session.{session_of}
use Rattle.script_lines.specs.declared.request.Request.TheVariants.{Malformed}
use Rattle.oberon_main.specs.Answers.{answer, session_after}
use Rattle.oberon_main.specs.Surviving.{Withstands, SparesRequest}

-- its bytes
abbrev pub bytes_of_answer : Answer → List ℕ
bytes_of_answer (Short line) = line.items
bytes_of_answer (Long text) = text.items

-- how a script ends where the store refuses: for want of memory, or else as after a fault of the disk
abbrev pub play_end_of : Error → PlayEnd
play_end_of NoMemory = Memory
play_end_of _ = Fault

-- why no answer is worked out
abbrev pub IsWorkEnd : PlayEnd → Type 0
IsWorkEnd end = OneOf (Fault ∷ Memory ∷ []) end

-- The answer to a request was worked out over a store, or could not be. What the store shows in the second case isn't
-- said.
pub record IsWorkedOut {D : Type 0} (d : Ghosts D) (request : Request)
    (result : Result Answer PlayEnd)
    (old new : StoreView D) : Type 0 where
  -- over an honest disk the bytes are those of the answer, and the session is the one after the request
  pub bytes : IfOk result (λ a. d.honest old.disk
      → bytes_of_answer a ≡ answer (session_of old) request)
  pub session : OnOk result (d.honest old.disk
      → session_of new ≡ session_after (session_of old) request)
  -- the next request can be worked out
  pub usable : OnOk result (new.must_reopen ≡ false)
  -- the disk is as honest as it was
  pub premise : d.honest new.disk ↔ d.honest old.disk

-- All that is promised of a request, whatever its answer is.
pub record WorksOut {D : Type 0} (d : Ghosts D) (request : Request) (result : Result Answer PlayEnd)
    (old new : StoreView D) : Type 0 where
  pub worked_out : IsWorkedOut d request result old new
  pub faults : FailsAs Fault IsWorkEnd result (d.failures old.disk) (d.failures new.disk)
  pub crash : Withstands d request old new
  pub spared : IsErrOf result Memory → SparesRequest d old new
  pub malformed : request ≡ Malformed → IsOk result

-- The same of a request that looks at the desktop: the disk is only read.
pub record LooksOut {D : Type 0} (d : Ghosts D) (request : Request) (result : Result Answer PlayEnd)
    (old new : StoreView D) : Type 0 where
  pub worked_out : IsWorkedOut d request result old new
  pub faults : FailsAs Fault IsWorkEnd result (d.failures old.disk) (d.failures new.disk)
  pub only_read : IsOnlyRead d old.disk new.disk
