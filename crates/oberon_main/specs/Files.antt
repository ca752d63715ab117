-- Scripts over stores in files of the host, down to the bytes of the file. `f` is what is known of a file, and `d` of the
-- disk in it.
use Rattle.std.specs.Prelude.{ℕ, List, ◌++◌, IfSome}
use Rattle.sector_disk.specs.declared.disk.Disk.{Ghosts as DiskGhosts}
use Rattle.sector_disk.specs.declared.file.FileDisk.{FileDisk}
use Rattle.sector_disk.specs.declared.host_file.HostFile.{Ghosts}
use Rattle.script_lines.specs.Script.{BeginsWith}
use Rattle.desk_journal.specs.Files.{FileKeeps}
use Rattle.desk_journal.specs.Session.{session_of}
use Rattle.oberon_main.specs.declared.playing.PlayEnd.{PlayEnd}
use Rattle.oberon_main.specs.Answers.{answers_to}
use Rattle.oberon_main.specs.ByLines.{PlaysByLines}
use Rattle.oberon_main.specs.Play.{PlayState}
use Rattle.oberon_main.specs.Surviving.{HasTakenAnswers, accepted_of_lines}

-- At every moment each image that a crash may leave of the file's bytes means the desktop after a prefix of the events that
-- the lines of the script post and that are accepted. At the end this prefix holds each event whose answer was worked out,
-- and so each whose answer was written, in whole or in part.
pub record FileScriptSurvives {F : Type 0} (f : Ghosts F) (script : List ℕ)
    (old new : PlayState (FileDisk F f)) : Type 0 where
  -- the first lines of the script, whose answers were worked out
  pub answered : List (List ℕ)
  pub begins : BeginsWith script answered
  -- what was written of their answers
  pub written : HasTakenAnswers old.held new.held (answers_to (session_of old.store) answered)
  -- the events of all its lines, and at last those of the lines answered
  pub kept : FileKeeps f old.store.desktop (accepted_of_lines (session_of old.store) answered)
      (accepted_of_lines (session_of old.store) (answered ++ begins.0)) old.store new.store

-- what a crash leaves of the bytes, where those of the script are known
abbrev pub FileScriptsSurvive : {F : Type 0} (f : Ghosts F) → DiskGhosts (FileDisk F f) → Type 0
FileScriptsSurvive {F = F} f d = (why end : PlayEnd) (old new : PlayState (FileDisk F f))
    → PlaysByLines d why end old new
    → IfSome old.left (λ script. FileScriptSurvives f script old new)
