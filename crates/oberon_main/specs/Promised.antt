-- What is promised of a script that is played: its history, and beside it which calls failed and how much was read.
use Rattle.std.specs.Prelude.{◌≡◌, ◌≢◌, ◌+◌, ◌≤◌, ◌⊎◌, ◌↔◌, ℕ, false}
use Rattle.sector_disk.specs.declared.disk.Disk.{Ghosts as DiskGhosts}
use Rattle.byte_streams.specs.Counting.{RisesWhere}
use Rattle.byte_streams.specs.declared.reader.ScriptReader.{Ghosts as ReaderGhosts}
use Rattle.byte_streams.specs.declared.writer.AnswerWriter.{Ghosts as WriterGhosts}
use Rattle.script_lines.specs.Reading.{ComesInPieces}
use Rattle.desk_journal.specs.View.{StoreView}
use Rattle.oberon_main.specs.declared.playing.PlayEnd.{PlayEnd}
use Rattle.oberon_main.specs.declared.playing.PlayEnd.TheVariants.{Done, Fault, Input, Output}
use Rattle.oberon_main.specs.Play.{play_state}
use Rattle.oberon_main.specs.ByLines.{PlaysByLines}

-- How a script was read to an end, where so many reads may give bytes.
pub record ReadsScript {R : Type 0} (r : ReaderGhosts R) (most : ℕ) (why : PlayEnd)
    (reader reader' : R) : Type 0 where
  -- it came in so many pieces at most
  pub pieces : ComesInPieces most (r.remaining reader) (r.remaining reader')
  pub limit : r.reads reader' ≤ r.reads reader + most
  -- each read but one gave bytes: none follows the end of the script, or a read that failed
  pub one_blank : r.calls reader' + r.reads reader ≤ r.calls reader + r.reads reader' + 1
  -- a read failed exactly where the script ended for that, and there weren't too many
  pub input : RisesWhere ((why ≡ Input)
      × (r.reads reader' ≢ r.reads reader + most)) (r.failures reader)
      (r.failures reader')

-- How its answers were written.
pub record WritesAnswers {W : Type 0} (w : WriterGhosts W) (end : PlayEnd)
    (writer writer' : W) : Type 0 where
  -- what was written was handed on too
  pub handed : end ≢ Output → w.unflushed writer ≡ 0 → w.unflushed writer' ≡ 0
  -- a write or a flush failed exactly where the script ended by that
  pub output : RisesWhere (end ≡ Output) (w.failures writer) (w.failures writer')

-- A script was played from a reader to a writer over a store, where at most so many reads may give bytes, and ended so.
pub record PlaysScript {R W D : Type 0} (r : ReaderGhosts R) (w : WriterGhosts W) (d : DiskGhosts D)
    (most : ℕ)
    (end : PlayEnd) (reader reader' : R) (writer writer' : W) (old new : StoreView D) : Type 0 where
  -- why it stopped, before a word of that was written, in which the output may have failed
  pub why : PlayEnd
  pub named : (end ≡ why) ⊎ (end ≡ Output)
  -- over an honest disk: what each line left, what was written, and how it ended
  pub by_lines : d.honest old.disk → PlaysByLines d why end
      (play_state (r.remaining reader) (w.contents writer) old)
      (play_state (r.remaining reader') (w.contents writer') new)
  -- after another end the store may have to be opened again
  pub usable : (why ≡ Done) ⊎ (why ≡ Input) → new.must_reopen ≡ false
  -- the disk is as honest as it was
  pub premise : d.honest new.disk ↔ d.honest old.disk
  -- which calls failed, and how much was read
  pub reading : ReadsScript r most why reader reader'
  pub writing : WritesAnswers w end writer writer'
  pub faults : RisesWhere (why ≡ Fault) (d.failures old.disk) (d.failures new.disk)
