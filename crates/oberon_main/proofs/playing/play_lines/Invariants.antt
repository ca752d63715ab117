use Rattle.std.proofs.Common.{◌≡◌, ◌+◌, false}
use Rattle.desk_journal.specs.View.{IsDurable}
use Rattle.script_lines.specs.Reading.{most_lines}
use Rattle.oberon_main.proofs.Played.{HasPlayed}
use Rattle.oberon_main.proofs.playing.play_lines.Given as goal

abbrev pub invariant-loop-line : goal.invariant-loop-line
invariant-loop-line g l = record {
  played : HasPlayed g.D.Disk l.fn.store l.store
      (g.R.ScriptReader.remaining l.fn.reader) (g.R.ScriptReader.remaining l.reader)
      (g.W.AnswerWriter.contents l.fn.writer) (g.W.AnswerWriter.contents l.writer) l.fn.reads l.script;
  usable : l.store.must_reopen ≡ false;
  started : IsDurable g.D.Disk l.fn.store;
  durable : IsDurable g.D.Disk l.store;
  calm : g.D.Disk.failures l.store.disk ≡ g.D.Disk.failures l.fn.store.disk;
  counted : g.R.ScriptReader.reads l.reader + l.script.reads ≡ g.R.ScriptReader.reads l.fn.reader + l.fn.reads;
  called : g.R.ScriptReader.calls l.reader + g.R.ScriptReader.reads l.fn.reader
      ≡ g.R.ScriptReader.calls l.fn.reader + g.R.ScriptReader.reads l.reader;
  reading : g.R.ScriptReader.failures l.reader ≡ g.R.ScriptReader.failures l.fn.reader;
  handed : g.W.AnswerWriter.unflushed l.fn.writer ≡ 0 → g.W.AnswerWriter.unflushed l.writer ≡ 0;
  writing : g.W.AnswerWriter.failures l.writer ≡ g.W.AnswerWriter.failures l.fn.writer;
  still : g.D.Disk.honest l.fn.store.disk → g.D.Disk.honest l.store.disk;
  already : g.D.Disk.honest l.store.disk → g.D.Disk.honest l.fn.store.disk;
}

abbrev pub decreases-loop-line : goal.decreases-loop-line
decreases-loop-line g l = most_lines l.script
