use Rattle.std.proofs.Common.{◌≡◌, ◌+◌}
use Rattle.script_lines.proofs.Gathering.{HasGathered}
use Rattle.script_lines.proofs.line.Script.take_line.Given as goal

abbrev pub invariant-loop-self : goal.invariant-loop-self
invariant-loop-self g l = record {
  gathered : HasGathered l.fn.self l.self (g.R.ScriptReader.remaining l.fn.reader)
      (g.R.ScriptReader.remaining l.reader) l.line;
  counted : g.R.ScriptReader.reads l.reader + l.self.reads ≡ g.R.ScriptReader.reads l.fn.reader + l.fn.self.reads;
  called : g.R.ScriptReader.calls l.reader + g.R.ScriptReader.reads l.fn.reader
      ≡ g.R.ScriptReader.calls l.fn.reader + g.R.ScriptReader.reads l.reader;
  calm : g.R.ScriptReader.failures l.reader ≡ g.R.ScriptReader.failures l.fn.reader;
}

abbrev pub decreases-loop-self : goal.decreases-loop-self
decreases-loop-self g l = l.self.reads
