use Rattle.std.proofs.Common.{◌≡◌, None}
use Rattle.past_pages.specs.Reading.{IsOnlyReadFrom}
use Rattle.past_viewer.specs.Viewing.{TakesScenes}
use Rattle.past_viewer.proofs.absent.serve_absent.Given as goal

-- the store was only read, and the desktop shown
abbrev pub invariant-loop-count : goal.invariant-loop-count
invariant-loop-count g l = record {
  read : IsOnlyReadFrom g.D.Disk l.fn.store l.store;
  scenes : TakesScenes g.D.Disk l.store None (g.W.AnswerWriter.contents l.fn.writer)
      (g.W.AnswerWriter.contents l.writer);
  calm : g.W.AnswerWriter.failures l.writer ≡ g.W.AnswerWriter.failures l.fn.writer;
}
