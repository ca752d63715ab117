use Rattle.std.proofs.Common.{◌≡◌, false}
use Rattle.past_looks.specs.Looking.{IsLookerOf}
use Rattle.past_viewer.specs.Viewing.{KeepsCopied, LooksOn}
use Rattle.past_viewer.proofs.viewer.Viewer.serve.Given as goal

-- the person looks on so far
abbrev pub invariant-loop-count : goal.invariant-loop-count
invariant-loop-count g l = record {
  looks : LooksOn g.D.Disk l.fn.self.looker l.self.looker l.fn.store l.store (g.W.AnswerWriter.contents l.fn.writer)
      (g.W.AnswerWriter.contents l.writer);
  usable : l.store.must_reopen ≡ false;
  copied : IsLookerOf g.D.Disk l.fn.self.looker l.fn.store
      → KeepsCopied g.D.Disk l.fn.store l.fn.self.copied l.self.copied;
  calm : g.W.AnswerWriter.failures l.writer ≡ g.W.AnswerWriter.failures l.fn.writer;
}
