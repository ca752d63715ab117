use Rattle.std.proofs.Common.{◌≡◌}
use Rattle.terminal_sittings.specs.Serving.{exchange, first_place, turn_state_of}
use Rattle.terminal_sittings.proofs.Whole.{HasCome}
use Rattle.terminal_sittings.proofs.serving.serve.Given as goal
use Rattle.desk_sitting.specs.TheDesk.{the_desk}

abbrev pub invariant-loop-count : goal.invariant-loop-count
invariant-loop-count g l = record {
  come : HasCome g.D.Disk
      (first_place the_desk l.fn.height l.fn.width l.fn.greeting l.fn.questions l.fn.fills l.fn.holds l.fn.past
      l.fn.store
      (exchange (g.K.Keyboard.heard l.fn.keyboard) (g.K.Keyboard.asked l.fn.keyboard)
      (g.W.AnswerWriter.contents l.fn.writer) (g.W.AnswerWriter.unflushed l.fn.writer))) l._count
      (turn_state_of l.parser l.sitting l.store l.painter
      (exchange (g.K.Keyboard.heard l.keyboard) (g.K.Keyboard.asked l.keyboard)
      (g.W.AnswerWriter.contents l.writer) (g.W.AnswerWriter.unflushed l.writer)));
  calm : g.W.AnswerWriter.failures l.writer ≡ g.W.AnswerWriter.failures l.fn.writer;
}
