use Rattle.std.proofs.Common.{sym, ap, subst, ◌∙◌, List}
use Rattle.std.specs.Io.KnownBytes.{Appends}
use Rattle.std.proofs.KnownBytes.{Appends-nil}
use Rattle.screen_drawing.specs.declared.operation.Operation.{Operation}
use Rattle.screen_drawing.specs.Changes.{changes}
use Rattle.screen_drawing.specs.Spelling.{spelled_all}
use Rattle.screen_drawing.proofs.Showing.{nothing_changed}
use Rattle.screen_drawing.proofs.painter.paint_cells.Goals as goal

pub returns-then-is_of-clause-sent : goal.returns-then-is_of-clause-sent
returns-then-is_of-clause-sent g c =
    let held = g.W.AnswerWriter.contents c.args.writer.now in
    let same = c.is_of.ensures c.if-is_of.true in
    record {
      sent = subst (λ (l : List Operation). Appends held held (spelled_all l))
          (sym (ap (changes c.args.row c.args.known.now) (sym same) ∙ nothing_changed c.args.row c.args.known.now))
          (Appends-nil held);
      front = tt;
    }
