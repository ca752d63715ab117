use Rattle.std.proofs.Common.{ap, sym, ◌∙◌, length}
use Rattle.byte_streams.proofs.Taking.{sent_as}
use Rattle.screen_drawing.specs.Changes.{changes}
use Rattle.screen_drawing.specs.Spelling.{spelled_all}
use Rattle.screen_drawing.proofs.Seeing.{seen_long}
use Rattle.screen_drawing.proofs.painter.repaint.Goals as goal

pub row_changes-changes-requires-clause-same : goal.row_changes-changes-requires-clause-same
row_changes-changes-requires-clause-same g c =
    ap length (c.faces.ensures.cells ∙ c.faces-olds.ensures)
    ∙ sym (ap length (c.faces-2.ensures.cells ∙ c.faces-news.ensures ∙ c.take.ensures)
    ∙ seen_long c.args.left c.args.count (length c.args.known.now) c.args.cells.now)

pub returns-clause-sent : goal.returns-clause-sent
returns-clause-sent g c = sent_as _ _ _ _ _
    (ap spelled_all (c.as_slice.ensures.value ∙ c.row_changes-changes.ensures
    ∙ (λ i. changes c.args.row ((c.faces.ensures.cells ∙ c.faces-olds.ensures) i)
    ((c.faces-2.ensures.cells ∙ c.faces-news.ensures ∙ c.take.ensures) i))))
    c.send.ensures.sent
