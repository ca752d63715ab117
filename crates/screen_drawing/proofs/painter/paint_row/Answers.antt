use Rattle.std.proofs.Common.{◌≡◌, ◌+◌, arith, ap, length, List, subst}
use Rattle.std.specs.Prelude.{OnOk}
use Rattle.byte_streams.proofs.Taking.{sent_as}
use Rattle.screen_drawing.specs.declared.face.Face.{Face}
use Rattle.screen_drawing.specs.Changes.{changes}
use Rattle.screen_drawing.specs.Spelling.{spelled_all}
use Rattle.screen_drawing.proofs.Seeing.{line_seen}
use Rattle.screen_drawing.proofs.painter.paint_row.Goals as goal

pub returns-clause-sent : goal.returns-clause-sent
returns-clause-sent g c = sent_as _ _ _ _ _
    (ap (λ (l : List Face). spelled_all (changes (c.args.y + 1) c.args.known.now l))
    (line_seen c.args.scene.now c.args.y (length c.args.known.now) c.text.result.now c.letter_cells-cells.result (omega arith)
    (omega arith) c.text.ensures c.letter_cells-cells.ensures c.requires.wide))
    c.paint_cells-2.ensures.sent

pub returns-clause-row : goal.returns-clause-row
returns-clause-row g c = subst (λ (l : List Face). OnOk c.paint_cells-2.result (c.paint_cells-2.new.known ≡ l))
    (line_seen c.args.scene.now c.args.y (length c.args.known.now) c.text.result.now c.letter_cells-cells.result (omega arith)
    (omega arith) c.text.ensures c.letter_cells-cells.ensures c.requires.wide)
    c.paint_cells-2.ensures.row
