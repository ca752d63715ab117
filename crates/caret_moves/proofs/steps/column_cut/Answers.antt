use Rattle.std.proofs.Common.{ℕ, ◌-◌, ◌∙◌, ap}
use Rattle.std.specs.Prelude.{Option, unwrap_or}
use Rattle.piece_ring.specs.Flat.{flat}
use Rattle.readers_scanners.specs.Reading.{bytes_of_text}
use Rattle.text_frames.specs.Cells.{column_of}
use Rattle.caret_moves.proofs.RowLaws.{cut_is}
use Rattle.caret_moves.proofs.steps.column_cut.Goals as goal

pub returns-clause-column : goal.returns-clause-column
returns-clause-column g c = λ h.
    c.column_or_last.ensures.is
    ∙ ap (λ (column : Option ℕ). unwrap_or column (c.args.w - 1)) (c.in_ok-column.ensures.column h)
    ∙ cut_is c.args.w
    (column_of (bytes_of_text (g.S.CharSource.characters c.args.source.now) (flat c.args.text.now)) c.args.org c.args.pos)
    c.requires.some
