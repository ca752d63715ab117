use Rattle.std.proofs.Common.{◌∙◌, refl}
use Rattle.desk_core.proofs.PositionLemmas.{offsets_kept}
use Rattle.char_file.proofs.Reading.{read_on}
use Rattle.desk_core.proofs.StretchLemmas.{start_shown}
use Rattle.desk_input.proofs.BarLemmas.{some_if}
use Rattle.desk_input.proofs.bars.start_of_row.Goals as goal

pub cell_of-requires-clause-offsets : goal.cell_of-requires-clause-offsets
cell_of-requires-clause-offsets g c =
    offsets_kept _ _ _ _ _ c.main_text-text.ensures c.in_ok-begin.ensures.told.reads.as_long c.requires.at.over

pub returns-clause-told : goal.returns-clause-told
returns-clause-told g c =
    let begin = c.in_ok-begin.ensures.told in
    record {
      exact = λ h. c.line_in_row.ensures
          ∙ start_shown _ _ c.main_frame-frame.ensures c.main_text-text.ensures c.text_width.ensures.some
          c.rows_of.ensures.rows c.requires.at.within c.in_ok-begin.ensures.from (begin.exact h) (begin.reads.same h)
          (c.in_ok-cell.ensures.cell.exact (begin.reads.still h)) refl refl;
      reads = read_on _ _ _ _ g.met.S.CharSource.ground_through _ _ _ begin.reads c.in_ok-cell.ensures.source.reads;
      cause = c.in_ok-cell.ensures.source.cause ∙ begin.cause;
    }

pub returns-clause-within : goal.returns-clause-within
returns-clause-within g c = some_if _ _ _ _ c.line_in_row.ensures c.in_ok-begin.ensures.within
