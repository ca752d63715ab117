use Rattle.std.proofs.Common.{◌∙◌, ◌-◌}
use Rattle.char_file.proofs.Reading.{read_on}
use Rattle.desktop_definitions.specs.Seen.{seen}
use Rattle.desk_core.specs.Kept.{kept_desktop}
use Rattle.caret_moves.specs.Stretches.{drag_by}
use Rattle.caret_moves.specs.Leading.{cell_from, drawn}
use Rattle.caret_moves.proofs.selecting.drawn.Goals as goal

pub returns : goal.returns
unfolding drawn
returns g c =
    let s = g.S.CharSource in
    let d = kept_desktop c.args.desk.now in
    let stretch = c.args.stretch in
    let first = c.in_ok-from.ensures in
    let second = c.in_ok-to.ensures in
    record {
      exact = λ h. c.drag_by.ensures
          ∙ (λ k. drag_by c.args.keys (first.exact h k) ((second.exact (first.reads.still h)
          ∙ (λ j. cell_from (seen (first.reads.same h j) d) stretch.viewer c.args.org (stretch.end - 1))) k));
      reads = read_on s.characters s.failures s.honest s.same_ground g.met.S.CharSource.ground_through _ _ _ first.reads
          second.reads;
      cause = second.cause ∙ first.cause;
    }
