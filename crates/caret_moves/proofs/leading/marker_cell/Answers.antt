use Rattle.std.proofs.Common.{◌∙◌}
use Rattle.std.specs.Prelude.{unwrap_or}
use Rattle.desktop_definitions.specs.Seen.{seen}
use Rattle.caret_moves.specs.Leading.{marker_cell}
use Rattle.caret_moves.proofs.leading.marker_cell.Goals as goal

pub returns : goal.returns
unfolding marker_cell seen
returns g c =
    let first = c.in_ok-cell.ensures in
    record {
      exact = λ h. c.unwrap_or.ensures
          ∙ (λ k. unwrap_or (first.exact h k) (c.mark_cell.ensures k));
      reads = first.reads;
      cause = first.cause;
    }
