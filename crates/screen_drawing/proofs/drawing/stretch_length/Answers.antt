use Rattle.std.proofs.Common.{◌∙◌}
use Rattle.std.specs.Prelude.{length, unwrap_or}
use Rattle.viewer_tracks.proofs.Positions.{unwrap_or_position}
use Rattle.screen_drawing.specs.Drawn.{is_in_another_pen}
use Rattle.screen_drawing.proofs.drawing.stretch_length.Goals as goal

pub returns-clause-value : goal.returns-clause-value
returns-clause-value c = c.unwrap_or.ensures ∙ (λ k. unwrap_or (c.other_pen.ensures.first k) (length c.args.faces.now))
    ∙ unwrap_or_position (is_in_another_pen c.args.pen) c.args.faces.now
