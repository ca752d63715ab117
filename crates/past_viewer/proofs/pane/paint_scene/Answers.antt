use Rattle.std.proofs.Common.{refl}
use Rattle.std.proofs.lemmas.Result.{on_ok_weaker}
use Rattle.past_viewer.proofs.pane.paint_scene.Goals as goal

pub returns-clause-painted : goal.returns-clause-painted
returns-clause-painted g c = on_ok_weaker c.paint.result (λ shown. record {
  known = c.args.painter.now;
  scene = c.args.scene.now;
  part = refl;
  below = refl;
  paints = shown;
}) c.paint.ensures.shown
