use Rattle.std.proofs.Common.{◌≡◌, ◌++◌, drop, get_or, []}
use Rattle.screen_pictures.specs.Screen.{values}
use Rattle.screen_drawing.specs.Scene.{scene_row, height_of}
use Rattle.screen_drawing.specs.Painting.{IsShown, Leads, rows_changes}
use Rattle.screen_drawing.proofs.Leading.{IsBetween}
use Rattle.screen_drawing.proofs.painter.paint_rows.Given as goal

abbrev pub invariant-loop-y : goal.invariant-loop-y
invariant-loop-y g l =
    let olds = l.fn.known.items in
    record {
      rows : l.known.items ≡ values l.y (scene_row l.scene) ++ drop l.y olds;
      led : Leads (rows_changes l.y (λ k. get_or olds k []) (scene_row l.scene)) (g.W.AnswerWriter.contents l.fn.writer)
          (g.W.AnswerWriter.contents l.writer) (IsShown l.scene.width (height_of l.scene) olds)
          (IsBetween l.scene.width (height_of l.scene) l.y (scene_row l.scene) (λ k. get_or olds k []));
      calm : g.W.AnswerWriter.failures l.writer ≡ g.W.AnswerWriter.failures l.fn.writer;
    }
