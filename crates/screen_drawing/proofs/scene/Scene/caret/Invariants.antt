use Rattle.std.proofs.Common.{◌<◌, ℕ}
use Rattle.screen_drawing.specs.Scene.{HasCaretAt}
use Rattle.screen_drawing.proofs.scene.Scene.caret.Given as goal

abbrev pub invariant-loop-y : goal.invariant-loop-y
invariant-loop-y l = (x y : ℕ) → x < l.self.columns → y < l.y → HasCaretAt l.self x y → ⊥
