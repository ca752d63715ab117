use Rattle.std.proofs.Common.{◌≡◌, ◌≤◌, ◌*◌, take}
use Rattle.arrayvec.specs.ArrayVec.{array_vec_len}
use Rattle.screen_drawing.specs.Drawn.{escaped_text}
use Rattle.screen_drawing.proofs.spelling.escaped.Given as goal

abbrev pub invariant-loop-face : goal.invariant-loop-face
invariant-loop-face l = record {
  value : l.text.items ≡ escaped_text (take l.face-index l.faces);
  few : array_vec_len l.text ≤ 5 * l.face-index;
}
