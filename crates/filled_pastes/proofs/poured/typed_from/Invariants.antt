use Rattle.std.proofs.Common.{◌≡◌, ◌++◌, ◌*◌, ◌≤◌, drop, false}
use Rattle.arrayvec.specs.ArrayVec.{array_vec_len}
use Rattle.filled_pastes.specs.Poured.{poured}
use Rattle.filled_pastes.proofs.poured.typed_from.Given as goal

-- what is typed for the bytes so far, and for those to come
abbrev pub invariant-loop-i : goal.invariant-loop-i
invariant-loop-i l = record {
  done : l.typed.items ++ poured l.w l.at l.begins (drop l.i l.bytes) ≡ poured l.w l.column false l.bytes;
  few : array_vec_len l.typed ≤ 2 * l.i;
  near : l.at ≤ 255;
}
