use Rattle.std.proofs.Common.{◌≡◌, ◌≤◌, fold, take}
use Rattle.filled_pastes.specs.Poured.{column_then}
use Rattle.filled_pastes.proofs.paragraphs.text_column_behind.Given as goal

-- the column behind the bytes so far
abbrev pub invariant-loop-byte : goal.invariant-loop-byte
invariant-loop-byte l = record {
  done : l.column ≡ fold (column_then l.width) 0 (take l.byte-index l.bytes);
  near : l.column ≤ 255;
}
