use Rattle.std.proofs.Common.{◌≡◌, fold, take}
use Rattle.sought_words.specs.Places.{one_line_more}
use Rattle.sought_words.proofs.places.ended_lines.Given as goal

-- the lines that end in the bytes so far
abbrev pub invariant-loop-byte : goal.invariant-loop-byte
invariant-loop-byte l = l.lines ≡ fold one_line_more 0 (take l.byte-index l.bytes)
