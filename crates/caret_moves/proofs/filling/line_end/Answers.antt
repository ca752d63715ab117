use Rattle.std.proofs.Common.{rules}
use Rattle.event_bytes.specs.Bytes.{is_text_byte}
use Rattle.caret_moves.proofs.filling.line_end.Goals as goal

pub unwrap-requires : goal.unwrap-requires
unfolding is_text_byte
unwrap-requires c = search (rules, c.new.ensures)
