use Rattle.std.proofs.Common.{◌≡◌, ◌+◌, drop}
use Rattle.std.specs.List.{prefix_len}
use Rattle.event_bytes.specs.Bytes.{is_name_byte}
use Rattle.command_table.proofs.calling.run_len.Given as goal

abbrev pub invariant-loop-i : goal.invariant-loop-i
invariant-loop-i l = prefix_len is_name_byte l.bytes ≡ l.i + prefix_len is_name_byte (drop l.i l.bytes)
