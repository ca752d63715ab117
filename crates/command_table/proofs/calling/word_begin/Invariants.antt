use Rattle.std.proofs.Common.{◌≡◌, ◌≤◌}
use Rattle.command_table.specs.Call.{word_begin}
use Rattle.command_table.proofs.calling.word_begin.Given as goal

abbrev pub invariant-loop-begin : goal.invariant-loop-begin
invariant-loop-begin l = record { within : l.begin ≤ l.at; same : word_begin l.bytes l.at ≡ word_begin l.bytes l.begin }

abbrev pub decreases-loop-begin : goal.decreases-loop-begin
decreases-loop-begin l = l.begin
