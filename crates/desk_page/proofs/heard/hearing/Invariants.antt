use Rattle.std.proofs.Common.{◌≡◌, ◌++◌, drop}
use Rattle.desk_page.specs.Hearing.{heard_of}
use Rattle.desk_page.proofs.heard.hearing.Given as goal

abbrev pub invariant-loop-byte : goal.invariant-loop-byte
invariant-loop-byte l = heard_of l.bytes ≡ l.heard.items ++ heard_of (drop l.byte-index l.bytes)
