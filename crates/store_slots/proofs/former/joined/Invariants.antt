use Rattle.std.proofs.Common.{◌≡◌, ◌++◌}
use Rattle.store_slots.proofs.former.joined.Given as goal

-- those so far stand behind the first ones
abbrev pub invariant-loop-event : goal.invariant-loop-event
invariant-loop-event l = l.all.items ≡ l.fn.first.items ++ l.yielded
