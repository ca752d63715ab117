use Rattle.std.proofs.Common.{◌≡◌, take}
use Rattle.done_presses.specs.Past.{no_past, past_of}
use Rattle.done_presses.proofs.past.Past.of.Given as goal

-- the events so far were done
abbrev pub invariant-loop-event : goal.invariant-loop-event
invariant-loop-event l = l.past ≡ past_of (take l.event-index l.events) no_past
