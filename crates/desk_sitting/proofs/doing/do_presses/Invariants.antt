use Rattle.std.proofs.Common.{◌≡◌, take, Ok}
use Rattle.terminal_keyboard.specs.Presses.{parser_after, presses_heard}
use Rattle.desk_sitting.specs.Doing.{DoesAllPresses}
use Rattle.desk_sitting.proofs.doing.do_presses.Given as goal
use Rattle.desk_sitting.specs.TheDesk.{the_desk}

-- all that was pressed so far is done
abbrev pub invariant-loop-heard : goal.invariant-loop-heard
invariant-loop-heard g l = record {
  parser : l.parser ≡ parser_after l.fn.parser (take l.heard-index l.hearing);
  takes : DoesAllPresses the_desk g.D.Disk {T = Unit} (presses_heard l.fn.parser (take l.heard-index l.hearing)) (Ok tt) l.fn.sitting
      l.sitting l.fn.store l.store;
}
