use Rattle.std.proofs.Common.{rules}
use Rattle.desk_journal.proofs.Behind.{redone}
use Rattle.desk_journal.proofs.undone.undo_and_redo.Goals as goal

pub returns : goal.returns
returns g c = redone g.D.Disk c.post_all.new.store c.post_all.result (c.shows_what_crashes_leave.ensures.durable c.requires.usable)
    c.requires.newest c.in_ok-undone.ensures.ok c.undo.ensures.behaves.device (search rules)
    c.post_all.ensures.led
