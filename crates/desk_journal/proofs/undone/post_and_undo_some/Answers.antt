use Rattle.desk_journal.proofs.Behind.{all_but, shown_behind}
use Rattle.desk_journal.proofs.undone.post_and_undo_some.Goals as goal

pub returns : goal.returns
returns g c = λ honest.
    shown_behind g.D.Disk
    (all_but g.D.Disk c.args.events.now c.args.back c.in_ok-post_each.ensures.behind c.undo.ensures.behaves.device
    c.requires.some c.in_ok-undo.ensures.ok)
    c.post_each.ensures.durable honest
