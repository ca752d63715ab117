use Rattle.desk_journal.proofs.BackAgain.{both_done}
use Rattle.desk_journal.proofs.undone.post_and_undo.Goals as goal

pub returns : goal.returns
returns g c = both_done g.D.Disk c.in_ok-post.ensures.added.done c.post.ensures.behaves.device c.undo.new.self
    (λ undone. undone.items) c.undo.result c.in_ok-post.ensures.ok c.undo.ensures.ok
