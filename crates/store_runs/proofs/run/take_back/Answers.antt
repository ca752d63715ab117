use Rattle.store_runs.proofs.Surviving.{told_undone}
use Rattle.store_runs.proofs.run.take_back.Goals as goal

pub returns : goal.returns
returns g c = told_undone g.D.Disk (λ events. events.items) c.args.count c.undo.result c.args.store.now c.undo.new.self
    c.undo.ensures.any_moment c.undo.ensures.ok c.undo.ensures.left c.undo.ensures.behaves.reopen
    c.undo.ensures.behaves.within
