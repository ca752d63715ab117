use Rattle.desk_sitting.proofs.Taking.{keeps_acknowledged, keeps_turned_away, takes_acknowledged, takes_turned_away, tells_done}
use Rattle.desk_sitting.proofs.Taking.{tells_not_done}
use Rattle.desk_sitting.proofs.sitting.Sitting.post.Goals as goal

pub returns-in-Ok-clause-comes : goal.returns-in-Ok-clause-comes
returns-in-Ok-clause-comes g c =
    let e = c.in-Ok.ensures in
    takes_acknowledged g.D.Disk c.args.event.now c.args.self.now c.reply.new.self c.args.store.now c.post.new.store
    c.requires e.any_moment e.device.same c.reply.result c.in-Ok.reply e.ok e.worn e.device.faults c.reply.ensures.state

pub returns-in-Ok-clause-done : goal.returns-in-Ok-clause-done
returns-in-Ok-clause-done g c =
    let e = c.in-Ok.ensures in
    tells_done g.D.Disk c.args.event.now c.args.self.now c.reply.new.self c.args.store.now c.post.new.store
    c.requires e.any_moment e.device.same c.reply.result c.in-Ok.reply e.ok e.worn c.reply.ensures.done

pub returns-in-Err-clause-comes : goal.returns-in-Err-clause-comes
returns-in-Err-clause-comes g c =
    let e = c.in-Err.ensures in
    takes_turned_away g.D.Disk c.args.event.now c.args.self.now c.turned_away.new.self c.args.store.now
    c.post.new.store c.requires e.any_moment e.device.same c.in-Err.error e.memory e.worn e.reopen e.device.faults
    c.turned_away.result c.turned_away.ensures.worn c.turned_away.ensures.other

pub returns-in-Err-clause-done : goal.returns-in-Err-clause-done
returns-in-Err-clause-done g c =
    let e = c.in-Err.ensures in
    tells_not_done g.D.Disk c.args.event.now c.args.self.now c.turned_away.new.self c.args.store.now
    c.post.new.store c.requires e.any_moment e.device.same c.in-Err.error c.turned_away.result e.worn
    c.turned_away.ensures.worn c.turned_away.ensures.never

pub returns-in-Ok-clause-past : goal.returns-in-Ok-clause-past
returns-in-Ok-clause-past g c =
    let e = c.in-Ok.ensures in
    keeps_acknowledged g.D.Disk c.args.event.now c.requires e.nothing_forgotten e.device.same c.reply.result c.in-Ok.reply
    e.kept e.worn

pub returns-in-Err-clause-past : goal.returns-in-Err-clause-past
returns-in-Err-clause-past g c =
    let e = c.in-Err.ensures in
    keeps_turned_away g.D.Disk c.args.event.now c.requires e.nothing_forgotten e.device.same c.in-Err.error c.args.self.now
    c.turned_away.new.self c.turned_away.result e.worn c.turned_away.ensures.worn c.turned_away.ensures.other
