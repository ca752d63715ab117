use Rattle.desk_sitting.proofs.Asked.{hand_press, left_press}
use Rattle.desk_sitting.proofs.sitting.Sitting.press.Goals as goal

pub returns-then-self : goal.returns-then-self
returns-then-self g c = left_press g.D.Disk c.args.press c.args.self.now c.args.store.now c.requires c.if-self.true

pub returns : goal.returns
returns g c = hand_press g.D.Disk c.args.press c.take-action.result c.act.result c.args.self.now c.take-action.new.self
    c.act.new.self c.args.store.now c.act.new.store c.if-self.false c.take-action.ensures.state c.take-action.ensures.answer
    c.act.ensures
