use Rattle.std.proofs.Common.{None}
use Rattle.desk_sitting.proofs.Found.{found_alone, found_as, reopens_none, reopens_so}
use Rattle.desk_sitting.proofs.sitting.Sitting.reopened_at.Goals as goal

pub returns-in-None : goal.returns-in-None
returns-in-None g c = found_alone g.D.Disk _ None c.args.self.now c.args.store.now c.requires
    (reopens_none c.args.to c.args.screen.now c.args.store.now.desktop c.menu_reopened.result c.menu_reopened.ensures c.in-None.is)

pub returns-in-Some : goal.returns-in-Some
returns-in-Some g c = found_as g.D.Disk _ _ c.unstored_open.result c.args.self.now c.args.store.now c.unstored_open.new.store
    (λ desktop. reopens_so c.args.to c.args.screen.now desktop c.menu_reopened.result c.menu_reopened.ensures c.in-Some.at
    c.in-Some.is) c.unstored_open.ensures
