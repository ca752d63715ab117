use Rattle.std.proofs.Common.{refl}
use Rattle.std.proofs.lemmas.Result.{IfOk-weaker}
use Rattle.past_pages.proofs.StillReads.{still_none}
use Rattle.page_disks.specs.contracts.disk.RecordedDiskDisk.TheImpl.{ghosts}
use Rattle.desk_page.proofs.Looked.{comes_behind}
use Rattle.desk_page.proofs.looks.Looking.press_each.Goals as goal

pub returns-in-Nothing-clause-does : goal.returns-in-Nothing-clause-does
returns-in-Nothing-clause-does c =
    (record { read = still_none ghosts _ c.requires; sitting = refl; parser = refl }, refl, λ is. is)

pub returns-in-Stays-clause-does : goal.returns-in-Stays-clause-does
returns-in-Stays-clause-does c =
    let first = (rw c.in-Stays.is at c.in_ok-doing-in-Two.ensures.does) in
    IfOk-weaker c.press-in-Stays.result _ _ (λ doing does.
    comes_behind ghosts doing c.args.self.now _ _ first does) c.press-in-Stays.ensures.does
