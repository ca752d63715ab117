use Rattle.std.proofs.Common.{refl}
use Rattle.std.proofs.lemmas.Result.{IfOk-weaker}
use Rattle.page_disks.specs.contracts.disk.RecordedDiskDisk.TheImpl.{ghosts}
use Rattle.desk_page.proofs.Looked.{comes_of_one}
use Rattle.desk_page.proofs.looks.Looking.press.Goals as goal

pub returns-clause-does : goal.returns-clause-does
returns-clause-does c = IfOk-weaker c.press.result _ _ (λ doing does.
    comes_of_one ghosts doing c.args.self.now _ c.requires refl refl c.press.ensures.any_moment does) c.press.ensures.does
