use Rattle.std.proofs.Common.{inr}
use Rattle.std.proofs.lemmas.Result.{IfErr-weaker, IfOk-weaker, err_from_is_err_and}
use Rattle.page_disks.specs.contracts.disk.RecordedDiskDisk.TheImpl.{ghosts}
use Rattle.desk_page.proofs.Looked.{goes, presses_behind, turned_back}
use Rattle.desk_page.proofs.Turning.{withheld_later, withheld_so}
use Rattle.desk_page.proofs.looks.looked.Goals as goal

pub returns-in-Err-clause-failed : goal.returns-in-Err-clause-failed
returns-in-Err-clause-failed c = withheld_so c.args.looking.page c.of_look.result c.of_look.ensures

pub returns-in-Ok-Stays-clause-done : goal.returns-in-Ok-Stays-clause-done
returns-in-Ok-Stays-clause-done c = IfOk-weaker c.looked_on.result _ _
    (λ both does. presses_behind ghosts c.args.looking c.take.new.self both.0 both.1
    (rw c.in-Ok-Stays.field-0-is at c.in-Ok-Stays.ensures.does) does) c.looked_on.ensures.looks

pub returns-in-Ok-Stays-clause-failed : goal.returns-in-Ok-Stays-clause-failed
returns-in-Ok-Stays-clause-failed c = IfErr-weaker c.looked_on.result _ _
    (λ error why. withheld_so c.args.looking.page error why) c.looked_on.ensures.errors

pub returns-in-Ok-Leaves-clause-done : goal.returns-in-Ok-Leaves-clause-done
returns-in-Ok-Leaves-clause-done c = IfOk-weaker c.left.result _ _
    (λ both does. goes ghosts c.args.looking c.take.new.self.page both.0 both.1
    (rw c.in-Ok-Leaves.field-0-is at c.in-Ok-Leaves.ensures.does) does) (rw c.into_page.ensures at c.left.ensures.left)

pub returns-in-Ok-Leaves-clause-failed : goal.returns-in-Ok-Leaves-clause-failed
returns-in-Ok-Leaves-clause-failed c = IfErr-weaker c.left.result _ _
    (λ error why. withheld_later c.args.looking.page c.take.new.self.page error c.in-Ok-Leaves.ensures.usable why)
    (rw c.into_page.ensures at c.left.ensures.withheld)

pub returns-in_err-usable-clause-failed : goal.returns-in_err-usable-clause-failed
returns-in_err-usable-clause-failed c =
    let p = err_from_is_err_and c.from_residual.result c.from_residual.ensures.1 in
    rw (p.1, p.2) (inr (inr c.in_err-usable.ensures.reopen))

pub returns-clause-done : goal.returns-clause-done
returns-clause-done c = IfOk-weaker c.left-in-Ok-Turned.result _ _
    (λ both does. turned_back ghosts c.args.looking c.take.new.self c.into_page-in-Ok-Turned.result c.seated_again.result
    both.0 both.1 (rw c.in-Ok-Turned.field-0-is at c.in-Ok-Turned.ensures.does) c.into_page-in-Ok-Turned.ensures
    c.seated_again.ensures.store c.seated_again.ensures.sitting c.seated_again.ensures.parser does)
    c.left-in-Ok-Turned.ensures.left
