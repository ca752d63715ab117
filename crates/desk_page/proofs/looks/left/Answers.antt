use Rattle.desk_page.specs.Looks.LeavesLook.{leaves}
use Rattle.desk_page.proofs.looks.left.Goals as goal

pub returns-clause-left : goal.returns-clause-left
returns-clause-left c = leaves _ _ c.in_ok-page.ensures.handed
