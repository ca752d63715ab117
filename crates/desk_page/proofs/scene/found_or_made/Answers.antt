use Rattle.std.proofs.Common.{subst, sym}
use Rattle.std.proofs.lemmas.Result.{IfErr-weaker}
use Rattle.desk_page.specs.Turns.{IsNotBegun, starved}
use Rattle.page_disks.specs.contracts.disk.RecordedDiskDisk.TheImpl.{ghosts}
use Rattle.desk_page.proofs.Turning.{found_of, not_begun_of}
use Rattle.desk_page.proofs.scene.found_or_made.Goals as goal

pub returns-in-None-clause-refused : goal.returns-in-None-clause-refused
returns-in-None-clause-refused c = IfErr-weaker c.made.result _ _
    (λ error is. subst (IsNotBegun ghosts _) (sym is) starved) c.made.ensures.refused

pub returns-in-Some-clause-is : goal.returns-in-Some-clause-is
returns-in-Some-clause-is c = rw c.in-Some.is (found_of c.in-Some.disk c.begin.result c.begin.ensures.opened
    c.begin.ensures.disk c.begin.ensures.sitting c.begin.ensures.parser)

pub returns-in-Some-clause-refused : goal.returns-in-Some-clause-refused
returns-in-Some-clause-refused c =
    rw c.in-Some.is (not_begun_of c.in-Some.disk c.begin.result c.begin.ensures.no_store c.begin.ensures.errors)
