use Rattle.std.proofs.Common.{◌≡◌, rules}
use Rattle.std.proofs.lemmas.Result.{IfOk-weaker}
use Rattle.sector_disk.specs.contracts.memory.MemoryDiskDisk.TheImpl.{ghosts as in_memory}
use Rattle.former_stores.proofs.Kept.{whole_on}
use Rattle.cli_documents.proofs.pasts.told_before.Goals as goal

pub returns-in_default-clause-told : goal.returns-in_default-clause-told
returns-in_default-clause-told g c = λ honest start deeds desktop is.
    absurd ((rw c.in_default.is at c.in_ok-former.ensures.former) honest start deeds desktop is)

pub returns-in_default-2-clause-told : goal.returns-in_default-2-clause-told
returns-in_default-2-clause-told g c = λ honest start deeds desktop is.
    let kept = (rw c.in-Some.is at c.in_ok-former.ensures.former) honest start deeds desktop is in
    absurd ((rw c.in_default-2.is at c.in_ok-reach.ensures.told) tt start deeds desktop kept.0 kept.1)

pub returns-in-None-clause-told : goal.returns-in-None-clause-told
returns-in-None-clause-told g c = λ honest start deeds desktop is.
    let kept = (rw c.in-Some.is at c.in_ok-former.ensures.former) honest start deeds desktop is in
    let later = whole_on in_memory c.in_ok-reach.ensures.still tt
    (c.shows_what_crashes_leave.ensures.quiet kept.0.usable tt) kept in
    absurd ((rw c.in-None.is at c.in_ok-told_past.ensures.told) tt start deeds desktop later.0 later.1)

pub returns-clause-told : goal.returns-clause-told
returns-clause-told g c = λ honest start deeds desktop is.
    let kept = (rw c.in-Some.is at c.in_ok-former.ensures.former) honest start deeds desktop is in
    let reach = (rw c.in-Some-2.is at c.in_ok-reach.ensures.told) tt start deeds desktop kept.0 kept.1 in
    let later = whole_on in_memory c.in_ok-reach.ensures.still tt
    (c.shows_what_crashes_leave.ensures.quiet kept.0.usable tt) kept in
    ((rw c.in-Some-3.is at c.in_ok-told_past.ensures.told) tt start deeds desktop later.0 later.1, reach.base)
