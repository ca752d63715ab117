use Rattle.std.proofs.Common.{◌≡◌, List, refl, subst}
use Rattle.std.specs.Prelude.{IsSomeAnd}
use Rattle.std.proofs.lemmas.Result.{IfOk-weaker}
use Rattle.past_pages.specs.Page.{Page}
use Rattle.past_pages.proofs.Failing.{looks_read}
use Rattle.past_pages.proofs.StillReads.{still_looked, still_none}
use Rattle.desk_past.specs.Beginning.{HasStartRoom}
use Rattle.desk_past.specs.Chain.{AreSpans, HasSpan, IsFirstOf}
use Rattle.desk_past.specs.Past.{Start}
use Rattle.desk_past.specs.declared.chain.TheConstants.{NO_EPOCH}
use Rattle.desk_past.proofs.Found.{as_read}
use Rattle.desk_past.proofs.Looks.{broken, looked_on, usable_after}
use Rattle.desk_past.proofs.Opened.{if_some_then}
use Rattle.sector_disk.specs.Trail.{now}
use Rattle.store_layout.specs.declared.head.PastEnd.{PastEnd}
use Rattle.desk_past.proofs.chain.first_start.Goals as goal

pub first_of-requires : goal.first_of-requires
first_of-requires g c = usable_after g.D.Disk c.in_ok-told.ensures.looks

pub returns-in_err-told-clause-looks : goal.returns-in_err-told-clause-looks
returns-in_err-told-clause-looks g c = broken g.D.Disk c.past.ensures.looks c.in_err-told.was c.from_residual.ensures.1

pub returns-clause-looks : goal.returns-clause-looks
returns-clause-looks g c =
    let looks = c.in_ok-told.ensures.looks in
    looked_on g.D.Disk looks (looks_read g.D.Disk c.first_of.result (usable_after g.D.Disk looks)
    c.first_of.ensures.still c.first_of.ensures.faults)

pub returns-clause-inside : goal.returns-clause-inside
returns-clause-inside g c =
    IfOk-weaker c.first_of.result _ _ (λ found inside. if_some_then found inside (λ base room.
    subst (λ n. HasStartRoom n base) c.in_ok-told.ensures.looks.disk.device.as_large room)) c.first_of.ensures.inside

pub returns-clause-first : goal.returns-clause-first
returns-clause-first g c = IfOk-weaker c.first_of.result _ _
    (λ found fact honest start deeds desktop keeps spans are some.
    let d = g.D.Disk in
    let read = still_looked d c.past.result (still_none d c.args.store.now keeps.usable) c.past.ensures.looks in
    let quiet = c.shows_what_crashes_leave.ensures.quiet keeps.usable honest in
    let head = c.in_ok-told.ensures.told honest keeps.remembers.standing keeps.remembers.past.stands in
    let find = as_read d (λ size n x. (spans : List (Start × List Page))
    → (are : AreSpans size x NO_EPOCH c.in_ok-told.told spans)
    → HasSpan spans → IsSomeAnd found (IsFirstOf size x NO_EPOCH c.in_ok-told.told spans are)) read quiet honest 0 0
    refl
    (fact (read.left.disk.device.still honest)) in
    subst (λ (t : PastEnd). (spans : List (Start × List Page))
    → (are : AreSpans (d.size c.args.store.now.disk) (now (d.trail c.args.store.now.disk)).reads NO_EPOCH t spans)
    → HasSpan spans → IsSomeAnd found (IsFirstOf (d.size c.args.store.now.disk)
    (now (d.trail c.args.store.now.disk)).reads
    NO_EPOCH t spans are)) head find spans are some) c.first_of.ensures.first
