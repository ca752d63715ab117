use Rattle.std.proofs.Common.{◌∙◌, ap, arith, subst, sym}
use Rattle.sector_disk.specs.Memory.{trail_of}
use Rattle.sector_disk.specs.Trail.{now}
use Rattle.sector_disk.specs.contracts.memory.MemoryDiskDisk.TheImpl.{ghosts as in_memory}
use Rattle.past_pages.specs.Laying.{StandsFrom}
use Rattle.past_pages.proofs.StillReads.{still_both, still_reads}
use Rattle.desk_past.proofs.InMemory.{zeros_are}
use Rattle.former_stores.specs.Laying.{ArePlaced, IsLaid}
use Rattle.former_stores.proofs.Formers.{laid_former}
use Rattle.former_stores.proofs.Laid.{match_under}
use Rattle.former_stores.proofs.former.laid_before.Goals as goal

pub returns-in_default-clause-found : goal.returns-in_default-clause-found
returns-in_default-clause-found g c = rw c.in_default.is at c.in_ok-pages.ensures.found

pub laid-requires-clause-start : goal.laid-requires-clause-start
laid-requires-clause-start g c =
    let large = c.stretch_before.ensures.still.left.disk.device.as_large in
    record { numbered = c.requires.start.numbered; room = omega (arith, c.requires.start.room, large) }

pub laid-requires-clause-pages : goal.laid-requires-clause-pages
laid-requires-clause-pages g c = subst (λ n. ArePlaced c.in-Some.pages.from c.in-Some.pages.count n)
    (sym c.stretch_before.ensures.still.left.disk.device.as_large) (rw c.in-Some.is at c.in_ok-pages.ensures.inside)

pub laid-requires-clause-blank : goal.laid-requires-clause-blank
laid-requires-clause-blank g c =
    let large = c.stretch_before.ensures.still.left.disk.device.as_large in
    let size = ap (λ d. d.size) c.in_ok-disk.ensures in
    let placed = (rw c.in-Some.is at c.in_ok-pages.ensures.inside) in
    let room = placed.room in
    let start = c.requires.start.room in (
      record {
        room = omega (arith, size, large, c.sectors.ensures, start);
        zeros = λ n. ap (λ d. (now (trail_of d.calls)).reads n) c.in_ok-disk.ensures ∙ zeros_are;
      },
      omega (arith, size, large, c.sectors.ensures, room),
    )

pub returns-clause-found : goal.returns-clause-found
returns-clause-found g c =
    let d = g.D.Disk in
    let still = c.stretch_before.ensures.still in
    let large = still.left.disk.device.as_large in
    let size = ap (λ d. d.size) c.in_ok-disk.ensures in
    let reads = (now (d.trail c.args.store.now.disk)).reads in
    let same = λ (honest : d.honest c.args.store.now.disk). still_reads d still (c.shows_what_crashes_leave.ensures.quiet c.requires.usable honest) honest in
    match_under c.laid.result c.laid.ensures.found (λ honest. still.left.disk.device.still honest) (λ honest. tt)
    (λ honest none has. none has.standing
    (subst (λ r. StandsFrom r c.args.base has.standing) (sym (same honest)) has.stands))
    (λ shown honest laid.
    let has = (rw c.in-Some.is at c.in_ok-pages.ensures.found) honest in
    laid_former c.standing_law.ensures in_memory (in_memory.size c.in_ok-disk.disk) shown
    (size ∙ c.sectors.ensures ∙ large) has.0 has.1
    (subst (λ r. IsLaid in_memory r c.args.base c.in-Some.pages.from c.in-Some.pages.count
    (in_memory.size c.in_ok-disk.disk) shown) (same honest) laid))

pub returns-clause-still : goal.returns-clause-still
returns-clause-still g c = still_both g.D.Disk c.stretch_before.ensures.still c.laid.ensures.still
