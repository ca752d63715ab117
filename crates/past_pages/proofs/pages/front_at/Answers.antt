use Rattle.std.proofs.Common.{◌+◌, ◌∙◌, ap, arith, length, sym}
use Rattle.sector_disk.specs.Trail.{now}
use Rattle.past_pages.proofs.PageReads.{count_is, kind_is, sectors_are, spelled_there, turn_sectors, version_is}
use Rattle.past_pages.proofs.pages.front_at.Goals as goal

pub split_at-requires : goal.split_at-requires
split_at-requires g c = let long = ap length c.as_slice.ensures.value in omega (arith, long, c.in_ok-first.ensures.long)

pub returns-in_default-clause-found : goal.returns-in_default-clause-found
returns-in_default-clause-found g c = λ honest p page.
    let at = (now (g.D.Disk.trail c.args.store.now.disk)).reads in
    let read = c.as_slice.ensures.value ∙ c.in_ok-first.ensures.bytes honest in
    c.in_default.ensures.none
    (version_is at c.args.at p page.held page.good _ _ c.split_at.ensures.front read)

pub returns-then-sectors-end-clause-found : goal.returns-then-sectors-end-clause-found
returns-then-sectors-end-clause-found g c = λ honest p page.
    let at = (now (g.D.Disk.trail c.args.store.now.disk)).reads in
    let read = c.as_slice.ensures.value ∙ c.in_ok-first.ensures.bytes honest in
    let are = sectors_are at c.args.at p page.held page.good _ _ c.split_at.ensures.front read c.in-Some.front.spelled
    c.in-Some-sectors_for.sectors c.in-Some.ensures.spelled c.in-Some-sectors_for.ensures.count in
    omega (arith, are, page.within, c.if-sectors-end.true)

pub returns-in_default-kind_of-clause-found : goal.returns-in_default-kind_of-clause-found
returns-in_default-kind_of-clause-found g c = λ honest p page.
    let at = (now (g.D.Disk.trail c.args.store.now.disk)).reads in
    let read = c.as_slice.ensures.value ∙ c.in_ok-first.ensures.bytes honest in
    let kind = kind_is at c.args.at p page.held page.good _ _ c.split_at.ensures.front read c.in-Some.front.kind
    c.in-Some.ensures.kind in
    (rw c.in_default-kind_of.is at c.kind_of.ensures) p _ kind
    (count_is at c.args.at p page.held page.good _ _ c.split_at.ensures.front read c.in-Some.front.count
    c.in-Some.ensures.count) page.good.valid
    (λ turn. spelled_there at c.args.at p page.held page.good _ _ 1 (sym (turn_sectors p (sym kind ∙ turn))) read
    c.split_at.ensures.back)

pub returns-clause-found : goal.returns-clause-found
returns-clause-found g c = λ honest p page.
    let at = (now (g.D.Disk.trail c.args.store.now.disk)).reads in
    let read = c.as_slice.ensures.value ∙ c.in_ok-first.ensures.bytes honest in
    let kind = kind_is at c.args.at p page.held page.good _ _ c.split_at.ensures.front read c.in-Some.front.kind
    c.in-Some.ensures.kind in
    let are = sectors_are at c.args.at p page.held page.good _ _ c.split_at.ensures.front read c.in-Some.front.spelled
    c.in-Some-sectors_for.sectors c.in-Some.ensures.spelled c.in-Some-sectors_for.ensures.count in (
      (rw c.in-Some-kind_of.is at c.kind_of.ensures) p _ kind
          (count_is at c.args.at p page.held page.good _ _ c.split_at.ensures.front read c.in-Some.front.count
          c.in-Some.ensures.count) page.good.valid
          (λ turn. spelled_there at c.args.at p page.held page.good _ _ 1 (sym (turn_sectors p (sym kind ∙ turn))) read
          c.split_at.ensures.back),
      ap (λ n. c.args.at + n) are,
    )
