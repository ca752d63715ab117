use Rattle.std.proofs.Common.{◌≡◌, ◌+◌, ◌*◌, ◌-◌, ◌≤◌, ◌∙◌, arith, length, refl, sym}
use Rattle.std.proofs.lemmas.Result.{on_ok_weaker}
use Rattle.sector_disk.specs.Trail.{now}
use Rattle.store_layout.specs.declared.layout.TheConstants.{STORE_SECTORS}
use Rattle.past_pages.specs.Sectors.{HasCopies}
use Rattle.desk_past.specs.Beginning.{SparesOthers}
use Rattle.desk_past.proofs.Begun.{aside_both, aside_written, device_of, same_both, spares_then, spares_write}
use Rattle.desk_past.proofs.Copied.{copies_as, copies_on, spared_reads, spared_wider}
use Rattle.desk_past.proofs.beginning.copy_behind.Goals as goal

pub write_behind-requires : goal.write_behind-requires
write_behind-requires g c = record {
  behind = c.requires.start.behind;
  some = omega arith;
  numbered = omega (arith, c.requires.start.numbered);
  room = omega (arith, c.requires.start.room);
  fits = omega arith;
}

pub copy_rest-requires-clause-start : goal.copy_rest-requires-clause-start
copy_rest-requires-clause-start g c = record {
  behind = c.requires.start.behind;
  numbered = c.requires.start.numbered;
  room = omega (arith, c.requires.start.room, c.write_behind.ensures.only.as_large);
}

pub copy_some-requires-clause-start : goal.copy_some-requires-clause-start
copy_some-requires-clause-start g c = record {
  behind = c.requires.start.behind;
  numbered = c.requires.start.numbered;
  room = omega (
    arith,
    c.requires.start.room,
    c.write_behind.ensures.only.as_large,
    c.copy_rest.ensures.device.same.as_large,
  );
}

pub returns-in_err-write_behind-clause-others : goal.returns-in_err-write_behind-clause-others
returns-in_err-write_behind-clause-others g c = spares_write g.D.Disk c.args.base c.args.base 1 (omega arith)
    (omega arith)
    c.write_behind.ensures.only c.shows_what_crashes_leave.ensures.quiet

pub returns-in_err-copy_rest-clause-others : goal.returns-in_err-copy_rest-clause-others
returns-in_err-copy_rest-clause-others g c =
    spares_then g.D.Disk c.args.base c.copy_rest.new.store (device_of g.D.Disk c.write_behind.ensures.only)
    c.in_ok-write_behind.ensures.ok.usable
    (spares_write g.D.Disk c.args.base c.args.base 1 (omega arith) (omega arith) c.write_behind.ensures.only
    c.shows_what_crashes_leave.ensures.quiet) c.copy_rest.ensures.others

pub returns-clause-others : goal.returns-clause-others
returns-clause-others g c =
    let d = g.D.Disk in
    let first = device_of d c.write_behind.ensures.only in
    spares_then d c.args.base c.copy_some.new.store (same_both d first c.copy_rest.ensures.device.same)
    c.in_ok-copy_rest.ensures.aside.usable
    (spares_then d c.args.base c.copy_rest.new.store first c.in_ok-write_behind.ensures.ok.usable
    (spares_write d c.args.base c.args.base 1 (omega arith) (omega arith) c.write_behind.ensures.only
    c.shows_what_crashes_leave.ensures.quiet) c.copy_rest.ensures.others)
    (spared_wider d c.args.base STORE_SECTORS (c.args.base + 0) 1 (omega arith) (omega arith) c.copy_some.ensures.only)

pub returns-clause-aside : goal.returns-clause-aside
returns-clause-aside g c =
    let d = g.D.Disk in
    let first = device_of d c.write_behind.ensures.only in
    on_ok_weaker c.copy_some.result (λ last. aside_both d (same_both d first c.copy_rest.ensures.device.same)
    (aside_both d first (aside_written d c.in_ok-write_behind.ensures.ok) c.in_ok-copy_rest.ensures.aside) last)
    c.copy_some.ensures.aside

pub returns-clause-copied : goal.returns-clause-copied
returns-clause-copied g c = on_ok_weaker c.copy_some.result (λ last honest.
    let d = g.D.Disk in
    let base = c.args.base in
    let behind = c.requires.start.behind in
    let first = device_of d c.write_behind.ensures.only in
    let second = first.still honest in
    let third = c.copy_rest.ensures.device.same.still second in
    let was = (now (d.trail c.args.store.now.disk)).reads in
    let mid1 = (now (d.trail c.write_behind.new.self.disk)).reads in
    let mid2 = (now (d.trail c.copy_rest.new.store.disk)).reads in
    let c' = (now (d.trail c.copy_some.new.store.disk)).reads in
    let wrote : SparesOthers d base c.args.store.now c.write_behind.new.self = spares_write d base base 1 (omega arith)
    (omega arith) c.write_behind.ensures.only
    c.shows_what_crashes_leave.ensures.quiet in
    let label : HasCopies base 0 1 was c' = copies_as base 0 1 mid2 was c' c' (λ n within. refl)
    (λ n within. sym (spared_reads d c.copy_rest.ensures.others c.in_ok-write_behind.ensures.ok.usable second n
    (λ inside. omega (arith, inside.0, behind, within.1))
    ∙ spared_reads d wrote c.requires.usable honest n (λ inside. omega (arith, inside.0, behind, within.1))))
    (last third) in
    let rest : HasCopies base 1 (STORE_SECTORS - 1) was c' = copies_as base 1 (STORE_SECTORS - 1) mid1 was mid2 c'
    (λ n within. spared_reads d c.copy_some.ensures.only c.in_ok-copy_rest.ensures.aside.usable third (base + n)
    (λ inside. omega (arith, inside.1, within.0)))
    (λ n within. sym (spared_reads d wrote c.requires.usable honest n
    (λ inside. omega (arith, inside.0, behind, within.1))))
    (c.in_ok-copy_rest.ensures.copied second) in
    copies_on base 0 1 (STORE_SECTORS - 1) was c' label rest) c.copy_some.ensures.copied
