use Rattle.std.proofs.Common.{◌≡◌, ◌+◌, ◌-◌, ◌≤◌, ◌∙◌, arith, refl, rules, subst, sym}
use Rattle.sector_disk.specs.Trail.{now}
use Rattle.store_layout.specs.declared.layout.TheConstants.{STORE_SECTORS}
use Rattle.past_pages.specs.Sectors.{HasCopies}
use Rattle.desk_past.proofs.Begun.{aside_both, aside_none, same_both, spares_none, spares_then}
use Rattle.desk_past.proofs.Copied.{copies_as, copies_on, spared_reads, spared_wider}
use Rattle.desk_past.proofs.beginning.copy_rest.Goals as goal

pub loop-done-init : goal.loop-done-init
loop-done-init g c = record {
  some = omega arith;
  most = omega arith;
  device = record { as_large = refl; still = λ h. h; already = λ h. h };
  calm = refl;
  others = spares_none g.D.Disk c.args.base c.shows_what_crashes_leave.ensures.quiet;
  aside = aside_none g.D.Disk c.args.store.now c.requires.usable;
  copied = λ honest n within. absurd (omega (arith, within.0, within.1));
}

pub copy_changed-requires-clause-start : goal.copy_changed-requires-clause-start
copy_changed-requires-clause-start g c = record {
  behind = c.requires.start.behind;
  numbered = c.requires.start.numbered;
  room = omega (arith, c.requires.start.room, c.loop-done.invariant.device.as_large);
}

pub loop-done-preserved : goal.loop-done-preserved
loop-done-preserved g c =
    let d = g.D.Disk in
    let i = c.loop-done.invariant in
    let base = c.args.base in
    let at = c.loop-done.done in
    let count = c.min-count.result in
    let only = c.copy_changed.ensures.only in
    record {
      some = omega (arith, i.some);
      most = omega (arith, c.min-count.ensures, i.most);
      device = same_both d i.device c.copy_changed.ensures.device.same;
      calm = search rules;
      others = spares_then d base c.copy_changed.new.store i.device i.aside.usable i.others
          (spared_wider d base STORE_SECTORS (base + at) count (omega arith)
          (omega (arith, c.min-count.ensures, i.most)) only);
      aside = aside_both d i.device i.aside c.in_ok-copy_changed.ensures.aside;
      copied = λ honest.
          let second = i.device.still honest in
          let was = (now (d.trail c.args.store.now.disk)).reads in
          let mid = (now (d.trail c.loop-done.store.disk)).reads in
          let c' = (now (d.trail c.copy_changed.new.store.disk)).reads in
          let first : HasCopies base 1 (at - 1) was c' = copies_as base 1 (at - 1) was was mid c'
          (λ n within. spared_reads d only i.aside.usable second (base + n)
          (λ inside. omega (arith, within.1, inside.0, i.some)))
          (λ n within. refl) (i.copied honest) in
          let more : HasCopies base at count was c' = copies_as base at count mid was c' c' (λ n within. refl)
          (λ n within. sym (spared_reads d i.others c.requires.usable honest n (λ inside.
          omega (arith, inside.0, c.requires.start.behind, within.1, c.min-count.ensures, i.most))))
          (c.in_ok-copy_changed.ensures.copied second) in
          subst (λ k. HasCopies base 1 k was c') (omega (arith, i.some))
          (copies_on base 1 (at - 1) count was c' first
          (subst (λ k. HasCopies base k count was c') (omega (arith, i.some)) more));
    }

pub returns-in_err-copy_changed-clause-others : goal.returns-in_err-copy_changed-clause-others
returns-in_err-copy_changed-clause-others g c =
    let d = g.D.Disk in
    let i = c.loop-done.invariant in
    spares_then d c.args.base c.copy_changed.new.store i.device i.aside.usable i.others
    (spared_wider d c.args.base STORE_SECTORS (c.args.base + c.loop-done.done) c.min-count.result (omega arith)
    (omega (arith, c.min-count.ensures, i.most)) c.copy_changed.ensures.only)

pub returns-clause-copied : goal.returns-clause-copied
returns-clause-copied g c = λ honest.
    let d = g.D.Disk in
    let i = c.loop-done.invariant in
    let all : c.loop-done.done - 1 ≡ STORE_SECTORS - 1 = omega (arith, i.most, c.loop-done-test.false) in
    subst (λ k. HasCopies c.args.base 1 k (now (d.trail c.args.store.now.disk)).reads
    (now (d.trail c.loop-done.store.disk)).reads) all (i.copied honest)
