use Rattle.std.proofs.Common.{◌≡◌, ◌+◌, ◌-◌, ◌≤◌, ◌∙◌, arith, refl, rules, subst}
use Rattle.sector_disk.specs.Trail.{now}
use Rattle.past_pages.specs.Sectors.{AreBlank}
use Rattle.desk_past.proofs.Begun.{aside_both, aside_none, same_both, spared_none, spared_then}
use Rattle.desk_past.proofs.Copied.{spared_reads, spared_wider}
use Rattle.desk_past.proofs.Forgotten.{blank_as, blank_on}
use Rattle.desk_past.proofs.forgetting.blank.Goals as goal

pub loop-done-init : goal.loop-done-init
loop-done-init g c = record {
  most = omega arith;
  device = record { as_large = refl; still = λ h. h; already = λ h. h };
  calm = refl;
  only = spared_none g.D.Disk c.args.from c.args.count c.shows_what_crashes_leave.ensures.quiet;
  aside = aside_none g.D.Disk c.args.store.now c.requires.usable;
  blank = λ honest n within. absurd (omega (arith, within.0, within.1));
}

pub loop-done-preserved : goal.loop-done-preserved
loop-done-preserved g c =
    let d = g.D.Disk in
    let i = c.loop-done.invariant in
    let from = c.args.from in
    let at = c.loop-done.done in
    let some = c.min-some.result in
    let only = c.blank_some.ensures.only in
    record {
      most = omega (arith, c.min-some.ensures, i.most);
      device = same_both d i.device c.blank_some.ensures.device.same;
      calm = search rules;
      only = spared_then d from c.args.count c.blank_some.new.store i.device i.aside.usable i.only
          (spared_wider d from c.args.count (from + at) some (omega arith) (omega (arith, c.min-some.ensures, i.most))
          only);
      aside = aside_both d i.device i.aside c.in_ok-blank_some.ensures.aside;
      blank = λ honest.
          let second = i.device.still honest in
          blank_on from at some (now (d.trail c.blank_some.new.store.disk)).reads
          (blank_as from at (now (d.trail c.loop-done.store.disk)).reads
          (now (d.trail c.blank_some.new.store.disk)).reads (λ n within. spared_reads d only i.aside.usable second n
          (λ inside. omega (arith, within.1, inside.0))) (i.blank honest))
          (c.in_ok-blank_some.ensures.blank second);
    }

pub returns-in_err-blank_some-clause-only : goal.returns-in_err-blank_some-clause-only
returns-in_err-blank_some-clause-only g c =
    let d = g.D.Disk in
    let i = c.loop-done.invariant in
    spared_then d c.args.from c.args.count c.blank_some.new.store i.device i.aside.usable i.only
    (spared_wider d c.args.from c.args.count (c.args.from + c.loop-done.done) c.min-some.result (omega arith)
    (omega (arith, c.min-some.ensures, i.most)) c.blank_some.ensures.only)

pub returns-clause-blank : goal.returns-clause-blank
returns-clause-blank g c = λ honest.
    let i = c.loop-done.invariant in
    subst (λ k. AreBlank c.args.from k (now (g.D.Disk.trail c.loop-done.store.disk)).reads)
    (omega (arith, i.most, c.loop-done-test.false)) (i.blank honest)
