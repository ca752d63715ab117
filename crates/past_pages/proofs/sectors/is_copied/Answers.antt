use Rattle.std.proofs.Common.{◌≡◌, inl, inr, ◌+◌, ◌∙◌, ap, arith, refl, rules, subst, sym}
use Rattle.std.proofs.lemmas.Bool.{cases_lt, false≢true}
use Rattle.sector_disk.specs.Trail.{Content, now}
use Rattle.past_pages.specs.Sectors.{HoldsSame}
use Rattle.past_pages.proofs.StillReads.{still_both, still_none, still_reads}
use Rattle.past_pages.proofs.sectors.is_copied.Goals as goal

pub loop-k-init : goal.loop-k-init
loop-k-init g c = record {
  still = still_none g.D.Disk c.args.store.now c.requires.usable;
  calm = refl;
  low = omega arith;
  same = λ honest k high low. absurd (omega (arith, high, low));
}

pub returns-in_err-are_alike-clause-still : goal.returns-in_err-are_alike-clause-still
returns-in_err-are_alike-clause-still g c = still_both g.D.Disk c.loop-k.invariant.still c.are_alike.ensures.still

pub returns-then-not-branch-clause-still : goal.returns-then-not-branch-clause-still
returns-then-not-branch-clause-still g c = still_both g.D.Disk c.loop-k.invariant.still c.are_alike.ensures.still

pub loop-k-preserved : goal.loop-k-preserved
loop-k-preserved g c =
    let d = g.D.Disk in
    let i = c.loop-k.invariant in
    record {
      still = still_both d i.still c.are_alike.ensures.still;
      calm = search rules;
      low = omega (arith, i.low);
      same = λ honest k high low. elim (cases_lt k c.loop-k.k) [
        | inl less ↦ i.same honest k high less
        | inr ge ↦
            let same = still_reads d i.still (c.shows_what_crashes_leave.ensures.quiet c.requires.usable honest)
            honest in
            let reads = (now (d.trail c.args.store.now.disk)).reads in
            subst (λ j. reads (c.args.base + j) ≡ reads j) (omega (arith, low, ge))
            (ap (λ r. r (c.args.base + c.loop-k.k)) (sym same)
            ∙ c.in_ok-are_alike.ensures.same c.if-not-branch.false (i.still.left.disk.device.still honest)
            ∙ ap (λ r. r c.loop-k.k) same)
      ];
    }

pub returns-then-not-branch-clause-all : goal.returns-then-not-branch-clause-all
returns-then-not-branch-clause-all g c = λ honest copied.
    let d = g.D.Disk in
    let i = c.loop-k.invariant in
    let same = still_reads d i.still (c.shows_what_crashes_leave.ensures.quiet c.requires.usable honest) honest in
    let alike = subst (λ (r : Content). HoldsSame (r (c.args.base + c.loop-k.k)) (r c.loop-k.k)) (sym same)
    (copied c.loop-k.k (c.loop-k.invariant.low, omega (arith, c.loop-k-test.true))) in
    absurd (false≢true (sym c.if-not-branch.true ∙ c.in_ok-are_alike.ensures.all (i.still.left.disk.device.still honest)
    alike))
