use Rattle.std.proofs.Common.{◌≡◌, ◌+◌, ◌++◌, ◌∷◌, ◌∙◌, ap, arith, length, refl, sym, drop}
use Rattle.std.proofs.lemmas.Bool.{false≢true}
use Rattle.sector_disk.specs.Trail.{now}
use Rattle.past_pages.specs.Copies.{laid_over}
use Rattle.past_pages.specs.Page.{sector_spellings}
use Rattle.past_pages.proofs.CopyReads.{next_sector, next_spelled, none_left, rest_spelled}
use Rattle.past_pages.proofs.copies.lay_sectors.Goals as goal

pub loop-k-init : goal.loop-k-init
loop-k-init g c = record {
  within = omega arith;
  device = record { as_large = refl; still = λ h. h; already = λ h. h };
  laid = λ honest sectors rest are long is. (is, λ n. refl);
}

pub returns-then-not-branch-clause-laid : goal.returns-then-not-branch-clause-laid
returns-then-not-branch-clause-laid g c = λ honest sectors rest are long is.
    let i = c.loop-k.invariant in
    let was = i.laid honest sectors rest are long is in
    let next = next_sector c.loop-k.k sectors are (omega (arith, c.loop-k-test.true, long)) in
    let laid = c.in_ok-lay_sector.ensures.laid (i.device.still honest) next.sector (drop (c.loop-k.k + 1) sectors)
    (sector_spellings (drop (c.loop-k.k + 1) sectors) ++ rest) next.low next.long
    (next_spelled c.args.bytes.now _ c.loop-k.place c.loop-k.k sectors rest c.split_at.ensures.back was.0 next) in
    absurd (false≢true (sym c.if-not-branch.true ∙ laid.0))

pub loop-k-preserved : goal.loop-k-preserved
loop-k-preserved g c =
    let i = c.loop-k.invariant in
    let held = c.lay_sector.ensures in
    record {
      within = omega (
        arith,
        c.in_ok-lay_sector.ensures.long c.if-not-branch.false,
        c.split_at.ensures.back_len,
        i.within,
      );
      device = record {
        as_large = held.device.as_large ∙ i.device.as_large;
        still = λ h. held.device.still (i.device.still h);
        already = λ h. i.device.already (held.device.already h);
      };
      laid = λ honest sectors rest are long is.
          let was = i.laid honest sectors rest are long is in
          let next = next_sector c.loop-k.k sectors are (omega (arith, c.loop-k-test.true, long)) in
          let laid = c.in_ok-lay_sector.ensures.laid (i.device.still honest) next.sector (drop (c.loop-k.k + 1) sectors)
          (sector_spellings (drop (c.loop-k.k + 1) sectors) ++ rest) next.low next.long
          (next_spelled c.args.bytes.now _ c.loop-k.place c.loop-k.k sectors rest c.split_at.ensures.back was.0 next) in (
            rest_spelled c.args.bytes.now _ c.loop-k.place c.loop-k.k sectors rest c.split_at.ensures.back was.0 next,
            λ n. laid.1 n ∙ ap (λ l. laid_over (now (g.E.Disk.trail c.loop-k.disk)).reads l n) (sym next.here)
                ∙ was.1 n,
          );
    }

pub returns-clause-laid : goal.returns-clause-laid
returns-clause-laid g c = λ honest sectors rest are long is. (
  refl,
  λ n. ap (λ l. laid_over (now (g.E.Disk.trail c.loop-k.disk)).reads l n)
      (sym (none_left c.loop-k.k sectors (omega (arith, c.loop-k-test.false, long))))
      ∙ (c.loop-k.invariant.laid honest sectors rest are long is).1 n,
)
