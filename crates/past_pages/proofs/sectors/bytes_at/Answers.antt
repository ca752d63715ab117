use Rattle.std.proofs.Common.{◌≡◌, ◌+◌, ◌++◌, ◌∙◌, length, length-append, refl, rules, sym, ap, arith}
use Rattle.sector_disk.specs.Trail.{now}
use Rattle.sector_disk.specs.declared.disk.TheConstants.{SECTOR_BYTES}
use Rattle.sector_disk.proofs.StoredLaws.{none_stored, sector_more}
use Rattle.past_pages.proofs.StillReads.{still_looked, still_none, still_reads}
use Rattle.past_pages.proofs.sectors.bytes_at.Goals as goal

pub loop-k-init : goal.loop-k-init
loop-k-init g c = record {
  still = still_none g.D.Disk c.args.store.now c.requires.usable;
  calm = refl;
  long = ap length c.new-bytes.ensures.items;
  bytes = λ honest. c.new-bytes.ensures.items
      ∙ sym (none_stored (now (g.D.Disk.trail c.args.store.now.disk)).reads c.args.at);
}

pub loop-k-preserved : goal.loop-k-preserved
loop-k-preserved g c =
    let d = g.D.Disk in
    let i = c.loop-k.invariant in
    record {
      still = still_looked d c.sector_at.result i.still c.sector_at.ensures.looks;
      calm = search rules;
      long =
          let wide : length c.in_ok-sector.sector ≡ SECTOR_BYTES = search rules in
          let all = ap length c.in_ok-extend_from_slice.ensures.items in
          omega (arith, i.long, all, wide, length-append c.loop-k.bytes.items c.in_ok-sector.sector);
      bytes = λ honest.
          let same = still_reads d i.still (c.shows_what_crashes_leave.ensures.quiet c.requires.usable honest) honest in
          c.in_ok-extend_from_slice.ensures.items ∙ ap (λ l. l ++ c.in_ok-sector.sector) (i.bytes honest)
          ∙ sym (sector_more (now (d.trail c.args.store.now.disk)).reads c.args.at c.loop-k.k c.in_ok-sector.sector
          (sym (ap (λ r. r (c.args.at + c.loop-k.k)) same)
          ∙ sym (c.in_ok-sector.ensures.bytes (i.still.left.disk.device.still honest))) (search rules));
    }

pub returns-in_err-sector-clause-still : goal.returns-in_err-sector-clause-still
returns-in_err-sector-clause-still g c =
    still_looked g.D.Disk c.sector_at.result c.loop-k.invariant.still c.sector_at.ensures.looks

pub returns-in_err-extend_from_slice-clause-still : goal.returns-in_err-extend_from_slice-clause-still
returns-in_err-extend_from_slice-clause-still g c =
    still_looked g.D.Disk c.sector_at.result c.loop-k.invariant.still c.sector_at.ensures.looks
