use Rattle.std.proofs.Common.{◌≡◌, ◌+◌, ◌-◌, ◌*◌, ◌∙◌, ap, sym, arith, take, drop}
use Rattle.sector_disk.specs.Trail.{now}
use Rattle.sector_disk.specs.declared.disk.TheConstants.{SECTOR_BYTES}
use Rattle.store_slots.proofs.comparing.has_sector.Goals as goal

pub returns-clause-same : goal.returns-clause-same
returns-clause-same g c = λ same honest.
    let wide : SECTOR_BYTES * c.args.i + SECTOR_BYTES - SECTOR_BYTES * c.args.i ≡ SECTOR_BYTES = omega arith in
    ap (now (g.D.Disk.trail c.args.disk.now)).reads (sym c.area_at.ensures) ∙ sym (c.in_ok-read.ensures.bytes honest)
    ∙ c.is_same.ensures same ∙ ap (λ n. take n (drop (SECTOR_BYTES * c.args.i) c.args.rest.now)) wide
