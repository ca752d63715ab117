use Rattle.std.proofs.Common.{◌≡◌, ◌+◌, ◌-◌, ◌*◌, ◌∙◌, ap, arith, take, drop}
use Rattle.std.proofs.lemmas.Result.{on_ok_weaker}
use Rattle.sector_disk.specs.Trail.{now}
use Rattle.sector_disk.specs.declared.disk.TheConstants.{SECTOR_BYTES}
use Rattle.store_slots.proofs.Fronts.{placed, rest_more}
use Rattle.store_slots.proofs.checkpoint.write_full.Goals as goal

pub returns-clause-front : goal.returns-clause-front
returns-clause-front g c = on_ok_weaker c.write.result (λ is_written honest front long was.
    let wide : SECTOR_BYTES * c.args.i + SECTOR_BYTES - SECTOR_BYTES * c.args.i ≡ SECTOR_BYTES = omega arith in
    rest_more (now (g.D.Disk.trail c.args.disk.now)) (now (g.D.Disk.trail c.write.new.self)) c.args.place.area
    c.args.place.saved
    c.args.i _
    front c.args.rest.now (placed _ _ _ _ _ c.area_at.ensures (is_written honest)) c.requires.full
    (c.copy_from_slice.ensures.after ∙ ap (λ n. take n (drop (SECTOR_BYTES * c.args.i) c.args.rest.now)) wide) long was)
    c.write.ensures.written
