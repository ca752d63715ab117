use Rattle.std.proofs.Common.{◌≡◌, arith}
use Rattle.sector_disk.proofs.Confinement.{widened}
use Rattle.sector_disk.specs.declared.disk.TheConstants.{SECTOR_BYTES}
use Rattle.store_layout.proofs.Filled.{turned, is_within}
use Rattle.store_layout.proofs.filling.Filling.turn_over.Goals as goal

pub returns-clause-kept : goal.returns-clause-kept
returns-clause-kept g c = widened g.D.Disk.size g.D.Disk.honest g.D.Disk.trail
    (is_within c.args.self.now.from c.args.self.now.limit c.args.self.now.full c.args.self.now.within)
    c.write.ensures.kept

pub returns-clause-spread : goal.returns-clause-spread
returns-clause-spread g c = λ h bytes was.
    let all : c.args.self.now.used ≡ SECTOR_BYTES = omega (arith, c.if-self.false, c.args.self.now.fits) in
    turned _ _ _ _ _ _ bytes (c.in_ok-write.ensures.written h) was _ all c.blank-self.ensures
