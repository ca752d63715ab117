use Rattle.std.proofs.Common.{◌<◌, ◌++◌, length, subst, arith}
use Rattle.std.proofs.lemmas.Bool.Decides.{nat_tests}
use Rattle.std.proofs.lemmas.List.{take_all}
use Rattle.sector_disk.specs.Trail.{now}
use Rattle.store_layout.specs.Filling.{HasTaken}
use Rattle.store_layout.proofs.filling.Filling.put_over.Goals as goal

pub returns-clause-taken : goal.returns-clause-taken
returns-clause-taken g c = λ h before was.
    let reads = (now (g.D.Disk.trail c.args.disk.now)).reads in
    let fits = c.if-bytes-self.false in let within = c.args.self.now.fits in
    let some : 0 < length c.args.bytes.now = grind (arith, nat_tests, c.is_empty.ensures, c.if-is_empty.false) in
    let all = c.take_some.ensures.whole (omega (arith, fits, within)) in
    subst (λ bytes. HasTaken reads c.take_some.new.self (before ++ bytes))
    (take_all c.take_some.result c.args.bytes.now (omega (arith, all)))
    (c.take_some.ensures.taken reads before (λ full. absurd (let bad : ⊥ = omega (arith, fits, some, full) in bad)) was)
