use Rattle.std.proofs.Common.{rules}
use Rattle.twin_disk.proofs.Compared.{sectors_agree}
use Rattle.twin_disk.proofs.files.file_legs.Goals as goal

pub returns-clause-same : goal.returns-clause-same
returns-clause-same g c = λ yes h h'.
    sectors_agree c.args.sectors (g.F.HostFile.trail c.with_sectors.result.file) (g.G.HostFile.trail c.with_sectors-2.result.file)
    (search rules)
