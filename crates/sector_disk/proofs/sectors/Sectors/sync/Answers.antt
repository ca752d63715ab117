use Rattle.sector_disk.proofs.Keeping.{all_settled, settled_reads}
use Rattle.sector_disk.proofs.sectors.Sectors.sync.Goals as goal

pub returns-clause-reads : goal.returns-clause-reads
returns-clause-reads c = all_settled c.args.self.now c.clear.new.self c.clear.ensures

pub returns-clause-settled : goal.returns-clause-settled
returns-clause-settled c = settled_reads c.args.self.now c.clear.new.self c.clear.ensures
