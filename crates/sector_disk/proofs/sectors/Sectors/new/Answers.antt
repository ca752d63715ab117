use Rattle.sector_disk.proofs.Keeping.{none_seen, none_held}
use Rattle.sector_disk.proofs.sectors.Sectors.new.Goals as goal

pub returns-clause-reads : goal.returns-clause-reads
returns-clause-reads c = none_seen c.args.alloc c.new.result c.new-2.result c.new.ensures.empty

pub returns-clause-settled : goal.returns-clause-settled
returns-clause-settled c = none_held c.args.alloc c.new.result c.new-2.result c.new.ensures.empty
