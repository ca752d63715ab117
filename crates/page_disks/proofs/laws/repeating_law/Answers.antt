use Rattle.page_disks.proofs.Repeated as repeated
use Rattle.page_disks.proofs.laws.repeating_law.Goals as goal

pub returns-clause-moments : goal.returns-clause-moments
returns-clause-moments c = repeated.moments

pub returns-clause-whole : goal.returns-clause-whole
returns-clause-whole c = repeated.whole

pub returns-clause-anew : goal.returns-clause-anew
returns-clause-anew c = repeated.anew
