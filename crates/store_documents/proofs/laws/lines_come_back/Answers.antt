use Rattle.store_documents.proofs.FillingLaws.{joined_back, nothing_lost, all_narrow, filled_plain}
use Rattle.store_documents.proofs.laws.lines_come_back.Goals as goal

pub returns-clause-joined : goal.returns-clause-joined
returns-clause-joined c width text same = joined_back width 0 0 text same

pub returns-clause-kept : goal.returns-clause-kept
returns-clause-kept c width text = nothing_lost width 0 text

pub returns-clause-narrow : goal.returns-clause-narrow
returns-clause-narrow c width text short = all_narrow width text short

pub returns-clause-plain : goal.returns-clause-plain
returns-clause-plain c width text plain = filled_plain width 0 text plain
