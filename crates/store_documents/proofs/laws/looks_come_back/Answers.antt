use Rattle.store_documents.proofs.LookLaws.{told_all}
use Rattle.store_documents.proofs.laws.looks_come_back.Goals as goal

pub returns : goal.returns
returns c before text = told_all before text
