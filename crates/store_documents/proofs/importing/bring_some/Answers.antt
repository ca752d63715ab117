use Rattle.std.proofs.lemmas.Result.{IfOk-weaker}
use Rattle.store_documents.proofs.Imports.{failed_looked, none_while_looking, not_looked}
use Rattle.store_documents.proofs.importing.bring_some.Goals as goal

pub returns-then-is_empty-clause-any_moment : goal.returns-then-is_empty-clause-any_moment
returns-then-is_empty-clause-any_moment g c =
    none_while_looking g.D.Disk c.args.documents.now c.requires (not_looked g.D.Disk c.args.store.now)

pub returns-clause-brought : goal.returns-clause-brought
returns-clause-brought g c = λ some. IfOk-weaker c.bring.result _ _ (λ reply fact. fact.answers) c.bring.ensures.ok

pub returns-clause-failed : goal.returns-clause-failed
returns-clause-failed g c =
    failed_looked g.D.Disk c.bring.result c.args.store.now c.bring.new.store c.bring.ensures.reopen c.bring.ensures.left
