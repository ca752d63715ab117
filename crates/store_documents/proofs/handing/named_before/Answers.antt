use Rattle.std.proofs.Common.{rules, ◌∙◌, sym}
use Rattle.store_documents.proofs.Takings.{none_more}
use Rattle.store_documents.proofs.handing.named_before.Goals as goal

pub loop-index-preserved : goal.loop-index-preserved
loop-index-preserved c =
    none_more c.args.documents.now c.loop-index.index c.loop-index.invariant
    (sym c.is_repeated.ensures ∙ c.if-is_repeated.false)

pub returns-clause-first : goal.returns-clause-first
returns-clause-first c = λ k less none. c.loop-index.invariant k (search rules)
