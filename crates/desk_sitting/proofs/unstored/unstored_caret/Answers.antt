use Rattle.std.proofs.Common.{◌∙◌, refl, sym}
use Rattle.std.specs.Prelude.{None, Some}
use Rattle.std.proofs.lemmas.Result.{IfOk-weaker}
use Rattle.desk_sitting.proofs.Marks.{caret_so, looks_none}
use Rattle.desk_sitting.proofs.unstored.unstored_caret.Goals as goal

pub returns-in-None-clause-told : goal.returns-in-None-clause-told
returns-in-None-clause-told g c = λ honest. caret_so None c.args.store.now.desktop None
    (sym c.in-None.is ∙ c.caret_place.ensures) refl

pub returns-in-None-clause-looks : goal.returns-in-None-clause-looks
returns-in-None-clause-looks g c = looks_none g.D.Disk None c.args.store.now c.requires

pub returns-in-Some-clause-told : goal.returns-in-Some-clause-told
returns-in-Some-clause-told g c = IfOk-weaker c.unstored_at.result _ _ (λ found is honest.
    caret_so (Some c.in-Some.place) c.args.store.now.desktop found (sym c.in-Some.is ∙ c.caret_place.ensures) (is honest))
    c.unstored_at.ensures.told
