use Rattle.std.proofs.Common.{◌∙◌, Err, ap, subst}
use Rattle.std.proofs.lemmas.Result.{err_from_is_err_and}
use Rattle.desktop_definitions.specs.Desktop.{Desktop}
use Rattle.store_documents.specs.declared.sorting.Standing.{Standing}
use Rattle.store_documents.specs.Standings.{IsPutBehind, standing_of}
use Rattle.desk_journal.specs.Errors.{OfLook}
use Rattle.store_documents.proofs.Failing.{fails_on}
use Rattle.store_documents.proofs.Looks.{looked_on}
use Rattle.store_documents.proofs.SortedLaws.{sorted_more}
use Rattle.store_documents.proofs.sorting.sort.Goals as goal

pub returns-in_err-standing-clause-looked : goal.returns-in_err-standing-clause-looked
returns-in_err-standing-clause-looked g c =
    looked_on g.D.Disk c.standing_in.result c.loop-document.invariant.1 c.standing_in.ensures.looks

pub loop-document-preserved : goal.loop-document-preserved
loop-document-preserved g c =
    let document = c.in-Some.document in
    let looked = c.loop-document.invariant.1 in (
      λ honest.
          let is = c.in_ok-standing.ensures.standing (looked.disk.device.still honest)
          ∙ ap (λ (d : Desktop). standing_of d document) (looked.desktop honest) in
          sorted_more _ document _ _ _ (c.loop-document.invariant.0 honest)
          (subst (λ (s : Standing). IsPutBehind document s c.loop-document.sorted c.add.new.sorted) is c.in_ok-add.ensures),
      looked_on g.D.Disk c.standing_in.result looked c.standing_in.ensures.looks,
      c.in_ok-standing.ensures.looks.faults.calm (λ wrong. absurd (cc wrong)) ∙ c.loop-document.invariant.2,
    )

pub returns-in_err-add-clause-looked : goal.returns-in_err-add-clause-looked
returns-in_err-add-clause-looked g c =
    looked_on g.D.Disk c.standing_in.result c.loop-document.invariant.1 c.standing_in.ensures.looks

pub returns-in_err-standing-clause-faults : goal.returns-in_err-standing-clause-faults
returns-in_err-standing-clause-faults g c =
    let p = err_from_is_err_and c.from_residual.result c.from_residual.ensures.1 in
    fails_on OfLook OfLook c.in_err-standing.field-0.0 c.from_residual.result _ _ _ (λ e is. is) c.loop-document.invariant.2
    (p.1 ∙ ap (λ e. Err e) p.2) c.in_err-standing.ensures.looks.faults
