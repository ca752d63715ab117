use Rattle.std.proofs.Common.{◌≡◌, ◌∙◌, ap, arith, length, subst, sym}
use Rattle.std.proofs.lemmas.List.{take_all}
use Rattle.past_pages.specs.Page.{document_spellings, AreDocuments}
use Rattle.past_pages.proofs.DocumentReads.{good_more, next_short, spelled_more}
use Rattle.past_pages.proofs.documents.spelled_documents.Goals as goal

pub loop-document-init : goal.loop-document-init
loop-document-init c = record { spelled = c.new-bytes.ensures.items; good = tt }

pub loop-document-preserved : goal.loop-document-preserved
loop-document-preserved c =
    let documents = c.args.documents.now in
    let k = c.loop-document.document-index in
    let low = c.loop-document-test.true in
    let done = c.in_ok-put_document.ensures in
    record {
      spelled = done.put c.if-not-branch.false
          ∙ spelled_more documents k low c.document-item.is c.loop-document.bytes.items
          c.loop-document.invariant.spelled;
      good = good_more documents k low c.document-item.is c.loop-document.invariant.good
          (done.good c.if-not-branch.false);
    }

pub returns-then-not-branch-clause-none : goal.returns-then-not-branch-clause-none
returns-then-not-branch-clause-none c = λ fit.
    let long = c.in_ok-put_document.ensures.long c.if-not-branch.true in
    let less = next_short c.args.documents.now c.loop-document.document-index c.loop-document-test.true
    c.document-item.is in
    omega (arith, long, less, fit.short)
