use Rattle.std.proofs.Common.{◌≡◌, ◌+◌, ◌++◌, ◌∷◌, [], ◌∙◌, ap, arith, sym}
use Rattle.std.proofs.lemmas.List.{take_all}
use Rattle.past_pages.proofs.DocumentReads.{document_on, document_there}
use Rattle.past_pages.proofs.documents.documents_in.Goals as goal

pub loop-k-init : goal.loop-k-init
loop-k-init c = record {
  within = omega arith;
  read = λ documents rest valid long is. (c.new-documents.ensures.items, is);
}

pub returns-in_default : goal.returns-in_default
returns-in_default c = λ documents rest valid long is.
    let next = document_there _ c.loop-k.k documents rest valid (omega (arith, c.loop-k-test.true, long))
    (c.split_at.ensures.back ∙ (c.loop-k.invariant.read documents rest valid long is).1) in
    (rw c.in_default.is at c.in_ok-document.ensures.found) next.document next.after next.valid next.parts

pub loop-k-preserved : goal.loop-k-preserved
loop-k-preserved c =
    let i = c.loop-k.invariant in
    let found = rw c.in-Some.is at c.in_ok-document.ensures in
    record {
      within = omega (arith, found.within, c.split_at.ensures.back_len, i.within);
      read = λ documents rest valid long is.
          let was = i.read documents rest valid long is in
          let on = document_on c.args.bytes.now _ c.loop-k.place c.loop-k.k documents rest valid
          (omega (arith, c.loop-k-test.true, long)) c.split_at.ensures.back was.1 found.found in (
            c.in_ok-push.ensures.items ∙ ap (λ l. l ++ c.in-Some.document ∷ []) was.0 ∙ on.0,
            on.1,
          );
    }

pub returns : goal.returns
returns c = λ documents rest valid long is.
    (c.loop-k.invariant.read documents rest valid long is).0
    ∙ take_all c.loop-k.k documents (omega (arith, c.loop-k-test.false, c.loop-k.auto.k-end, long))
