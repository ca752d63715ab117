use Rattle.std.proofs.Common.{◌≡◌, ◌+◌, ◌∙◌, ap, arith, length, refl, subst, sym}
use Rattle.past_pages.specs.Page.{IsDocument}
use Rattle.past_pages.proofs.DocumentReads.{document_long, name_first, text_next, short_name}
use Rattle.past_pages.proofs.documents.document_at.Goals as goal

pub returns-in_default-counted_in-clause-found : goal.returns-in_default-counted_in-clause-found
returns-in_default-counted_in-clause-found c = λ document rest valid is.
    let bytes = c.args.bytes.now in
    let first = c.in-Some.ensures.found document.0 _ (short_name document.0 valid.name)
    (name_first bytes document rest is) in
    c.in_default-counted_in.ensures.found document.1 rest valid.short
    (text_next bytes document rest is c.in-Some.name.now _ (4 + length c.in-Some.name.now) first refl
    c.split_at.ensures.back)

pub returns-in_default-2-clause-found : goal.returns-in_default-2-clause-found
returns-in_default-2-clause-found c = λ document rest valid is.
    let bytes = c.args.bytes.now in
    let first = c.in-Some.ensures.found document.0 _ (short_name document.0 valid.name)
    (name_first bytes document rest is) in
    let second = c.in-Some-counted_in.ensures.found document.1 rest valid.short
    (text_next bytes document rest is c.in-Some.name.now _ (4 + length c.in-Some.name.now) first refl
    c.split_at.ensures.back) in
    (rw c.in_default-2.is at c.in_ok-document.ensures) (subst IsDocument (λ i. (sym first i, sym second i)) valid)

pub returns-clause-found : goal.returns-clause-found
returns-clause-found c = λ document rest valid is.
    let bytes = c.args.bytes.now in
    let first = c.in-Some.ensures.found document.0 _ (short_name document.0 valid.name)
    (name_first bytes document rest is) in
    let second = c.in-Some-counted_in.ensures.found document.1 rest valid.short
    (text_next bytes document rest is c.in-Some.name.now _ (4 + length c.in-Some.name.now) first refl
    c.split_at.ensures.back) in
    let one = ap length first in
    let two = ap length second in (
      (rw c.in-Some-2.is at c.in_ok-document.ensures) (subst IsDocument (λ i. (sym first i, sym second i)) valid)
          ∙ (λ i. (first i, second i)),
      omega (arith, one, two, document_long document),
    )
