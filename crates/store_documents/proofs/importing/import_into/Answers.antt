use Rattle.std.proofs.Common.{◌∙◌, sym, subst, inl, inr}
use Rattle.document_filing.specs.Bringing.{Documents}
use Rattle.desk_journal.specs.Bringing.{AreBrought}
use Rattle.store_documents.specs.Standings.{HasOnlyLooked}
use Rattle.store_documents.specs.Importing.{coming_ones}
use Rattle.store_documents.proofs.Imports.{all_behind, brought_behind, durable_on, failed_behind, none_while_looking}
use Rattle.store_documents.proofs.Imports.{same_moments, together_are}
use Rattle.store_documents.proofs.importing.import_into.Goals as goal

pub returns-in_err-sorted-clause-any_moment : goal.returns-in_err-sorted-clause-any_moment
returns-in_err-sorted-clause-any_moment g c =
    none_while_looking g.D.Disk (coming_ones c.args.store.now.desktop c.args.documents.items) c.requires
    c.sort.ensures.looked

pub returns-then-is_in_the_way-clause-any_moment : goal.returns-then-is_in_the_way-clause-any_moment
returns-then-is_in_the_way-clause-any_moment g c =
    none_while_looking g.D.Disk (coming_ones c.args.store.now.desktop c.args.documents.items) c.requires
    c.sort.ensures.looked

pub returns-in_err-coming-clause-any_moment : goal.returns-in_err-coming-clause-any_moment
returns-in_err-coming-clause-any_moment g c =
    none_while_looking g.D.Disk (coming_ones c.args.store.now.desktop c.args.documents.items) c.requires
    c.sort.ensures.looked

pub bring_some-requires : goal.bring_some-requires
bring_some-requires g c = durable_on g.D.Disk c.requires c.sort.ensures.looked

pub returns-in_err-reply-clause-any_moment : goal.returns-in_err-reply-clause-any_moment
returns-in_err-reply-clause-any_moment g c =
    same_moments g.D.Disk c.args.store.now c.bring_some.new.store c.as_slice.result.now
    (coming_ones c.args.store.now.desktop c.args.documents.items)
    (λ honest. c.as_slice.ensures.value
    ∙ (together_are _ _ _ _ (c.in_ok-sorted.ensures.sorted honest) c.in_ok-coming.ensures).all)
    (all_behind g.D.Disk c.bring_some.new.store c.as_slice.result.now c.requires c.sort.ensures.looked c.bring_some.ensures.any_moment)

pub returns-in_err-reply-clause-failed : goal.returns-in_err-reply-clause-failed
returns-in_err-reply-clause-failed g c =
    failed_behind g.D.Disk c.from_residual-in_err-reply.result c.sort.ensures.looked c.in_err-reply.ensures.failed

pub returns-clause-any_moment : goal.returns-clause-any_moment
returns-clause-any_moment g c =
    same_moments g.D.Disk c.args.store.now c.bring_some.new.store c.as_slice.result.now
    (coming_ones c.args.store.now.desktop c.args.documents.items)
    (λ honest. c.as_slice.ensures.value
    ∙ (together_are _ _ _ _ (c.in_ok-sorted.ensures.sorted honest) c.in_ok-coming.ensures).all)
    (all_behind g.D.Disk c.bring_some.new.store c.as_slice.result.now c.requires c.sort.ensures.looked c.bring_some.ensures.any_moment)

pub returns-clause-told : goal.returns-clause-told
returns-clause-told g c = record {
  coming_are = λ honest. together_are _ _ _ _ (c.in_ok-sorted.ensures.sorted honest) c.in_ok-coming.ensures;
  asked = λ honest. elim (c.is_in_the_way.ensures.free c.if-is_in_the_way.false) [
    | inl may ↦ inl may
    | inr none ↦ inr (sym (c.in_ok-sorted.ensures.sorted honest).other ∙ none)
  ];
  nothing = λ none. let both = c.in_ok-reply.ensures.nothing (c.as_slice.ensures.value ∙ none) in (
    both.0,
    subst (λ s. HasOnlyLooked g.D.Disk c.args.store.now s) (sym both.1) c.sort.ensures.looked,
  );
  brought = λ some. subst (λ (l : Documents). AreBrought g.D.Disk l c.in_ok-reply.reply c.args.store.now c.bring_some.new.store)
      c.as_slice.ensures.value
      (brought_behind g.D.Disk c.as_slice.result.now c.in_ok-reply.reply c.sort.ensures.looked
      (c.in_ok-reply.ensures.brought (λ none. some (sym c.as_slice.ensures.value ∙ none))));
}
