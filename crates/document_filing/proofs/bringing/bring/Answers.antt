use Rattle.std.proofs.Common.{List, ℕ, sym, rules}
use Rattle.desktop_definitions.specs.Limits.{full, too_many_files}
use Rattle.desktop_definitions.specs.Seen.{seen}
use Rattle.desktop_definitions.proofs.OutcomeLaws.{refused}
use Rattle.desk_core.specs.Words.{kept_desktop}
use Rattle.document_filing.specs.Bringing.{all_filed}
use Rattle.document_filing.proofs.BringingLaws.{brought_many, brought_full, all_filed_shown}
use Rattle.document_filing.proofs.Gathering.{gathered_done, gathered_unread}
use Rattle.desktop_definitions.specs.declared.reply.Reply.TheVariants.{Done}
use Rattle.desk_core.proofs.Calm.{uses_as}
use Rattle.document_filing.proofs.Sums.{many_told, few_told}
use Rattle.document_filing.proofs.bringing.bring.Goals as goal

pub returns-then-len-clause-does : goal.returns-then-len-clause-does
returns-then-len-clause-does g c =
    let d = kept_desktop c.args.desk.now in
    let documents = c.args.documents.now in
    let none = λ (all : List ℕ). brought_many (seen all d) documents
    (many_told c.in_ok-sizes.sizes.entries (all_filed (seen all d) documents) c.len.result
    (c.in_ok-sizes.ensures.sizes all) c.len.ensures.len c.if-len.true) in
    record {
      answered = refused _ _ d _ too_many_files c.requires (search rules) (λ h. none _);
      unread = λ all long. none all;
      uses = search (rules, g.met.S.CharSource.ground_self, g.met.S.CharSource.ground_through);
    }

pub returns-then-not-all_fit-clause-does : goal.returns-then-not-all_fit-clause-does
returns-then-not-all_fit-clause-does g c =
    let d = kept_desktop c.args.desk.now in
    let documents = c.args.documents.now in
    let none = λ (all : List ℕ). brought_full (seen all d) documents
    (few_told c.in_ok-sizes.sizes.entries (all_filed (seen all d) documents) c.len.result
    (c.in_ok-sizes.ensures.sizes all) c.len.ensures.len c.if-len.false)
    (all_filed_shown (seen all d) documents (c.requires.whole.sound all).shown) (sym (c.if-not-all_fit.ensures.fits all))
    in
    record {
      answered = refused _ _ d _ full c.requires (search rules) (λ h. none _);
      unread = λ all long. none all;
      uses = search (rules, g.met.S.CharSource.ground_self, g.met.S.CharSource.ground_through);
    }

pub returns-clause-does : goal.returns-clause-does
returns-clause-does g c =
    let d = kept_desktop c.args.desk.now in
    let old = g.S.CharSource.characters c.args.source.now in
    let documents = c.args.documents.now in
    let few = λ (all : List ℕ). few_told c.in_ok-sizes.sizes.entries (all_filed (seen all d) documents) c.len.result
    (c.in_ok-sizes.ensures.sizes all) c.len.ensures.len c.if-len.false in
    let fit = λ (all : List ℕ). sym (c.if-not-all_fit.ensures.fits all) in
    record {
      answered = gathered_done old _ d _ documents c.requires c.in_ok-file_all.ensures.gathered few fit _;
      unread = gathered_unread old _ d _ documents c.requires c.in_ok-file_all.ensures.gathered few fit;
      uses = uses_as g.S.CharSource c.args.source.now c.file_all.new.source c.in_ok-file_all.field-0 Done
          c.in_ok-file_all.ensures.uses;
    }
