use Rattle.std.proofs.Common.{Ok, ◌≡◌, ◌∙◌, ◌+◌, ◌++◌, ◌∷◌, List, ℕ, [], length, sym, ap, subst, arith, take, rules}
use Rattle.std.proofs.lemmas.List.{take_more}
use Rattle.desktop_definitions.specs.Desktop.{KeptDesktop}
use Rattle.document_filing.proofs.Sums.{bytes_more}
use Rattle.std.proofs.lemmas.Result.{err_from_is_err_and}
use Rattle.desk_core.specs.Words.{Uses, kept_desktop}
use Rattle.document_filing.specs.Bringing.{Documents}
use Rattle.document_filing.proofs.Gathering.{gathered_none, gathered_more}
use Rattle.document_filing.specs.Gathered.{IsGathered}
use Rattle.desk_core.proofs.Calm.{calm_uses, grown_on, uses_on}
use Rattle.document_filing.proofs.bringing.file_all.Goals as goal

pub loop-document-init : goal.loop-document-init
loop-document-init g c = record {
  gathered = gathered_none _ _ c.requires.over;
  written = omega arith;
  calm = search (rules, g.met.S.CharSource.ground_self, g.met.S.CharSource.ground_through);
}

pub loop-document-preserved : goal.loop-document-preserved
loop-document-preserved g c =
    let documents = c.args.documents.now in
    let i = c.loop-document.document-index in
    let item = c.document-item.result in
    let more = c.in_ok-file_one.ensures.filed in
    let next : take (i + 1) documents ≡ take i documents ++ item ∷ [] =
    take_more documents i item c.loop-document-test.true
    ∙ ap (λ (x : List ℕ × List ℕ). take i documents ++ x ∷ []) (sym c.document-item.is) in
    record {
      gathered = subst (λ (l : Documents). IsGathered (g.S.CharSource.characters c.args.source.now)
          (g.S.CharSource.characters c.file_one.new.source) (kept_desktop c.args.desk.now) (kept_desktop c.file_one.new.desk) l)
          (sym next) (gathered_more c.loop-document.invariant.gathered more);
      written = ap (λ (d : KeptDesktop). d.written) more.after_is
          ∙ ap (λ n. n + length item.1) c.loop-document.invariant.written
          ∙ bytes_more documents i item c.args.desk.now.written c.loop-document-test.true c.document-item.is;
      calm = grown_on g.S.CharSource g.met.S.CharSource.ground_through c.args.source.now c.loop-document.source
          c.file_one.new.source (Ok c.in_ok-file_one.field-0) (λ wrong. absurd cc) c.loop-document.invariant.calm
          c.in_ok-file_one.ensures.uses;
    }

pub returns-in_err-file_one-clause-uses : goal.returns-in_err-file_one-clause-uses
returns-in_err-file_one-clause-uses g c =
    let p = err_from_is_err_and c.from_residual.result c.from_residual.ensures.1 in
    uses_on g.S.CharSource g.met.S.CharSource.ground_through c.args.source.now c.loop-document.source
    c.file_one.new.source c.from_residual.result c.loop-document.invariant.calm
    (subst (λ r. Uses g.S.CharSource r c.loop-document.source c.file_one.new.source)
    (cc (c.in_err-file_one.was, p.1, p.2)) c.file_one.ensures.uses)

pub returns-clause-uses : goal.returns-clause-uses
returns-clause-uses g c = calm_uses g.S.CharSource c.args.source.now c.loop-document.source tt
    c.loop-document.invariant.calm
