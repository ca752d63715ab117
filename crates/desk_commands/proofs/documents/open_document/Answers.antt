use Rattle.std.proofs.Common.{rules, Ok}
use Rattle.std.proofs.lemmas.Result.{IfOk-weaker}
use Rattle.desktop_definitions.specs.Seen.{seen}
use Rattle.desktop_definitions.proofs.KeyLaws.{row_as}
use Rattle.desktop_definitions.proofs.OpeningOnLaws.{document_row}
use Rattle.desk_core.specs.Kept.{kept_desktop}
use Rattle.desk_commands.proofs.documents.open_document.Goals as goal

pub returns : goal.returns
returns g c = record {
  answered =
      let old = g.S.CharSource.characters c.args.source.now in
      let d = kept_desktop c.args.desk.now in
      IfOk-weaker c.open_named.result _ _ (λ reply answered. row_as (seen old d) _ answered
      (λ k. Ok (document_row old d c.args.name.now c.free_cell-x.result c.free_cell-x.ensures.cell k)))
      c.open_named.ensures.answered;
  uses = search (rules, g.met.S.CharSource.ground_self, g.met.S.CharSource.ground_through);
}
