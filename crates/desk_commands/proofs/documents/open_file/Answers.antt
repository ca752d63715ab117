use Rattle.std.proofs.Common.{rules, sym, ◌∙◌}
use Rattle.std.proofs.lemmas.Result.{IfOk-weaker}
use Rattle.desktop_definitions.specs.Limits.{no_file}
use Rattle.desktop_definitions.specs.Seen.{seen}
use Rattle.desktop_definitions.proofs.RowLaws.{known_no_file}
use Rattle.desktop_definitions.proofs.KeyLaws.{refusal_answered, row_as}
use Rattle.desktop_definitions.proofs.OpeningOnLaws.{file_missing, file_row}
use Rattle.desk_core.specs.Kept.{kept_desktop}
use Rattle.desk_commands.proofs.documents.open_file.Goals as goal

pub returns-then-not-contains_key : goal.returns-then-not-contains_key
returns-then-not-contains_key g c = record {
  answered =
      let old = g.S.CharSource.characters c.args.source.now in
      let d = kept_desktop c.args.desk.now in
      refusal_answered _ old d _ no_file c.requires.over known_no_file
      (file_missing old d c.args.name.now (sym c.contains_key.ensures ∙ c.if-not-contains_key.true));
  uses = search (rules, g.met.S.CharSource.ground_self, g.met.S.CharSource.ground_through);
}

pub returns : goal.returns
returns g c = record {
  answered =
      let old = g.S.CharSource.characters c.args.source.now in
      let d = kept_desktop c.args.desk.now in
      IfOk-weaker c.open_named.result _ _ (λ reply answered. row_as (seen old d) _ answered
      (file_row old d c.args.name.now c.free_cell-x.result (sym c.contains_key.ensures ∙ c.if-not-contains_key.false)
      c.free_cell-x.ensures.cell))
      c.open_named.ensures.answered;
  uses = search (rules, g.met.S.CharSource.ground_self, g.met.S.CharSource.ground_through);
}
