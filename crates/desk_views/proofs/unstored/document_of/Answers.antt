use Rattle.std.proofs.Common.{◌∙◌, List, length, sym, subst, arith, true}
use Rattle.std.proofs.lemmas.Result.{IfOk-weaker}
use Rattle.piece_ring.specs.declared.piece.Piece.{Piece}
use Rattle.piece_ring.specs.Flat.{flat}
use Rattle.piece_ring.specs.Text.{AreWithin}
use Rattle.desktop_definitions.proofs.CallLaws.{called_place}
use Rattle.desk_core.specs.Kept.{kept_desktop}
use Rattle.desk_views.proofs.RivalLemmas.{menu_named}
use Rattle.desk_views.proofs.unstored.document_of.Goals as goal

pub document_name-requires : goal.document_name-requires
document_name-requires g c =
    let old = g.S.CharSource.characters c.args.source.now in
    let d = kept_desktop c.args.desk.now in
    subst (λ (t : List Piece). AreWithin (length old) (flat t)) (sym c.text_called.ensures)
    (called_place old d c.args.id true 0 c.requires.over (omega arith)).offsets

pub returns : goal.returns
returns g c = record {
  exact = IfOk-weaker c.document_name.result _ _
      (λ name is h. is h ∙ menu_named (g.S.CharSource.characters c.args.source.now) (kept_desktop c.args.desk.now) c.args.id
      c.text_called.result.now c.text_called.ensures)
      c.document_name.ensures.name;
  reads = c.document_name.ensures.source.reads;
  cause = c.document_name.ensures.source.cause;
}
