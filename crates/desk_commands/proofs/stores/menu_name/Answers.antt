use Rattle.std.proofs.Common.{◌∙◌, ℕ, List, length, true, sym, ap, subst, arith}
use Rattle.piece_ring.specs.declared.piece.Piece.{Piece}
use Rattle.piece_ring.specs.Flat.{flat}
use Rattle.piece_ring.specs.Text.{Text}
use Rattle.readers_scanners.specs.Form.{symbol}
use Rattle.readers_scanners.specs.Reading.{bytes_of_text}
use Rattle.command_table.specs.Parameters.{IsTextPlace, name_in}
use Rattle.desktop_definitions.specs.Change.{bytes_of}
use Rattle.desktop_definitions.specs.Seen.{seen}
use Rattle.desktop_definitions.proofs.CallLaws.{called_place, called_text_seen}
use Rattle.desk_core.specs.Kept.{kept_desktop}
use Rattle.desk_commands.proofs.stores.menu_name.Goals as goal

pub symbol_at-requires : goal.symbol_at-requires
symbol_at-requires g c =
    let old = g.S.CharSource.characters c.args.source.now in
    let d = kept_desktop c.args.desk.now in
    subst (λ (t : List Piece). IsTextPlace (length old) (flat t, 0)) (sym c.text_called.ensures)
    (called_place old d c.args.id true 0 c.requires.over (omega arith))

pub returns : goal.returns
unfolding seen
returns g c = record {
  exact =
      let old = g.S.CharSource.characters c.args.source.now in
      let d = kept_desktop c.args.desk.now in
      λ h. c.name_in.ensures ∙ ap name_in (c.in_ok-symbol.ensures.symbol h
      ∙ (λ k. (symbol (bytes_of_text old (flat (c.text_called.ensures k))) 0).0)
      ∙ ap (λ (t : Text ℕ). (symbol (bytes_of t) 0).0) (sym (called_text_seen old d c.args.id true)));
  reads = c.in_ok-symbol.ensures.reads;
  cause = c.in_ok-symbol.ensures.cause;
}
