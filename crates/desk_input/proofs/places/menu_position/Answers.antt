use Rattle.std.proofs.Common.{◌∙◌, ◌≤◌, List, length, sym, subst, true, arith}
use Rattle.std.proofs.lemmas.Result.{IfOk-weaker}
use Rattle.piece_ring.specs.declared.piece.Piece.{Piece}
use Rattle.piece_ring.specs.Flat.{flat}
use Rattle.piece_ring.specs.Text.{AreWithin}
use Rattle.readers_scanners.specs.Reading.{bytes_of_text}
use Rattle.text_frames.specs.Cells.{position_at}
use Rattle.desktop_definitions.proofs.CallLaws.{called_place, menu_read}
use Rattle.desk_core.specs.Kept.{kept_desktop}
use Rattle.desk_input.proofs.places.menu_position.Goals as goal

pub pos_at-requires-clause-offsets : goal.pos_at-requires-clause-offsets
pos_at-requires-clause-offsets g c =
    let s = g.S.CharSource in
    let old = s.characters c.args.source.now in
    let d = kept_desktop c.args.desk.now in
    subst (λ (t : List Piece). AreWithin (length old) (flat t)) (sym c.text_called-menu.ensures)
    (called_place old d c.args.id true 0 c.requires.over (omega arith)).offsets

pub returns-clause-told : goal.returns-clause-told
returns-clause-told g c =
    let s = g.S.CharSource in
    let old = s.characters c.args.source.now in
    let d = kept_desktop c.args.desk.now in
    record {
      exact = IfOk-weaker c.pos_at.result _ _ (λ p fact h. fact.exact h
          ∙ (λ k. position_at (bytes_of_text old (flat (c.text_called-menu.ensures k))) 0 (c.menu_column-column.ensures k) 0)
          ∙ menu_read old d c.args.id c.args.x) c.pos_at.ensures.position;
      reads = c.pos_at.ensures.source.reads;
      cause = c.pos_at.ensures.source.cause;
    }

pub returns-clause-within : goal.returns-clause-within
returns-clause-within g c =
    IfOk-weaker c.pos_at.result _ _ (λ p fact.
    subst (λ (t : List Piece). p ≤ length (flat t)) c.text_called-menu.ensures fact.within) c.pos_at.ensures.position
