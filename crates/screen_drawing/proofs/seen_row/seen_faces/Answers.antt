use Rattle.std.proofs.Common.{arith, ap, sym, length, ◌≡◌, ◌∙◌, ◌++◌, ◌∷◌, []}
use Rattle.screen_drawing.specs.Seen.{face_seen}
use Rattle.screen_drawing.proofs.Leading.{no_values, values_long, values_more}
use Rattle.screen_drawing.proofs.seen_row.seen_faces.Goals as goal

pub loop-x-init : goal.loop-x-init
loop-x-init c = c.new-row.ensures ∙ sym (no_values (face_seen c.args.left c.args.columns c.args.cells.now))

pub add-requires : goal.add-requires
add-requires c =
    let long : length c.loop-x.row ≡ c.loop-x.x =
    ap length c.loop-x.invariant ∙ values_long (face_seen c.args.left c.args.columns c.args.cells.now) c.loop-x.x in
    omega arith

pub loop-x-preserved : goal.loop-x-preserved
loop-x-preserved c =
    c.add.ensures
    ∙ (λ i. c.loop-x.invariant i ++ c.seen_face.ensures i ∷ [])
    ∙ sym (values_more (face_seen c.args.left c.args.columns c.args.cells.now) c.loop-x.x)
