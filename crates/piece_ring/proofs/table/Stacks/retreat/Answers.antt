use Rattle.std.proofs.Common.{[], ◌∷◌, ◌++◌, All, sym, ap, subst, ◌∙◌, arith}
use Rattle.piece_ring.specs.declared.table.Mark.{Mark}
use Rattle.piece_ring.specs.Table.{AreSeamMarks, seam_of}
use Rattle.piece_ring.proofs.Marks.{Ahead, all_last, retreated, seam_measured, popped_below}
use Rattle.piece_ring.proofs.table.Stacks.retreat.Goals as goal

pub turned-requires-clause-pos : goal.turned-requires-clause-pos
turned-requires-clause-pos c =
    let ns = c.args.chain.now.nodes in let front = c.popped.new.marks.items in
    (seam_measured ns c.args.count c.args.len c.requires.list (seam_of c.in-Some.mark)
    (all_last (Ahead ns) front c.in-Some.mark
    (subst (All (Ahead ns)) c.in-Some.ensures.marks.0 c.loop-mark.invariant.table.parted.front_seams))).1

pub turned-requires-clause-index : goal.turned-requires-clause-index
turned-requires-clause-index c =
    let ns = c.args.chain.now.nodes in let front = c.popped.new.marks.items in
    (seam_measured ns c.args.count c.args.len c.requires.list (seam_of c.in-Some.mark)
    (all_last (Ahead ns) front c.in-Some.mark
    (subst (All (Ahead ns)) c.in-Some.ensures.marks.0 c.loop-mark.invariant.table.parted.front_seams))).0

pub loop-mark-preserved : goal.loop-mark-preserved
loop-mark-preserved c =
    let ns = c.args.chain.now.nodes in let front = c.popped.new.marks.items in
    let back = c.loop-mark.self.back.items in
    let moved = retreated ns c.args.count c.args.len c.requires.list front back c.in-Some.mark
    (subst (λ l. AreSeamMarks ns l back) c.in-Some.ensures.marks.0 c.loop-mark.invariant.table) in
    record {
      table = subst (AreSeamMarks ns front) (sym (c.push_reserved.ensures.items
          ∙ ap (λ (m : Mark). back ++ m ∷ []) c.turned.ensures)) moved;
      front = c.popped.ensures.room ∙ c.loop-mark.invariant.front;
      back = c.push_reserved.ensures.capacity ∙ c.loop-mark.invariant.back;
      room = c.loop-mark.invariant.room;
    }

pub returns-clause-before : goal.returns-clause-before
returns-clause-before c = λ k d w.
    let low = popped_below _ _ _ c.in_default.ensures.marks.0 c.loop-mark.invariant.table.parted.front_near
    c.in_default.ensures.marks.1 k d w in omega arith
