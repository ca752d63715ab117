use Rattle.std.proofs.Common.{◌≤◌, [], ◌∷◌, ◌++◌, All, sym, ap, subst, ◌∙◌, arith}
use Rattle.piece_ring.specs.declared.table.Mark.{Mark}
use Rattle.piece_ring.specs.Table.{AreSeamMarks, seam_of, turned}
use Rattle.piece_ring.proofs.Marks.{Behind, all_last, all_push, advanced, back_within, popped_below}
use Rattle.piece_ring.proofs.table.Stacks.advance.Goals as goal

pub turned-requires-clause-pos : goal.turned-requires-clause-pos
turned-requires-clause-pos c =
    let ns = c.args.chain.now.nodes in let back = c.popped.new.marks.items in
    (back_within ns c.args.count c.args.len c.requires.list (seam_of c.in-Some.mark)
    (all_last (Behind ns) back c.in-Some.mark
    (subst (All (Behind ns)) c.in-Some.ensures.marks.0 c.loop-mark.invariant.table.parted.back_seams))).1

pub turned-requires-clause-index : goal.turned-requires-clause-index
turned-requires-clause-index c =
    let ns = c.args.chain.now.nodes in let back = c.popped.new.marks.items in
    (back_within ns c.args.count c.args.len c.requires.list (seam_of c.in-Some.mark)
    (all_last (Behind ns) back c.in-Some.mark
    (subst (All (Behind ns)) c.in-Some.ensures.marks.0 c.loop-mark.invariant.table.parted.back_seams))).0

pub loop-mark-preserved : goal.loop-mark-preserved
loop-mark-preserved c =
    let ns = c.args.chain.now.nodes in let back = c.popped.new.marks.items in
    let front = c.loop-mark.self.front.items in
    let moved = advanced ns c.args.count c.args.len c.requires.list front back c.in-Some.mark
    (subst (λ l. AreSeamMarks ns front l) c.in-Some.ensures.marks.0 c.loop-mark.invariant.table) in
    let least = c.in-Some.ensures.marks.1 in
    let same = sym (c.push_reserved.ensures.items ∙ ap (λ (m : Mark). front ++ m ∷ []) c.turned.ensures) in
    record {
      table = subst (λ l. AreSeamMarks ns l back) same moved;
      before = subst (All (λ m. m.index ≤ c.args.index)) same
          (all_push (λ m. m.index ≤ c.args.index) front (turned c.args.count c.args.len c.in-Some.mark)
          c.loop-mark.invariant.before (omega arith));
      front = c.push_reserved.ensures.capacity ∙ c.loop-mark.invariant.front;
      back = c.popped.ensures.room ∙ c.loop-mark.invariant.back;
      room = c.loop-mark.invariant.room;
    }

pub returns-clause-sides : goal.returns-clause-sides
returns-clause-sides c = (
  c.loop-mark.invariant.before,
  λ k d w.
      let low = popped_below _ _ _ c.in_default.ensures.marks.0 c.loop-mark.invariant.table.parted.back_near
      c.in_default.ensures.marks.1 k d w in let counted = c.requires.list.counted in let within = c.requires.within in
      omega arith,
)
