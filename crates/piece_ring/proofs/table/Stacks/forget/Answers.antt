use Rattle.std.proofs.Common.{subst, ◌∙◌, arith}
use Rattle.piece_ring.specs.Table.{IsParted}
use Rattle.piece_ring.proofs.Marks.{forgotten, popped_below}
use Rattle.piece_ring.proofs.table.Stacks.forget.Goals as goal

pub loop-preserved : goal.loop-preserved
loop-preserved c =
    let ns = c.args.chain.now.nodes in let back = c.loop.self.back.items in
    record {
      parted = forgotten ns c.popped.new.marks.items back c.in-Some.field-0
          (subst (λ l. IsParted ns l back) c.in-Some.ensures.marks.0 c.loop.invariant.parted);
      same = c.loop.invariant.same;
      front = c.popped.ensures.room ∙ c.loop.invariant.front;
      back = c.loop.invariant.back;
      room = c.loop.invariant.room;
    }

pub returns-clause-before : goal.returns-clause-before
returns-clause-before c = λ k d w.
    let low = popped_below _ _ _ c.in_default.ensures.marks.0 c.loop.invariant.parted.front_near
    c.in_default.ensures.marks.1 k d w in omega arith
