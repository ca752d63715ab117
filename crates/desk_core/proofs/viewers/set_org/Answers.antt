use Rattle.std.proofs.Common.{length, ap, arith}
use Rattle.desk_core.proofs.ViewerLemmas.{found_set}
use Rattle.desk_core.proofs.viewers.set_org.Goals as goal

pub returns-then-index-id : goal.returns-then-index-id
returns-then-index-id c =
    found_set c.args.viewers.now.items c.loop-at.viewers.items c.loop-at.at c.args.id c.args.org c.index_mut.result.now
    c.index.result.now c.loop-at.invariant.same
    (let low = c.loop-at-test.true in let size = c.len-at-end.ensures in
    let long = ap length c.loop-at.invariant.same in
    omega (arith, low, size, long))
    c.loop-at.invariant.before c.index_mut.ensures.value c.index.ensures c.if-index-id.true
