use Rattle.std.proofs.Common.{arith}
use Rattle.piece_ring.proofs.Tables.{held_table}
use Rattle.piece_ring.proofs.table.Table.open.Goals as goal

pub returns-then-is_held-clause-opened : goal.returns-then-is_held-clause-opened
returns-then-is_held-clause-opened c =
    let k = c.kept.ensures in let before = k.before in let past = k.past in let held = c.if-is_held.ensures in
    let low = held.before in let high = held.behind in
    held_table c.args.chain.now.nodes c.args.self.now c.args.a c.args.b c.args.count c.requires.table
    c.requires.list.counted (omega arith) (omega arith)
