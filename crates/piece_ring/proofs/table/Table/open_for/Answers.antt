use Rattle.std.proofs.Common.{arith}
use Rattle.piece_ring.proofs.Tables.{held_table}
use Rattle.piece_ring.proofs.table.Table.open_for.Goals as goal

pub returns-then-takes-clause-opened : goal.returns-then-takes-clause-opened
returns-then-takes-clause-opened c =
    let k = c.kept.ensures in let before = k.before in let past = k.past in let held = c.if-takes.ensures in
    let low = held.before in let high = held.behind in
    held_table c.args.chain.now.nodes c.args.self.now c.args.index c.args.index c.args.count c.requires.table
    c.requires.list.counted (omega arith) (omega arith)
