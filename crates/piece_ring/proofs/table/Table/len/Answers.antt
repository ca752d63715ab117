use Rattle.std.proofs.Common.{◌≡◌, ◌+◌, ◌*◌, ◌≤◌, length, arith}
use Rattle.piece_ring.specs.Table.{IsTable}
use Rattle.piece_ring.proofs.Tables.{at_stacks, marks_enough}
use Rattle.piece_ring.proofs.table.Table.len.Goals as goal

pub returns-in-Some-clause-enough : goal.returns-in-Some-clause-enough
returns-in-Some-clause-enough c =
    let ns = c.args.chain.now.nodes in let s = c.in-Some.stacks.value in let d = c.deref.ensures in
    let n : c.len.result ≡ length s.front.items + length s.back.items = cc in
    let here = at_stacks (IsTable ns) c.args.self.now _ c.in-Some.is c.requires.table in
    let enough : length ns ≤ 128 * (length s.front.items + length s.back.items) + 129 = marks_enough ns s.front.items
    s.back.items here.marks in
    omega (arith, enough, n)
