use Rattle.std.proofs.Common.{arith}
use Rattle.piece_ring.proofs.Fingers.{ends_before, begins_behind, within_piece}
use Rattle.piece_ring.proofs.Keeping.{piece_long}
use Rattle.piece_ring.proofs.list.PieceList.within_finger.Goals as goal

pub returns-then-end-pos : goal.returns-then-end-pos
returns-then-end-pos c =
    let l = c.args.self.now in let measured = l.sound.measured in let within = c.requires in
    ends_before l.chain.nodes c.args.pos l.finger l.keeps (omega arith) c.if-end-pos.true

pub overflow_sub-begin : goal.overflow_sub-begin
overflow_sub-begin c =
    let l = c.args.self.now in let high = c.if-end-pos.false in
    let long = piece_long l.chain.nodes l.finger c.piece-len.result l.keeps (omega (arith, high)) c.piece-len.ensures in
    omega arith

pub returns-then-pos-begin : goal.returns-then-pos-begin
returns-then-pos-begin c =
    let l = c.args.self.now in
    begins_behind l.chain.nodes c.args.pos l.finger l.keeps c.piece-len.result c.piece-len.ensures c.if-end-pos.false
    c.if-pos-begin.true

pub returns : goal.returns
returns c =
    let l = c.args.self.now in
    within_piece l.chain.nodes c.args.pos l.finger l.keeps c.piece-len.result c.piece-len.ensures c.if-end-pos.false
    c.if-pos-begin.false
