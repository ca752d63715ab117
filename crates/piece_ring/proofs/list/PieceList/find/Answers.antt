use Rattle.std.proofs.Common.{arith}
use Rattle.piece_ring.proofs.Keeping.{piece_long, begins_at}
use Rattle.piece_ring.proofs.Marks.{near-ahead, near-finger}
use Rattle.piece_ring.proofs.Moving.{seam_inside}
use Rattle.piece_ring.proofs.list.PieceList.find.Goals as goal

pub returns-then-pos-finger-lt-NEAR-clause-short : goal.returns-then-pos-finger-lt-NEAR-clause-short
returns-then-pos-finger-lt-NEAR-clause-short c =
    let l = c.args.self.now in
    near-ahead l.chain.nodes c.args.pos c.find_ahead.result c.find_ahead.ensures.found l.trailer.ptr l.count l.len
    l.sound l.finger l.keeps c.find_ahead.ensures.links c.if-finger-pos.true c.if-pos-finger-lt-NEAR.true

pub overflow_sub-begin : goal.overflow_sub-begin
overflow_sub-begin c =
    let l = c.args.self.now in let high = c.if-finger-pos.false in
    let long = piece_long l.chain.nodes l.finger c.piece-len.result l.keeps (omega (arith, high)) c.piece-len.ensures in
    omega arith

pub returns-then-begin-pos-clause-found : goal.returns-then-begin-pos-clause-found
returns-then-begin-pos-clause-found c =
    let l = c.args.self.now in let high = c.if-finger-pos.false in let low = c.if-begin-pos.true in
    let back = c.step_back-before.ensures in let next = back.next in let i = seam_inside l.chain.nodes l.finger l.keeps in
    let begins = begins_at l.chain.nodes l.finger c.piece-len.result l.keeps (omega (arith, high)) c.piece-len.ensures
    c.step_back-before.result back.before next in
    record {
      before = back.before;
      after = l.keeps;
      next = next;
      from = omega arith;
      upto = high;
      few = omega arith;
    }

pub returns-then-begin-pos-lt-NEAR-clause-short : goal.returns-then-begin-pos-lt-NEAR-clause-short
returns-then-begin-pos-lt-NEAR-clause-short c =
    let l = c.args.self.now in
    near-finger l.chain.nodes c.args.pos c.find_back.result c.find_back.ensures.found l.trailer.ptr l.count l.len
    l.sound l.finger l.keeps c.piece-len.result c.piece-len.ensures c.find_back.ensures.links c.if-begin-pos.false
    c.if-begin-pos-lt-NEAR.true
