use Rattle.std.proofs.Common.{arith}
use Rattle.piece_ring.proofs.Behind.{at_seam, in_found}
use Rattle.piece_ring.proofs.Dividing.{found_whole, found_long}
use Rattle.piece_ring.proofs.list.PieceList.front.Goals as goal

pub returns-in-Between-clause-text : goal.returns-in-Between-clause-text
returns-in-Between-clause-text c = at_seam c.args.self.now.chain.nodes c.in-Between.seam c.args.pos
    c.in-Between.ensures.place.0 c.in-Between.ensures.place.1

pub returns-in-Inside-clause-cursor : goal.returns-in-Inside-clause-cursor
returns-in-Inside-clause-cursor c =
    let l = c.args.self.now in let found = c.in-Inside.ensures.place.0 in
    let whole = found_whole l.chain.nodes l.trailer.ptr l.count l.len c.args.pos c.in-Inside.found
    c.piece-piece.result l.sound found c.piece-piece.ensures in
    let long = found_long l.chain.nodes l.trailer.ptr l.count l.len c.args.pos c.in-Inside.found
    c.piece-piece.result l.sound found c.piece-piece.ensures in
    let end = whole.1 in let upto = found.upto in
    record { seam = found.before; fits = omega (arith, end, long, upto) }

pub returns-in-Inside-clause-text : goal.returns-in-Inside-clause-text
returns-in-Inside-clause-text c =
    let l = c.args.self.now in
    in_found l.chain.nodes l.trailer.ptr l.count l.len c.args.pos c.in-Inside.found c.piece-piece.result l.sound
    c.in-Inside.ensures.place.0 c.piece-piece.ensures
