use Rattle.std.proofs.Common.{sym, ◌∙◌, arith}
use Rattle.piece_ring.proofs.Marks.{short-ahead, short-back}
use Rattle.piece_ring.proofs.Seams.{piece_count, small_count}
use Rattle.piece_ring.proofs.list.PieceList.find_far.Goals as goal

pub around-requires-clause-list : goal.around-requires-clause-list
around-requires-clause-list c =
    let l = c.args.self.now in let e = c.end.ensures in let index = e.index in let counted = l.sound.counted in
    let n = piece_count l.chain.nodes l.trailer.ptr l.count l.len l.sound in let few = small_count l.sound in
    let last = e.last in let small = l.sound.small in
    record {
      counted = omega arith;
      measured = l.sound.measured ∙ sym e.last;
      few = omega arith;
      small = omega arith;
    }

pub returns-then-pos-low-clause-short : goal.returns-then-pos-low-clause-short
returns-then-pos-low-clause-short c = short-ahead c.args.self.now.chain.nodes c.args.pos c.find_ahead.result
    c.find_ahead.ensures.found c.around.result c.around.ensures c.find_ahead.ensures.links

pub returns-else-pos-low-clause-short : goal.returns-else-pos-low-clause-short
returns-else-pos-low-clause-short c = short-back c.args.self.now.chain.nodes c.args.pos c.find_back.result
    c.find_back.ensures.found c.around.result c.around.ensures c.find_back.ensures.links
