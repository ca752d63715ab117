use Rattle.piece_ring.proofs.Merging.{kept-end}
use Rattle.piece_ring.proofs.Windows.{at_last, finger_next, more_behind}
use Rattle.piece_ring.proofs.list.PieceList.place_after.Goals as goal

pub returns-then-seam-self-clause-finger : goal.returns-then-seam-self-clause-finger
returns-then-seam-self-clause-finger c =
    let l = c.args.self.now in
    kept-end l.chain.nodes l.trailer.ptr l.count l.len l.sound c.start.result c.args.seam.pos c.start.ensures.index
    (at_last l.trailer l.sound c.args.seam c.requires c.if-seam-self.true)

pub step-requires-clause-more : goal.step-requires-clause-more
step-requires-clause-more c =
    let l = c.args.self.now in more_behind l.trailer l.sound c.args.seam c.requires c.if-seam-self.false

pub returns-clause-finger : goal.returns-clause-finger
returns-clause-finger c =
    let l = c.args.self.now in
    finger_next l.trailer l.sound c.args.seam c.requires c.step.result c.step.ensures.after c.step.ensures.next
