use Rattle.std.proofs.Common.{◌∙◌, sym, subst}
use Rattle.piece_ring.specs.Merging.{AddsAtMost}
use Rattle.piece_ring.specs.Place.{pieces_of}
use Rattle.piece_ring.proofs.Adding.{put_last, added_at_most}
use Rattle.piece_ring.proofs.ring.Ring.add.Goals as goal

pub returns-clause-pieces : goal.returns-clause-pieces
returns-clause-pieces c =
    let list = c.reserve.new.self in
    let made = put_last (pieces_of list.chain.nodes) c.insert.ensures.made c.end-end.ensures.index
    c.in_ok-one.ensures.pieces in
    let added = added_at_most made c.settle_at.ensures.pieces (c.end-end.ensures.last ∙ sym list.sound.measured)
    c.settle_at.ensures.settled.merged in
    subst (λ r. AddsAtMost r.pieces c.args.piece (pieces_of c.settle_at.new.self.chain.nodes)) c.self.view_is
    (subst (λ ns. AddsAtMost (pieces_of ns) c.args.piece (pieces_of c.settle_at.new.self.chain.nodes))
    c.reserve.ensures.same added)
