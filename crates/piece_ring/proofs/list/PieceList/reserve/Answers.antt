use Rattle.piece_ring.proofs.Seams.{small_count}
use Rattle.piece_ring.proofs.Windows.{kept-reserved}
use Rattle.piece_ring.proofs.list.PieceList.reserve.Goals as goal

pub has_room-requires-clause-count : goal.has_room-requires-clause-count
has_room-requires-clause-count c = small_count c.args.self.now.sound

pub reserve-requires-clause-count : goal.reserve-requires-clause-count
reserve-requires-clause-count c = small_count c.args.self.now.sound

pub invariant_of-self-2 : goal.invariant_of-self-2
invariant_of-self-2 c =
    let l = c.args.self.now in let e = c.reserve.ensures in record {
      sound = l.sound;
      keeps = l.keeps;
      indexed = kept-reserved l.chain.nodes l.table _ e.front e.back e.noted l.indexed;
      room = e.kept l.count l.room;
    }
