use Rattle.std.proofs.Common.{arith}
use Rattle.piece_ring.proofs.list.PieceList.seam_at.Goals as goal

pub returns-in_err-reserve-in-Inside-clause-room : goal.returns-in_err-reserve-in-Inside-clause-room
returns-in_err-reserve-in-Inside-clause-room c = let same = c.reserve.ensures.count in
    (omega arith, c.reserve.ensures.kept)

pub returns-in_err-spare-in-Inside-clause-room : goal.returns-in_err-spare-in-Inside-clause-room
returns-in_err-spare-in-Inside-clause-room c = let same = c.reserve.ensures.count in
    (omega arith, c.reserve.ensures.kept)

pub returns-in_ok-spare-in-Inside-clause-room : goal.returns-in_ok-spare-in-Inside-clause-room
returns-in_ok-spare-in-Inside-clause-room c =
    let same = c.reserve.ensures.count in let grown = c.divide.ensures.grown in
    (omega arith, λ n h. c.divide.ensures.room n (c.reserve.ensures.kept n h))
