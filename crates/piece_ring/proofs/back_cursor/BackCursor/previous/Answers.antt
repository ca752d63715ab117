use Rattle.std.proofs.Common.{◌-◌, sym, ap, ◌∙◌, arith}
use Rattle.piece_ring.specs.FingeredPieces.{BackWalk}
use Rattle.piece_ring.proofs.Behind.{last_of_front}
use Rattle.piece_ring.proofs.back_cursor.BackCursor.previous.Goals as goal

pub returns-clause-text : goal.returns-clause-text
returns-clause-text c =
    let front = c.in-Some.front in let some = c.in-Some.ensures.some in
    sym (ap (λ (w : BackWalk). w.text) c.self.view_is) ∙ sym c.in-Some.ensures.text
    ∙ last_of_front c.self.inside.list.now.chain.nodes c.in-Some.before front.off front.len (front.len - 1) front.look
    (omega (arith, some))
