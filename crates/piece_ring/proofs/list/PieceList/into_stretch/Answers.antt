use Rattle.std.proofs.Common.{◌≡◌, ◌+◌, ◌-◌, length, drop, slice_get, ap, ◌∙◌, arith, length-append}
use Rattle.std.proofs.Common.{length-drop}
use Rattle.std.proofs.lemmas.List.{length-take-le}
use Rattle.piece_ring.specs.Nodes.{places}
use Rattle.piece_ring.proofs.Joins.{place-kept}
use Rattle.piece_ring.proofs.Windows.{all_taken, some_pieces}
use Rattle.piece_ring.proofs.list.PieceList.into_stretch.Goals as goal

pub split-pieces-requires-clause-last : goal.split-pieces-requires-clause-last
split-pieces-requires-clause-last c =
    let l = c.args.self in let counted = l.sound.counted in
    ap (slice_get (places l.chain.nodes)) (let e : l.count ≡ length l.chain.nodes - 1 = omega arith in e)
    ∙ c.last-last.ensures

pub split-pieces-requires-clause-order : goal.split-pieces-requires-clause-order
split-pieces-requires-clause-order c = some_pieces c.args.self.trailer c.args.self.sound c.requires

pub free-requires-clause-only : goal.free-requires-clause-only
free-requires-clause-only c =
    let l = c.args.self in let counted = l.sound.counted in
    let front = length-take-le 1 l.chain.nodes (omega arith) in let back = length-drop (l.count + 1) l.chain.nodes in
    let all = ap length c.split-pieces.ensures.rest ∙ length-append _ (drop (l.count + 1) l.chain.nodes) in
    omega arith

pub free-requires-clause-at : goal.free-requires-clause-at
free-requires-clause-at c =
    let l = c.args.self in let counted = l.sound.counted in
    ap (λ ns. slice_get (places ns) 0) c.split-pieces.ensures.rest
    ∙ place-kept l.chain.nodes 0 0 (drop (l.count + 1) l.chain.nodes) (omega arith) (omega arith)
    ∙ l.sound.trailer_first

pub invariant_of-result : goal.invariant_of-result
invariant_of-result c =
    let l = c.args.self in let counted = l.sound.counted in
    let last = ap (slice_get (places l.chain.nodes)) (let e : l.count ≡ length l.chain.nodes - 1 = omega arith in e)
    ∙ c.last-last.ensures in
    let all = all_taken l.trailer l.sound c.last-last.result last c.requires _ c.split-pieces.ensures.taken _
    c.second-first.ensures in
    record { sound = all.stretch }

pub returns-clause-text : goal.returns-clause-text
returns-clause-text c =
    let l = c.args.self in let counted = l.sound.counted in
    let last = ap (slice_get (places l.chain.nodes)) (let e : l.count ≡ length l.chain.nodes - 1 = omega arith in e)
    ∙ c.last-last.ensures in
    let all = all_taken l.trailer l.sound c.last-last.result last c.requires _ c.split-pieces.ensures.taken _
    c.second-first.ensures in
    all.text
