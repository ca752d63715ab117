use Rattle.std.proofs.Common.{List, ◌++◌, sym, subst, arith}
use Rattle.std.specs.List.{flat_map}
use Rattle.piece_ring.specs.declared.piece.Piece.{Piece}
use Rattle.image_format.specs.Image.{pieces_bytes, piece_bytes, long, AreSome}
use Rattle.image_format.proofs.Putting.{IsLeft, same_put, number_put, front_put, item_kept, last_put, in_any_case}
use Rattle.image_format.proofs.Looking.{look_of_first, looks_of_rest, some_with_first}
use Rattle.image_format.proofs.writing.put_pieces.Goals as goal

pub loop-piece-init : goal.loop-piece-init
loop-piece-init g c = record {
  looks = c.requires.looks;
  some = λ some. some;
  left = subst (λ (l : List _). IsLeft g.K.ByteSink (pieces_bytes c.args.pieces.left)
      (l ++ flat_map piece_bytes c.args.pieces.left) c.args.sink.now c.put_long.new.sink) (sym c.new-block.ensures)
      (number_put g.K.ByteSink g.met.K.ByteSink.ground_through long piece_bytes c.args.pieces.left c.args.count
      c.requires.count c.in_ok-put_long.ensures);
}

pub add_piece-requires-clause-look : goal.add_piece-requires-clause-look
add_piece-requires-clause-look g c =
    look_of_first c.in-Some.piece c.loop-piece.pieces.left c.next_piece.new.self.left c.in-Some.ensures.pieces
    c.in-Some.ensures.whole c.loop-piece.invariant.looks

pub loop-piece-preserved : goal.loop-piece-preserved
loop-piece-preserved g c =
    let i = c.loop-piece.invariant in
    let p = c.in-Some.piece in
    let old = c.loop-piece.pieces.left in
    let rest = c.next_piece.new.self.left in
    let front = c.in-Some.ensures.pieces in
    let put = c.in_ok-put_full.ensures.puts in
    record {
      looks = looks_of_rest p old rest front i.looks;
      some = λ some. i.some (some_with_first p old rest front c.in-Some.ensures.whole some);
      left = item_kept g.K.ByteSink g.met.K.ByteSink.ground_through piece_bytes (pieces_bytes c.args.pieces.left)
          c.put_full.new.block.items c.add_piece.new.block.items old p rest front c.add_piece.ensures
          (front_put g.K.ByteSink g.met.K.ByteSink.ground_through (pieces_bytes c.args.pieces.left) put.taken
          c.put_full.new.block.items (flat_map piece_bytes old) c.loop-piece.block.items put.left i.left put.puts);
    }

pub returns : goal.returns
returns g c =
    let i = c.loop-piece.invariant in
    let none = c.in_default.ensures.pieces.0 in
    record {
      puts = last_put g.K.ByteSink g.met.K.ByteSink.ground_through piece_bytes c.put_bytes.result
          (pieces_bytes c.args.pieces.left) c.loop-piece.block.items c.loop-piece.pieces.left none i.left
          (same_put g.K.ByteSink c.as_slice.ensures.value c.put_bytes.ensures);
      some = in_any_case c.put_bytes.result _
          (i.some (subst (λ (left : List Piece). AreSome left) (sym none) (λ k p low. absurd (omega (arith, low)))));
    }
