use Rattle.std.proofs.Common.{◌≡◌, ◌∙◌, List, ℕ, ◌++◌, length, arith, ap, length-append, subst, sym}
use Rattle.char_file.proofs.Reading.{read_on}
use Rattle.piece_ring.specs.Flat.{flat, run, characters_of}
use Rattle.piece_ring.proofs.Lengths.{length-run}
use Rattle.piece_ring.specs.Text.{AreWithin}
use Rattle.readers_scanners.specs.Reading.{bytes_of_text}
use Rattle.desk_commands.proofs.RewritingLemmas.{piece_inside, rest_inside, piece_long, text_on, bytes_on}
use Rattle.desk_commands.proofs.rewriting.put_pieces.Goals as goal

pub put_piece-requires-clause-inside : goal.put_piece-requires-clause-inside
put_piece-requires-clause-inside g c =
    piece_inside c.in-Some.ensures.pieces c.in-Some.ensures.whole c.loop-piece.invariant.inside

pub add-requires : goal.add-requires
add-requires g c =
    let some = c.in-Some.ensures.whole.0 in record {
      whole = (
        omega (arith, some),
        omega (
          arith,
          piece_long c.in-Some.ensures.pieces,
          c.requires.room,
          c.loop-piece.invariant.longer,
          c.len-off.ensures,
        ),
      );
      fits = omega (arith, piece_long c.in-Some.ensures.pieces, c.requires.room, c.loop-piece.invariant.counted);
    }

pub loop-piece-preserved : goal.loop-piece-preserved
loop-piece-preserved g c =
    let s = g.S.CharSource in
    let i = c.loop-piece.invariant in
    let p = c.in-Some.piece in
    let first = c.in-Some.ensures.pieces in
    let done = c.in_ok-put_piece.ensures in
    let added = c.in_ok-add.ensures.added in
    let off : c.len-off.result ≡ length c.loop-piece.made.items = omega (arith, c.len-off.ensures) in
    record {
      laid_on = text_on first (flat c.loop-piece.buffer) (flat c.add.new.self) _
          (length c.loop-piece.made.items) (length c.put_piece.new.made.items) done.longer
          (subst (λ n. flat c.add.new.self ≡ flat c.loop-piece.buffer ++ run n p.len p.look) off added)
          i.laid_on;
      read = λ honest.
          bytes_on first (s.characters c.args.source.now) c.loop-piece.made.items c.put_piece.new.made.items _
          (subst (λ (l : List ℕ). c.put_piece.new.made.items ≡ c.loop-piece.made.items ++ bytes_of_text l (characters_of p))
          (i.reads.same honest) (done.read (i.reads.still honest))) (i.read honest);
      longer = omega (arith, i.longer, done.longer, piece_long first);
      counted = omega (
        arith,
        i.counted,
        ap length added,
        length-append (flat c.loop-piece.buffer) (run c.len-off.result p.len p.look),
        length-run c.len-off.result p.len p.look,
        piece_long first,
      );
      inside = subst (λ n. AreWithin n (flat c.next_piece.new.self.left)) (sym done.reads.as_long)
          (rest_inside first i.inside);
      reads = read_on s.characters s.failures s.honest s.same_ground g.met.S.CharSource.ground_through _ _ _ i.reads
          done.reads;
      calm = done.faults.calm (λ wrong. absurd cc) ∙ i.calm;
    }
