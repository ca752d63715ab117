use Rattle.std.proofs.Common.{◌+◌, ◌∙◌, ℕ, List, [], ◌∷◌, length, slice_index, arith, ap, length-append}
use Rattle.char_file.proofs.Reading.{read_on}
use Rattle.desk_commands.proofs.RewritingLemmas.{piece_on}
use Rattle.desk_commands.proofs.rewriting.put_piece.Goals as goal

pub loop-i-preserved : goal.loop-i-preserved
loop-i-preserved g c =
    let s = g.S.CharSource in
    let i = c.loop-i.invariant in
    let pushed = c.in_ok-push.ensures.items in
    record {
      read = λ honest.
          piece_on (s.characters c.args.source.now) c.args.made.now.items c.loop-i.made.items
          c.push.new.self.items c.args.piece.off c.loop-i.i c.in_ok-byte.byte c.args.piece.look pushed
          (c.in_ok-byte.ensures.value (i.reads.still honest)
          ∙ ap (λ (l : List ℕ). slice_index l (c.args.piece.off + c.loop-i.i)) (i.reads.same honest))
          (i.read honest);
      longer = omega
          (arith, ap length pushed, length-append c.loop-i.made.items (c.in_ok-byte.byte ∷ []), i.longer);
      reads = read_on s.characters s.failures s.honest s.same_ground g.met.S.CharSource.ground_through _ _ _ i.reads
          c.in_ok-byte.ensures.reads;
      calm = c.in_ok-byte.ensures.cause ∙ i.calm;
    }
