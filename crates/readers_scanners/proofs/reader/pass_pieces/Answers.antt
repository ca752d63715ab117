use Rattle.std.proofs.Common.{◌≡◌, ◌+◌, ◌-◌, ◌==◌, count_by, length, slice_range, drop, sym, ap, ◌∙◌, arith}
use Rattle.piece_ring.specs.Flat.{flat}
use Rattle.readers_scanners.specs.Reading.{bytes_of_text}
use Rattle.readers_scanners.proofs.Ahead.{behind_first, stands_at, behind_it, counted_with, within_rest}
use Rattle.readers_scanners.proofs.Upcoming.{enough}
use Rattle.readers_scanners.proofs.reader.pass_pieces.Goals as goal

pub count_next-requires : goal.count_next-requires
count_next-requires g c = within_rest _ _ _ _ c.loop-next.invariant.rest c.requires.offsets

pub loop-next-init : goal.loop-next-init
loop-next-init g c =
    let none : c.args.most - c.args.most ≡ 0 = omega arith in
    record {
      rest = ap (λ p. drop p (flat c.args.behind.left)) none;
      ahead = omega arith;
      within = omega arith;
      few = omega arith;
      below = c.requires.some;
      so_far = λ h. ap (λ p. count_by (λ b. b == c.args.wanted)
          (slice_range (bytes_of_text (g.S.CharSource.characters c.args.source.now) (flat c.args.behind.left)) 0 p)) (sym none);
    }

pub loop-next-preserved : goal.loop-next-preserved
loop-next-preserved g c =
    let before = c.loop-next.invariant in let found = c.in-Some.ensures in
    let text = flat c.args.behind.left in let at = c.args.most - c.loop-next.ahead in
    let next = c.in-Some.next in let ahead = before.ahead in let most = found.most in
    let few = before.few in let below = found.fewer in
    let within = before.within in let less = found.counted.few in
    let is = stands_at text at (length text - at) next.0 (flat c.next_piece.new.self.left)
    (omega (arith, within)) found.whole
    (before.rest ∙ behind_first _ _ _ next.0 found.first c.next_piece.ensures.pieces) in
    let high = enough _ _ _ _ _ is in
    let end : at + next.0.len ≡ c.args.most - (c.loop-next.ahead - next.0.len) =
    omega (arith, ahead, most) in
    record {
      rest = ap (λ p. drop p text) (sym end) ∙ behind_it _ _ _ _ _ is;
      ahead = omega (arith, ahead);
      within = omega (arith, within, high, ahead, most);
      few = omega (arith, few, less, ahead, most);
      below = omega (arith, below, before.below);
      so_far = λ h.
          counted_with _ _ _ _ _ is (g.S.CharSource.honest c.args.source.now)
          (g.S.CharSource.characters c.args.source.now) c.args.wanted 0 c.loop-next.found next.1
          c.requires.offsets (omega arith) found.counted before.so_far h
          ∙ ap (λ p. count_by (λ b. b == c.args.wanted)
          (slice_range (bytes_of_text (g.S.CharSource.characters c.args.source.now) text) 0 p)) end;
    }
