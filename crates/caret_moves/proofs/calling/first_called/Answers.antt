use Rattle.std.proofs.Common.{◌∙◌, ℕ, ◌+◌, ◌-◌, sym, subst, arith}
use Rattle.char_file.proofs.Reading.{read_on}
use Rattle.piece_ring.specs.Flat.{flat}
use Rattle.piece_ring.specs.Text.{AreWithin}
use Rattle.readers_scanners.specs.Reading.{bytes_of_text}
use Rattle.caret_moves.specs.Calling.{is_called}
use Rattle.caret_moves.proofs.FirstLaws.{ends_here, ends_none, goes_on}
use Rattle.caret_moves.proofs.calling.first_called.Goals as goal

pub is_called-requires : goal.is_called-requires
is_called-requires g c = record {
  within = (let low = c.loop-at-test.true in let in_text = c.requires.within in omega (arith, low, in_text));
  offsets = subst (λ (n : ℕ). AreWithin n (flat c.args.text.now)) (sym c.loop-at.invariant.reads.as_long) c.requires.offsets;
}

pub loop-at-preserved : goal.loop-at-preserved
loop-at-preserved g c =
    let s = g.S.CharSource in let before = c.loop-at.invariant in let asked = c.in_ok-called.ensures in
    record {
      reads = read_on s.characters s.failures s.honest s.same_ground g.met.S.CharSource.ground_through _ _ _ before.reads
          asked.source.reads;
      calm = asked.source.cause ∙ before.calm;
      so_far = λ h.
          let bs = bytes_of_text (s.characters c.args.source.now) (flat c.args.text.now) in
          let at : ℕ = c.loop-at.at in
          before.so_far h ∙ goes_on (is_called bs) at (c.args.upto - at) (c.args.upto - (at + 1))
          (let low = c.loop-at-test.true in omega (arith, low))
          (sym (asked.is (before.reads.still h)
          ∙ (λ k. is_called (bytes_of_text (before.reads.same h k) (flat c.args.text.now)) at))
          ∙ c.if-called.false);
    }

pub returns-then-called-clause-found : goal.returns-then-called-clause-found
returns-then-called-clause-found g c = λ h.
    let s = g.S.CharSource in let before = c.loop-at.invariant in let asked = c.in_ok-called.ensures in
    let bs = bytes_of_text (s.characters c.args.source.now) (flat c.args.text.now) in
    let at : ℕ = c.loop-at.at in
    ends_here (is_called bs) at (c.args.upto - at) (c.args.upto - (at + 1))
    (let low = c.loop-at-test.true in omega (arith, low))
    (sym (asked.is (before.reads.still h)
    ∙ (λ k. is_called (bytes_of_text (before.reads.same h k) (flat c.args.text.now)) at))
    ∙ c.if-called.true) ∙ sym (before.so_far h)

pub returns-clause-found : goal.returns-clause-found
returns-clause-found g c = λ h.
    let s = g.S.CharSource in let before = c.loop-at.invariant in
    let bs = bytes_of_text (s.characters c.args.source.now) (flat c.args.text.now) in
    let at : ℕ = c.loop-at.at in
    ends_none (is_called bs) at (c.args.upto - at)
    (let high = c.loop-at-test.false in omega (arith, high)) ∙ sym (before.so_far h)
