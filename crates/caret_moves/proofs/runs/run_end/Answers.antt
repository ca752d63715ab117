use Rattle.std.proofs.Common.{◌∙◌, refl, sym}
use Rattle.piece_ring.specs.Flat.{flat}
use Rattle.readers_scanners.specs.Reading.{bytes_of_text}
use Rattle.readers_scanners.proofs.Walking.{at_first, onward, seen}
use Rattle.caret_moves.proofs.RunLaws.{run_goes_on, run_ends_at}
use Rattle.caret_moves.proofs.runs.run_end.Goals as goal

pub loop-at-init : goal.loop-at-init
loop-at-init g c =
    let s = g.S.CharSource in let laws = g.met.S.CharSource in
    record {
      way = at_first s.characters s.failures s.honest s.same_ground laws.ground_self laws.ground_through _ _ _ _
          c.open-reader.ensures.position c.open-reader.ensures.text;
      exact = λ h. refl;
    }

pub loop-at-preserved : goal.loop-at-preserved
loop-at-preserved g c =
    let s = g.S.CharSource in let laws = g.met.S.CharSource in let before = c.loop-at.invariant in
    let read = c.in_ok-byte.ensures in
    record {
      way = onward s.characters s.failures s.honest s.same_ground laws.ground_self laws.ground_through _ _ _ _ _
          before.way _ _ read.moves read.text read.reads read.cause;
      exact = λ h. before.exact h
          ∙ run_goes_on c.args.gaps (bytes_of_text (s.characters c.args.source.now) (flat c.args.text.now)) c.loop-at.at
          c.in_ok-byte.byte
          (seen s.characters s.failures s.honest s.same_ground laws.ground_self laws.ground_through _ _ _ _ _
          before.way c.in_ok-byte.byte read.there h)
          (sym c.is_of_run.ensures ∙ c.if-not-is_of_run.false);
    }

pub returns-then-not-is_of_run-clause-end : goal.returns-then-not-is_of_run-clause-end
returns-then-not-is_of_run-clause-end g c = λ h.
    let s = g.S.CharSource in let laws = g.met.S.CharSource in let before = c.loop-at.invariant in
    run_ends_at c.args.gaps (bytes_of_text (s.characters c.args.source.now) (flat c.args.text.now)) c.loop-at.at
    c.in_ok-byte.byte
    (seen s.characters s.failures s.honest s.same_ground laws.ground_self laws.ground_through _ _ _ _ _
    before.way c.in_ok-byte.byte c.in_ok-byte.ensures.there h)
    (sym c.is_of_run.ensures ∙ c.if-not-is_of_run.true)
    ∙ sym (before.exact h)
