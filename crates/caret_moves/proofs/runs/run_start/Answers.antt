use Rattle.std.proofs.Common.{◌∙◌, refl, sym}
use Rattle.piece_ring.specs.Flat.{flat}
use Rattle.readers_scanners.specs.Reading.{bytes_of_text}
use Rattle.readers_scanners.proofs.Walking.{at_first, backward, seen_before}
use Rattle.caret_moves.proofs.RunLaws.{run_starts_here, run_starts_before}
use Rattle.caret_moves.proofs.runs.run_start.Goals as goal

pub loop-at-init : goal.loop-at-init
loop-at-init g c =
    let s = g.S.CharSource in let laws = g.met.S.CharSource in
    record {
      way = at_first s.characters s.failures s.honest s.same_ground laws.ground_self laws.ground_through _ _ _ _
          c.open-reader.ensures.position c.open-reader.ensures.text;
      exact = λ h. refl;
    }

pub loop-at-preserved : goal.loop-at-preserved
loop-at-preserved g c =
    let s = g.S.CharSource in let laws = g.met.S.CharSource in let before = c.loop-at.invariant in
    let read = c.in_ok-byte.ensures in
    record {
      way = backward s.characters s.failures s.honest s.same_ground laws.ground_self laws.ground_through
          _ _ _ _ _ before.way c.previous_byte.new.source c.previous_byte.new.self read.moves read.text read.reads
          read.cause;
      exact = λ h. before.exact h
          ∙ run_starts_before c.args.gaps (bytes_of_text (s.characters c.args.source.now) (flat c.args.text.now))
          c.loop-at.at c.in_ok-byte.byte
          (seen_before s.characters s.failures s.honest s.same_ground laws.ground_self laws.ground_through
          _ _ _ _ _ before.way c.in_ok-byte.byte _ read.moves read.there h)
          c.loop-at-test.true (sym c.is_of_run.ensures ∙ c.if-not-is_of_run.false);
    }

pub returns-then-not-is_of_run-clause-start : goal.returns-then-not-is_of_run-clause-start
returns-then-not-is_of_run-clause-start g c = λ h.
    let s = g.S.CharSource in let laws = g.met.S.CharSource in let before = c.loop-at.invariant in
    run_starts_here c.args.gaps (bytes_of_text (s.characters c.args.source.now) (flat c.args.text.now))
    c.loop-at.at c.in_ok-byte.byte
    (seen_before s.characters s.failures s.honest s.same_ground laws.ground_self laws.ground_through
    _ _ _ _ _ before.way c.in_ok-byte.byte _ c.in_ok-byte.ensures.moves c.in_ok-byte.ensures.there h)
    c.loop-at-test.true (sym c.is_of_run.ensures ∙ c.if-not-is_of_run.true)
    ∙ sym (before.exact h)
