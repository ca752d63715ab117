use Rattle.std.proofs.Common.{◌∙◌, ℕ, ◌+◌, ◌-◌, ◌*◌, sym, arith}
use Rattle.char_file.proofs.Reading.{read_on}
use Rattle.viewer_tracks.specs.declared.display.TheConstants.{COLUMNS, ROWS}
use Rattle.desktop_definitions.specs.Seen.{seen}
use Rattle.desk_core.specs.Kept.{kept_desktop}
use Rattle.caret_moves.specs.Calling.{calls_at, cell_numbered, word_number}
use Rattle.caret_moves.proofs.FirstLaws.{ends_here, ends_none, goes_on}
use Rattle.caret_moves.proofs.ReadsThen.{over_after}
use Rattle.caret_moves.proofs.calling.word_number.Goals as goal

pub calls_at-requires-clause-over : goal.calls_at-requires-clause-over
calls_at-requires-clause-over g c =
    over_after g.S.CharSource _ _ (kept_desktop c.args.desk.now) c.loop-number.invariant.reads c.requires.over

pub loop-number-preserved : goal.loop-number-preserved
loop-number-preserved g c =
    let s = g.S.CharSource in let d = kept_desktop c.args.desk.now in let before = c.loop-number.invariant in
    record {
      reads = read_on s.characters s.failures s.honest s.same_ground g.met.S.CharSource.ground_through _ _ _ before.reads
          c.in_ok-calls.ensures.reads;
      calm = c.in_ok-calls.ensures.cause ∙ before.calm;
      so_far = λ h.
          let x = seen (s.characters c.args.source.now) d in
          let n : ℕ = c.loop-number.number in
          before.so_far h ∙ goes_on (λ (m : ℕ). calls_at x c.args.command c.args.place (cell_numbered m)) n
          (COLUMNS * ROWS - n) (COLUMNS * ROWS - (n + 1))
          (let low = c.loop-number-test.true in omega (arith, low))
          (sym ((c.in_ok-calls.ensures.exact (before.reads.still h)
          ∙ (λ k. calls_at (seen (before.reads.same h k) d) c.args.command c.args.place (c.cell_numbered.ensures.value k))))
          ∙ c.if-calls.false);
    }

pub returns-then-calls-clause-told : goal.returns-then-calls-clause-told
unfolding word_number
returns-then-calls-clause-told g c =
    let s = g.S.CharSource in let d = kept_desktop c.args.desk.now in let before = c.loop-number.invariant in
    record {
      exact = λ h.
          let x = seen (s.characters c.args.source.now) d in
          let n : ℕ = c.loop-number.number in
          ends_here (λ (m : ℕ). calls_at x c.args.command c.args.place (cell_numbered m)) n
          (COLUMNS * ROWS - n) (COLUMNS * ROWS - (n + 1))
          (let low = c.loop-number-test.true in omega (arith, low))
          (sym ((c.in_ok-calls.ensures.exact (before.reads.still h)
          ∙ (λ k. calls_at (seen (before.reads.same h k) d) c.args.command c.args.place (c.cell_numbered.ensures.value k))))
          ∙ c.if-calls.true) ∙ sym (before.so_far h);
      reads = read_on s.characters s.failures s.honest s.same_ground g.met.S.CharSource.ground_through _ _ _ before.reads
          c.in_ok-calls.ensures.reads;
      cause = c.in_ok-calls.ensures.cause ∙ before.calm;
    }

pub returns-clause-told : goal.returns-clause-told
unfolding word_number
returns-clause-told g c =
    let s = g.S.CharSource in let d = kept_desktop c.args.desk.now in let before = c.loop-number.invariant in
    record {
      exact = λ h.
          let x = seen (s.characters c.args.source.now) d in
          let n : ℕ = c.loop-number.number in
          ends_none (λ (m : ℕ). calls_at x c.args.command c.args.place (cell_numbered m)) n (COLUMNS * ROWS - n)
          (let high = c.loop-number-test.false in omega (arith, high)) ∙ sym (before.so_far h);
      reads = before.reads;
      cause = before.calm;
    }
