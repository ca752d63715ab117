use Rattle.std.proofs.Common.{◌∙◌, ◌≡◌, ℕ, ◌-◌, sym, subst, arith}
use Rattle.std.proofs.lemmas.Result.{IfOk-weaker}
use Rattle.char_file.proofs.Reading.{read_on}
use Rattle.piece_ring.specs.Flat.{flat}
use Rattle.piece_ring.specs.Text.{AreWithin}
use Rattle.readers_scanners.specs.Reading.{bytes_of_text}
use Rattle.text_frames.specs.Lines.{line_start}
use Rattle.caret_moves.specs.Steps.{end_of_line}
use Rattle.caret_moves.specs.Calling.{first_where, is_called}
use Rattle.caret_moves.proofs.CallReads.{word_here, word_after}
use Rattle.caret_moves.proofs.calling.line_word.Goals as goal

pub returns-then-called-clause-word : goal.returns-then-called-clause-word
returns-then-called-clause-word g c = λ h.
    word_here (bytes_of_text (g.S.CharSource.characters c.args.source.now) (flat c.args.text.now)) c.args.w c.args.pos
    (sym (c.in_ok-called.ensures.is h) ∙ c.if-called.true)

pub first_called-requires : goal.first_called-requires
first_called-requires g c =
    let first = c.in_ok-called.ensures.source.reads in
    let second = c.in_ok-start.ensures.source.reads in
    let third = c.in_ok-end.ensures.source.reads in
    record {
      within =
          (let low = c.in_ok-end.ensures.within in
          let least = c.min-upto.ensures in
          omega (arith, low, least));
      offsets = subst (λ (n : ℕ). AreWithin n (flat c.args.text.now))
          (sym (third.as_long ∙ second.as_long ∙ first.as_long)) c.requires.offsets;
    }

pub returns-clause-word : goal.returns-clause-word
returns-clause-word g c =
    IfOk-weaker c.first_called.result _ _ (λ found is h.
    let s = g.S.CharSource in
    let through = g.met.S.CharSource.ground_through in
    let first = c.in_ok-called.ensures.source.reads in
    let two = read_on s.characters s.failures s.honest s.same_ground through _ _ _ first c.in_ok-start.ensures.source.reads in
    let three = read_on s.characters s.failures s.honest s.same_ground through _ _ _ two c.in_ok-end.ensures.source.reads in
    let bs = bytes_of_text (s.characters c.args.source.now) (flat c.args.text.now) in
    let start_is : c.in_ok-start.start ≡ line_start bs c.args.pos = c.in_ok-start.ensures.start (first.still h)
    ∙ (λ k. line_start (bytes_of_text (first.same h k) (flat c.args.text.now)) c.args.pos) in
    let end_is : c.in_ok-end.end ≡ end_of_line bs c.args.pos = c.in_ok-end.ensures.end (two.still h)
    ∙ (λ k. end_of_line (bytes_of_text (two.same h k) (flat c.args.text.now)) c.args.pos) in
    is (three.still h)
    ∙ (λ k. first_where (is_called (bytes_of_text (three.same h k) (flat c.args.text.now))) (start_is k)
    (c.min-upto.result - c.in_ok-start.start))
    ∙ word_after bs c.args.w c.args.pos (c.min-upto.result - c.in_ok-start.start)
    (let least = c.min-upto.ensures in
    let sum = c.saturating_add.ensures in
    omega (arith, least, sum, start_is, end_is))
    (sym (c.in_ok-called.ensures.is h) ∙ c.if-called.false))
    c.first_called.ensures.found
