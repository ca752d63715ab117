use Rattle.std.proofs.Common.{◌∙◌, sym, arith}
use Rattle.piece_ring.specs.Flat.{flat}
use Rattle.readers_scanners.specs.Reading.{bytes_of_text}
use Rattle.text_frames.proofs.Placing.{length-read}
use Rattle.caret_moves.proofs.ReadLemmas.{end_above, end_of_text}
use Rattle.caret_moves.proofs.steps.end_of_line.Goals as goal

pub returns-then-pos-below-clause-end : goal.returns-then-pos-below-clause-end
returns-then-pos-below-clause-end g c = λ h.
    end_above (bytes_of_text (g.S.CharSource.characters c.args.source.now) (flat c.args.text.now)) c.args.pos
    c.in_ok-below.below (c.in_ok-below.ensures.start h) c.if-pos-below.true

pub returns-clause-end : goal.returns-clause-end
returns-clause-end g c = λ h.
    let characters = g.S.CharSource.characters c.args.source.now in
    let high = c.if-pos-below.false in
    c.len.ensures ∙ sym (length-read characters (flat c.args.text.now))
    ∙ end_of_text (bytes_of_text characters (flat c.args.text.now)) c.args.pos
    c.in_ok-below.below (c.in_ok-below.ensures.start h) (omega (arith, high))
