use Rattle.std.proofs.Common.{◌≡◌, ◌-◌, ◌∙◌, sym, arith}
use Rattle.desk_input.proofs.LineLaws.{above_low}
use Rattle.std.proofs.lemmas.Result.{IfOk-weaker}
use Rattle.piece_ring.specs.Flat.{flat}
use Rattle.readers_scanners.specs.Reading.{bytes_of_text}
use Rattle.text_frames.specs.Lines.{line_start, line_above}
use Rattle.caret_moves.proofs.ReadLemmas.{org_stays, org_up, org_down}
use Rattle.caret_moves.proofs.steps.org_for.Goals as goal

pub returns-in-Some-clause-place : goal.returns-in-Some-clause-place
returns-in-Some-clause-place g c = λ h.
    org_stays (bytes_of_text (g.S.CharSource.characters c.args.source.now) (flat c.args.text.now)) c.args.h c.args.org
    c.args.pos c.in-Some.field-0 (sym c.in-Some.is ∙ c.in_ok-lines.ensures.lines h)

pub returns-then-pos-org-clause-place : goal.returns-then-pos-org-clause-place
returns-then-pos-org-clause-place g c =
    let reads = c.in_ok-lines.ensures.source.reads in
    IfOk-weaker c.line_start.result _ _ (λ start told h.
    told (reads.still h)
    ∙ (λ k. line_start (bytes_of_text (reads.same h k) (flat c.args.text.now)) c.args.pos)
    ∙ org_up (bytes_of_text (g.S.CharSource.characters c.args.source.now) (flat c.args.text.now)) c.args.h c.args.org
    c.args.pos (sym c.in_default.is ∙ c.in_ok-lines.ensures.lines h) c.if-pos-org.true) c.line_start.ensures.start

pub returns-clause-place : goal.returns-clause-place
returns-clause-place g c = λ h.
    let reads = c.in_ok-lines.ensures.source.reads in
    let bs = bytes_of_text (g.S.CharSource.characters c.args.source.now) (flat c.args.text.now) in
    let from = c.if-pos-org.false in
    let told : c.in_ok-above.above ≡ line_above bs (c.args.h - 1) c.args.pos =
    c.in_ok-above.ensures.start (reads.still h)
    ∙ (λ k. line_above (bytes_of_text (reads.same h k) (flat c.args.text.now)) (c.saturating_sub.ensures k) c.args.pos) in
    let low = above_low bs (c.args.h - 1) c.args.pos in
    let least : c.min.result ≡ c.in_ok-above.above = (let is = c.min.ensures in omega (arith, is, told, low)) in
    least ∙ told
    ∙ org_down bs c.args.h c.args.org c.args.pos (sym c.in_default.is ∙ c.in_ok-lines.ensures.lines h) (omega (arith, from))
