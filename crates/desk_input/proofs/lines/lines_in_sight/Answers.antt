use Rattle.std.proofs.Common.{arith}
use Rattle.piece_ring.specs.Flat.{flat}
use Rattle.readers_scanners.specs.Reading.{bytes_of_text}
use Rattle.desk_input.proofs.WalkLemmas.{sight_above, sight_within, sight_below}
use Rattle.desk_input.proofs.lines.lines_in_sight.Goals as goal

pub returns-then-target-org-clause-lines : goal.returns-then-target-org-clause-lines
returns-then-target-org-clause-lines g c = λ h.
    sight_above (bytes_of_text (g.S.CharSource.characters c.args.source.now) (flat c.args.text.now)) c.args.h c.args.org
    c.args.target c.if-target-org.true

pub returns-then-lines-h-clause-lines : goal.returns-then-lines-h-clause-lines
returns-then-lines-h-clause-lines g c = λ h.
    let from = c.if-target-org.false in
    sight_within (bytes_of_text (g.S.CharSource.characters c.args.source.now) (flat c.args.text.now)) c.args.h c.args.org
    c.args.target c.in_ok-lines.lines (omega (arith, from)) (c.in_ok-lines.ensures.ends h) c.if-lines-h.true

pub returns-clause-lines : goal.returns-clause-lines
returns-clause-lines g c = λ h.
    let from = c.if-target-org.false in
    let many = c.if-lines-h.false in
    sight_below (bytes_of_text (g.S.CharSource.characters c.args.source.now) (flat c.args.text.now)) c.args.h c.args.org
    c.args.target c.in_ok-lines.lines (omega (arith, from)) (c.in_ok-lines.ensures.ends h) (omega (arith, many))
