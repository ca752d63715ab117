use Rattle.std.proofs.Common.{◌∙◌, sym}
use Rattle.std.proofs.lemmas.Result.{IfOk-weaker}
use Rattle.piece_ring.specs.Flat.{flat}
use Rattle.readers_scanners.specs.Reading.{bytes_of_text}
use Rattle.desk_input.specs.Lines.{way_by_share}
use Rattle.desk_input.proofs.WalkLemmas.{way_near, way_far}
use Rattle.desk_input.proofs.lines.way_to.Goals as goal

pub returns-in-Some-clause-way : goal.returns-in-Some-clause-way
returns-in-Some-clause-way g c = λ h.
    way_near (bytes_of_text (g.S.CharSource.characters c.args.source.now) (flat c.args.text.now)) c.args.h c.args.org
    c.args.target c.in-Some.lines (sym c.in-Some.is ∙ c.in_ok-sight.ensures.lines h)

pub returns-in-None-clause-way : goal.returns-in-None-clause-way
returns-in-None-clause-way g c =
    let reads = c.in_ok-sight.ensures.source.reads in
    IfOk-weaker c.way_by_share.result _ _ (λ way told h.
    told (reads.still h)
    ∙ (λ k. way_by_share (bytes_of_text (reads.same h k) (flat c.args.text.now)) c.args.h c.args.target)
    ∙ way_far (bytes_of_text (g.S.CharSource.characters c.args.source.now) (flat c.args.text.now)) c.args.h c.args.org
    c.args.target (sym c.in-None.is ∙ c.in_ok-sight.ensures.lines h)) c.way_by_share.ensures.way
