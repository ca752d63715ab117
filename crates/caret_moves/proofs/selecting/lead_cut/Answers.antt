use Rattle.std.proofs.Common.{◌∙◌, sym, subst, ℕ, arith}
use Rattle.std.proofs.lemmas.Result.{IfOk-weaker}
use Rattle.desktop_definitions.specs.Seen.{seen}
use Rattle.desk_core.specs.Kept.{kept_desktop}
use Rattle.desk_core.specs.Positions.{IsPosition}
use Rattle.caret_moves.specs.Leading.{cut_all_led}
use Rattle.caret_moves.proofs.StretchTold.{cut_of_part}
use Rattle.caret_moves.proofs.selecting.lead_cut.Goals as goal

pub lead_cut_all_of-requires-clause-end : goal.lead_cut_all_of-requires-clause-end
lead_cut_all_of-requires-clause-end g c =
    subst (λ (v : ℕ). IsPosition (kept_desktop c.args.desk.now) v c.in_ok-part.part.end) (sym c.in_ok-part.ensures.viewer)
    (record {
      placed = c.requires.end.placed;
      place = (let all = c.requires.end.place in let less = c.in_ok-part.ensures.within in omega (arith, all, less));
    })

pub returns-clause-told : goal.returns-clause-told
returns-clause-told g c =
    IfOk-weaker c.lead_cut_all_of.result _ _ (λ told is h.
    let d = kept_desktop c.args.desk.now in
    let first = c.in_ok-part.ensures.told in
    is (first.reads.still h)
    ∙ (λ k. cut_all_led (seen (first.reads.same h k) d) c.in_ok-part.part)
    ∙ cut_of_part (seen (g.S.CharSource.characters c.args.source.now) d) c.args.stretch c.in_ok-part.part
    (first.exact h)) c.lead_cut_all_of.ensures.told
