use Rattle.std.proofs.Common.{rules, sym, ◌∙◌}
use Rattle.desk_input.proofs.BarLemmas.{row_none, row_some}
use Rattle.desk_core.proofs.ReadLemmas.{org_answered, unchanged_answered}
use Rattle.desk_input.proofs.bars.scroll_row.Goals as goal

pub returns-in_default : goal.returns-in_default
returns-in_default g c = record {
  answered =
      let start = c.in_ok-start.ensures.told in
      unchanged_answered _ _ _ _ _ c.requires.at.over start.reads.as_long start.reads.same
      (λ h. row_none _ c.args.id c.args.row (sym c.in_default.is ∙ start.exact h));
  uses = search (rules, g.met.S.CharSource.ground_self, g.met.S.CharSource.ground_through);
}

pub returns : goal.returns
returns g c = record {
  answered =
      let start = c.in_ok-start.ensures.told in
      org_answered _ _ _ _ _ c.args.id c.in-Some.start _ c.requires.at.over
      (rw c.in-Some.is at c.in_ok-start.ensures.within).place start.reads.as_long start.reads.same c.begin_at.ensures
      (λ h. row_some _ c.args.id c.args.row c.in-Some.start (sym c.in-Some.is ∙ start.exact h));
  uses = search (rules, g.met.S.CharSource.ground_self, g.met.S.CharSource.ground_through);
}
