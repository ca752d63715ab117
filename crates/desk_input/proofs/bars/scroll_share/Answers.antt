use Rattle.std.proofs.Common.{rules}
use Rattle.desk_input.proofs.BarLemmas.{share_is}
use Rattle.desk_core.proofs.ReadLemmas.{org_answered}
use Rattle.desk_input.proofs.bars.scroll_share.Goals as goal

pub returns : goal.returns
returns g c = record {
  answered =
      let start = c.in_ok-start.ensures.told in
      org_answered _ _ _ _ _ c.args.id c.in_ok-start.start _ c.requires.at.over c.in_ok-start.ensures.within.place
      start.reads.as_long start.reads.same c.begin_at.ensures
      (λ h. share_is _ c.args.id c.args.row c.in_ok-start.start (start.exact h));
  uses = search (rules, g.met.S.CharSource.ground_self, g.met.S.CharSource.ground_through);
}
