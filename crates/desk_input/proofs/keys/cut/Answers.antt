use Rattle.std.proofs.Common.{rules, ◌∙◌, sym}
use Rattle.desktop_definitions.specs.Seen.{seen}
use Rattle.desktop_definitions.proofs.RowLaws.{known_no_selection}
use Rattle.desktop_definitions.proofs.KeyLaws.{cut_none, cut_answered}
use Rattle.desk_core.specs.Kept.{kept_desktop}
use Rattle.desk_input.proofs.StillLemmas.{does_unread}
use Rattle.desk_core.proofs.StretchLemmas.{refused_effect, copied_built}
use Rattle.desk_input.proofs.keys.cut.Goals as goal

pub returns-in_default : goal.returns-in_default
unfolding seen
returns-in_default g c =
    does_unread g.S.CharSource g.met.S.CharSource.ground_self _ _ (kept_desktop c.args.desk.now) _ _ c.requires
    (λ H all over. refused_effect over known_no_selection (cut_none _ (sym c.selection.ensures.is ∙ c.in_default.is)))

pub cut_out-requires-clause-built : goal.cut_out-requires-clause-built
cut_out-requires-clause-built g c =
    copied_built _ c.in_ok-desk.ensures.is c.requires c.in-Some.ensures.some c.in-Some.ensures.stands.place

pub returns : goal.returns
returns g c = record {
  answered =
      let reads = c.in_ok-cut_out.ensures.reads in
      cut_answered _ _ _ _ _ c.requires reads.as_long reads.same (kept_desktop c.args.desk.now) _ _ c.in-Some.ensures.some
      c.in-Some.ensures.stands.place c.in_ok-desk.ensures.is (sym c.in-Some.ensures.is) c.in_ok-cut_out.ensures.changed;
  unread = search (rules, g.met.S.CharSource.ground_self, g.met.S.CharSource.ground_through);
  uses = search (rules, g.met.S.CharSource.ground_self, g.met.S.CharSource.ground_through);
}
