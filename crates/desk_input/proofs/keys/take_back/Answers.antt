use Rattle.std.proofs.Common.{rules, ◌≡◌, ◌∙◌, sym, arith}
use Rattle.desktop_definitions.specs.Seen.{seen}
use Rattle.desktop_definitions.proofs.RowLaws.{known_no_caret}
use Rattle.desktop_definitions.proofs.KeyLaws.{back_none, back_first, back_answered, stay_answered}
use Rattle.desk_core.specs.Kept.{kept_desktop}
use Rattle.desk_core.proofs.StretchLemmas.{refused_effect}
use Rattle.desk_input.proofs.StillLemmas.{does_unread}
use Rattle.desk_input.proofs.keys.take_back.Goals as goal

pub returns-in_default : goal.returns-in_default
unfolding seen
returns-in_default g c =
    does_unread g.S.CharSource g.met.S.CharSource.ground_self _ _ (kept_desktop c.args.desk.now) _ _ c.requires
    (λ H all over. refused_effect over known_no_caret (back_none _ (sym c.caret_place.ensures.is ∙ c.in_default.is)))

pub returns-in_ok-cut_out : goal.returns-in_ok-cut_out
returns-in_ok-cut_out g c = record {
  answered =
      let reads = c.in_ok-cut_out.ensures.reads in
      back_answered _ _ _ _ _ c.requires reads.as_long reads.same _ (sym c.in-Some.ensures.is)
      c.if-caret-gt0.true c.in_ok-cut_out.ensures.changed;
  unread = search (rules, g.met.S.CharSource.ground_self, g.met.S.CharSource.ground_through);
  uses = search (rules, g.met.S.CharSource.ground_self, g.met.S.CharSource.ground_through);
}

pub returns-else-caret-gt0 : goal.returns-else-caret-gt0
unfolding seen
returns-else-caret-gt0 g c =
    let first : c.in-Some.caret.position ≡ 0 = omega (arith, c.if-caret-gt0.false) in
    does_unread g.S.CharSource g.met.S.CharSource.ground_self _ _ (kept_desktop c.args.desk.now) _ _ c.requires
    (λ H all over. stay_answered _ _ _ _ over (back_first _ _ (sym c.in-Some.ensures.is) first))
