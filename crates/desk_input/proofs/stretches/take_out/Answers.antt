use Rattle.std.proofs.Common.{rules, refl}
use Rattle.desktop_definitions.proofs.RowLaws.{known_no_selection}
use Rattle.desktop_definitions.proofs.KeyLaws.{taken_out_empty, taken_out_answered}
use Rattle.desk_core.proofs.StretchLemmas.{refused_effect}
use Rattle.desk_input.proofs.stretches.take_out.Goals as goal

pub returns-then-drawn : goal.returns-then-drawn
returns-then-drawn g c = record {
  answered =
      refused_effect c.requires.over known_no_selection (taken_out_empty _ _ c.if-drawn.true);
  uses = search (rules, g.met.S.CharSource.ground_self, g.met.S.CharSource.ground_through);
}

pub returns : goal.returns
returns g c = record {
  answered =
      let reads = c.in_ok-taken.ensures.reads in
      taken_out_answered _ _ _ _ _ c.requires.over reads.as_long reads.same _ _ _ c.if-drawn.false c.requires.at.place
      c.in_ok-taken.ensures.taken c.in_ok-taken.ensures.changed refl;
  uses = search (rules, g.met.S.CharSource.ground_self, g.met.S.CharSource.ground_through);
}
