use Rattle.std.proofs.Common.{rules, ◌∙◌, sym, arith}
use Rattle.desktop_definitions.specs.Seen.{seen}
use Rattle.desktop_definitions.proofs.RowLaws.{known_no_selection, over_built}
use Rattle.desktop_definitions.proofs.KeyLaws.{copied_to_none, copied_to_full, copied_to_answered}
use Rattle.desk_core.specs.Kept.{kept_desktop}
use Rattle.desk_core.proofs.StretchLemmas.{refused_effect}
use Rattle.desk_input.proofs.StillLemmas.{does_unread}
use Rattle.desk_input.proofs.stretches.copy_to.Goals as goal

pub returns-in_default : goal.returns-in_default
unfolding seen
returns-in_default g c =
    does_unread g.S.CharSource g.met.S.CharSource.ground_self _ _ (kept_desktop c.args.desk.now) _ _ c.requires.over
    (λ H all over. refused_effect over known_no_selection
    (copied_to_none _ (sym c.selection.ensures.is ∙ c.in_default.is) _ _))

pub returns-then-not-fits_more : goal.returns-then-not-fits_more
returns-then-not-fits_more g c =
    let stands = c.in-Some.ensures in
    does_unread g.S.CharSource g.met.S.CharSource.ground_self _ _ (kept_desktop c.args.desk.now) _ _ c.requires.over
    (λ H all over. copied_to_full _ _ _ over _ (sym stands.is) stands.some stands.stands.place _ _ c.requires.at.placed
    (sym (c.fits_more.ensures _) ∙ c.if-not-fits_more.true))

pub put_in-requires-clause-at : goal.put_in-requires-clause-at
put_in-requires-clause-at g c = record { built = over_built _ _ c.requires.over; stands = c.requires.at }

pub put_in-requires-clause-goes : goal.put_in-requires-clause-goes
put_in-requires-clause-goes g c = c.in_ok-copy.ensures.goes _ _ c.requires.over

pub returns : goal.returns
returns g c = record {
  answered =
      let stands = c.in-Some.ensures in
      let some = stands.some in
      let reads = c.in_ok-put_in.ensures.reads in
      copied_to_answered _ _ _ _ _ c.requires.over reads.as_long reads.same _ _ _ c.in_ok-copy.copy (sym stands.is)
      (omega (arith, some)) stands.stands.place c.in_ok-copy.ensures.is c.in_ok-put_in.ensures.changed
      (λ all. sym (c.fits_more.ensures all) ∙ c.if-not-fits_more.false);
  unread = search (rules, g.met.S.CharSource.ground_self, g.met.S.CharSource.ground_through);
  uses = search (rules, g.met.S.CharSource.ground_self, g.met.S.CharSource.ground_through);
}
