use Rattle.std.proofs.Common.{◌-◌, ◌∙◌, ap, sym}
use Rattle.desktop_definitions.specs.Seen.{seen}
use Rattle.desktop_definitions.proofs.RowLaws.{known_no_selection}
use Rattle.desktop_definitions.specs.DeskWords.{has_space}
use Rattle.desktop_definitions.proofs.KeyLaws.{copy_none, copy_full, copy_answered}
use Rattle.desk_core.specs.Kept.{kept_desktop}
use Rattle.desk_core.proofs.StretchLemmas.{refused_effect}
use Rattle.desk_input.proofs.StillLemmas.{does_unread}
use Rattle.desk_input.proofs.keys.copy.Goals as goal

pub returns-in_default : goal.returns-in_default
unfolding seen
returns-in_default g c =
    does_unread g.S.CharSource g.met.S.CharSource.ground_self _ _ (kept_desktop c.args.desk.now) _ _ c.requires
    (λ H all over. refused_effect over known_no_selection (copy_none _ (sym c.selection.ensures.is ∙ c.in_default.is)))

pub returns-then-not-fits_more : goal.returns-then-not-fits_more
returns-then-not-fits_more g c =
    let s = c.in-Some.selection in
    let d = kept_desktop c.args.desk.now in
    does_unread g.S.CharSource g.met.S.CharSource.ground_self _ _ d _ _ c.requires
    (λ H all over. copy_full H all d over s (sym c.in-Some.ensures.is) c.in-Some.ensures.some
    c.in-Some.ensures.stands.place (ap (has_space (seen all d) 0 (s.end - s.beg)) (sym c.len.ensures)
    ∙ sym (c.fits_more.ensures all) ∙ c.if-not-fits_more.true))

pub returns : goal.returns
returns g c =
    let s = c.in-Some.selection in
    let d = kept_desktop c.args.desk.now in
    does_unread g.S.CharSource g.met.S.CharSource.ground_self _ _ d _ _ c.requires
    (λ H all over. copy_answered H all d s _ over (sym c.in-Some.ensures.is) c.in-Some.ensures.some
    c.in-Some.ensures.stands.place c.in_ok-desk.ensures.is
    (λ now. ap (has_space (seen now d) 0 (s.end - s.beg)) (sym c.len.ensures)
    ∙ sym (c.fits_more.ensures now) ∙ c.if-not-fits_more.false))
