use Rattle.std.proofs.Common.{◌∙◌, List, length, map, sym, ap, subst}
use Rattle.std.specs.Prelude.{All}
use Rattle.screen_cells.specs.declared.shown.Shown.{Shown}
use Rattle.screen_pictures.specs.Picture.{picture}
use Rattle.screen_pictures.specs.Screen.{screen_of}
use Rattle.screen_cells.specs.Shown.{IsShowable, as_read}
use Rattle.desktop_definitions.proofs.SeenLaws.{within_counted}
use Rattle.desk_core.specs.Kept.{kept_desktop}
use Rattle.desk_views.specs.Views.{view_in, AreThere}
use Rattle.desk_core.proofs.ViewLemmas.{few}
use Rattle.desktop_definitions.specs.Seen.{seen}
use Rattle.desktop_definitions.specs.Viewers.{text_of}
use Rattle.desk_views.proofs.Painted.{all_there, all_showable, all_numbered, lines_on, painted_seen}
use Rattle.desk_views.proofs.views.paint.Goals as goal

pub shown_of-requires-clause-there : goal.shown_of-requires-clause-there
shown_of-requires-clause-there g c =
    let d = kept_desktop c.args.desk.now in
    subst (All (AreThere d)) (sym c.deref.ensures.value) (all_there d c.requires.whole)

pub shown_of-requires-clause-few : goal.shown_of-requires-clause-few
shown_of-requires-clause-few g c = few (kept_desktop c.args.desk.now) c.requires.whole

pub paint-requires-clause-showable : goal.paint-requires-clause-showable
paint-requires-clause-showable g c =
    let d = kept_desktop c.args.desk.now in
    let characters = g.S.CharSource.characters c.args.source.now in
    subst (All (IsShowable (length characters))) (sym c.deref-2.ensures.value)
    (all_showable d c.requires.whole (length characters) c.in_ok-shown.shown.items
    (within_counted characters d c.requires).texts
    (c.in_ok-shown.ensures ∙ ap (map (view_in d)) c.deref.ensures.value))

pub returns-clause-shown : goal.returns-clause-shown
returns-clause-shown g c = λ honest told.
    let d = kept_desktop c.args.desk.now in
    let characters = g.S.CharSource.characters c.args.source.now in
    c.in_ok-paint.ensures.painted honest (text_of (seen characters d))
    (all_numbered characters d c.in_ok-shown.shown.items _ c.deref-2.ensures.value
    (c.in_ok-shown.ensures ∙ ap (map (view_in d)) c.deref.ensures.value))
    (c.prepare.ensures.lines (text_of (seen characters d)) told)
    ∙ ap (λ (l : List Shown). screen_of (picture d.columns (map (as_read characters) l) d.marker)) c.deref-2.ensures.value
    ∙ painted_seen characters d c.in_ok-shown.shown.items
    (c.in_ok-shown.ensures ∙ ap (map (view_in d)) c.deref.ensures.value)

pub returns-in_err-paint-clause-lines : goal.returns-in_err-paint-clause-lines
returns-in_err-paint-clause-lines g c = λ honest.
    let d = kept_desktop c.args.desk.now in
    lines_on _ d c.deref-2.ensures.value
    (c.in_ok-shown.ensures ∙ ap (map (view_in d)) c.deref.ensures.value) c.prepare.ensures.lines
    (c.in_err-paint.ensures.lines honest)

pub returns-clause-lines : goal.returns-clause-lines
returns-clause-lines g c = λ honest.
    let d = kept_desktop c.args.desk.now in
    lines_on _ d c.deref-2.ensures.value
    (c.in_ok-shown.ensures ∙ ap (map (view_in d)) c.deref.ensures.value) c.prepare.ensures.lines
    (c.in_ok-paint.ensures.lines honest)
