use Rattle.std.proofs.Common.{◌∙◌, ◌++◌, ap, refl, subst, sym, Err}
use Rattle.std.specs.Prelude.{IfErr}
use Rattle.std.proofs.lemmas.Result.{err_from_is_err_and}
use Rattle.desktop_definitions.specs.Shown.{shown_screen}
use Rattle.screen_drawing.specs.Drawn.{drawing_of}
use Rattle.desk_page.specs.Lines.{page_line}
use Rattle.desk_page.specs.Turns.{IsWithheld}
use Rattle.page_disks.specs.contracts.disk.RecordedDiskDisk.TheImpl.{ghosts}
use Rattle.desk_page.proofs.Turning.{handed_over, withheld_so}
use Rattle.desk_page.proofs.scene.settled.Goals as goal

pub returns-clause-handed : goal.returns-clause-handed
returns-clause-handed c =
    handed_over ghosts c.args.page c.in_ok-page.page c.show.new.page _ c.in_ok-page.ensures.page
    (c.in_ok-show.ensures.drawn tt
    ∙ ap (λ l. l ++ drawing_of (shown_screen c.in_ok-page.page.store.desktop)) c.new-drawing.ensures.items)
    (c.in_ok-show.ensures.line tt
    ∙ ap (λ l. l ++ page_line (shown_screen c.in_ok-page.page.store.desktop) c.show.new.page.sitting)
    c.new-line.ensures.items)
    c.in_ok-page.ensures.calls refl (c.in_ok-show.ensures.sitting tt) c.in_ok-show.ensures.kept.0
    (c.in_ok-show.ensures.session tt) c.in_ok-show.ensures.kept.1 c.in_ok-show.ensures.disk

pub returns-in_err-show-clause-withheld : goal.returns-in_err-show-clause-withheld
returns-in_err-show-clause-withheld c =
    let p = err_from_is_err_and c.from_residual-in_err-show.result c.from_residual-in_err-show.ensures.1 in
    subst (λ r. IfErr r (IsWithheld c.args.page)) (sym (p.1 ∙ ap (λ e. Err e) p.2))
    (withheld_so c.args.page c.in_err-show.field-0.0 c.in_err-show.ensures.errors)
