use Rattle.std.proofs.Common.{◌≡◌, ◌+◌, length, refl, sym, ◌∙◌, arith}
use Rattle.viewer_tracks.specs.Columns.{replaced_at}
use Rattle.desktop_definitions.specs.Desktop.{characters_held}
use Rattle.desktop_definitions.specs.Opening.{without_unshown}
use Rattle.desktop_definitions.specs.Viewers.{without_viewer}
use Rattle.desktop_definitions.specs.Seen.{seen}
use Rattle.desktop_definitions.proofs.OpeningDone.{fits_on}
use Rattle.desktop_definitions.proofs.OpeningOnLaws.{held_anyway}
use Rattle.desk_core.specs.Kept.{kept_desktop}
use Rattle.desk_commands.proofs.openings.opening_on_fits.Goals as goal

pub returns-clause-fits : goal.returns-clause-fits
unfolding seen
returns-clause-fits c = λ characters menu main org menu_long stays.
    let d = kept_desktop c.args.desk.now in
    let x = seen characters d in
    let left = c.held_before.ensures.held characters in
    let all : c.held_before.result + c.args.menu
    ≡ characters_held (without_unshown (without_viewer x (replaced_at d.columns c.args.x c.args.y))) + length menu
    = omega (arith, left, menu_long) in
    c.within_limits.ensures
    ∙ fits_on x menu main org (c.args.x, c.args.y) (c.args.desk.now.written + c.args.made)
    (c.held_before.result + c.args.menu) c.args.made refl
    (all ∙ sym (held_anyway x (c.requires.whole.sound characters).shown menu main org (c.args.x, c.args.y)
    c.held_before.ensures.apart stays))
