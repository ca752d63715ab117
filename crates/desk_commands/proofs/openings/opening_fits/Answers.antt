use Rattle.std.proofs.Common.{◌≡◌, ◌+◌, length, refl, sym, ◌∙◌, arith}
use Rattle.viewer_tracks.specs.Columns.{replaced_at}
use Rattle.desktop_definitions.specs.Desktop.{characters_held}
use Rattle.desktop_definitions.specs.Opening.{without_unshown}
use Rattle.desktop_definitions.specs.Viewers.{without_viewer}
use Rattle.desktop_definitions.specs.Seen.{seen}
use Rattle.desktop_definitions.proofs.OpenedLaws.{held_opening}
use Rattle.desktop_definitions.proofs.OpeningDone.{fits_opening}
use Rattle.desk_core.specs.Kept.{kept_desktop}
use Rattle.desk_commands.proofs.openings.opening_fits.Goals as goal

pub returns-clause-fits : goal.returns-clause-fits
unfolding seen
returns-clause-fits c = λ characters menu main menu_long main_long.
    let d = kept_desktop c.args.desk.now in
    let x = seen characters d in
    let left = c.held_before.ensures.held characters in
    let all : c.held_before.result + c.args.main + c.args.menu
    ≡ characters_held (without_unshown (without_viewer x (replaced_at d.columns c.args.x c.args.y))) + length main + length menu
    = omega (arith, left, menu_long, main_long) in
    c.within_limits.ensures
    ∙ fits_opening x menu main (c.args.x, c.args.y) (c.args.desk.now.written + c.args.menu)
    (c.held_before.result + c.args.main + c.args.menu) c.args.menu refl
    (all ∙ sym (held_opening x menu (c.args.x, c.args.y) c.held_before.ensures.apart main))
