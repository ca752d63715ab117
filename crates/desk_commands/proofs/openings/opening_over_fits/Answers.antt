use Rattle.std.proofs.Common.{◌≡◌, ◌+◌, length, refl, sym, ◌∙◌, arith}
use Rattle.desktop_definitions.specs.Desktop.{characters_held}
use Rattle.desktop_definitions.specs.Seen.{seen}
use Rattle.desktop_definitions.proofs.GrownLaws.{held_over, fits_over}
use Rattle.desk_core.specs.Kept.{kept_desktop}
use Rattle.desk_commands.proofs.openings.opening_over_fits.Goals as goal

pub returns : goal.returns
unfolding seen
returns c = λ characters menu main org k menu_long.
    let d = kept_desktop c.args.desk.now in
    let x = seen characters d in
    let before = c.held.ensures.held characters in
    let all : c.held.result + c.args.menu ≡ characters_held x + length menu = omega (arith, before, menu_long) in
    c.within_limits.ensures
    ∙ fits_over x menu main org k c.args.desk.now.written (c.held.result + c.args.menu) refl
    (all ∙ sym (held_over x menu main org k (c.requires.whole.sound characters).shown))
