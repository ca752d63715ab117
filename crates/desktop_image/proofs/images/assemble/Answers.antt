use Rattle.std.proofs.Common.{◌∙◌, length, rules, ap, subst, sym, arith}
use Rattle.std.proofs.lemmas.List.{length-map}
use Rattle.image_format.specs.Image.{IsSpellable}
use Rattle.image_format.specs.Pictures.{pictured, track_of_stretches}
use Rattle.desktop_image.specs.Images.{IsDesktopOf}
use Rattle.desktop_image.proofs.ImageMade.{user_few, system_few, made, spellable}
use Rattle.desktop_image.proofs.ImageHolds.{makes_desktop}
use Rattle.desktop_image.proofs.images.assemble.Goals as goal

pub is_desktop-requires-clause-user : goal.is_desktop-requires-clause-user
is_desktop-requires-clause-user c =
    let few = user_few c.requires.0 c.args.written (pictured c.args.picture) c.requires.1 in
    let same = length-map c.args.picture.user.items track_of_stretches in
    omega (arith, few, same)

pub is_desktop-requires-clause-system : goal.is_desktop-requires-clause-system
is_desktop-requires-clause-system c =
    let few = system_few c.requires.0 c.args.written (pictured c.args.picture) c.requires.1 in
    let same = length-map c.args.picture.system.items track_of_stretches in
    omega (arith, few, same)

pub is_desktop-requires-clause-few : goal.is_desktop-requires-clause-few
is_desktop-requires-clause-few c =
    let fewer = c.in_ok-selections.ensures.few in
    let items = ap length c.as_slice-4.ensures.value in
    omega (arith, fewer, items)

pub returns-then-not-is_desktop-clause-damaged : goal.returns-then-not-is_desktop-clause-damaged
returns-then-not-is_desktop-clause-damaged c = λ is d of.
    makes_desktop c.args.written (pictured c.args.picture) d of (sym c.is_desktop.ensures ∙ search rules)

pub returns-clause-made : goal.returns-clause-made
returns-clause-made c =
    subst (IsDesktopOf c.args.written (pictured c.args.picture)) (sym c.desk_of.ensures)
    (made c.args.written (pictured c.args.picture) (sym c.is_desktop.ensures ∙ search rules) c.requires.0
    c.requires.1)

pub returns-clause-parts : goal.returns-clause-parts
returns-clause-parts c = λ version fits.
    subst (IsSpellable version) (sym c.desk_of.ensures)
    (spellable version c.args.written (pictured c.args.picture) fits)
