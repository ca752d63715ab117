use Rattle.std.proofs.Common.{[], arith, refl}
use Rattle.viewer_tracks.specs.Viewers.{id_number}
use Rattle.desktop_definitions.specs.Desktop.{characters_held}
use Rattle.desktop_definitions.specs.Seen.{seen}
use Rattle.desk_core.specs.Kept.{kept_desktop}
use Rattle.desk_commands.proofs.OpeningLemmas.{left_is, left_low}
use Rattle.desk_commands.proofs.openings.held_without.Goals as goal

pub lengths_left-texts-requires : goal.lengths_left-texts-requires
unfolding characters_held seen
lengths_left-texts-requires c = omega (arith, (c.requires.sound []).held_within)

pub lengths-requires : goal.lengths-requires
unfolding characters_held seen
lengths-requires c = omega (arith, (c.requires.sound []).held_within)

pub returns-clause-held : goal.returns-clause-held
returns-clause-held c = λ characters.
    left_is (kept_desktop c.args.desk.now) c.requires (id_number c.args.gone) characters _ _ _ _ c.lengths_left-texts.ensures
    (c.lengths.ensures characters) c.len.ensures c.len-2.ensures

pub returns-clause-few : goal.returns-clause-few
returns-clause-few c =
    left_low (kept_desktop c.args.desk.now) c.requires (id_number c.args.gone) _ _ _ _ c.lengths_left-texts.ensures
    (c.lengths.ensures []) c.len.ensures c.len-2.ensures

pub overflow_add-result : goal.overflow_add-result
overflow_add-result c =
    let low = left_low (kept_desktop c.args.desk.now) c.requires (id_number c.args.gone) _ _ _ _ c.lengths_left-texts.ensures
    (c.lengths.ensures []) refl refl in
    omega (arith, low)

pub overflow_add-result-2 : goal.overflow_add-result-2
overflow_add-result-2 c =
    let low = left_low (kept_desktop c.args.desk.now) c.requires (id_number c.args.gone) _ _ _ _ c.lengths_left-texts.ensures
    (c.lengths.ensures []) refl refl in
    omega (arith, low)

pub overflow_add-result-3 : goal.overflow_add-result-3
overflow_add-result-3 c =
    let low = left_low (kept_desktop c.args.desk.now) c.requires (id_number c.args.gone) _ _ _ _ c.lengths_left-texts.ensures
    (c.lengths.ensures []) refl refl in
    omega (arith, low)
