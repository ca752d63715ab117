use Rattle.std.proofs.Common.{[], arith}
use Rattle.desktop_definitions.specs.Desktop.{characters_held}
use Rattle.desktop_definitions.specs.Seen.{seen}
use Rattle.desk_core.specs.Kept.{kept_desktop}
use Rattle.desk_core.proofs.HeldLemmas.{held_is}
use Rattle.desk_core.proofs.desk.Desk.held.Goals as goal

pub lengths-requires : goal.lengths-requires
unfolding characters_held seen
lengths-requires c = omega (arith, (c.requires.sound []).held_within)

pub lengths-requires-2 : goal.lengths-requires-2
unfolding characters_held seen
lengths-requires-2 c = omega (arith, (c.requires.sound []).held_within)

pub overflow_add-result : goal.overflow_add-result
unfolding characters_held seen
overflow_add-result c = omega (arith, (c.requires.sound []).held_within, c.lengths.ensures [], c.lengths-2.ensures [])

pub overflow_add-result-2 : goal.overflow_add-result-2
unfolding characters_held seen
overflow_add-result-2 c = omega (arith, (c.requires.sound []).held_within, c.lengths.ensures [], c.lengths-2.ensures [])

pub overflow_add-result-3 : goal.overflow_add-result-3
unfolding characters_held seen
overflow_add-result-3 c = omega (arith, (c.requires.sound []).held_within, c.lengths.ensures [], c.lengths-2.ensures [])

pub returns-clause-held : goal.returns-clause-held
returns-clause-held c = λ characters.
    held_is (kept_desktop c.args.self.now) characters _ _ _ _ (c.lengths.ensures characters) (c.lengths-2.ensures characters)
    c.len.ensures c.len-2.ensures

pub returns-clause-few : goal.returns-clause-few
returns-clause-few c =
    let is = held_is (kept_desktop c.args.self.now) [] _ _ _ _ (c.lengths.ensures []) (c.lengths-2.ensures [])
    c.len.ensures c.len-2.ensures in
    omega (arith, is, (c.requires.sound []).held_within)
