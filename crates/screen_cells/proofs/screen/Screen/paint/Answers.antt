use Rattle.screen_cells.proofs.Painting.{all_painted}
use Rattle.screen_cells.proofs.screen.Screen.paint.Goals as goal

pub returns-clause-painted : goal.returns-clause-painted
returns-clause-painted g c = λ h texts numbered told.
    let s = g.S.CharSource in
    all_painted s.characters s.failures s.honest s.same_ground _ _ _ _ _ _ _ _ c.loop-y-test.false
    c.loop-y.invariant.painted h (record { texts = texts; numbered = numbered; told = told })
