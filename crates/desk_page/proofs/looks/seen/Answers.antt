use Rattle.desk_page.proofs.Looked.{hands_out}
use Rattle.desk_page.proofs.looks.seen.Goals as goal

pub returns-clause-scene : goal.returns-clause-scene
returns-clause-scene c = hands_out c.args.looker.now c.screen.new.self c.take_ring-rings.new.self _ _
    c.screen.ensures.same c.take_ring-rings.ensures.same c.take_ring-rings.ensures.line c.in-Ok.ensures.shown
    c.in_ok-drawing.ensures.drawn c.in_ok-line.ensures c.new.ensures.items
