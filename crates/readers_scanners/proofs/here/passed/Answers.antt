use Rattle.std.proofs.Common.{◌≡◌, sym, ◌∙◌, arith}
use Rattle.piece_ring.specs.Flat.{flat}
use Rattle.readers_scanners.proofs.Upcoming.{drop_run, drop_whole}
use Rattle.readers_scanners.proofs.here.passed.Goals as goal

pub returns-then-n-len-clause-text : goal.returns-then-n-len-clause-text
returns-then-n-len-clause-text c =
    sym (drop_run c.args.here.off c.args.n c.args.here.len c.args.here.look (flat c.args.cursor.now.left)
    c.requires.within)

pub returns-clause-text : goal.returns-clause-text
returns-clause-text c =
    let within = c.requires.within in let all = c.if-n-len.false in
    let e : c.args.n ≡ c.args.here.len = omega (arith, within, all) in
    sym c.next_stretch.ensures.text
    ∙ sym (drop_whole c.args.here.off c.args.n c.args.here.len c.args.here.look (flat c.args.cursor.now.left) e)
