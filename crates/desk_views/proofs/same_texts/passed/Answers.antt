use Rattle.std.proofs.Common.{◌≡◌, ◌∙◌, ◌++◌, ap, arith, sym}
use Rattle.piece_ring.specs.Flat.{flat, run}
use Rattle.desk_views.proofs.Comparing.{cut_stretch}
use Rattle.desk_views.proofs.same_texts.passed.Goals as goal

pub returns-then-n-len-clause-text : goal.returns-then-n-len-clause-text
returns-then-n-len-clause-text c =
    cut_stretch c.args.here.off c.args.n c.args.here.len c.args.here.look (flat c.args.cursor.now.left) c.requires.within

pub returns-clause-text : goal.returns-clause-text
returns-clause-text c =
    let within = c.requires.within in let all = c.if-n-len.false in
    let e : c.args.here.len ≡ c.args.n = omega (arith, within, all) in
    (λ i. run c.args.here.off (e i) c.args.here.look ++ c.next_stretch.ensures.text i)
