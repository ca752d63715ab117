use Rattle.std.proofs.Common.{◌<◌, arith}
use Rattle.std.proofs.lemmas.List.{ext_get_or}
use Rattle.screen_pictures.specs.Picture.{filler}
use Rattle.screen_drawing.proofs.seen_row.are_same.Goals as goal

pub returns : goal.returns
returns c same = ext_get_or filler c.args.olds.now c.args.news.now (omega arith)
    (λ k below. c.loop-x.invariant k
    (let inside : k < c.loop-x.x = omega (arith, below, c.loop-x-test.false) in inside))
