use Rattle.std.proofs.Common.{◌≡◌, ◌∙◌, ◌<◌, ◌≤◌, ◌==◌, ◌-◌, ap, arith, false, get_or, length, refl, set, true}
use Rattle.std.proofs.lemmas.List.{get_or_default}
use Rattle.std.proofs.lemmas.Bool.Decides.{nat_tests}
use Rattle.screen_pictures.specs.Picture.{filler, is_edge, with_edge}
use Rattle.screen_pictures.specs.Screen.{column_at, values}
use Rattle.screen_cells.proofs.PutCells.{edge_at, no_edge}
use Rattle.screen_cells.proofs.putting.put_edge.Goals as goal
use Rattle.screen_cells.proofs.putting.put_edge.Goals.{then-w-eq0-via-then-w-eq0, then-w-eq0-via-else-w-eq0+then-w-cells}
use Rattle.screen_cells.proofs.putting.put_edge.Goals.{then-w-eq0-via-else-w-eq0+else-w-cells+then-w-line}

pub returns-then-w-eq0 : goal.returns-then-w-eq0
returns-then-w-eq0 c =
    let n = length c.args.cells.now in let line = c.args.line.now in
    elim c.then-w-eq0.branch [
      | then-w-eq0-via-then-w-eq0 w ↦
          no_edge _ line c.args.w n refl (λ x below. grind (arith, nat_tests, w.if-w-eq0.true, c.from-w.ensures, below))
      | then-w-eq0-via-else-w-eq0+then-w-cells w ↦
          no_edge _ line c.args.w n refl (λ x below. grind (arith, nat_tests, w.if-w-cells.true, c.from-w.ensures, below))
      | then-w-eq0-via-else-w-eq0+else-w-cells+then-w-line w ↦
          no_edge _ line c.args.w n refl (λ x below. grind (arith, nat_tests, w.if-w-line.true, c.from-w.ensures, below))
    ]

pub returns : goal.returns
returns c =
    let w = c.args.w in let same = c.from-w.ensures in
    let low : c.from-w.result - 1 < length c.args.cells.now = omega (arith, c.if-w-eq0.false, c.if-w-cells.false) in
    (λ i. set c.args.cells.now (same i - 1) c.at_edge.result)
    ∙ edge_at c.args.cells.now c.args.line.now w (length c.args.cells.now) c.at_edge.result refl
    (omega (arith, same, c.if-w-eq0.false)) (omega (arith, same, c.if-w-cells.false))
    (omega (arith, same, c.if-w-line.false))
    (c.at_edge.ensures ∙ ap (with_edge true) (get_or_default c.args.cells.now (c.from-w.result - 1) _ filler low
    ∙ ap (λ n. get_or c.args.cells.now (n - 1) filler) same))
