use Rattle.std.proofs.Common.{◌≡◌, arith, length, refl}
use Rattle.viewer_tracks.specs.Columns.{stack_of}
use Rattle.seen_desktops.proofs.Parts.{same_column}
use Rattle.seen_desktops.proofs.shape.is_same_column.Goals as goal

pub returns : goal.returns
returns c =
    let one = stack_of c.args.one.now c.args.column in
    let other = stack_of c.args.other.now c.args.column in
    let long : length one ≡ length other =
    omega (arith, c.levels-depth.ensures.depth, c.levels-others.ensures.depth, c.if-depth-others.false) in (
      λ yes. same_column one other long (λ level some within. c.loop-below.invariant level some
          (omega (arith, within, c.levels-depth.ensures.depth, c.loop-below-test.false, c.loop-below.auto.below-end))),
      λ same. refl,
    )
