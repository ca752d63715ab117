use Rattle.std.proofs.Common.{◌≡◌, arith, length, refl}
use Rattle.viewer_tracks.specs.Columns.{stack_of, track_on}
use Rattle.seen_desktops.proofs.Parts.{same_by_get}
use Rattle.seen_desktops.proofs.shape.is_same_track.Goals as goal

pub returns : goal.returns
returns c =
    let one = track_on (stack_of c.args.one.now c.args.column) c.args.level in
    let other = track_on (stack_of c.args.other.now c.args.column) c.args.level in
    let long : length one ≡ length other =
    omega (arith, c.count-count.ensures.count, c.count-others.ensures.count, c.if-count-others.false) in (
      λ yes. same_by_get one other long (λ i within. c.loop-index.invariant i
          (omega (arith, within, c.count-count.ensures.count, c.loop-index-test.false, c.loop-index.auto.index-end))),
      λ same. refl,
    )
