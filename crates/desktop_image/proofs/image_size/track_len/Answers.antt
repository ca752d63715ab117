use Rattle.std.proofs.Common.{sym}
use Rattle.viewer_tracks.specs.Columns.{stack_of, track_on}
use Rattle.desktop_image.proofs.image_size.track_len.Goals as goal

pub returns-clause-value : goal.returns-clause-value
returns-clause-value c =
    c.entries_len.ensures.value (track_on (stack_of c.args.tracks.now c.args.track) c.args.level)
    (sym c.count.ensures.count)
