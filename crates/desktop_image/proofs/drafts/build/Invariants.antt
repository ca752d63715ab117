use Rattle.std.proofs.Common.{◌≡◌}
use Rattle.viewer_tracks.specs.Columns.{IsColumns}
use Rattle.image_format.specs.Pictures.{stack_of_stretches}
use Rattle.desktop_image.proofs.Building.{built}
use Rattle.desktop_image.proofs.drafts.build.Given as goal

-- the tracks so far stand on one another
abbrev pub invariant-loop-level : goal.invariant-loop-level
invariant-loop-level l = record {
  tracks : l.tracks ≡ built l.fn.tracks l.track (stack_of_stretches l.stack) l.level;
  sound : IsColumns l.tracks;
}
