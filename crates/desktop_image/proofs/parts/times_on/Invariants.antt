use Rattle.std.proofs.Common.{◌≡◌, ◌≤◌, ◌*◌, take, sum_by}
use Rattle.viewer_tracks.specs.declared.display.TheConstants.{ROWS}
use Rattle.viewer_tracks.specs.Viewers.{times_in}
use Rattle.image_format.specs.Pictures.{track_of_stretches}
use Rattle.desktop_image.proofs.parts.times_on.Given as goal

-- how often so far: no more often than the tracks have rows
abbrev pub invariant-loop-track : goal.invariant-loop-track
invariant-loop-track l = record {
  times : l.times ≡ sum_by (λ track. times_in l.id (track_of_stretches track)) (take l.track-index l.stack);
  few : l.times ≤ ROWS * l.track-index;
}
