use Rattle.std.proofs.Common.{◌≤◌, ◌+◌, length}
use Rattle.command_table.specs.Versions.{version_number}
use Rattle.viewer_tracks.specs.declared.display.TheConstants.{ROWS}
use Rattle.image_format.specs.Fitting.{FitsEntry, above}
use Rattle.image_format.specs.Pictures.{track_of_stretches}
use Rattle.image_format.specs.Reading.{entry_at}
use Rattle.image_format.proofs.Loop.{IsAt}
use Rattle.image_format.proofs.reading.tracks.many_track.Given as goal

abbrev pub invariant-loop : goal.invariant-loop
invariant-loop g l = record {
  at : IsAt g.S.ByteSource (entry_at (version_number l.version)) (FitsEntry (version_number l.version)) above l.count
      l.counter ROWS l.room (track_of_stretches l.track) l.fn.source l.source;
  short : length l.track.items + l.room ≤ ROWS;
}
