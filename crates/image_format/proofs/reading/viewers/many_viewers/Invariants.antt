use Rattle.command_table.specs.Versions.{version_number}
use Rattle.image_format.specs.Fitting.{FitsViewer, after_viewer}
use Rattle.image_format.specs.Reading.{image_viewer_at}
use Rattle.image_format.proofs.Loop.{IsAt}
use Rattle.image_format.proofs.reading.viewers.many_viewers.Given as goal

abbrev pub invariant-loop : goal.invariant-loop
invariant-loop g l =
    IsAt g.S.ByteSource (image_viewer_at (version_number l.version)) (FitsViewer (version_number l.version)) after_viewer
    l.count l.counter 0 l.least l.viewers.items l.fn.source l.source
