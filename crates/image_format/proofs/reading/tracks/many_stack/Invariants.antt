use Rattle.command_table.specs.Versions.{version_number}
use Rattle.image_format.specs.Fitting.{FitsLevel, overlaid}
use Rattle.image_format.specs.Pictures.{stack_of_stretches}
use Rattle.image_format.specs.Reading.{level_at}
use Rattle.image_format.proofs.Loop.{IsAt}
use Rattle.image_format.proofs.reading.tracks.many_stack.Given as goal

abbrev pub invariant-loop : goal.invariant-loop
invariant-loop g l =
    IsAt g.S.ByteSource (level_at (version_number l.version)) (FitsLevel (version_number l.version)) overlaid l.depth
    l.counter 0 l.least (stack_of_stretches l.stack.items) l.fn.source l.source
