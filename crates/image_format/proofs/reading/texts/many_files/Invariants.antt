use Rattle.std.proofs.Common.{None}
use Rattle.desktop_definitions.specs.Tables.{name_cmp}
use Rattle.image_format.specs.Fitting.{FitsFile, follows}
use Rattle.image_format.specs.Steps.{last_key}
use Rattle.image_format.specs.Reading.{image_file_at}
use Rattle.image_format.proofs.Rising.{after_name}
use Rattle.image_format.proofs.Tables.{IsTableAt}
use Rattle.image_format.proofs.reading.texts.many_files.Given as goal

abbrev pub invariant-loop : goal.invariant-loop
invariant-loop g l = IsTableAt g.S.ByteSource (image_file_at l.base.written) (FitsFile l.base.written) name_cmp follows after_name
    l.count l.counter (None, l.fn.room) (last_key l.files.entries, l.room) l.files.entries l.fn.source l.source
