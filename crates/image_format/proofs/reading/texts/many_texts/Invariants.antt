use Rattle.std.specs.Prelude.{nat_le}
use Rattle.std.specs.Ordering.{nat_cmp}
use Rattle.image_format.specs.Fitting.{FitsText}
use Rattle.image_format.specs.Reading.{text_at}
use Rattle.image_format.proofs.Rising.{after_number}
use Rattle.image_format.proofs.Tables.{IsTableAt}
use Rattle.image_format.proofs.reading.texts.many_texts.Given as goal

abbrev pub invariant-loop : goal.invariant-loop
invariant-loop g l = IsTableAt g.S.ByteSource (text_at l.base.written) (FitsText l.base.written) nat_cmp nat_le after_number
    l.count l.counter (0, l.fn.room) (l.least, l.room) l.texts.entries l.fn.source l.source
