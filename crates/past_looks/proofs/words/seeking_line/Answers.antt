use Rattle.std.specs.Prelude.{codes}
use Rattle.past_looks.specs.Words.{grouped}
use Rattle.past_looks.proofs.Parts.{three_parts}
use Rattle.past_looks.proofs.words.seeking_line.Goals as goal

pub returns : goal.returns
returns c = three_parts (codes "seeking before moment ") (grouped c.args.k) (codes ", a key stops it")
    c.in_ok-line.ensures.items c.in_ok-push_grouped.ensures c.in_ok-extend_from_slice.ensures.items
