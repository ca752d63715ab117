use Rattle.std.specs.Prelude.{codes}
use Rattle.past_looks.specs.Words.{grouped}
use Rattle.past_looks.proofs.Parts.{six_parts}
use Rattle.past_looks.proofs.words.moment_line.Goals as goal

pub returns : goal.returns
returns c = six_parts (codes "moment ") (grouped c.args.k) (codes " of ") (grouped c.args.last) (codes ": ") c.args.words.now
    c.in_ok-line.ensures.items c.in_ok-push_grouped.ensures c.in_ok-extend_from_slice.ensures.items
    c.in_ok-push_grouped-2.ensures c.in_ok-extend_from_slice-2.ensures.items c.in_ok-extend_from_slice-3.ensures.items
