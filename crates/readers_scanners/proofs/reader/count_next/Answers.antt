use Rattle.readers_scanners.proofs.Ahead.{first_end}
use Rattle.readers_scanners.proofs.reader.count_next.Goals as goal

pub count_known-requires : goal.count_known-requires
count_known-requires g c = first_end _ _ c.in_ok-rest.rest c.in_ok-rest.ensures.first c.requires
