use Rattle.std.proofs.Common.{sym, ◌∙◌}
use Rattle.sector_disk.proofs.Keeping.{no_room, made_room}
use Rattle.sector_disk.proofs.sectors.Sectors.make_room.Goals as goal

pub returns-in_default-clause-same : goal.returns-in_default-clause-same
returns-in_default-clause-same c = no_room c.args.self.now c.insert.new.self c.in_default.ensures.err

pub returns-clause-same : goal.returns-clause-same
returns-clause-same c =
    made_room c.args.self.now c.insert.new.self c.args.n _
    (c.in_ok-bytes.ensures ∙ c.empty_sector.ensures) c.len-place.ensures
    (sym c.contains_key.ensures ∙ c.if-contains_key.false) c.in-Ok.ensures.updates
