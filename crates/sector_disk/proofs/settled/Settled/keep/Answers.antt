use Rattle.std.proofs.Common.{◌∷◌, ◌++◌, [], ◌∙◌, ap, arith, length-set}
use Rattle.sector_disk.proofs.Places.{take_next}
use Rattle.sector_disk.proofs.settled.Settled.keep.Goals as goal

pub invariant_of-self-2 : goal.invariant_of-self-2
invariant_of-self-2 c =
    let room = c.in_ok-make_room.ensures.room in
    omega (arith, room, length-set c.make_room.new.kept.items c.self.inside.used c.exchange.new.place)

pub returns-clause-kept : goal.returns-clause-kept
returns-clause-kept c =
    take_next c.make_room.new.kept.items c.self.inside.used c.exchange.new.place c.in_ok-make_room.ensures.room
    ∙ ap (λ l. l ++ c.exchange.new.place ∷ []) (c.make_room.ensures.same ∙ c.self.view_is)
    ∙ ap (λ e. c.args.self.now ++ e ∷ []) c.exchange.ensures
