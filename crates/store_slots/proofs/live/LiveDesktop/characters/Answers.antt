use Rattle.std.proofs.Common.{refl}
use Rattle.store_slots.proofs.Staying.{looks_stay}
use Rattle.store_slots.proofs.live.LiveDesktop.characters.Goals as goal

pub returns-in_err-characters_over-clause-kept : goal.returns-in_err-characters_over-clause-kept
returns-in_err-characters_over-clause-kept g c =
    let r = c.characters_over.ensures in
    looks_stay g.D.Disk c.args.self.now _ r.looks refl refl (λ honest are. are) c.requires.on.live c.requires.on.told

pub returns-clause-kept : goal.returns-clause-kept
returns-clause-kept g c =
    let r = c.characters_over.ensures in
    looks_stay g.D.Disk c.args.self.now _ r.looks refl refl (λ honest are. are) c.requires.on.live c.requires.on.told
