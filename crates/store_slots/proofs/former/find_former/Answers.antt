use Rattle.store_slots.proofs.former.find_former.Goals as goal

pub returns-then-is_damage-clause-none : goal.returns-then-is_damage-clause-none
returns-then-is_damage-clause-none g c = λ wanted honest.
    let damage = c.is_damage.ensures.0 c.if-is_damage.true in
    c.in-Err.ensures.damaged damage.0 (cc damage.1) honest
