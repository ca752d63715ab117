use Rattle.former_stores.proofs.former.told_at.Goals as goal

pub returns-in_default-clause-told : goal.returns-in_default-clause-told
returns-in_default-clause-told g c = rw c.in_default.is at c.in_ok-shown.ensures.found

pub returns-clause-told : goal.returns-clause-told
returns-clause-told g c = λ honest other.
    let laid = (rw c.in-Some.is at c.in_ok-shown.ensures.found) honest other in
    let says = c.in_ok-told_by.ensures.told laid.standing laid.shows in
    record { standing = laid.standing; stands = laid.stands; epoch = says.0; next = says.1 }
