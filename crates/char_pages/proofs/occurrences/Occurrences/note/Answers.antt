use Rattle.std.proofs.Common.{◌≡◌, ◌+◌, subst, sym, ◌∙◌}
use Rattle.char_pages.specs.Occurrences.{AreFew, AreIndices}
use Rattle.std.proofs.Common.{◌<◌, ◌≤◌, length-set}
use Rattle.char_pages.specs.declared.occurrences.TheConstants.{COUNTED_SECTORS}
use Rattle.char_pages.proofs.Occurring.{are_few, each_set}
use Rattle.char_pages.proofs.occurrences.Occurrences.note.Goals as goal

pub invariant_of-self-clause-real : goal.invariant_of-self-clause-real
invariant_of-self-clause-real c = each_set (λ n. AreFew) _ _ _ (are_few c.in-Ok.ensures) c.reach.new.self.real

pub invariant_of-self-clause-bound : goal.invariant_of-self-clause-bound
invariant_of-self-clause-bound c =
    subst (λ n. n ≤ COUNTED_SECTORS) (sym (length-set c.reach.new.self.known.items c.place_of-place.result _))
    c.reach.new.self.bound

pub returns-then-place-len-clause-found : goal.returns-then-place-len-clause-found
returns-then-place-len-clause-found c = λ content base found is.
    let known = c.reach.ensures.found content base (c.want.ensures.found content base found) in
    let wanted : c.reach.new.self.wanted ≡ c.args.wanted = c.reach.ensures.wanted ∙ c.want.ensures.wanted in
    each_set (λ n. AreIndices c.reach.new.self.wanted (content (base + n))) _ c.place_of-place.result
    (record { number = c.args.n; indices = c.in-Ok.indices })
    (subst (λ w. AreIndices w (content (base + c.args.n)) c.in-Ok.indices.items) (sym wanted)
    (subst (λ bytes. AreIndices c.args.wanted bytes c.in-Ok.indices.items) is c.in-Ok.ensures)) known

pub returns-else-place-len-clause-found : goal.returns-else-place-len-clause-found
returns-else-place-len-clause-found c = λ content base found is.
    c.reach.ensures.found content base (c.want.ensures.found content base found)

pub returns-in_default-clause-found : goal.returns-in_default-clause-found
returns-in_default-clause-found c = λ content base found is. c.want.ensures.found content base found

pub returns-then-place-len-clause-below : goal.returns-then-place-len-clause-below
returns-then-place-len-clause-below c = λ many less known.
    each_set (λ n indices. n < many) _ c.place_of-place.result (record { number = c.args.n; indices = c.in-Ok.indices }) less
    (c.reach.ensures.below many (c.want.ensures.below many known))

pub returns-else-place-len-clause-below : goal.returns-else-place-len-clause-below
returns-else-place-len-clause-below c = λ many less known. c.reach.ensures.below many (c.want.ensures.below many known)

pub returns-in_default-clause-below : goal.returns-in_default-clause-below
returns-in_default-clause-below c = λ many less known. c.want.ensures.below many known
