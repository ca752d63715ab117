use Rattle.std.proofs.Common.{◌<◌, ◌+◌, arith}
use Rattle.char_pages.specs.Occurrences.{AreFew, AreIndices}
use Rattle.char_pages.proofs.Occurring.{each_pushed}
use Rattle.char_pages.proofs.occurrences.Occurrences.reach.Goals as goal

pub invariant_of-self-clause-real : goal.invariant_of-self-clause-real
invariant_of-self-clause-real c = each_pushed (λ n. AreFew) _ _ c.push.ensures.items c.loop-self.self.real

pub invariant_of-self-clause-bound : goal.invariant_of-self-clause-bound
invariant_of-self-clause-bound c =
    let one = c.push.ensures.upper_bound in
    let low = c.loop-self-test.true in let is = c.len.ensures in omega (arith, one, low, is, c.requires)

pub returns-then-is_err-clause-found : goal.returns-then-is_err-clause-found
returns-then-is_err-clause-found c = λ content base found.
    each_pushed (λ n. AreIndices c.loop-self.self.wanted (content (base + n))) _ _ c.push.ensures.items
    (c.loop-self.invariant.found content base found)

pub loop-self-preserved : goal.loop-self-preserved
loop-self-preserved c = record {
  wanted = c.loop-self.invariant.wanted;
  found = λ content base found.
      each_pushed (λ n. AreIndices c.loop-self.self.wanted (content (base + n))) _ _ c.push.ensures.items
      (c.loop-self.invariant.found content base found);
  below = λ many known. each_pushed (λ n indices. n < many) _ _ c.push.ensures.items
      (c.loop-self.invariant.below many known);
}

pub returns-then-is_err-clause-below : goal.returns-then-is_err-clause-below
returns-then-is_err-clause-below c = λ many known. each_pushed (λ n indices. n < many) _ _ c.push.ensures.items
    (c.loop-self.invariant.below many known)
