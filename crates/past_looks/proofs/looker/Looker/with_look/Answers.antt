use Rattle.past_looks.specs.Looking.IsSeenAt.{plain}
use Rattle.past_looks.proofs.looker.Looker.with_look.Goals as goal

pub returns-in-Ok-Some-clause-is : goal.returns-in-Ok-Some-clause-is
returns-in-Ok-Some-clause-is g c = λ are. record {
  moments = c.in-Ok-Some.ensures.are are;
  look = plain ((rw c.in-Ok-Some.field-0-is at c.in-Ok-Some.ensures.shown) are);
  moment = (rw c.in-Ok-Some.field-0-is at c.in-Ok-Some.ensures.shown) are;
  words = (rw c.in-Ok-Some.field-0-is at c.in-Ok-Some.ensures.words) are;
}
