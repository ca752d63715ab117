use Rattle.std.proofs.Common.{ap, arith}
use Rattle.readers_scanners.specs.Reading.{Reading}
use Rattle.readers_scanners.proofs.Counting.{few_end, counted_here}
use Rattle.readers_scanners.proofs.Upcoming.{standing, some_here, enough}
use Rattle.readers_scanners.proofs.reader.Reader.pass_fewer.Goals as goal

pub count_from-requires-clause-some : goal.count_from-requires-clause-some
count_from-requires-clause-some g c =
    let is = standing _ _ _ _ _ _ c.self.view_is c.self.invariant in
    let here = some_here _ _ _ _ _ is c.requires.more.1 in let least = c.min.ensures in
    let some = c.requires.more.0 in omega (arith, here, least, some)

pub count_from-requires-clause-within : goal.count_from-requires-clause-within
count_from-requires-clause-within g c =
    let is = standing _ _ _ _ _ _ c.self.view_is c.self.invariant in
    let here = some_here _ _ _ _ _ is c.requires.more.1 in let least = c.min.ensures in
    let some = c.requires.more.0 in
    few_end _ _ _ _ _ is _ c.min.result c.requires.offsets (omega (arith, least)) (omega (arith, here, least, some))

pub overflow_sub-self : goal.overflow_sub-self
overflow_sub-self g c =
    let high = enough _ _ _ _ _ c.self.invariant in let least = c.min.ensures in
    let most = c.in_ok-many.ensures.counted.most in omega (arith, high, least, most)

pub returns-clause-passed : goal.returns-clause-passed
returns-clause-passed g c =
    let is = standing _ _ _ _ _ _ c.self.view_is c.self.invariant in let least = c.min.ensures in
    let on = counted_here _ _ _ _ _ is _ _ c.args.wanted c.args.most c.min.result _ c.requires.offsets
    (omega (arith, least)) (omega (arith, least)) c.in_ok-many.ensures.counted in
    let high = enough _ _ _ _ _ c.self.invariant in let counted = c.self.invariant.counted in
    let most = c.in_ok-many.ensures.counted.most in let within = on.within in
    let at = ap (λ (r : Reading). r.position) c.self.view_is in
    let below = c.if-found-fewer.false in
    record {
      same = ap (λ (r : Reading). r.text) c.self.view_is;
      moves = omega (arith, high, counted, least, most, at);
      within = omega (arith, high, counted, least, most, at, within);
      most = on.most;
      exact = on.exact;
      few = on.few;
      fewer = omega (arith, below);
    }
