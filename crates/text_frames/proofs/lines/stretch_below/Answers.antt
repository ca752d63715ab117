use Rattle.std.proofs.Common.{◌≡◌, ◌+◌, ◌-◌, length, ap, refl, arith}
use Rattle.text_frames.proofs.Ends.{ends_by, ends_known, onward_by, past_known}
use Rattle.text_frames.proofs.lines.stretch_below.Goals as goal

pub loop-left-preserved : goal.loop-left-preserved
loop-left-preserved g c =
    let s = g.S.CharSource in let laws = g.met.S.CharSource in let before = c.loop-left.invariant in
    let read = c.in_ok-count.ensures in let passed = read.passed in
    let low = before.low in let few = before.few in let above = before.above in
    let least = c.min-most.ensures in let most = passed.most in let less = passed.few in let below = passed.fewer in
    let within = c.pos-from.ensures.within in let len = c.len-len.ensures in let all = ap length c.requires.text in
    let on : c.len-len.result - (c.loop-left.left - c.in_ok-count.count)
    ≡ c.len-len.result - c.loop-left.left + c.in_ok-count.count = omega (arith, low, least, most) in
    let way = onward_by s.characters s.failures s.honest s.same_ground laws.ground_through _ _ _ _ _ before.way _ _ _ _
    passed.moves on passed.same read.reads read.cause in
    let ends = ends_by s.characters s.failures s.honest s.same_ground laws.ground_through _ _ _ _ _ before.way
    c.pos-from.result c.in_ok-count.count c.in_ok-count.found c.loop-left.ends _ _
    (omega (arith, low, within, len, all)) passed.exact on before.so_far refl in
    let known = c.pass_known-next.ensures in let n = c.pass_known-next.result.1 in
    let known_most = known.most in let known_few = known.few in let known_below = known.fewer in
    let past : c.len-len.result - (c.loop-left.left - c.in_ok-count.count - n)
    ≡ c.len-len.result - (c.loop-left.left - c.in_ok-count.count) + n = omega (arith, low, least, most, known_most) in
    record {
      way = past_known s.characters s.failures s.honest s.same_ground laws.ground_through _ _ _ _ _ way laws.ground_self
          _ _ _ _ _ known _ past;
      low = omega (arith, low);
      few = omega (arith, few, less, least, most, known_most, known_few);
      above = omega (arith, above, below, known_below);
      so_far = ends_known s.characters s.failures s.honest s.same_ground laws.ground_through _ _ _ _ _ way
          laws.ground_self _ _ _ _ _ known c.pos-from.result _ _ _ (omega (arith, low, within, len, all)) past ends refl;
    }
