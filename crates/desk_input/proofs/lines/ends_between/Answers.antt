use Rattle.std.proofs.Common.{◌≡◌, ◌+◌, ◌-◌, refl, arith}
use Rattle.text_frames.proofs.Ends.{ends_by, onward_by}
use Rattle.desk_input.proofs.lines.ends_between.Goals as goal

pub loop-left-preserved : goal.loop-left-preserved
loop-left-preserved g c =
    let s = g.S.CharSource in let laws = g.met.S.CharSource in let before = c.loop-left.invariant in
    let read = c.in_ok-count.ensures in let low = before.low in let order = c.requires.order in
    let least = c.min.ensures in let most = read.counted.most in let less = read.counted.few in
    let few = before.few in
    let on : c.args.pos - (c.loop-left.left - c.in_ok-count.count)
    ≡ c.args.pos - c.loop-left.left + c.in_ok-count.count = omega (arith, low, least, most) in
    record {
      way = onward_by s.characters s.failures s.honest s.same_ground laws.ground_through _ _ _ _ _ before.way _ _ _ _
          read.moves on read.text read.reads read.cause;
      low = omega (arith, low);
      few = omega (arith, few, less, least, most);
      so_far = ends_by s.characters s.failures s.honest s.same_ground laws.ground_through _ _ _ _ _ before.way
          c.args.org c.in_ok-count.count c.in_ok-count.found c.loop-left.ends _ _ (omega (arith, low, order))
          read.counted.exact on before.so_far refl;
    }
