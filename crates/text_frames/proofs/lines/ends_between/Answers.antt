use Rattle.std.proofs.Common.{◌≡◌, ◌+◌, ◌-◌, refl, arith}
use Rattle.piece_ring.specs.Flat.{flat}
use Rattle.readers_scanners.specs.Reading.{bytes_of_text}
use Rattle.text_frames.proofs.Ends.{ends_by, ends_known, onward_by, past_known}
use Rattle.text_frames.proofs.Placing.{below_rows, length-read}
use Rattle.text_frames.proofs.lines.ends_between.Goals as goal

pub returns-then-ends-h-clause-few : goal.returns-then-ends-h-clause-few
returns-then-ends-h-clause-few g c h =
    let s = g.S.CharSource in let laws = g.met.S.CharSource in let before = c.loop-left.invariant in
    let characters = s.characters c.args.source.now in let text = flat c.args.text.now in
    let within = c.requires.within in let long = length-read characters text in let order = c.requires.order in
    let read = c.in_ok-count.ensures in let low = before.low in
    let least = c.min-most.ensures in let most = read.counted.most in
    let on : c.args.pos - (c.loop-left.left - c.in_ok-count.count)
    ≡ c.args.pos - c.loop-left.left + c.in_ok-count.count = omega (arith, low, least, most) in
    let ends = ends_by s.characters s.failures s.honest s.same_ground laws.ground_through _ _ _ _ _ before.way
    c.args.org c.in_ok-count.count c.in_ok-count.found c.loop-left.ends _ _ (omega (arith, low, order))
    read.counted.exact on before.so_far refl in
    below_rows (bytes_of_text characters text) c.args.org (c.args.pos - (c.loop-left.left - c.in_ok-count.count))
    c.args.pos c.args.h _ (omega (arith, low, order)) (omega arith) (omega (arith, within, long)) (ends h) c.if-ends-h.true

pub loop-left-preserved : goal.loop-left-preserved
loop-left-preserved g c =
    let s = g.S.CharSource in let laws = g.met.S.CharSource in let before = c.loop-left.invariant in
    let read = c.in_ok-count.ensures in let low = before.low in let few = before.few in let order = c.requires.order in
    let least = c.min-most.ensures in let most = read.counted.most in let less = read.counted.few in
    let on : c.args.pos - (c.loop-left.left - c.in_ok-count.count)
    ≡ c.args.pos - c.loop-left.left + c.in_ok-count.count = omega (arith, low, least, most) in
    let way = onward_by s.characters s.failures s.honest s.same_ground laws.ground_through _ _ _ _ _ before.way _ _ _ _
    read.moves on read.text read.reads read.cause in
    let ends = ends_by s.characters s.failures s.honest s.same_ground laws.ground_through _ _ _ _ _ before.way
    c.args.org c.in_ok-count.count c.in_ok-count.found c.loop-left.ends _ _ (omega (arith, low, order))
    read.counted.exact on before.so_far refl in
    let known = c.pass_known-next.ensures in let n = c.pass_known-next.result.1 in
    let known_most = known.most in let known_few = known.few in
    let past : c.args.pos - (c.loop-left.left - c.in_ok-count.count - n)
    ≡ c.args.pos - (c.loop-left.left - c.in_ok-count.count) + n = omega (arith, low, least, most, known_most) in
    record {
      way = past_known s.characters s.failures s.honest s.same_ground laws.ground_through _ _ _ _ _ way laws.ground_self
          _ _ _ _ _ known _ past;
      low = omega (arith, low);
      few = omega (arith, few, less, least, most, known_most, known_few);
      so_far = ends_known s.characters s.failures s.honest s.same_ground laws.ground_through _ _ _ _ _ way
          laws.ground_self _ _ _ _ _ known c.args.org _ _ _ (omega (arith, low, order)) past ends refl;
    }
