use Rattle.std.proofs.Common.{ℕ, ◌≡◌, ◌+◌, ◌-◌, length, arith, sym, subst}
use Rattle.std.specs.Prelude.{min}
use Rattle.piece_ring.specs.Flat.{flat}
use Rattle.readers_scanners.specs.Reading.{bytes_of_text}
use Rattle.readers_scanners.proofs.Walking.{IsAt, onward, seen}
use Rattle.desktop_definitions.specs.Limits.{most_pattern}
use Rattle.desktop_definitions.proofs.SearchLaws.{AreRead, read_more, read_pattern}
use Rattle.desk_commands.proofs.searches.first_bytes.Goals as goal

pub returns-clause-bytes : goal.returns-clause-bytes
returns-clause-bytes g c h =
    let bs = bytes_of_text (g.S.CharSource.characters c.args.source.now) (flat c.args.text.now) in
    let long : length c.loop.pattern.items ≡ min (c.args.selection.end - c.args.selection.beg) most_pattern =
    omega (arith, c.loop.invariant.long, c.loop-test.false, c.loop.auto.counter-end, c.min-end.ensures) in
    read_pattern bs c.args.selection.beg c.args.selection.end c.loop.pattern.items long (c.loop.invariant.read h)

pub loop-preserved : goal.loop-preserved
loop-preserved g c =
    let s = g.S.CharSource in let laws = g.met.S.CharSource in let now = c.loop.invariant in
    let text = flat c.args.text.now in
    let bs = bytes_of_text (s.characters c.args.source.now) text in
    let read = c.in_ok-next_byte.ensures in let more = c.push.ensures.len in
    let Way : ℕ → Type 0 = λ at. IsAt s.characters s.failures s.honest s.same_ground c.args.source.now
    c.next_byte.new.source text c.next_byte.new.self at in
    let place : c.args.selection.beg + length c.loop.pattern.items + 1
    ≡ c.args.selection.beg + length c.push.new.self.items =
    omega (arith, more) in
    record {
      way = subst Way place (onward s.characters s.failures s.honest s.same_ground laws.ground_self laws.ground_through
          _ _ _ _ _ now.way _ _ read.moves read.text read.reads read.cause);
      long = (let long = now.long in omega (arith, long, more));
      read = λ h. subst (AreRead bs c.args.selection.beg) (sym c.push.ensures.items)
          (read_more bs c.args.selection.beg c.loop.pattern.items c.in_ok-next_byte.field-0
          (seen s.characters s.failures s.honest s.same_ground laws.ground_self laws.ground_through _ _ _ _ _ now.way
          c.in_ok-next_byte.field-0 read.there h) (now.read h));
    }
