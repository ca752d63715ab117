use Rattle.std.proofs.Common.{◌≡◌, ◌-◌, ℕ, take, drop, arith, ap, ◌∙◌}
use Rattle.piece_ring.specs.Flat.{flat}
use Rattle.readers_scanners.specs.Reading.{bytes_of_text}
use Rattle.readers_scanners.proofs.Walking.{onward, seen}
use Rattle.command_table.proofs.Window.{one_more, one_count}
use Rattle.desk_views.proofs.info.bytes_between.Goals as goal

pub loop-at-preserved : goal.loop-at-preserved
loop-at-preserved g c =
    let s = g.S.CharSource in let laws = g.met.S.CharSource in let before = c.loop-at.invariant in
    let bs = bytes_of_text (s.characters c.args.source.now) (flat c.args.text.now) in
    record {
      way = onward s.characters s.failures s.honest s.same_ground laws.ground_self laws.ground_through _ _ _ _ _
          before.way _ _ c.in_ok-byte.ensures.moves c.in_ok-byte.ensures.text c.in_ok-byte.ensures.reads
          c.in_ok-byte.ensures.cause;
      count = one_count c.loop-at.line.items _ c.args.start c.loop-at.at c.in_ok-byte.byte before.count
          c.push.ensures.items;
      exact = λ h.
          let there =
          seen s.characters s.failures s.honest s.same_ground laws.ground_self laws.ground_through _ _ _ _ _
          before.way c.in_ok-byte.byte c.in_ok-byte.ensures.there h in
          c.push.ensures.items ∙ one_more bs c.loop-at.line.items c.args.start c.loop-at.at c.in_ok-byte.byte
          (omega (arith, before.count)) (before.exact h) there;
    }

pub returns-clause-bytes : goal.returns-clause-bytes
returns-clause-bytes g c h =
    let s = g.S.CharSource in
    let last : c.loop-at.at ≡ c.args.end = omega (arith, c.loop-at-test.false, c.loop-at.auto.at-end c.requires.order) in
    c.loop-at.invariant.exact h
    ∙ ap (λ (n : ℕ). take (n - c.args.start) (drop c.args.start (bytes_of_text (s.characters c.args.source.now)
    (flat c.args.text.now)))) last
