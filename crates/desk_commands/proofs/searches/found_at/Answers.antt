use Rattle.std.proofs.Common.{◌≡◌, ◌+◌, ◌≤◌, ℕ, length, arith, sym, ap, subst, ◌∙◌}
use Rattle.std.specs.Str.{bytes_eq}
use Rattle.piece_ring.specs.Flat.{flat}
use Rattle.readers_scanners.specs.Reading.{bytes_of_text}
use Rattle.readers_scanners.proofs.Walking.{IsAt, onward, seen}
use Rattle.desktop_definitions.proofs.SearchLaws.{IsSought, bytes_long, sought_on, sought_found, sought_next, sought_none}
use Rattle.desk_commands.proofs.searches.found_at.Goals.{then-len-pattern+else-eq, else-len-pattern}
use Rattle.desk_commands.proofs.searches.found_at.Goals as goal

pub returns-then-eq-clause-found : goal.returns-then-eq-clause-found
returns-then-eq-clause-found g c h =
    let s = g.S.CharSource in let laws = g.met.S.CharSource in let now = c.loop.invariant in
    let text = flat c.args.text.now in
    let bs = bytes_of_text (s.characters c.args.source.now) text in
    let there = seen s.characters s.failures s.honest s.same_ground laws.ground_self laws.ground_through _ _ _ _ _
    now.way c.in_ok-next_byte.field-0 c.in_ok-next_byte.ensures.there h in
    let all = bytes_long (s.characters c.args.source.now) text in
    let long : length c.push.new.self.items ≡ length c.args.pattern.now =
    omega (arith, c.len.ensures.value, c.if-len-pattern.true) in
    let within : c.loop.place + length c.args.pattern.now ≤ length bs =
    omega (arith, all, now.count, c.loop-test.true, c.len-end.ensures, c.push.ensures.len, long) in
    sym (sought_found bs c.args.pattern.now c.args.pos c.loop.place c.push.new.self.items
    (sought_on bs c.args.pattern.now c.args.pos c.loop.place c.loop.window.items (now.sought h)
    c.in_ok-next_byte.field-0 c.push.new.self.items c.push.ensures.items there) long within
    (ap (bytes_eq c.args.pattern.now) (sym c.as_slice.ensures.value) ∙ sym c.eq.ensures ∙ c.if-eq.true))

pub loop-preserved : goal.loop-preserved
loop-preserved g c =
    let s = g.S.CharSource in let laws = g.met.S.CharSource in let now = c.loop.invariant in
    let text = flat c.args.text.now in
    let bs = bytes_of_text (s.characters c.args.source.now) text in
    let all = bytes_long (s.characters c.args.source.now) text in
    let on = onward s.characters s.failures s.honest s.same_ground laws.ground_self laws.ground_through _ _ _ _ _
    now.way _ _ c.in_ok-next_byte.ensures.moves c.in_ok-next_byte.ensures.text c.in_ok-next_byte.ensures.reads
    c.in_ok-next_byte.ensures.cause in
    let more : s.honest c.args.source.now → IsSought bs c.args.pattern.now c.args.pos c.loop.place c.push.new.self.items
    = λ h. sought_on bs c.args.pattern.now c.args.pos c.loop.place c.loop.window.items (now.sought h)
    c.in_ok-next_byte.field-0 c.push.new.self.items c.push.ensures.items
    (seen s.characters s.failures s.honest s.same_ground laws.ground_self laws.ground_through _ _ _ _ _
    now.way c.in_ok-next_byte.field-0 c.in_ok-next_byte.ensures.there h) in
    let Way : ℕ → Type 0 = λ at. IsAt s.characters s.failures s.honest s.same_ground c.args.source.now
    c.next_byte.new.source text c.next_byte.new.self at in
    elim c.if-len-pattern.branch [
      | then-len-pattern+else-eq w ↦
          let long : length c.push.new.self.items ≡ length c.args.pattern.now =
          omega (arith, c.len.ensures.value, w.if-len-pattern.true) in
          let within : c.loop.place + length c.args.pattern.now ≤ length bs =
          omega (arith, all, now.count, c.loop-test.true, c.len-end.ensures, c.push.ensures.len, long) in
          let other = ap (bytes_eq c.args.pattern.now) (sym w.as_slice.ensures.value) ∙ sym w.eq.ensures
          ∙ w.if-eq.false in
          let place : c.loop.place + length c.loop.window.items + 1
          ≡ c.loop.place + 1 + length w.remove.new.self.items =
          omega (arith, c.push.ensures.len, w.remove.ensures.len) in
          rw (w.window-is, w.place-is) (record {
            way = subst Way place on;
            count = omega (arith, now.count, c.push.ensures.len, w.remove.ensures.len);
            short = omega (arith, now.short, c.push.ensures.len, w.remove.ensures.len);
            sought = λ h. subst (IsSought bs c.args.pattern.now c.args.pos (c.loop.place + 1))
                (sym w.remove.ensures.items)
                (sought_next bs c.args.pattern.now c.args.pos c.loop.place c.push.new.self.items (more h) long within
                c.requires.some other);
          })
      | else-len-pattern w ↦
          let place : c.loop.place + length c.loop.window.items + 1 ≡ c.loop.place + length c.push.new.self.items =
          omega (arith, c.push.ensures.len) in
          rw (w.window-is, w.place-is) (record {
            way = subst Way place on;
            count = omega (arith, now.count, c.push.ensures.len);
            short = omega (arith, now.short, c.push.ensures.len, c.len.ensures.value, w.if-len-pattern.false);
            sought = more;
          })
    ]

pub returns-clause-found : goal.returns-clause-found
returns-clause-found g c h =
    let s = g.S.CharSource in let now = c.loop.invariant in
    let text = flat c.args.text.now in
    let bs = bytes_of_text (s.characters c.args.source.now) text in
    let all = bytes_long (s.characters c.args.source.now) text in
    let begun : c.args.pos ≤ c.len-end.result = omega (arith, c.requires.place, c.len-end.ensures) in
    let last : c.loop.place + length c.loop.window.items ≡ length bs =
    omega (arith, all, now.count, c.loop-test.false, c.loop.auto.counter-end begun, c.len-end.ensures) in
    sym (sought_none bs c.args.pattern.now c.args.pos c.loop.place c.loop.window.items (now.sought h) last now.short)
