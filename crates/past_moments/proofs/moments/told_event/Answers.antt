use Rattle.std.proofs.Common.{◌+◌, ◌-◌, ◌∙◌, ◌++◌, ap, arith, drop, sym, take}
use Rattle.desk_past.specs.Deeds.{after_deeds, all_posted}
use Rattle.told_pasts.specs.Words.{event_line, told_lines}
use Rattle.past_moments.proofs.Telling.{one_at, only_line}
use Rattle.past_moments.proofs.moments.told_event.Goals as goal

pub returns-clause-done : goal.returns-clause-done
returns-clause-done c =
    let told = rw c.in_ok-of_memory.ensures at c.add_lines.ensures.told in (
      omega (arith, c.if-index-events.false),
      λ event is. told.desktop tt
          ∙ ap (λ l. after_deeds c.args.shown.now.desktop (all_posted l)) (one_at c.args.events.now c.args.index (c.args.index + 1 - c.args.index) event (omega arith) is),
    )

pub returns-clause-words : goal.returns-clause-words
returns-clause-words c = λ event is.
    let told = rw c.in_ok-of_memory.ensures at c.add_lines.ensures.told in
    let here = c.args.shown.now.desktop in
    c.in_ok-from_slice-in-Some.ensures.items ∙ c.as_bytes.ensures ∙ only_line c.pop.new.self.items (event_line here event)
    c.in-Some.line (
    sym (told.lines tt ∙ ap (λ l. l ++ told_lines here (all_posted
    (take (c.args.index + 1 - c.args.index) (drop c.args.index c.args.events.now)))) c.new-lines.ensures.items
    ∙ ap (λ l. told_lines here (all_posted l)) (one_at c.args.events.now c.args.index (c.args.index + 1 - c.args.index) event (omega arith) is))
    ∙ c.in-Some.ensures.items)
