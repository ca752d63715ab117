use Rattle.std.proofs.Common.{◌∙◌, ◌++◌, ◌∷◌, [], ap, sym, List}
use Rattle.std.specs.Prelude.{option_map}
use Rattle.event_bytes.specs.declared.event.Event.{Event}
use Rattle.desktop_definitions.specs.Seen.{seen}
use Rattle.desk_core.specs.Kept.{kept_desktop}
use Rattle.caret_moves.specs.Leading.{near_events}
use Rattle.caret_moves.proofs.Told.{end_past, end_far, end_done}
use Rattle.caret_moves.proofs.filling.lead_end.Goals as goal

pub returns-then-not-has_column-clause-told : goal.returns-then-not-has_column-clause-told
returns-then-not-has_column-clause-told g c = λ h.
    end_past (seen (g.S.CharSource.characters c.args.source.now) (kept_desktop c.args.desk.now)) c.args.id c.args.pos
    (sym c.if-not-has_column.true ∙ c.in_ok-has_column.ensures.exact h)

pub returns-in_default-clause-told : goal.returns-in_default-clause-told
returns-in_default-clause-told g c = λ h.
    let d = kept_desktop c.args.desk.now in
    let first = c.in_ok-has_column.ensures in
    end_far (seen (g.S.CharSource.characters c.args.source.now) d) c.args.id c.args.pos
    (sym c.if-not-has_column.false ∙ first.exact h)
    (sym (ap (λ found. option_map (λ events. events.items) found) c.in_default.is)
    ∙ c.in_ok-found.ensures.told (first.reads.still h)
    ∙ (λ k. near_events (seen (first.reads.same h k) d) c.args.id c.args.pos))

pub returns-clause-told : goal.returns-clause-told
returns-clause-told g c = λ h.
    let d = kept_desktop c.args.desk.now in
    let first = c.in_ok-has_column.ensures in
    end_done (seen (g.S.CharSource.characters c.args.source.now) d) c.args.id c.args.pos
    (sym c.if-not-has_column.false ∙ first.exact h) c.in-Some.events.items c.in_ok-all.all.items
    (sym (ap (λ found. option_map (λ events. events.items) found) c.in-Some.is)
    ∙ c.in_ok-found.ensures.told (first.reads.still h)
    ∙ (λ k. near_events (seen (first.reads.same h k) d) c.args.id c.args.pos))
    (c.in_ok-all.ensures ∙ ap (λ (e : Event). c.in-Some.events.items ++ e ∷ []) c.line_end.ensures)
