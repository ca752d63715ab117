use Rattle.std.proofs.Common.{◌∙◌, ap, sym}
use Rattle.std.specs.Prelude.{option_map}
use Rattle.char_file.proofs.Reading.{read_on}
use Rattle.desktop_definitions.specs.Seen.{seen}
use Rattle.desk_core.specs.Kept.{kept_desktop}
use Rattle.caret_moves.specs.Leading.{click_for, org_presses}
use Rattle.caret_moves.proofs.Told.{events_none, events_some}
use Rattle.caret_moves.proofs.leading.events_to.Goals as goal

pub returns-in_default-clause-told : goal.returns-in_default-clause-told
returns-in_default-clause-told g c = λ h.
    let s = g.S.CharSource in
    let first = c.in_ok-org.ensures.told in
    let both = read_on s.characters s.failures s.honest s.same_ground g.met.S.CharSource.ground_through _ _ _ first.reads
    c.in_ok-click.ensures.reads in
    events_none (seen (s.characters c.args.source.now) (kept_desktop c.args.desk.now)) c.args.id c.args.pos
    c.in_ok-org.org (first.exact h)
    (sym (ap (λ found. option_map (λ events. events.items) found) c.in_default.is) ∙ c.in_ok-found.ensures.told (both.still h)
    ∙ (λ k. org_presses (seen (both.same h k) (kept_desktop c.args.desk.now)) c.args.id c.in_ok-org.org))

pub returns-clause-told : goal.returns-clause-told
returns-clause-told g c = λ h.
    let s = g.S.CharSource in
    let first = c.in_ok-org.ensures.told in
    let second = c.in_ok-click.ensures in
    let both = read_on s.characters s.failures s.honest s.same_ground g.met.S.CharSource.ground_through _ _ _ first.reads
    second.reads in
    events_some (seen (s.characters c.args.source.now) (kept_desktop c.args.desk.now)) c.args.id c.args.pos
    c.in_ok-org.org (first.exact h) c.in-Some.presses.items c.in_ok-events.events.items c.in_ok-click.click
    (sym (ap (λ found. option_map (λ events. events.items) found) c.in-Some.is) ∙ c.in_ok-found.ensures.told (both.still h)
    ∙ (λ k. org_presses (seen (both.same h k) (kept_desktop c.args.desk.now)) c.args.id c.in_ok-org.org))
    (second.exact (first.reads.still h)
    ∙ (λ k. click_for (seen (first.reads.same h k) (kept_desktop c.args.desk.now)) c.args.id c.in_ok-org.org c.args.pos))
    c.in_ok-events.ensures
