use Rattle.std.proofs.Common.{◌≡◌, ap, subst, sym, take, ◌∙◌}
use Rattle.command_table.specs.Versions.{version_number}
use Rattle.desktop_definitions.specs.Seen.{seen}
use Rattle.desktop_definitions.specs.Step.{step_in}
use Rattle.desktop_definitions.specs.Viewers.{text_of}
use Rattle.desk_core.specs.Kept.{kept_desktop}
use Rattle.desk_input.specs.Stale.{is_stale, stale_from, stale_of}
use Rattle.desk_input.proofs.Front.{fronts_stay, from_seen}
use Rattle.desk_input.proofs.Kept.{others_stay, stale_seen}
use Rattle.event_loop.proofs.Stepping.{event_stepped}
use Rattle.event_loop.proofs.desktop.Desktop.step_with_lines.Goals as goal

pub returns-clause-lines : goal.returns-clause-lines
returns-clause-lines g c = λ version characters over told.
    let d = c.args.self.now in
    let event = c.args.event.now in
    let named = stale_seen characters d event ∙ ap (λ e. stale_of e event) (sym c.self.view_is)
    ∙ sym c.stale_of-stale.ensures in
    let from = from_seen characters d event ∙ ap (λ e. stale_from e event) (sym c.self.view_is)
    ∙ sym c.stale_from.ensures in
    c.forget.ensures (text_of (seen characters d)) (text_of (step_in version (seen characters d) event).desktop)
    (λ n apart. others_stay version (seen characters d) event n (over.whole.sound characters)
    (ap (λ stale. is_stale stale n) named ∙ apart))
    (λ n. subst (λ k. take k (text_of (step_in version (seen characters d) event).desktop n)
    ≡ take k (text_of (seen characters d) n)) from
    (fronts_stay version (seen characters d) event n (over.whole.sound characters))) told

pub returns-clause-stepped : goal.returns-clause-stepped
returns-clause-stepped g c =
    event_stepped g.S.CharSource (version_number c.args.version) c.args.event.now c.act.result
    (kept_desktop c.self.inside.desk) _ (kept_desktop c.act.new.desk) c.args.source.now c.act.new.source
    c.self.view_is c.act.ensures.answered c.act.ensures.unread
