use Rattle.std.proofs.Common.{◌∙◌, ap, refl, List}
use Rattle.std.specs.Prelude.{Ok, Result}
use Rattle.event_bytes.specs.declared.event.Event.{Event}
use Rattle.desktop_definitions.specs.Seen.{seen}
use Rattle.desk_core.specs.Kept.{kept_desktop}
use Rattle.caret_moves.specs.declared.wish.WhyNot.{WhyNot}
use Rattle.caret_moves.proofs.Told.{marked_at}
use Rattle.caret_moves.proofs.leading.lead_mark.Goals as goal

pub returns-clause-told : goal.returns-clause-told
returns-clause-told g c = λ h.
    ap (λ (events : List Event). let r : Result (List Event) WhyNot = Ok events in r) c.in_ok-events.ensures
    ∙ marked_at (seen (g.S.CharSource.characters c.args.source.now) (kept_desktop c.args.desk.now)) c.args.caret.viewer
    c.args.caret.position c.in_ok-x.x c.in_ok-x.y _ refl (c.in_ok-x.ensures.exact h)
