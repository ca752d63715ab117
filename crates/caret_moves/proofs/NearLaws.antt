-- The events to a position in sight are one click.
use Rattle.std.specs.Prelude.{◌≡◌, ℕ, ◌++◌, ◌==◌, Bool, true, false, if◌then◌else◌, List, [], ◌∷◌}
use Rattle.std.specs.Prelude.{Option, Some, None, IfSome}
use Rattle.std.specs.Option.{option_map}
use Rattle.std.proofs.Common.{refl}
use Rattle.event_bytes.specs.declared.event.Event.{Event}
use Rattle.desktop_definitions.specs.Desktop.{Desktop}
use Rattle.desktop_definitions.specs.Viewers.{viewer_of}
use Rattle.desk_input.specs.Scrolling.{line_presses}
use Rattle.caret_moves.specs.Leading.{click_for, events_to, near_events, org_in, org_presses}

pub near_click : (d : Desktop) (v p : ℕ)
    → IfSome (near_events d v p) (λ events. events ≡ click_for d v (org_in d v p) p ∷ [])
unfolding near_events events_to org_presses
near_click d v p = elim (org_in d v p == (viewer_of d v).org) as (λ (b : Bool).
    IfSome (let o : Option (List Event) = if b then option_map (λ presses. presses ++ click_for d v (org_in d v p) p ∷ [])
    (if b then Some [] else line_presses d v (org_in d v p)) else None in o)
    (λ events. events ≡ click_for d v (org_in d v p) p ∷ [])) [ true ↦ refl | false ↦ tt ]
