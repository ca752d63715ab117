-- What is taken off the end of a list.
use Rattle.std.proofs.Common.{◌≡◌, ◌-◌, ℕ, List, [], length, sym, ap, ◌∙◌, arith, Option, Some, None}
use Rattle.std.specs.Prelude.{slice_get, get_or, MatchOption, ◌+◌, ◌<◌, ◌∷◌}
use Rattle.std.proofs.lemmas.Option.{slice_get-get_or, slice_get_past}
use Rattle.event_bytes.specs.declared.event.Event.{Event}

-- what is taken off a list is its last element
pub popped : (n len : ℕ) (P : Type 0) (events : List Event) (found : Option Event) → len ≡ length events
    → ((e : Event) → 0 < len → found ≡ Some (get_or events (len - 1) e))
    → MatchOption found P (λ _. n + 1 ≡ len) → found ≡ slice_get events (length events - 1)
popped n len P [] None same value cases = sym (slice_get_past [] (length {A = Event} [] - 1) (omega arith))
popped n len P [] (Some e) same value cases = absurd (omega (arith, cases, same))
popped n len P (event ∷ more) found same value cases =
    let all = event ∷ more in
    value event (omega (arith, same))
    ∙ ap (λ m. Some (get_or all (m - 1) event)) same
    ∙ sym (slice_get-get_or all (length all - 1) event (omega arith))
