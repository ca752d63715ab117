-- What was done in the past, event by event.
use Rattle.std.proofs.Common.{◌≡◌, ◌∙◌, ◌<◌, ◌+◌, ℕ, false, List, [], ◌∷◌, ◌++◌, length, take, get_or, refl, sym, ap}
use Rattle.std.proofs.lemmas.List.{take_more}
use Rattle.event_bytes.specs.declared.event.Event.{Event}
use Rattle.done_presses.specs.Past.{PastView, no_past, past_after, past_of}

past_more : (events : List Event) (event : Event) (past : PastView)
    → past_of (events ++ event ∷ []) past ≡ past_after false false event (past_of events past)
past_more [] event past = refl
past_more (first ∷ events) event past = past_more events event (past_after false false first past)

-- one more of these events was done
pub done_more : (events : List Event) (i : ℕ) {event : Event} {mid past : PastView} → mid ≡ past_of (take i events) no_past
    → i < length events → event ≡ get_or events i event → past ≡ past_after false false event mid
    → past ≡ past_of (take (i + 1) events) no_past
done_more events i {event = event} was low here is =
    is ∙ ap (past_after false false event) was
    ∙ sym (past_more (take i events) event no_past)
    ∙ ap (λ es. past_of es no_past) (sym (take_more events i event low ∙ ap (λ e. take i events ++ e ∷ []) (sym here)))
