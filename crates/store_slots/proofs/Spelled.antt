-- The journal of a slot, read as bytes.
use Rattle.std.proofs.Common.{◌≡◌, ℕ, ◌+◌, ◌<◌, List, [], ◌∷◌, ◌++◌, length, take, refl, sym, ◌∙◌, ap, subst, arith}
use Rattle.std.proofs.Common.{append_assoc}
use Rattle.std.proofs.lemmas.List.{append-nil, take_all}
use Rattle.sector_disk.specs.Trail.{Content, Trail, now}
use Rattle.event_bytes.specs.declared.event.Event.{Event}
use Rattle.event_bytes.specs.Spelling.{BeginsWithEvent, spelling}
use Rattle.store_layout.specs.Layout.{body}
use Rattle.store_layout.specs.Meaning.{IsJournal, Standing}
use Rattle.store_slots.specs.Beside.{HasEvents}
use Rattle.store_slots.specs.Bodies.{spellings}
use Rattle.store_slots.specs.Written.{IsUpTo}
use Rattle.store_slots.proofs.TakingBack.{BeginLaw, one_more}

-- an event more behind others
spelled_on : (events : List Event) (event : Event) → spellings (events ++ event ∷ []) ≡ spellings events ++ spelling event
spelled_on [] event = append-nil (spelling event)
spelled_on (first ∷ events) event =
    ap (λ l. spelling first ++ l) (spelled_on events event)
    ∙ sym (append_assoc (spelling first) (spellings events) (spelling event))

-- the event under the next gate was read, and spelled behind the others
pub one_spelled : {c : Content} {slot end : ℕ} {all : List Event} (has : HasEvents c slot end all) (k : ℕ) → k < end
    → BeginLaw → (bytes : List ℕ) (event : Event) → BeginsWithEvent (c (body slot k)) event
    → bytes ≡ spellings (take k all) → bytes ++ spelling event ≡ spellings (take (k + 1) all)
one_spelled {all = all} has k low law bytes event begins is =
    ap (λ l. l ++ spelling event) is
    ∙ sym (spelled_on (take k all) event)
    ∙ ap spellings (sym (one_more has k low law 0 (take k all) event (omega arith) begins refl))

-- all of them
pub all_spelled : (k end : ℕ) (all : List Event) → length all ≡ end → k ≡ end → take k all ≡ all
all_spelled k end all long last = take_all k all (omega (arith, long, last))

-- the journal in use
pub events_up_to : {size : ℕ} {disk : Trail} {slot end : ℕ} {s : Standing} → IsUpTo size disk slot end s
    → HasEvents (now disk).reads slot end s.events
events_up_to {disk = disk} {s = s} at = record {
  journal = subst (λ n. IsJournal (now disk).reads n 0 s.events) at.slot_is at.settled.stands.journal;
  long = at.count;
}
