-- An event that was posted and taken back. `d` is what is known of a disk.
use Rattle.std.proofs.Common.{◌≡◌, inl, inr, ℕ, ◌+◌, ◌-◌, ◌≤◌, List, [], ◌∷◌, ◌++◌, length, take, drop, Result, Ok, Err}
use Rattle.std.proofs.Common.{sym, ◌∙◌, ap, arith, length-append}
use Rattle.std.specs.Prelude.{IfOk}
use Rattle.store_slots.specs.declared.error.Error.{Error}
use Rattle.std.proofs.Math.Seq.{take-append_seam, drop-append_seam}
use Rattle.sector_disk.specs.declared.disk.Disk.{Ghosts}
use Rattle.event_bytes.specs.declared.event.Event.{Event}
use Rattle.desktop_definitions.specs.declared.reply.Reply.{Reply}
use Rattle.store_layout.specs.Meaning.{Standing, desktop_of, and_all, and_then, cut_to}
use Rattle.sector_disk.specs.Trail.{Content}
use Rattle.store_slots.specs.Beside.{IsRest, across, within}
use Rattle.store_slots.specs.Device.{IsSameDevice}
use Rattle.desk_journal.specs.Posting.{IsAcknowledged}
use Rattle.desk_journal.specs.Session.{session_of}
use Rattle.desk_journal.specs.Undoing.{IsAdded, IsTakenBack}
use Rattle.desk_journal.specs.View.{StoreView}
use Rattle.desk_journal.proofs.Due.{due_or_room}

-- an event behind others, without it
module _ (s : Standing) (event : Event) (n : ℕ) (one : n ≡ 1) where
  shorter : length (s.events ++ event ∷ []) - n ≡ length s.events
  shorter = omega (arith, one, length-append s.events (event ∷ []))

  pub without_it : cut_to (length (and_then s event).events - n) (and_then s event) ≡ s
  without_it = λ i. record {
    slot = s.slot;
    version = s.version;
    epoch = s.epoch;
    past = s.past;
    start = s.start;
    events = (ap (λ m. take m (s.events ++ event ∷ [])) shorter ∙ take-append_seam s.events (event ∷ [])) i;
  }

-- Where no more events are taken back than stand in the journal in use, they are the last of these.
pub last_of : {c : Content} (events : List Event) (s rest : Standing) → length events ≤ length s.events
    → IsRest c events s rest → s ≡ and_all rest events
last_of events s rest low (within is) = is
last_of events s rest low (across t event more before is all) =
    absurd (omega (arith, low, ap length all, length-append (event ∷ more) s.events))

-- so the rest is the first ones
pub rest_is : (events : List Event) (s rest : Standing) → s ≡ and_all rest events
    → rest ≡ cut_to (length s.events - length events) s
rest_is events s rest is = sym (ap (λ x. cut_to (length x.events - length events) x) is ∙ (λ i. record {
  slot = rest.slot;
  version = rest.version;
  epoch = rest.epoch;
  past = rest.past;
  start = rest.start;
  events = (ap (λ m. take m (rest.events ++ events)) long ∙ take-append_seam rest.events events) i;
}))
  where
    long : length (rest.events ++ events) - length events ≡ length rest.events
    long = omega (arith, length-append rest.events events)

-- what stands behind the same standing is the same
pub same_behind : (s : Standing) (event : Event) (events : List Event) → and_then s event ≡ and_all s events
    → events ≡ event ∷ []
same_behind s event events same = sym (drop-append_seam s.events events)
    ∙ ap (λ x. drop (length s.events) x.events) (sym same)
    ∙ drop-append_seam s.events (event ∷ [])

module _ {D : Type 0} (d : Ghosts D) {event : Event} {old mid : StoreView D} (added : IsAdded d event old mid)
    (device : IsSameDevice d old.disk mid.disk) where
  -- after a post there is an event to take back
  some_there : {reply : Reply} → IsAcknowledged d event reply old mid → 1 ≤ mid.events
  some_there ok = elim (due_or_room (session_of old)) [
    | inl due ↦ omega (arith, (ok.anew due).1)
    | inr room ↦ omega (arith, (ok.more room).1)
  ]

  pub back_again : {reply : Reply} (new : StoreView D) (undone : List Event) → IsAcknowledged d event reply old mid
      → IsTakenBack d 1 undone mid new → d.honest old.disk
      → (new.desktop ≡ old.desktop) × (undone ≡ event ∷ [])
  back_again new undone ok back honest =
      let x = added.behind honest in
      let w = back.back (device.still honest) (and_then x.0 event) x.1 in
      let there = some_there ok in
      let own = back.own there in
      let one : length undone ≡ 1 = elim back.as_many [
        | inl all ↦ all
        | inr none ↦ omega (arith, own.1, none, there, back.few)
      ] in
      let low : length undone ≤ length (x.0.events ++ event ∷ []) =
      omega (arith, one, length-append x.0.events (event ∷ [])) in
      let last = last_of undone (and_then x.0 event) w.0 low w.1.leaves.is_rest in
      let rest : w.0 ≡ x.0 = rest_is undone (and_then x.0 event) w.0 last ∙ without_it x.0 event (length undone) one in (
        w.1.desktop ∙ ap desktop_of rest ∙ x.2,
        same_behind x.0 event undone (last ∙ ap (λ s. and_all s undone) rest),
      )

  pub both_done : {reply : Reply} (new : StoreView D) {V : Type 0} (items : V → List Event) (result : Result V Error)
      → IsAcknowledged d event reply old mid
      → IfOk result (λ undone. IsTakenBack d 1 (items undone) mid new)
      → IfOk result (λ undone. d.honest old.disk → (new.desktop ≡ old.desktop) × (items undone ≡ event ∷ []))
  both_done new items (Ok undone) ok back = back_again new (items undone) ok back
  both_done new items (Err e) ok back = tt
