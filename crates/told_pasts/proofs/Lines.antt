-- Deeds that are told, one after another. `d` is what is known of a disk.
use Rattle.std.proofs.Common.{◌≡◌, ◌+◌, ◌-◌, ◌<◌, ◌≤◌, ℕ, List, [], ◌∷◌, ◌++◌, length, take, drop}
use Rattle.std.proofs.Common.{refl, sym, ◌∙◌, ap, subst, arith, length-append, append_assoc}
use Rattle.std.specs.Prelude.{get_or}
use Rattle.std.proofs.lemmas.List.{append-nil, take_more}
use Rattle.sector_disk.specs.declared.disk.Disk.{Ghosts}
use Rattle.sector_disk.specs.Trail.{Content}
use Rattle.event_bytes.specs.declared.event.Event.{Event}
use Rattle.desktop_definitions.specs.declared.reply.Reply.{Reply}
use Rattle.desktop_definitions.specs.Desktop.{Desktop}
use Rattle.desktop_definitions.specs.Step.{Outcome, steps}
use Rattle.document_filing.specs.Bringing.{Documents}
use Rattle.store_layout.specs.Meaning.{Standing}
use Rattle.store_slots.specs.Beside.{IsHistory}
use Rattle.store_slots.specs.Device.{IsSameDevice}
use Rattle.desk_journal.proofs.Behind.{next_led}
use Rattle.desk_journal.specs.Bringing.{AreBrought}
use Rattle.desk_journal.specs.Posting.{IsAcknowledged}
use Rattle.desk_journal.specs.Undoing.{IsLeft, IsLedOn}
use Rattle.desk_journal.specs.View.{StoreView}
use Rattle.desk_past.specs.Deeds.{PastDeed, after_deed, after_deeds, all_posted, brought, posted}
use Rattle.desk_past.proofs.Moments.{after_both, posted_both}
use Rattle.told_pasts.specs.Telling.{IsToldOn}
use Rattle.told_pasts.specs.Words.{deed_line, event_line, import_line, told_lines}

-- lines of deeds behind others
pub lines_both : (d : Desktop) (some more : List PastDeed)
    → told_lines d (some ++ more) ≡ told_lines d some ++ told_lines (after_deeds d some) more
lines_both d [] more = refl
lines_both d (deed ∷ some) more = ap (λ r. deed_line d deed ∷ r) (lines_both (after_deed d deed) some more)

module _ {D : Type 0} (d : Ghosts D) where
  pub none_told : (lines : List (List ℕ)) (store : StoreView D) → IsToldOn d [] lines lines store store
  none_told lines store = record { still = λ h. h; desktop = λ h. refl; lines = λ h. sym (append-nil lines) }

  -- what was told before, and what is told on
  pub both_told : {some all : List PastDeed} {first mid last : List (List ℕ)} {old new : StoreView D}
      (between : StoreView D) → IsToldOn d some first mid old between → IsToldOn d all mid last between new
      → IsToldOn d (some ++ all) first last old new
  both_told {some = some} {all = all} {first = first} {old = old} between was more = record {
    still = λ h. more.still (was.still h);
    desktop = λ h. more.desktop (was.still h) ∙ ap (λ x. after_deeds x all) (was.desktop h)
        ∙ sym (after_both old.desktop some all);
    lines = λ h.
        more.lines (was.still h)
        ∙ (λ i. was.lines h i ++ told_lines (was.desktop h i) all)
        ∙ append_assoc first (told_lines old.desktop some) (told_lines (after_deeds old.desktop some) all)
        ∙ ap (λ l. first ++ l) (sym (lines_both old.desktop some all));
  }

  -- an event more: its line, and then the event
  pub one_told : {old mid new : StoreView D} {event : Event} {reply : Reply} {lines more : List (List ℕ)}
      {line : List ℕ} → IsLeft d old mid → (d.honest old.disk → line ≡ event_line old.desktop event)
      → more ≡ lines ++ line ∷ []
      → IsSameDevice d mid.disk new.disk → IsAcknowledged d event reply mid new
      → IsToldOn d (posted event ∷ []) lines more old new
  one_told {old = old} {mid = mid} {new = new} {event = event} {lines = lines} left is added device ok =
      let led : IsLedOn d (event ∷ []) mid new =
      next_led d (event ∷ []) 0 (record { still = λ h. h; desktop = λ h. refl }) device (omega arith) refl ok in
      record {
        still = λ h. led.still (left.disk.device.still h);
        desktop = λ h. led.desktop (left.disk.device.still h) ∙ ap (λ x. steps x (event ∷ [])) (left.desktop h);
        lines = λ h. added ∙ ap (λ l. lines ++ l ∷ []) (is h);
      }

  pub next_told : {old between mid new : StoreView D} (events : List Event) (k : ℕ) {event : Event} {reply : Reply}
      {first lines more : List (List ℕ)} {line : List ℕ}
      → IsToldOn d (all_posted (take k events)) first lines old between → IsLeft d between mid
      → (d.honest between.disk → line ≡ event_line between.desktop event)
      → more ≡ lines ++ line ∷ [] → IsSameDevice d mid.disk new.disk → k < length events
      → event ≡ get_or events k event → IsAcknowledged d event reply mid new
      → IsToldOn d (all_posted (take (k + 1) events)) first more old new
  next_told {old = old} {between = between} {new = new} events k {event = event} {first = first} {more = more} was left
      is added device low here ok =
      subst (λ l. IsToldOn d l first more old new)
      (sym (ap all_posted (take_more events k event low ∙ ap (λ e. take k events ++ e ∷ []) (sym here))
      ∙ posted_both (take k events) (event ∷ [])))
      (both_told between was (one_told left is added device ok))

  -- an import: its line, and then its documents
  pub import_told : {old new : StoreView D} (documents : Documents) (reply : Reply) {lines more : List (List ℕ)}
      {line : List ℕ} → line ≡ import_line documents → more ≡ lines ++ line ∷ []
      → (d.honest old.disk → d.honest new.disk) → AreBrought d documents reply old new
      → IsToldOn d (brought documents ∷ []) lines more old new
  import_told documents reply {lines = lines} is added still ok = record {
    still = still;
    desktop = λ h. ap (λ (o : Outcome). o.desktop) (ok.brought.done h);
    lines = λ h. added ∙ ap (λ l. lines ++ l ∷ []) is;
  }

-- the events of the journal in use are the last ones of a history
pub own_last : (c : Content) (s : Standing) (events : List Event) → IsHistory c s events
    → (former : List Event) × (events ≡ former ++ s.events)
own_last c s events (IsHistory.alone none is) = ([], is)
own_last c s events (IsHistory.behind t before is) = (t.events, is)

drop_front : (former own : List Event) → drop (length former) (former ++ own) ≡ own
drop_front [] own = refl
drop_front (event ∷ former) own = drop_front former own

pub last_ones : (c : Content) (s : Standing) (events : List Event) (n : ℕ) → IsHistory c s events → n ≡ length s.events
    → (length events - n ≤ length events) × (drop (length events - n) events ≡ s.events)
last_ones c s events n has is =
    let own = own_last c s events has in
    let long = ap length own.1 in
    let first : length events - n ≡ length own.0 = omega (arith, long, is, length-append own.0 s.events) in (
      omega arith,
      (λ i. drop (first i) (own.1 i)) ∙ drop_front own.0 s.events,
    )
