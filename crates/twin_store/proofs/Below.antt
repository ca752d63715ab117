-- A meaning depends on the sectors of a store alone.
use Rattle.std.proofs.Common.{◌≡◌, inl, inr, ℕ, ◌+◌, ◌<◌, ◌≤◌, List, length, sym, ◌∙◌, ap, arith}
use Rattle.sector_disk.specs.Trail.{Content}
use Rattle.event_bytes.specs.declared.event.Event.{Event}
use Rattle.desktop_definitions.specs.Desktop.{Desktop}
use Rattle.desktop_definitions.specs.Limits.{most_written}
use Rattle.store_layout.specs.declared.layout.TheConstants.{AREA_SECTORS, JOURNAL_EVENTS, LABEL, STORE_SECTORS}
use Rattle.store_layout.specs.Layout.{is_open, slot_gate, slot_head, gate, body, image_at, area_at, head}
use Rattle.store_layout.specs.Meaning.{Standing, Stands, Means, MeansEither, full_sectors}
use Rattle.store_layout.proofs.StandingLaws.{standing_carried, older_stays, journal_stays, journal_short}
use Rattle.desk_journal.specs.Prefixes.{MeansPrefix}
use Rattle.twin_store.specs.Legs.{IsOfFirst}

full_below : (w k : ℕ) → w ≤ most_written → k < full_sectors w → k < AREA_SECTORS
full_below w k few within = omega (arith, few, within)

standing_below : {size : ℕ} (c c' : Content) (s : Standing) → Stands size c s
    → ((n : ℕ) → n < STORE_SECTORS → c' n ≡ c n) → Stands size c' s
standing_below c c' s was same =
    let two = was.two in
    let short : 0 + length s.events ≤ JOURNAL_EVENTS = journal_short s.events c s.slot 0 (omega arith) was.journal in
    standing_carried c c' s was
    (same LABEL (omega arith))
    (ap is_open (same (slot_gate s.slot) (omega (arith, two))) ∙ was.live)
    (same (slot_head s.slot) (omega (arith, two)))
    (λ idle one opened.
    let opened_before = sym (ap is_open (same (slot_gate idle) (omega (arith, one)))) ∙ opened in
    older_stays c c' s.epoch idle (same (slot_head idle) (omega (arith, one))) (was.other idle one opened_before))
    (λ k within. same (image_at s.slot + k) (let few = was.good.extent in omega (arith, two, within, few)))
    (λ k within. same (area_at (head c s.slot).area k)
    (let low = full_below (head c s.slot).written k was.good.written within in
    let one = was.good.area in omega (arith, low, one)))
    (journal_stays s.events c c' s.slot 0 (length s.events) (omega arith)
    (λ i low high room. same (gate s.slot i) (omega (arith, two, room)))
    (λ i low high. same (body s.slot i) (omega (arith, two, high, short)))
    was.journal)

pub means_below : (size : ℕ) (desktop : Desktop) → IsOfFirst size (Means size desktop)
means_below size desktop c c' same m =
    (m.0, standing_below c c' m.0 m.1 (λ n low. sym (same n (let large = m.1.large in omega (arith, low, large)))), m.2)

pub either_below : (size : ℕ) (before after : Desktop) → IsOfFirst size (MeansEither size before after)
either_below size before after c c' same m = elim m [
  | inl means ↦ inl (means_below size before c c' same means)
  | inr means ↦ inr (means_below size after c c' same means)
]

pub prefix_below : (size : ℕ) (desktop : Desktop) (acknowledged events : List Event)
    → IsOfFirst size (MeansPrefix size desktop acknowledged events)
prefix_below size desktop acknowledged events c c' same m = record {
  count = m.count;
  none_lost = m.none_lost;
  within = m.within;
  means = means_below size _ c c' same m.means;
}
