-- The last events of the journal in use are taken back. `d` is what is known of a disk.
use Rattle.std.proofs.Common.{◌≡◌, ◌⊎◌, inl, inr, ◌≤◌, ℕ, List, [], ◌∷◌, ◌++◌, length, refl, sym, ◌∙◌, ap}
use Rattle.std.proofs.Common.{subst, arith, false, length-append}
use Rattle.std.proofs.lemmas.List.{append-nil}
use Rattle.sector_disk.specs.declared.disk.Disk.{Ghosts}
use Rattle.sector_disk.specs.Trail.{Content, now, LeavesOnly}
use Rattle.sector_disk.proofs.Touching.{at_last, read_is_an_image, spared, weakened}
use Rattle.sector_disk.proofs.Touching as touching
use Rattle.sector_disk.specs.Trail.{Nowhere}
use Rattle.event_bytes.specs.declared.event.Event.{Event}
use Rattle.desktop_definitions.specs.Desktop.{Desktop}
use Rattle.store_layout.specs.Finding.{StandingLaw}
use Rattle.store_layout.specs.Meaning.{Standing, Stands, and_all, desktop_of}
use Rattle.store_slots.specs.Beside.{IsRest, within, across}
use Rattle.store_slots.specs.Device.{StaysWithin}
use Rattle.desk_journal.specs.Undoing.{IsTakenBack, LeavesUndone}
use Rattle.desk_journal.specs.View.{StoreView, IsDurable}
use Rattle.past_pages.proofs.Told.{shown_as}
use Rattle.desk_past.specs.Past.{HoldsPages, KeepsAll, Remembers, Start, all_deeds}
use Rattle.desk_past.proofs.Carrying.{both_leave, past_of, written_kept}
use Rattle.desk_past.specs.Deeds.{PastDeed, all_posted}
use Rattle.desk_past.proofs.Moments.{joined, posted_both}

-- no more than there are in the journal in use: they are its last ones
pub rest_within : {c : Content} (events : List Event) (s rest : Standing) → length events ≤ length s.events
    → IsRest c events s rest → s ≡ and_all rest events
rest_within events s rest few (within same) = same
rest_within events s rest few (across t event more came is same) =
    let long = ap length same in absurd (omega (arith, few, long, length-append more s.events))

abbrev remembers_rest : {size size' : ℕ} {start : Start} {deeds : List PastDeed} {desktop : Desktop} {c c' : Content}
    (r : Remembers size start deeds desktop c) (rest : Standing) (back : List Event) → r.standing ≡ and_all rest back
    → size' ≡ size → Stands size' c' rest → HoldsPages c' start r.pages
    → Remembers size' start (all_deeds r.pages ++ all_posted rest.events) (desktop_of rest) c'
remembers_rest r rest back same large stands written = record {
  standing = rest;
  pages = r.pages;
  past = past_of rest r.past (sym (ap (λ x. x.past) same)) (sym (ap (λ x. x.start) same))
      (sym (ap (λ x. x.version) same)) large stands written;
  all = refl;
  is = refl;
}

rest_all : {size : ℕ} {start : Start} {deeds : List PastDeed} {desktop : Desktop} {c : Content}
    (r : Remembers size start deeds desktop c) (rest : Standing) (back : List Event) → r.standing ≡ and_all rest back
    → (all_deeds r.pages ++ all_posted rest.events) ++ all_posted back ≡ deeds
rest_all r rest back same = joined (all_deeds r.pages) (all_posted rest.events) (all_posted back)
    ∙ ap (λ l. all_deeds r.pages ++ l) (sym (posted_both rest.events back))
    ∙ ap (λ x. all_deeds r.pages ++ all_posted x.events) (sym same) ∙ r.all

module _ {D : Type 0} (d : Ghosts D) {start : Start} {deeds : List PastDeed} {desktop : Desktop}
    {old : StoreView D} (was : KeepsAll d start deeds desktop old) (honest : d.honest old.disk)
    (quiet : (n : ℕ) → (now (d.trail old.disk)).pending n ≡ false) where
  abbrev s : Standing
  s = was.remembers.standing

  -- nothing was written
  pub none_undone : (count : ℕ) → (left : List PastDeed) × (back : List Event) × (before : Desktop)
      × (left ++ all_posted back ≡ deeds) × (length back ≤ count)
      × LeavesOnly (d.trail old.disk) (d.trail old.disk) (λ c. Remembers (d.size old.disk) start left before c
      ⊎ Remembers (d.size old.disk) start deeds desktop c)
  none_undone count = (
    deeds,
    [],
    desktop,
    append-nil deeds,
    omega arith,
    spared (λ c. Remembers (d.size old.disk) start deeds desktop c ⊎ Remembers (d.size old.disk) start deeds desktop c)
        quiet (touching.stays_put Nowhere (d.trail old.disk))
        (λ c same. inr (subst (Remembers (d.size old.disk) start deeds desktop) (sym (λ i n. same n (λ none. none) i))
        was.remembers)),
  )

  module _ (new : StoreView D) (law : StandingLaw) (durable : IsDurable d old) (count : ℕ) (low : count ≤ old.events)
      (inside : StaysWithin d old.disk new.disk) where
    pages_there : LeavesOnly (d.trail old.disk) (d.trail new.disk) (λ c. HoldsPages c start was.remembers.pages)
    pages_there = written_kept was.remembers.pages start was.behind (λ n far. quiet n) (inside.moments honest)
        (λ n low high store. omega (arith, low, was.behind, store)) was.remembers.past.written

    many : length s.events ≡ old.events
    many = (shown_as (now (d.trail old.disk)) s law (durable honest) was.remembers.past.stands).events

    pub some_undone : LeavesUndone d count old new → (left : List PastDeed) × (back : List Event) × (before : Desktop)
        × (left ++ all_posted back ≡ deeds) × (length back ≤ count)
        × LeavesOnly (d.trail old.disk) (d.trail new.disk) (λ c. Remembers (d.size old.disk) start left before c
        ⊎ Remembers (d.size old.disk) start deeds desktop c)
    some_undone undone =
        let x = undone was.usable honest s was.remembers.past.stands in
        let same = rest_within x.0 s x.1 (omega (arith, x.2, low, many)) x.3.is_rest in (
          all_deeds was.remembers.pages ++ all_posted x.1.events,
          x.0,
          desktop_of x.1,
          rest_all was.remembers x.1 x.0 same,
          x.2,
          weakened (both_leave x.3.any_moment pages_there) (λ c y. elim y.0 [
            | inl back ↦ inl (remembers_rest was.remembers x.1 x.0 same refl back y.1)
            | inr still ↦ inr (record {
              standing = s;
              pages = was.remembers.pages;
              past = past_of s was.remembers.past refl refl refl refl still y.1;
              all = was.remembers.all;
              is = was.remembers.is;
            })
          ]),
        )

    pub others_kept : {back : List Event} → IsTakenBack d count back old new
        → (left : List PastDeed) × (before : Desktop) × (left ++ all_posted back ≡ deeds) × KeepsAll d start left before
        new
    others_kept {back = back} taken =
        let x = taken.back honest s was.remembers.past.stands in
        let same = rest_within back s x.0 (omega (arith, taken.few, low, many)) x.1.leaves.is_rest in (
          all_deeds was.remembers.pages ++ all_posted x.0.events,
          desktop_of x.0,
          rest_all was.remembers x.0 back same,
          record {
            usable = taken.usable;
            behind = was.behind;
            remembers = remembers_rest was.remembers x.0 back same inside.as_large x.1.left
                (at_last pages_there (now (d.trail new.disk)).reads (read_is_an_image (now (d.trail new.disk))));
          },
        )
