-- What one call leaves of a past. `d` is what is known of a disk.
use Rattle.std.proofs.Common.{◌≡◌, ◌⊎◌, inl, inr, ◌+◌, ◌-◌, ℕ, List, [], ◌∷◌, length, refl, sym, ◌∙◌, ap}
use Rattle.std.proofs.Common.{subst, arith}
use Rattle.std.proofs.lemmas.List.{take_all}
use Rattle.sector_disk.specs.declared.disk.Disk.{Ghosts}
use Rattle.sector_disk.specs.Trail.{Content, IsCrashImage, LeavesOnly, now}
use Rattle.sector_disk.proofs.Touching.{at_last, read_is_an_image, weakened}
use Rattle.desktop_definitions.specs.Desktop.{Desktop}
use Rattle.desk_journal.specs.Device.{IsSameDevice}
use Rattle.desk_journal.specs.View.{StoreView}
use Rattle.past_pages.specs.Reading.{IsQuiet}
use Rattle.desk_past.specs.Deeds.{PastDeed, after_deeds, brought, posted, turned}
use Rattle.desk_past.specs.Past.{KeepsAll, Remembers, Start}
use Rattle.desk_past.specs.Turning.{PastOf}
use Rattle.desk_past.proofs.Moments.{the_present}
use Rattle.past_runs.specs.Calls.{Asks, HasDone, RemembersPast, KeepsAmid, KeepsDeeds, LeadsPast, LeavesPast, Past, PastCall, begins}
use Rattle.past_runs.specs.Calls.{begun_behind, brings, ends, looks, posts, posts_over, present, takes_back, turns, turns_to, was_then, with_deeds}

-- what a past shows is what its deeds led to
is_present : {size : ℕ} {start : Start} {deeds : List PastDeed} {desktop : Desktop} {c : Content}
    → Remembers size start deeds desktop c → after_deeds start.desktop deeds ≡ desktop
is_present {start = start} {deeds = deeds} r =
    ap (after_deeds start.desktop) (sym (take_all (start.before + length deeds - start.before) deeds (omega arith)))
    ∙ the_present r

pub has_past : {size : ℕ} {start : Start} {deeds : List PastDeed} {desktop : Desktop} {c : Content}
    → Remembers size start deeds desktop c → RemembersPast size (record { start = start; deeds = deeds }) c
has_past {size = size} {start = start} {deeds = deeds} {c = c} r =
    subst (λ x. Remembers size start deeds x c) (sym (is_present r)) r

pub keeps_past : {D : Type 0} (d : Ghosts D) {start : Start} {deeds : List PastDeed} {desktop : Desktop}
    {store : StoreView D} → KeepsAll d start deeds desktop store
    → KeepsDeeds d (record { start = start; deeds = deeds }) store
keeps_past d {start = start} {deeds = deeds} {store = store} keeps =
    subst (λ x. KeepsAll d start deeds x store) (sym (is_present keeps.remembers)) keeps

module _ {D : Type 0} (d : Ghosts D) (past : Past) (old new : StoreView D) (honest : d.honest old.disk)
    (keeps : KeepsDeeds d past old) where
  abbrev size : ℕ
  size = d.size old.disk

  abbrev the_past : PastOf d old
  the_past = record {
    start = past.start;
    deeds = past.deeds;
    desktop = present past;
    keeps = keeps;
    honest = honest;
  }

  -- this past, or one that is told with its desktop
  or_that : (after : Past) (desktop : Desktop) → LeavesOnly (d.trail old.disk) (d.trail new.disk)
      (λ c. RemembersPast size past c ⊎ Remembers size after.start after.deeds desktop c)
      → LeavesOnly (d.trail old.disk) (d.trail new.disk) (λ c. RemembersPast size past c ⊎ RemembersPast size after c × Unit {0})
  or_that after desktop leaves = weakened leaves (λ c either. elim either [
    | inl this ↦ inl this
    | inr that ↦ inr (has_past that, tt)
  ])

  -- what a crash leaves now, where nothing is pending
  as_it_was : IsQuiet d old → (c : Content) → IsCrashImage (now (d.trail old.disk)) c → RemembersPast size past c
  as_it_was quiet c image = subst (RemembersPast size past) (λ i n. sym (image n (quiet n)) i) keeps.remembers

  -- at each moment of the call
  pub left_amid : (call : PastCall) → Asks d call past old keeps → KeepsAmid d call old new
      → LeavesPast d call past old new
  left_amid (posts event) room amid = (
    with_deeds past (posted event ∷ []),
    refl,
    or_that (with_deeds past (posted event ∷ [])) _ (amid honest past.start past.deeds (present past) keeps room),
  )
  left_amid (posts_over event) room amid =
      weakened (amid honest past.start past.deeds (present past) keeps room) (λ c either. elim either [
        | inl this ↦ inl this
        | inr rest ↦ elim rest [
          | inl more ↦ inr (with_deeds past (posted event ∷ []), inl (inl refl), has_past more, inl refl)
          | inr over ↦ let base = over.0 in elim over.1 [
            | inl from ↦ inr (begun_behind past base, inr (base, refl), from.anew, inr from.former)
            | inr by ↦ inr (
              with_deeds (begun_behind past base) (posted event ∷ []),
              inl (inr (base, refl)),
              has_past by.anew,
              inr by.former,
            )
          ]
        ]
      ])
  left_amid (brings documents) room amid = (
    with_deeds past (brought documents ∷ []),
    refl,
    or_that (with_deeds past (brought documents ∷ [])) _ (amid honest past.start past.deeds (present past) keeps room),
  )
  left_amid (turns_to k to) room amid = (
    with_deeds past (turned to ∷ []),
    refl,
    or_that (with_deeds past (turned to ∷ [])) to (amid the_past (record { there = room.0; is = room.1 })),
  )
  left_amid (turns k) room amid = (
    with_deeds past (turned (was_then past k) ∷ []),
    refl,
    or_that (with_deeds past (turned (was_then past k) ∷ [])) (was_then past k) (amid the_past room),
  )
  left_amid (takes_back count back) room amid =
      let x = amid honest past.start past.deeds (present past) keeps in (
        record { start = past.start; deeds = x.0 },
        (x.1, x.4, λ i. record { start = past.start; deeds = sym x.3 i }),
        weakened x.5 (λ c either. elim either [
          | inl that ↦ inr (has_past that, tt)
          | inr this ↦ inl this
        ]),
      )
  left_amid ends room amid =
      (past, refl, weakened (amid honest past.start past.deeds (present past) keeps) (λ c this. inl this))
  left_amid (begins base) room amid = (
    begun_behind past base,
    refl,
    weakened (amid honest past.start past.deeds (present past) keeps room) (λ c either. elim either [
      | inl this ↦ inl this
      | inr that ↦ inr (that.anew, that.former)
    ]),
  )
  left_amid looks room amid = (past, refl, weakened (amid.unwritten honest) (λ c image. inl (as_it_was room c image)))

  -- where it was done
  pub led_by : (call : PastCall) → Asks d call past old keeps → IsSameDevice d old.disk new.disk
      → HasDone d call old new → (after : Past) × LeadsPast call past after × KeepsDeeds d after new
  led_by (posts event) room device done = (
    with_deeds past (posted event ∷ []),
    refl,
    keeps_past d (done honest past.start past.deeds (present past) keeps room),
  )
  led_by (posts_over event) room device done =
      elim (done honest past.start past.deeds (present past) keeps room) [
        | inl here ↦ (with_deeds past (posted event ∷ []), inl refl, keeps_past d here)
        | inr over ↦ (
          with_deeds (begun_behind past over.base) (posted event ∷ []),
          inr (over.base, refl),
          keeps_past d over.keeps,
        )
      ]
  led_by (brings documents) room device done = (
    with_deeds past (brought documents ∷ []),
    refl,
    keeps_past d (done.done refl honest past.start past.deeds (present past) keeps room),
  )
  led_by (turns_to k to) room device done = (
    with_deeds past (turned to ∷ []),
    refl,
    keeps_past d (done the_past (record { there = room.0; is = room.1 })),
  )
  led_by (turns k) room device done = (
    with_deeds past (turned (was_then past k) ∷ []),
    refl,
    keeps_past d (done the_past room).1,
  )
  led_by (takes_back count back) room device done =
      let x = done honest past.start past.deeds (present past) keeps in (
        record { start = past.start; deeds = x.0 },
        λ i. record { start = past.start; deeds = sym x.2 i },
        keeps_past d x.3,
      )
  led_by ends room device done = (past, refl, done honest past.start past.deeds (present past) keeps)
  led_by (begins base) room device done =
      let begun = done.0 honest in
      let behind = done.1 honest past.start past.deeds (present past) keeps room in (
        begun_behind past base,
        refl,
        record {
          usable = begun.keeps.usable;
          behind = begun.keeps.behind;
          remembers = subst (λ n. RemembersPast n (begun_behind past base) (now (d.trail new.disk)).reads)
              (sym device.as_large) behind.anew;
        },
      )
  led_by looks room device done =
      let read = at_last (done.left.disk.unwritten honest) (now (d.trail new.disk)).reads
      (read_is_an_image (now (d.trail new.disk))) in (
        past,
        refl,
        record {
          usable = done.usable;
          behind = keeps.behind;
          remembers = subst (λ n. RemembersPast n past (now (d.trail new.disk)).reads) (sym device.as_large)
              (as_it_was room (now (d.trail new.disk)).reads read);
        },
      )
