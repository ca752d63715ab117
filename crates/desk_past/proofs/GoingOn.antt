-- A past that goes on where a sitting begins. `d` is what is known of a disk.
use Rattle.std.proofs.Common.{◌≡◌, ◌⊎◌, inl, inr, ◌+◌, ◌^◌, ◌<◌, ◌≤◌, ℕ, List, [], arith, false, sym, ap, subst, refl}
use Rattle.sector_disk.specs.declared.disk.Disk.{Ghosts}
use Rattle.sector_disk.specs.Trail.{LeavesOnly}
use Rattle.sector_disk.proofs.Touching.{chained, weakened}
use Rattle.desktop_definitions.specs.Desktop.{Desktop}
use Rattle.store_layout.specs.declared.layout.TheConstants.{STORE_SECTORS}
use Rattle.store_layout.specs.declared.head.PastEnd.{PastEnd}
use Rattle.desk_journal.specs.Checkpointing.{LeavesDesktop}
use Rattle.desk_journal.specs.View.{StoreView, IsDurable}
use Rattle.past_pages.specs.Parts.{LiesBeside, IsPastPart}
use Rattle.past_pages.specs.Reading.{IsOnlyReadFrom, IsQuiet}
use Rattle.desk_past.specs.Beginning.{ForgetsNoneBefore, GoesOnFrom, IsApart, begun_at}
use Rattle.desk_past.specs.Deeds.{PastDeed}
use Rattle.desk_past.specs.Going.{BeginsIn, ForgetsNone, LiesInPart}
use Rattle.desk_past.specs.Past.{KeepsAll, Remembers, Start}
use Rattle.desk_past.proofs.Begun.{aside_read, desktop_spared, desktop_then, spared_read}
use Rattle.desk_past.proofs.Remembering.{apart_still, read_moments}
use Rattle.desk_past.proofs.Rooms.{behind_start}

-- ---- reads, and a past that begins behind them

module _ {D : Type 0} (d : Ghosts D) where
  pub leaves_read : (old new : StoreView D) → (old.must_reopen ≡ false → IsDurable d old)
      → (old.must_reopen ≡ false → d.honest old.disk → IsQuiet d old) → IsOnlyReadFrom d old new
      → LeavesDesktop d old new
  leaves_read old new durable quiet still = desktop_spared d STORE_SECTORS 0 old new (omega arith) durable
      (spared_read d STORE_SECTORS 0 still.left.disk quiet)

  pub forgets_read : (old new : StoreView D) → (old.must_reopen ≡ false → d.honest old.disk → IsQuiet d old)
      → IsOnlyReadFrom d old new → ForgetsNone d old new
  forgets_read old new quiet still honest start deeds desktop keeps lies =
      weakened (read_moments d keeps honest (quiet keeps.usable honest) new still.left.disk) (λ c was. inl was)

  pub leaves_begun : {old mid : StoreView D} (new : StoreView D) → (old.must_reopen ≡ false → IsDurable d old)
      → (old.must_reopen ≡ false → d.honest old.disk → IsQuiet d old) → IsOnlyReadFrom d old mid
      → LeavesDesktop d mid new → LeavesDesktop d old new
  leaves_begun {old = old} {mid = mid} new durable quiet still begun =
      desktop_then d new still.left.disk.device (leaves_read old mid durable quiet still) (aside_read d still) begun

  pub begins_then : {base : ℕ} {old mid : StoreView D} (new : StoreView D) → IsOnlyReadFrom d old mid
      → BeginsIn d base mid new → BeginsIn d base old new
  begins_then {base = base} {old = old} {mid = mid} new still begins honest =
      let at = begins (still.left.disk.device.still honest) in (
        at.0,
        subst (λ desktop. KeepsAll d (begun_at desktop at.0 base) [] desktop new) (still.left.desktop honest) at.1,
      )

  module _ {start : Start} {deeds : List PastDeed} {desktop : Desktop} {old mid : StoreView D} (new : StoreView D)
      (keeps : KeepsAll d start deeds desktop old) (honest : d.honest old.disk) (quiet : IsQuiet d old)
      (still : IsOnlyReadFrom d old mid) where
    pub forgets_begun : (base : ℕ) → ForgetsNoneBefore d base mid new → IsApart d base keeps
        → LeavesOnly (d.trail old.disk) (d.trail new.disk)
        (λ c. Remembers (d.size old.disk) start deeds desktop c
        ⊎ ((base : ℕ) × GoesOnFrom (d.size old.disk) base start deeds desktop c))
    forgets_begun base forgets apart =
        chained (weakened (read_moments d keeps honest quiet mid still.left.disk) (λ c was. inl was))
        (apart_still d keeps honest quiet mid still.left.disk still.usable base apart (λ now_keeps now_apart.
        weakened (subst (λ n. LeavesOnly (d.trail mid.disk) (d.trail new.disk)
        (λ c. Remembers n start deeds desktop c ⊎ GoesOnFrom n base start deeds desktop c))
        still.left.disk.device.as_large
        (forgets (still.left.disk.device.still honest) start deeds desktop now_keeps now_apart))
        (λ c x. elim x [
          | inl was ↦ inl was
          | inr on ↦ inr (base, on)
        ])))
