-- A deed whose page was written ahead, behind a call that only reads. `d` is what is known of a disk.
use Rattle.std.proofs.Common.{◌≡◌, ◌⊎◌, inl, ◌+◌, ℕ, List, [], ◌∷◌, ◌++◌, subst, false}
use Rattle.sector_disk.specs.declared.disk.Disk.{Ghosts}
use Rattle.sector_disk.specs.Trail.{LeavesOnly}
use Rattle.sector_disk.proofs.Touching.{chained, weakened}
use Rattle.desktop_definitions.specs.Desktop.{Desktop}
use Rattle.store_layout.specs.declared.head.PastEnd.{PastEnd}
use Rattle.desk_journal.specs.Behind.{GoesToNextWith, LeavesNextWith, StaysBehind}
use Rattle.desk_journal.specs.View.{StoreView}
use Rattle.past_pages.specs.Page.{Page}
use Rattle.past_pages.specs.Reading.{IsOnlyReadFrom, IsQuiet}
use Rattle.desk_past.specs.Ahead.{IsAhead}
use Rattle.desk_past.specs.Deeds.{PastDeed, after_deed}
use Rattle.desk_past.specs.Past.{deeds_in, IsTurn, KeepsAll, Remembers, Start}
use Rattle.desk_past.proofs.Brought.{done_from, done_keeps, done_moments}
use Rattle.desk_past.proofs.Remembering.{ahead_still, read_moments}

-- at every moment a crash leaves what there was, or the deed, too
abbrev pub LeavesDone : {D : Type 0} (d : Ghosts D) → ℕ → Start → List PastDeed → Desktop → PastDeed → D → D → Type 0
LeavesDone d size start deeds desktop deed old new = LeavesOnly (d.trail old) (d.trail new)
    (λ c. Remembers size start deeds desktop c ⊎ Remembers size start (deeds ++ deed ∷ []) (after_deed desktop deed) c)

-- `p` is the page of the deed
module _ {D : Type 0} (d : Ghosts D) (p : Page) (deed : PastDeed) (one : deeds_in p ≡ deed ∷ []) {start : Start}
    {deeds : List PastDeed} {desktop : Desktop} {old mid : StoreView D} (keeps : KeepsAll d start deeds desktop old)
    (turn : IsTurn start deeds p) (honest : d.honest old.disk) (quiet : IsQuiet d old)
    (still : IsOnlyReadFrom d old mid) (second : IsQuiet d mid) (past : PastEnd) (from limit : ℕ) (bytes : List ℕ)
    (ahead : IsAhead d p past from limit bytes keeps) (new : StoreView D)
    (within : StaysBehind d from limit mid.disk new.disk) where
  pub moments_over : LeavesNextWith d (done_from past deed) from bytes mid new
      → LeavesDone d (d.size old.disk) start deeds desktop deed old.disk new.disk
  moments_over next =
      chained (weakened (read_moments d keeps honest quiet mid still.left.disk) (λ c r. inl r))
      (subst (λ n. LeavesDone d n start deeds desktop deed mid.disk new.disk) still.left.disk.device.as_large
      (ahead_still d keeps honest quiet mid still.left.disk still.usable p past from limit bytes ahead
      (λ was there. done_moments d p deed one was turn there (still.left.disk.device.still honest) second new within
      next)))

  pub keeps_over : new.must_reopen ≡ false → GoesToNextWith d (done_from past deed) from bytes mid new
      → KeepsAll d start (deeds ++ deed ∷ []) (after_deed desktop deed) new
  keeps_over usable goes =
      ahead_still d keeps honest quiet mid still.left.disk still.usable p past from limit bytes ahead (λ was there.
      done_keeps d p deed one was turn there (still.left.disk.device.still honest) second new within usable goes)
