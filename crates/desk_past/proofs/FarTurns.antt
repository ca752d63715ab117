-- A turn to a desktop of which the page has it. `d` is what is known of a disk.
use Rattle.std.proofs.Common.{◌≡◌, inl, inr, ℕ, List, refl, subst, true, false, sym, ◌∙◌}
use Rattle.sector_disk.specs.declared.disk.Disk.{Ghosts}
use Rattle.sector_disk.proofs.Touching.{chained, weakened}
use Rattle.desktop_definitions.specs.Desktop.{Desktop}
use Rattle.store_layout.specs.declared.head.PastEnd.{PastEnd}
use Rattle.desk_journal.specs.Behind.{GoesToNextWith, LeavesNextWith, StaysBehind, turned_from}
use Rattle.desk_journal.specs.Gathering.{GatheredView}
use Rattle.desk_journal.specs.Turning.{IsTurnedTo, LeavesThisOrThat}
use Rattle.desk_journal.specs.View.{StoreView, IsDurable}
use Rattle.past_pages.specs.Marks.{IsCopyPage}
use Rattle.past_pages.specs.Page.{Page, IsGoodPage, copy_of, page_bytes}
use Rattle.past_pages.specs.Reading.{IsOnlyReadFrom, IsQuiet}
use Rattle.desk_past.specs.Ahead.{CanAdd, IsAhead}
use Rattle.desk_past.specs.Deeds.{PastDeed, turned}
use Rattle.desk_past.specs.Past.{KeepsAll, Start}
use Rattle.desk_past.specs.Turning.{CanAddCopy, CanTurnFar, HasTurnedFar, KeepsTurned, LeavesFar, LeavesTurned, PastOf, WasThenAt}
use Rattle.desk_past.proofs.OverPages.{LeavesDone, keeps_over, moments_over}
use Rattle.desk_past.proofs.Remembering.{read_moments}
use Rattle.desk_past.proofs.TurnWays.{shown_behind, turned_then}
use Rattle.desk_past.proofs.TurnedBack.{add_still, past_behind}

module _ {D : Type 0} (d : Ghosts D) {old mid : StoreView D} (still : IsOnlyReadFrom d old mid)
    (quiet : old.must_reopen ≡ false → d.honest old.disk → IsQuiet d old) where
  -- nothing was written
  pub none_far : (to : Desktop) (past : PastOf d old) → LeavesTurned d to past mid
  none_far to past =
      weakened (read_moments d past.keeps past.honest (quiet past.keeps.usable past.honest) mid still.left.disk)
      (λ c r. inl r)

  -- another desktop comes then, whose page was written ahead of it
  module _ (to : Desktop) {page slice : List ℕ} (copy : IsCopyPage true to page) (is : slice ≡ page) (told : PastEnd)
      (from limit : ℕ) {bytes made : List ℕ} (new : StoreView D)
      (second : mid.must_reopen ≡ false → d.honest mid.disk → IsQuiet d mid)
      (within : StaysBehind d from limit mid.disk new.disk) (same : bytes ≡ made)
      (pages : d.honest old.disk → (start : Start) (deeds : List PastDeed) (desktop : Desktop) (p : Page)
      → (keeps : KeepsAll d start deeds desktop old) → slice ≡ page_bytes p → IsGoodPage p
      → IsAhead d p told from limit made keeps) where
    abbrev far : Page
    far = copy_of true copy.sectors to

    ahead : (past : PastOf d old) → IsAhead d far told from limit bytes past.keeps
    ahead past = subst (λ l. IsAhead d far told from limit l past.keeps) (sym same)
        (pages past.honest past.start past.deeds past.desktop far past.keeps (is ∙ copy.are) copy.good)

    pub far_moments : LeavesNextWith d (turned_from told to) from bytes mid new → (past : PastOf d old)
        → LeavesTurned d to past new
    far_moments next past =
        moments_over d far (turned to) refl past.keeps tt past.honest (quiet past.keeps.usable past.honest) still
        (second still.usable (still.left.disk.device.still past.honest)) told from limit bytes (ahead past) new within
        next

    pub far_keeps : new.must_reopen ≡ false → GoesToNextWith d (turned_from told to) from bytes mid new
        → (past : PastOf d old) → KeepsTurned d to past new
    far_keeps usable goes past =
        keeps_over d far (turned to) refl past.keeps tt past.honest (quiet past.keeps.usable past.honest) still
        (second still.usable (still.left.disk.device.still past.honest)) told from limit bytes (ahead past) new within
        usable goes

  -- ---- behind reads that found the desktop of a moment

  pub far_behind : (k : ℕ) (to : Desktop) (new : StoreView D) → (old.must_reopen ≡ false → IsDurable d old)
      → WasThenAt d k to old → LeavesThisOrThat d to mid new
      → ((past : PastOf d mid) → LeavesTurned d to past new) → LeavesFar d k old new
  far_behind k to new durable was either turns = record {
    to = to;
    was = was;
    either = shown_behind d still durable quiet to new either;
    past = λ past. chained (none_far to past)
        (subst (λ n. LeavesDone d n past.start past.deeds past.desktop (turned to) mid.disk new.disk)
        still.left.disk.device.as_large (turns (past_behind d still quiet past)));
  }

  pub far_kept : (k : ℕ) (to : GatheredView) (new : StoreView D) → WasThenAt d k to.desktop old
      → IsTurnedTo d to mid new → ((past : PastOf d mid) → KeepsTurned d to.desktop past new) → HasTurnedFar d k old new
  far_kept k to new was came has = record {
    to = to;
    was = was;
    shows = turned_then d still to came;
    past = λ past. has (past_behind d still quiet past);
  }

  -- there was no room for the page
  pub none_far_can : (k : ℕ) (to : Desktop) → WasThenAt d k to old
      → (((past : PastOf d mid) × CanAddCopy d to past) → ⊥) → CanTurnFar d k old → ⊥
  none_far_can k to was none can =
      let is : can.to ≡ to = elim can.there [
        | inl at ↦ at.is ∙ sym (was.in_use can.past can.lies at.there)
        | inr over ↦ sym (was.over_parts can.past can.lies over.0 over.1 can.to over.2)
      ] in
      none (
        past_behind d still quiet can.past,
        λ sectors few good.
            add_still d can.past.keeps can.past.honest (quiet can.past.keeps.usable can.past.honest) still
            (copy_of true sectors to)
            (subst (λ x. CanAdd d (copy_of true sectors x) can.past.keeps) is
            (can.add sectors few (subst (λ x. IsGoodPage (copy_of true sectors x)) (sym is) good))),
      )
