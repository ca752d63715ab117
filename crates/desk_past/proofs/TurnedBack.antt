-- A turn to a desktop that was worked out by calls that only read. `d` is what is known of a disk.
use Rattle.std.proofs.Common.{◌≡◌, inl, inr, ◌+◌, ◌<◌, ◌≤◌, ℕ, List, subst, arith, refl, true, false, sym, ◌∙◌}
use Rattle.std.specs.Prelude.{Bool, Result, Ok, Err, IfErr, IfOk, OnOk}
use Rattle.sector_disk.specs.declared.disk.Disk.{Ghosts}
use Rattle.sector_disk.specs.Faults.{FailsAs}
use Rattle.sector_disk.proofs.Touching.{chained, weakened}
use Rattle.desktop_definitions.specs.Desktop.{Desktop}
use Rattle.store_layout.specs.declared.layout.TheConstants.{STORE_SECTORS}
use Rattle.store_slots.specs.Device.{IsOnlyRead}
use Rattle.store_slots.specs.Errors.{OfLook}
use Rattle.store_slots.specs.declared.error.Error.{Error}
use Rattle.store_slots.specs.declared.error.Error.TheVariants.{Fault}
use Rattle.desk_journal.specs.Gathering.{GatheredView}
use Rattle.desk_journal.specs.Looking.{OnlyLooks}
use Rattle.desk_journal.specs.Undoing.{IsLeft}
use Rattle.desk_journal.specs.View.{StoreView}
use Rattle.past_pages.specs.Parts.{IsPastPart}
use Rattle.past_pages.specs.Page.{Page, turn_of}
use Rattle.past_pages.specs.Reading.{IsOnlyReadFrom, IsQuiet}
use Rattle.past_pages.proofs.StillReads.{read_twice}
use Rattle.desk_past.specs.Ahead.{CanAdd}
use Rattle.desk_past.specs.Deeds.{PastDeed, turned}
use Rattle.desk_past.specs.Errors.{OfMoment}
use Rattle.desk_past.specs.Going.{LiesInPart}
use Rattle.desk_past.specs.Past.{KeepsAll, Start}
use Rattle.desk_past.specs.Turning.{CanTurnTo, ComesToMoment, HasTurnedBack, HasTurnedTo, KeepsTurned, LeavesTurned}
use Rattle.desk_past.specs.Turning.{PastOf, StaysUnturned, TurnsBack, TurnsTo, WasAt}
use Rattle.desk_past.proofs.OverPages.{LeavesDone}
use Rattle.desk_past.proofs.Remembering.{read_keeps, read_moments}
use Rattle.desk_past.proofs.Rooms.{behind_start}

-- ---- looks

pub left_looked : {D T : Type 0} (d : Ghosts D) (result : Result T Error) {old new : StoreView D}
    → OnlyLooks d result old new → IsLeft d old new
left_looked d result looks = record {
  desktop = looks.desktop;
  kept = looks.kept;
  layout = looks.layout;
  epoch = looks.epoch;
  events = looks.events;
  disk = looks.disk;
}

pub left_twice : {D : Type 0} (d : Ghosts D) {old mid new : StoreView D} → IsLeft d old mid → IsLeft d mid new
    → IsLeft d old new
left_twice d first second = record {
  desktop = λ honest. second.desktop (first.disk.device.still honest) ∙ first.desktop honest;
  kept = second.kept ∙ first.kept;
  layout = second.layout ∙ first.layout;
  epoch = second.epoch ∙ first.epoch;
  events = second.events ∙ first.events;
  disk = read_twice d first.disk second.disk;
}

-- ---- a past that has room lies in a part

pub lies_there : {D : Type 0} (d : Ghosts D) {start : Start} {deeds : List PastDeed} {desktop : Desktop}
    {store : StoreView D} {keeps : KeepsAll d start deeds desktop store} (p : Page) → CanAdd d p keeps
    → LiesInPart d keeps
lies_there d p can = record {
  end = can.end;
  part = can.part;
  within = omega (arith, can.room.pages);
}

-- in which its pages go on
pub part_found : {D : Type 0} (d : Ghosts D) {store : StoreView D} (past : PastOf d store)
    (lies : LiesInPart d past.keeps) {sectors next : ℕ} {X : ℕ → ℕ → Type 0} → sectors ≡ d.size store.disk
    → next ≡ past.keeps.remembers.standing.past.next
    → ((base end : ℕ) → IsPastPart sectors base end → base + STORE_SECTORS ≤ next → next ≤ end → X base end)
    → X past.start.base lies.end
part_found d past lies large told all = all past.start.base lies.end
    (subst (λ n. IsPastPart n past.start.base lies.end) (sym large) lies.part)
    (omega (arith, behind_start d past.keeps, told)) (omega (arith, lies.within, told))

-- and what a past can take it can take behind a call that only reads
pub add_still : {D : Type 0} (d : Ghosts D) {start : Start} {deeds : List PastDeed} {desktop : Desktop}
    {old mid : StoreView D} (was : KeepsAll d start deeds desktop old) (honest : d.honest old.disk)
    (quiet : IsQuiet d old) (still : IsOnlyReadFrom d old mid) (p : Page) → CanAdd d p was
    → CanAdd d p (read_keeps d was honest quiet {new = mid} still.left.disk still.usable)
unfolding read_keeps
add_still d {start = start} was honest quiet still p can = record {
  end = can.end;
  part = subst (λ n. IsPastPart n start.base can.end) (sym still.left.disk.device.as_large) can.part;
  room = record {
    pages = can.room.pages;
    inside = omega (arith, can.room.inside, still.left.disk.device.as_large);
    few = can.room.few;
  };
  later = λ last. can.later (sym still.left.epoch ∙ last);
}

-- ---- nothing was written

pub none_back : {D : Type 0} (d : Ghosts D) {old : StoreView D} (new : StoreView D)
    → (old.must_reopen ≡ false → d.honest old.disk → IsQuiet d old) → IsOnlyRead d old.disk new.disk → (k : ℕ)
    → TurnsBack d k old new
none_back d new quiet run k past lies =
    weakened (read_moments d past.keeps past.honest (quiet past.keeps.usable past.honest) new run) (λ c r. inl r)

-- ---- behind a read

module _ {D : Type 0} (d : Ghosts D) {old mid : StoreView D} (still : IsOnlyReadFrom d old mid)
    (quiet : old.must_reopen ≡ false → d.honest old.disk → IsQuiet d old) where
  abbrev pub past_behind : PastOf d old → PastOf d mid
  past_behind past = record {
    start = past.start;
    deeds = past.deeds;
    desktop = past.desktop;
    keeps = read_keeps d past.keeps past.honest (quiet past.keeps.usable past.honest) {new = mid} still.left.disk
        still.usable;
    honest = still.left.disk.device.still past.honest;
  }

  was_behind : (k : ℕ) (to : Desktop) (past : PastOf d old) → WasAt d k to past → WasAt d k to (past_behind past)
  was_behind k to past was = record { there = was.there; is = was.is }

  can_behind : (k : ℕ) (to : Desktop) → CanTurnTo d k to old → CanTurnTo d k to mid
  can_behind k to can = record {
    past = past_behind can.past;
    was = was_behind k to can.past can.was;
    add = add_still d can.past.keeps can.past.honest (quiet can.past.keeps.usable can.past.honest) still
        (turn_of k to) can.add;
  }

  -- this is what the desktop was at that moment
  module _ (k : ℕ) (to : Desktop) (new : StoreView D)
      (found : (past : PastOf d old) → LiesInPart d past.keeps → WasAt d k to past) where
    pub turns_back : TurnsTo d k to mid new → TurnsBack d k old new
    turns_back turns past lies =
        let was = found past lies in
        subst (λ x. LeavesTurned d x past new) was.is
        (chained (weakened (read_moments d past.keeps past.honest (quiet past.keeps.usable past.honest) mid
        still.left.disk) (λ c r. inl r))
        (subst (λ n. LeavesDone d n past.start past.deeds past.desktop (turned to) mid.disk new.disk)
        still.left.disk.device.as_large (turns (past_behind past) (was_behind k to past was))))

    pub turned_back : HasTurnedTo d k to mid new → HasTurnedBack d k old new
    turned_back has past lies =
        let was = found past lies in (
          was.there,
          subst (λ x. KeepsTurned d x past new) was.is (has (past_behind past) (was_behind k to past was)),
        )

    pub none_can : (CanTurnTo d k to mid → ⊥) → (x : Desktop) → CanTurnTo d k x old → ⊥
    none_can none x can =
        let was = found can.past (lies_there d (turn_of k x) can.add) in
        none (can_behind k to (subst (λ y. CanTurnTo d k y old) (can.was.is ∙ sym was.is) can))

-- ---- what was returned

pub in_use_then : {D : Type 0} (d : Ghosts D) (k : ℕ) (to : GatheredView) (mid new : StoreView D)
    (answer : Result Bool Error) → IfOk answer (λ done. done ≡ true → ComesToMoment d k to mid new)
    → IfOk answer (λ done. done ≡ false → StaysUnturned d (CanTurnTo d k to.desktop mid) mid new)
    → OnOk answer (new.must_reopen ≡ false)
in_use_then d k to mid new (Ok true) is not = (is refl).shows.usable
in_use_then d k to mid new (Ok false) is not = (not refl).still.usable
in_use_then d k to mid new (Err e) is not = tt

-- an error of a look is one of a moment
look_of : (e : Error) → OfLook e → OfMoment e
look_of e (inl memory) = inr (inl (inl memory))
look_of e (inr (inl fault)) = inr (inl (inr (inl fault)))
look_of e (inr (inr reopen)) = inl reopen

looked_of : {T : Type 0} (answer : Result T Error) → IfErr answer OfLook → IfErr answer OfMoment
looked_of (Ok x) errors = tt
looked_of (Err e) errors = look_of e errors

-- a call that failed not, and another one behind it
pub fails_behind : {T X : Type 0} (first : Result X Error) (x : X) (answer : Result T Error) {before mid after : ℕ}
    → first ≡ Ok x → FailsAs Fault OfMoment first before mid → FailsAs Fault OfLook answer mid after
    → FailsAs Fault OfMoment answer before after
fails_behind first x answer {before = before} {mid = mid} {after = after} ok look faults =
    let same : mid ≡ before = look.calm (λ wrong. let no : ⊥ = cc (ok, wrong) in no) in record {
      rose = λ is. subst (λ n. n < after) same (faults.rose is);
      calm = λ other. faults.calm other ∙ same;
      errors = looked_of answer faults.errors;
    }
