-- Parts behind one another, and what is known of them where the store is only read. `d` is what is known of a disk.
use Rattle.std.proofs.Common.{◌≡◌, ◌≢◌, ◌+◌, ◌<◌, ◌≤◌, ◌∙◌, ℕ, zero, suc, List, [], ◌∷◌, ◌++◌, length, false, inl, inr, refl, sym, ap, append-nil, subst, arith}
use Rattle.std.specs.declared.option.Option.{Option}
use Rattle.std.specs.Prelude.{IfSome, None, Some, option_to_list}
use Rattle.std.proofs.lemmas.Bool.{cases_lt}
use Rattle.sector_disk.specs.Memory.{Recorded}
use Rattle.sector_disk.specs.Trail.{Content, now}
use Rattle.sector_disk.specs.contracts.memory.MemoryDiskDisk.TheImpl.{ghosts as in_memory}
use Rattle.sector_disk.specs.declared.disk.Disk.{Ghosts}
use Rattle.desktop_definitions.specs.Desktop.{Desktop}
use Rattle.desk_journal.specs.View.{StoreView}
use Rattle.desk_past.proofs.Before.{part_before, past_before}
use Rattle.past_pages.proofs.StillReads.{still_reads}
use Rattle.desk_past.specs.Deeds.{PastDeed}
use Rattle.desk_past.specs.Going.{LiesInPart}
use Rattle.desk_past.specs.Past.{Start}
use Rattle.past_pages.specs.Reading.{IsOnlyReadFrom, IsQuiet}
use Rattle.desk_past.specs.Turning.{PastOf}
use Rattle.former_stores.specs.Former.{HasPartBefore, IsFormer, KeepsWhole}
use Rattle.past_moments.proofs.Carried.{moment_on, moments_on, sought_on, told_on}
use Rattle.past_moments.specs.Moments.{AreMomentsOf, IsDesktopAt}
use Rattle.past_moments.specs.declared.moments.Moments.{Moments}
use Rattle.past_moments.specs.declared.seeking.Sought.{Sought}
use Rattle.all_moments.specs.Parts.{AreAllMomentsOf, AreBehind, AreBehindHand, AreFronts, BeginsWhere, HasMore, IsAtHand, IsDesktopThen, IsEdge}
use Rattle.all_moments.specs.Parts.{IsFormerPart, IsMadeOf, IsPartBack, IsPartFront, IsPartSuch, IsSoughtThen, IsToldThen, KeepsPart}
use Rattle.all_moments.specs.Parts.IsDesktopThen.{former as desktop_former, in_use as desktop_now}
use Rattle.all_moments.specs.Parts.IsSoughtThen.{former as sought_former, in_use as sought_now}
use Rattle.all_moments.specs.Parts.IsToldThen.{former as words_former, in_use as words_now, oldest as words_oldest}
use Rattle.all_moments.specs.declared.all.AllMoments.{AllMoments}
use Rattle.all_moments.specs.declared.part.Edge.{Edge}
use Rattle.all_moments.specs.declared.part.Edge.TheVariants.{Absent, Unknown, Unread}
use Rattle.all_moments.specs.declared.part.FormerPart.{FormerPart}
use Rattle.all_moments.specs.declared.part.Front.{Front}

-- ---- where the store is only read

module _ {D : Type 0} (d : Ghosts D) {old mid : StoreView D} (still : IsOnlyReadFrom d old mid)
    (usable : old.must_reopen ≡ false) (quiet : d.honest old.disk → IsQuiet d old) where
  abbrev was : PastOf d mid → PastOf d old
  was past = past_before d still usable quiet past

  back_before : (past : PastOf d mid) (n : ℕ) (start : Start) (deeds : List PastDeed) (desktop : Desktop)
      → IsPartBack (d.size mid.disk) (now (d.trail mid.disk)).reads past.start n start deeds desktop
      → IsPartBack (d.size old.disk) (now (d.trail old.disk)).reads past.start n start deeds desktop
  back_before past n start deeds desktop back =
      let before = still.left.disk.device.already past.honest in
      subst (λ (x : ℕ × Content). IsPartBack x.0 x.1 past.start n start deeds desktop)
      (λ i. (still.left.disk.device.as_large i, still_reads d still (quiet before) before i)) back

  more_before : (past : PastOf d mid) (start : Start) → HasMore d mid start → HasMore d old start
  more_before past start more =
      let before = still.left.disk.device.already past.honest in
      subst (λ (x : ℕ × Content). HasPartBefore x.0 start.base x.1)
      (λ i. (still.left.disk.device.as_large i, still_reads d still (quiet before) before i)) more

  more_on : (past : PastOf d mid) (start : Start) → HasMore d old start → HasMore d mid start
  more_on past start more =
      let before = still.left.disk.device.already past.honest in
      subst (λ (x : ℕ × Content). HasPartBefore x.0 start.base x.1)
      (λ i. (sym still.left.disk.device.as_large i, sym (still_reads d still (quiet before) before) i)) more

  -- what is so of a part, whatever the store holds
  such_on : (n : ℕ) (Such : Start → List PastDeed → Desktop → Type 0) → IsPartSuch d n old Such → IsPartSuch d n mid Such
  such_on n Such is = λ past lies start deeds desktop back.
      is (was past) (part_before d still usable quiet past lies) start deeds desktop
      (back_before past n start deeds desktop back)

  begins_on : (Such : Start → Type 0) → BeginsWhere d old Such → BeginsWhere d mid Such
  begins_on Such is = λ past lies. is (was past) (part_before d still usable quiet past lies)

  pub behind_on : (n k : ℕ) → AreBehind d n k old → AreBehind d n k mid
  behind_on n k are = λ i low past lies start deeds desktop back.
      let before = are i low (was past) (part_before d still usable quiet past lies) start deeds desktop
      (back_before past i start deeds desktop back) in
      (before.0, more_on past start before.1)

  pub edge_on : (edge : Edge) (n : ℕ) → IsEdge d edge n old → IsEdge d edge n mid
  edge_on edge n is = λ absent past lies start deeds desktop back more.
      is absent (was past) (part_before d still usable quiet past lies) start deeds desktop
      (back_before past n start deeds desktop back) (more_before past start more)

  pub front_on : (n : ℕ) (front : Front) → IsPartFront d n front old → IsPartFront d n front mid
  front_on n front is = record {
    at = such_on n (λ start deeds desktop. (front.base ≡ start.base) × (front.first ≡ start.before)) is.at;
    behind = behind_on n front.first is.behind;
  }

  pub keeps_on : (n : ℕ) (part : StoreView Recorded) → KeepsPart d n part old → KeepsPart d n part mid
  keeps_on n part is = such_on n (λ start deeds desktop. KeepsWhole in_memory start deeds desktop part) is

  pub former_on : (n : ℕ) (part : FormerPart) → IsFormerPart d n part old → IsFormerPart d n part mid
  former_on n part is = record {
    keeps = keeps_on n part.store is.keeps;
    moments = is.moments;
    front = front_on n part.front is.front;
    behind = behind_on n part.last is.behind;
  }

  hand_on : (n : ℕ) (former : Option FormerPart) → IsAtHand d n former old → IsAtHand d n former mid
  hand_on n None is = is
  hand_on n (Some part) is = (is.0, former_on n part is.1)

  fronts_on : (n : ℕ) (fronts : List Front) → AreFronts d n fronts old → AreFronts d n fronts mid
  fronts_on n [] are = tt
  fronts_on n (front ∷ fronts) are = (front_on n front are.0, fronts_on (suc n) fronts are.1)

  pub known_on : (all : AllMoments) → AreBehindHand d all old → AreBehindHand d all mid
  known_on all are = record {
    in_use = moments_on d still usable quiet all.in_use are.in_use;
    fronts = fronts_on 0 all.fronts.items are.fronts;
  }

  pub all_on : (all : AllMoments) → AreAllMomentsOf d all old → AreAllMomentsOf d all mid
  all_on all are = record {
    known = known_on all are.known;
    hand = hand_on (length all.fronts.items) all.former are.hand;
    edge = edge_on all.edge (length all.fronts.items) are.edge;
  }

  -- what is said of a moment

  pub desktop_on : (k : ℕ) (desktop : Desktop) → IsDesktopThen d k desktop old → IsDesktopThen d k desktop mid
  desktop_on k desktop (desktop_now at) = desktop_now (moment_on d still usable quiet k desktop at)
  desktop_on k desktop (desktop_former n part keeps behind begins at) =
      desktop_former n part (keeps_on n part keeps) (behind_on n k behind)
      (begins_on (λ start. k < start.before) begins) at

  pub words_on : (k : ℕ) (words : List ℕ) → IsToldThen d k words old → IsToldThen d k words mid
  words_on k words (words_now begins told) = words_now (begins_on (λ start. start.before < k) begins)
      (told_on d still usable quiet k words told)
  words_on k words (words_former n part keeps behind begins deed) =
      words_former n part (keeps_on n part keeps) (behind_on n k behind) begins deed
  words_on k words (words_oldest n edge behind begins ends is) = words_oldest n edge (behind_on n k behind)
      (such_on n (λ start deeds desktop. k ≤ start.before) begins) (edge_on edge n ends) is

  pub sought_then : (k : ℕ) (word : List ℕ) (sought : Sought) → IsSoughtThen d k word sought old
      → IsSoughtThen d k word sought mid
  sought_then k word sought (sought_now is) = sought_now (sought_on d still usable quiet k word sought is)
  sought_then k word sought (sought_former n part keeps is) = sought_former n part (keeps_on n part keeps) is

-- ---- the part before a front

-- at such a moment begins what was found before
pub behind_low : {D : Type 0} (d : Ghosts D) {store : StoreView D} (n k last : ℕ) → k ≤ last → AreBehind d n last store
    → AreBehind d n k store
behind_low d n k last low are = λ i less past lies start deeds desktop back.
    let far = are i less past lies start deeds desktop back in
    let high = far.0 in (omega (arith, high, low), far.1)

module _ {D : Type 0} (d : Ghosts D) {store : StoreView D} (n : ℕ) (behind : Front)
    (is : IsPartFront d n behind store) where
  -- none stands
  pub edge_absent : (edge : Edge) → (d.honest store.disk
      → HasPartBefore (d.size store.disk) behind.base (now (d.trail store.disk)).reads → ⊥) → IsEdge d edge n store
  edge_absent edge none = λ absent past lies start deeds desktop back more.
      none past.honest (subst (λ b. HasPartBefore (d.size store.disk) b (now (d.trail store.disk)).reads)
      (sym (is.at past lies start deeds desktop back).0) more)

  -- one does
  module _ (part : FormerPart) (former : StoreView Recorded) (made : IsMadeOf former behind part)
      (has : d.honest store.disk → HasPartBefore (d.size store.disk) behind.base (now (d.trail store.disk)).reads)
      (kept : d.honest store.disk → (start : Start) (deeds : List PastDeed) (desktop : Desktop)
      → IsFormer (d.size store.disk) behind.base start deeds desktop (now (d.trail store.disk)).reads
      → KeepsWhole in_memory start deeds desktop former) where
    part_keeps : KeepsPart d (suc n) part.store store
    part_keeps = λ past lies start deeds desktop back.
        let at = is.at past lies back.0 back.1 back.2 back.3 in
        made.keeps start deeds desktop (kept past.honest start deeds desktop
        (subst (λ b. IsFormer (d.size store.disk) b start deeds desktop (now (d.trail store.disk)).reads)
        (sym at.0) back.4))

    part_behind : AreBehind d (suc n) part.last store
    part_behind = λ i low past lies start deeds desktop back. elim (cases_lt i n) [
      | inl less ↦
          let far = is.behind i less past lies start deeds desktop back in
          let high = far.0 in
          let last = made.last in
          (omega (arith, high, last), far.1)
      | inr ge ↦
          let same : i ≡ n = omega (arith, ge, low) in
          let at = is.at past lies start deeds desktop (subst (λ m. IsPartBack (d.size store.disk)
          (now (d.trail store.disk)).reads past.start m start deeds desktop) same back) in
          let first = at.1 in
          let last = made.last in (
            omega (arith, first, last),
            subst (λ b. HasPartBefore (d.size store.disk) b (now (d.trail store.disk)).reads) at.0 (has past.honest),
          )
    ]

    part_at : IsPartSuch d (suc n) store (λ start deeds desktop.
        (part.front.base ≡ start.base) × (part.front.first ≡ start.before))
    part_at = λ past lies start deeds desktop back.
        let whole = part_keeps past lies start deeds desktop back in
        let own : PastOf in_memory part.store = record {
          start = start;
          deeds = deeds;
          desktop = desktop;
          keeps = whole.0;
          honest = tt;
        } in
        let extent = made.moments.extent own whole.1 in
        (made.base ∙ extent.base, made.first ∙ extent.first)

    pub part_found : IsFormerPart d (suc n) part store
    part_found = record {
      keeps = part_keeps;
      moments = made.moments;
      front = record { at = part_at; behind = behind_low d (suc n) part.front.first part.last made.order part_behind };
      behind = part_behind;
    }

-- ---- fronts

module _ {D : Type 0} (d : Ghosts D) (store : StoreView D) where
  -- one more, and one less
  fronts_more : (n : ℕ) (fronts : List Front) (front : Front) → AreFronts d n fronts store
      → IsPartFront d (n + length fronts) front store → AreFronts d n (fronts ++ front ∷ []) store
  fronts_more n [] front are is = (subst (λ k. IsPartFront d k front store) (omega arith) is, tt)
  fronts_more n (other ∷ fronts) front are is =
      (are.0, fronts_more (suc n) fronts front are.1 (subst (λ k. IsPartFront d k front store) (omega arith) is))

  fronts_less : (n : ℕ) (fronts : List Front) (front : Front) → AreFronts d n (fronts ++ front ∷ []) store
      → AreFronts d n fronts store × IsPartFront d (n + length fronts) front store
  fronts_less n [] front are = (tt, subst (λ k. IsPartFront d k front store) (omega arith) are.0)
  fronts_less n (other ∷ fronts) front are = let rest = fronts_less (suc n) fronts front are.1 in
      ((are.0, rest.0), subst (λ k. IsPartFront d k front store) (omega arith) rest.1)

  -- a part comes to hand
  pub all_held : (all new : AllMoments) (part : FormerPart) (behind : Front) → new.in_use ≡ all.in_use → new.former ≡ Some part
      → new.fronts.items ≡ all.fronts.items ++ behind ∷ [] → new.edge ≡ Unknown → AreBehindHand d all store
      → IsPartFront d (length all.fronts.items) behind store → IsFormerPart d (suc (length all.fronts.items)) part store
      → AreAllMomentsOf d new store
  all_held all new part behind now former fronts edge are front is =
      let many : length new.fronts.items ≡ suc (length all.fronts.items) =
      ap length fronts ∙ one_more all.fronts.items behind in record {
        known = record {
          in_use = subst (λ m. AreMomentsOf d m store) (sym now) are.in_use;
          fronts = subst (λ l. AreFronts d 0 l store) (sym fronts)
              (fronts_more 0 all.fronts.items behind are.fronts (subst (λ k. IsPartFront d k behind store) (omega arith) front));
        };
        hand = subst (λ (x : ℕ × Option FormerPart). IsAtHand d x.0 x.1 store) (λ i. (sym many i, sym former i))
            (omega arith, is);
        edge = λ absent. absurd (unlike (sym edge ∙ absent));
      }
    where
      one_more : (fronts : List Front) (front : Front) → length (fronts ++ front ∷ []) ≡ suc (length fronts)
      one_more [] front = refl
      one_more (other ∷ fronts) front = ap suc (one_more fronts front)

      unlike : Unknown ≡ Absent → ⊥
      unlike is = absurd cc is

  -- the one behind the part at hand is left, too
  pub known_less : (all new : AllMoments) (one two : Front) (mid : List Front) → new.in_use ≡ all.in_use
      → all.fronts.items ≡ mid ++ one ∷ [] → mid ≡ new.fronts.items ++ two ∷ [] → AreBehindHand d all store
      → AreBehindHand d new store × IsPartFront d (length new.fronts.items) two store
  known_less all new one two mid now first second are =
      let less = fronts_less 0 mid one (subst (λ l. AreFronts d 0 l store) first are.fronts) in
      let rest = fronts_less 0 new.fronts.items two (subst (λ l. AreFronts d 0 l store) second less.0) in (
        record { in_use = subst (λ m. AreMomentsOf d m store) (sym now) are.in_use; fronts = rest.0 },
        subst (λ k. IsPartFront d k two store) (omega arith) rest.1,
      )

  pub known_left : (all new : AllMoments) (mid : List Front) (one two : Option Front) → new.in_use ≡ all.in_use
      → all.fronts.items ≡ mid ++ option_to_list one → mid ≡ new.fronts.items ++ option_to_list two
      → IfSome two (λ front. AreBehindHand d all store → AreBehindHand d new store
      × IsPartFront d (length new.fronts.items) front store)
  known_left all new mid one None now first second = tt
  known_left all new mid (Some one) (Some two) now first second = known_less all new one two mid now first second
  known_left all new mid None (Some two) now first second = λ are.
      let rest = fronts_less 0 new.fronts.items two
      (subst (λ l. AreFronts d 0 l store) (first ∙ append-nil mid ∙ second) are.fronts) in (
        record { in_use = subst (λ m. AreMomentsOf d m store) (sym now) are.in_use; fronts = rest.0 },
        subst (λ k. IsPartFront d k two store) (omega arith) rest.1,
      )

  -- the part in use comes to hand
  pub all_back : (new : AllMoments) → new.former ≡ None → new.fronts.items ≡ [] → new.edge ≡ Unknown
      → AreMomentsOf d new.in_use store → AreAllMomentsOf d new store
  all_back new former fronts edge are = record {
    known = record { in_use = are; fronts = subst (λ l. AreFronts d 0 l store) (sym fronts) tt };
    hand = subst (λ (x : List Front × Option FormerPart). IsAtHand d (length x.0) x.1 store)
        (λ i. (sym fronts i, sym former i)) refl;
    edge = λ absent. absurd (unlike (sym edge ∙ absent));
  }
    where
      unlike : Unknown ≡ Absent → ⊥
      unlike is = absurd cc is

  -- where it begins
  front_in_use : (moments : Moments) (front : Front) → front.base ≡ moments.extent.base → front.first ≡ moments.extent.first
      → AreMomentsOf d moments store → IsPartFront d 0 front store
  front_in_use moments front base first are = record {
    at = λ past lies start deeds desktop is. let extent = are.extent past lies in
        (base ∙ extent.base ∙ ap (λ (s : Start). s.base) (sym is), first ∙ extent.first ∙ ap (λ (s : Start). s.before) (sym is));
    behind = λ i low past lies start deeds desktop back. absurd (omega (arith, low));
  }

  pub front_now : (all : AllMoments) (front : Front) → all.former ≡ None → front.base ≡ all.in_use.extent.base
      → front.first ≡ all.in_use.extent.first → AreAllMomentsOf d all store
      → IsPartFront d (length all.fronts.items) front store
  front_now all front none base first are =
      let no : length all.fronts.items ≡ 0 =
      subst (λ h. IsAtHand d (length all.fronts.items) h store) none are.hand in
      subst (λ n. IsPartFront d n front store) (sym no) (front_in_use all.in_use front base first are.known.in_use)

  pub front_former : (all : AllMoments) (part : FormerPart) → all.former ≡ Some part → AreAllMomentsOf d all store
      → IsPartFront d (length all.fronts.items) part.front store
  front_former all part some are =
      (subst (λ h. IsAtHand d (length all.fronts.items) h store) some are.hand).1.front

  -- ---- what is said of a moment

  -- a moment of the part in use
  pub then_in_use : (moments : Moments) (k : ℕ) (desktop : Desktop) → AreMomentsOf d moments store
      → moments.extent.first ≤ k → IsDesktopThen d k desktop store → IsDesktopAt d k desktop store
  then_in_use moments k desktop are low (desktop_now at) = at
  then_in_use moments k desktop are low (desktop_former n part keeps behind begins at) = λ past lies.
      let first = (are.extent past lies).first in
      let less = begins past lies in
      absurd (omega (arith, first, less, low))
