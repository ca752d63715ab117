-- What is said of a moment by the part at hand. `d` is what is known of a disk.
use Rattle.std.proofs.Common.{◌≡◌, ◌<◌, ◌≤◌, ℕ, false, List, length, inl, inr, refl, sym, subst, arith}
use Rattle.std.specs.declared.option.Option.{Option}
use Rattle.std.specs.Prelude.{IfOk, IfSome, IsSomeAnd, None, OnOk, Result, Err, Ok, Some}
use Rattle.sector_disk.specs.Memory.{Recorded}
use Rattle.sector_disk.specs.contracts.memory.MemoryDiskDisk.TheImpl.{ghosts as in_memory}
use Rattle.sector_disk.specs.declared.disk.Disk.{Ghosts}
use Rattle.desktop_definitions.specs.Desktop.{Desktop}
use Rattle.desk_journal.specs.View.{StoreView}
use Rattle.past_pages.specs.Reading.{IsOnlyReadFrom, IsQuiet}
use Rattle.desk_past.specs.Turning.{PastOf}
use Rattle.former_stores.proofs.Kept.{whole_on}
use Rattle.past_moments.proofs.Carried.{extent_on}
use Rattle.past_moments.specs.Moments.{AreMomentsOf, IsDesktopAt, IsToldOf}
use Rattle.past_moments.specs.Seeking.{IsSoughtOf}
use Rattle.past_moments.specs.declared.moments.Moments.{Moments}
use Rattle.past_moments.specs.declared.seeking.Sought.{Sought}
use Rattle.all_moments.specs.Parts.{AreAllMomentsOf, AreBehind, BeginsWhere, HasCome, IsAtHand, IsDesktopThen, IsEdge, IsFormerPart, IsPartFront}
use Rattle.all_moments.specs.Parts.{IsSoughtThen, IsToldThen, IsToldWithin, StaysPart, first_in, oldest_words}
use Rattle.all_moments.specs.Parts.IsDesktopThen.{former as desktop_former}
use Rattle.all_moments.specs.Parts.IsSoughtThen.{former as sought_former}
use Rattle.all_moments.specs.Parts.IsToldThen.{former as words_former, in_use as words_now, oldest as words_oldest}
use Rattle.all_moments.specs.declared.all.AllMoments.{AllMoments}
use Rattle.all_moments.specs.declared.part.Edge.{Edge}
use Rattle.all_moments.specs.declared.part.FormerPart.{FormerPart}
use Rattle.all_moments.specs.declared.part.Front.{Front}
use Rattle.all_moments.proofs.Backward.{behind_low}

-- ---- what is returned

pub found_then : {X E : Type 0} (result : Result (Option X) E) {P Q : X → Type 0} → ((x : X) → P x → Q x)
    → IfOk result (λ found. IfSome found P) → IfOk result (λ found. IfSome found Q)
found_then (Err e) so is = tt
found_then (Ok None) so is = tt
found_then (Ok (Some x)) so is = so x is

pub some_both : {X : Type 0} (found : Option X) {P Q R : X → Type 0} → ((x : X) → P x → Q x → R x) → IfSome found P
    → IfSome found Q → IfSome found R
some_both None so is also = tt
some_both (Some x) so is also = so x is also

pub some_with : {X : Type 0} (found : Option X) {P Q R : X → Type 0} {T : Type 0} → IsSomeAnd found P → IfSome found Q
    → IfSome found R → ((x : X) → P x → Q x → R x → T) → T
some_with None is also more so = absurd is
some_with (Some x) is also more so = so x is also more

pub ok_both : {X E : Type 0} (result : Result X E) {S : Type 0} {P Q : X → Type 0} → ((x : X) → S → P x → Q x)
    → OnOk result S → IfOk result P → IfOk result Q
ok_both (Ok x) so is also = so x is also
ok_both (Err e) so is also = tt

-- ---- a part in memory, which is only read

module _ {old mid : StoreView Recorded} (still : IsOnlyReadFrom in_memory old mid) (usable : old.must_reopen ≡ false)
    (quiet : in_memory.honest old.disk → IsQuiet in_memory old) where
  pub begins_before : (moments : Moments) (k : ℕ) → AreMomentsOf in_memory moments old → moments.extent.first < k
      → BeginsWhere in_memory mid (λ start. start.before < k)
  begins_before moments k are less = λ past lies.
      let first = (extent_on in_memory still usable quiet moments.extent are.extent past lies).first in
      omega (arith, first, less)

  pub begins_from : (moments : Moments) (k : ℕ) → AreMomentsOf in_memory moments old → k ≤ moments.extent.first
      → BeginsWhere in_memory mid (λ start. k ≤ start.before)
  begins_from moments k are low = λ past lies.
      let first = (extent_on in_memory still usable quiet moments.extent are.extent past lies).first in
      omega (arith, first, low)

pub part_moved : (part new : FormerPart) → IsOnlyReadFrom in_memory part.store new.store → part.store.must_reopen ≡ false
    → (in_memory.honest part.store.disk → IsQuiet in_memory part.store) → new.front ≡ part.front → new.last ≡ part.last
    → (AreMomentsOf in_memory part.moments part.store → AreMomentsOf in_memory new.moments new.store) → StaysPart part new
part_moved part new still usable quiet front last are = record {
  keeps = λ start deeds desktop whole. whole_on in_memory still tt (quiet tt) whole;
  moments = are;
  front = front;
  last = last;
}

module _ {D : Type 0} (d : Ghosts D) (store : StoreView D) where
  -- ---- a former part

  part_stays : (n : ℕ) (part new : FormerPart) → StaysPart part new → IsFormerPart d n part store → IsFormerPart d n new store
  part_stays n part new stays is = record {
    keeps = λ past lies start deeds desktop back. stays.keeps start deeds desktop (is.keeps past lies start deeds desktop back);
    moments = stays.moments is.moments;
    front = subst (λ f. IsPartFront d n f store) (sym stays.front) is.front;
    behind = subst (λ k. AreBehind d n k store) (sym stays.last) is.behind;
  }

  module _ (all : AllMoments) (part new : FormerPart) (some : all.former ≡ Some part) (stays : StaysPart part new)
      (are : AreAllMomentsOf d all store) where
    hand_is : (0 < length all.fronts.items) × IsFormerPart d (length all.fronts.items) part store
    hand_is = subst (λ h. IsAtHand d (length all.fronts.items) h store) some are.hand

    hand_new : IsFormerPart d (length all.fronts.items) new store
    hand_new = part_stays (length all.fronts.items) part new stays hand_is.1

    pub desktop_at_hand : (k : ℕ) (desktop : Desktop) → k ≤ part.last → ¬ (k ≡ all.in_use.extent.first)
        → (AreMomentsOf in_memory part.moments part.store → IsDesktopAt in_memory k desktop new.store)
        → IsDesktopThen d k desktop store
    desktop_at_hand k desktop low other shown =
        desktop_former (length all.fronts.items) new.store hand_new.keeps
        (behind_low d (length all.fronts.items) k part.last low hand_is.1.behind)
        (λ past lies.
        let far = (hand_is.1.behind 0 hand_is.0 past lies past.start past.deeds past.desktop refl).0 in
        let first = (are.known.in_use.extent past lies).first in
        omega (arith, far, first, low, λ (same : k ≡ all.in_use.extent.first). other same)) (shown hand_is.1.moments)

    pub words_at_hand : (k : ℕ) (words : List ℕ) → k ≤ part.last
        → (AreMomentsOf in_memory part.moments part.store → IsToldWithin all.edge k words new.store)
        → IsToldThen d k words store
    words_at_hand k words low told = elim (told hand_is.1.moments) [
      | inl led ↦ words_former (length all.fronts.items) new.store hand_new.keeps
          (behind_low d (length all.fronts.items) k part.last low hand_is.1.behind) led.0 led.1
      | inr first ↦ words_oldest (length all.fronts.items) all.edge
          (behind_low d (length all.fronts.items) k part.last low hand_is.1.behind)
          (λ past lies start deeds desktop back.
          let whole = hand_new.keeps past lies start deeds desktop back in
          let own : PastOf in_memory new.store = record {
            start = start;
            deeds = deeds;
            desktop = desktop;
            keeps = whole.0;
            honest = tt;
          } in
          first.0 own whole.1) are.edge first.1
    ]

    pub sought_at_hand : (k : ℕ) (word : List ℕ) (sought : Sought)
        → (AreMomentsOf in_memory part.moments part.store → IsSoughtOf in_memory k word sought new.store)
        → IsSoughtThen d k word sought store
    sought_at_hand k word sought is =
        sought_former (length all.fronts.items) new.store hand_new.keeps (is hand_is.1.moments)

    pub all_stays : AreAllMomentsOf d (record all { former = Some new }) store
    all_stays = record { known = record { in_use = are.known.in_use; fronts = are.known.fronts }; hand = (hand_is.0, hand_new); edge = are.edge }

  -- ---- the part in use

  pub words_in_use : (moments : Moments) (k : ℕ) (words : List ℕ) → AreMomentsOf d moments store → moments.extent.first < k
      → IsToldOf d k words store → IsToldThen d k words store
  words_in_use moments k words are less told =
      words_now (λ past lies. let first = (are.extent past lies).first in omega (arith, first, less)) told

  pub words_oldest_in_use : (all : AllMoments) (k : ℕ) (words : List ℕ) → all.former ≡ None → k ≤ all.in_use.extent.first
      → words ≡ oldest_words all.edge → AreAllMomentsOf d all store → IsToldThen d k words store
  words_oldest_in_use all k words none low is are =
      let no : length all.fronts.items ≡ 0 = subst (λ h. IsAtHand d (length all.fronts.items) h store) none are.hand in
      words_oldest 0 all.edge (λ i less past lies start deeds desktop back. absurd (omega (arith, less)))
      (λ past lies start deeds desktop back.
      let first = (are.known.in_use.extent past lies).first in
      let same : start.before ≡ past.start.before = λ i. (back i).before in
      omega (arith, first, same, low)) (subst (λ n. IsEdge d all.edge n store) no are.edge) is

  pub all_now : (all : AllMoments) (now : Moments) → AreMomentsOf d now store → AreAllMomentsOf d all store
      → AreAllMomentsOf d (record all { in_use = now }) store
  all_now all now is are = record {
    known = record { in_use = is; fronts = are.known.fronts };
    hand = are.hand;
    edge = are.edge;
  }

-- a moment behind where the part in use begins
pub come_in_use : (all : AllMoments) (k : ℕ) → all.former ≡ None → all.in_use.extent.first < k → HasCome k all
come_in_use all k none less = inl (subst (λ f. first_in f all.in_use.extent.first < k) (sym none) less)
