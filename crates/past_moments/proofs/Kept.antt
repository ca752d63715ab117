-- Marks that are kept, and moments that are worked out from the whole past. `d` is what is known of a disk.
use Rattle.std.proofs.Common.{◌≡◌, ◌∙◌, ◌<◌, ℕ, List, [], ◌∷◌, ◌++◌, length, get_or, sym, ap, subst, arith}
use Rattle.std.proofs.Math.ListN.{set}
use Rattle.std.specs.Prelude.{All, IfErr, IfOk, IfSome, IsSomeAnd, OnOk, Option, Result, Some, None, Ok, Err}
use Rattle.std.proofs.lemmas.List.Elements.{All-get_or, All-push, All-set}
use Rattle.sector_disk.specs.declared.disk.Disk.{Ghosts}
use Rattle.sector_disk.specs.Trail.{now}
use Rattle.sector_disk.proofs.Touching.{read_is_an_image}
use Rattle.desktop_definitions.specs.Desktop.{Desktop}
use Rattle.store_layout.specs.Finding.{StandingLaw}
use Rattle.store_layout.specs.Meaning.{desktop_of}
use Rattle.store_slots.specs.declared.error.Error.{Error}
use Rattle.store_slots.specs.declared.error.Error.TheVariants.{NoMemory, Fault, MustReopen, NotAStore, Damaged, TooSmall, Worn}
use Rattle.desk_journal.specs.View.{IsDurable, StoreView}
use Rattle.desk_past.specs.Deeds.{PastDeed}
use Rattle.desk_past.specs.Past.{HasMoment, KeepsAll, PresentLaw, Start, moment}
use Rattle.told_pasts.specs.Reaching.{none_if_missing}
use Rattle.past_moments.specs.Moments.{AreMarksOf, IsExtentOf, IsLastOf, IsMarkOf, IsDesktopAt, IsPagePlace}
use Rattle.past_moments.specs.declared.extent.Extent.{Extent}
use Rattle.past_moments.specs.declared.extent.Place.{Place}
use Rattle.past_moments.specs.declared.marks.Mark.{Mark}
use Rattle.past_moments.specs.declared.marks.Marks.{Marks}

-- ---- what is returned

-- what was found satisfies what follows from what it satisfies
pub found_then : {X E : Type 0} (result : Result (Option X) E) {P Q : X → Type 0} → ((x : X) → P x → Q x)
    → IfOk result (λ found. IfSome found P) → IfOk result (λ found. IfSome found Q)
found_then (Err e) so is = tt
found_then (Ok None) so is = tt
found_then (Ok (Some x)) so is = so x is

-- and two such facts together
pub found_both : {X E : Type 0} (result : Result (Option X) E) {P Q R : X → Type 0} → ((x : X) → P x → Q x → R x)
    → IfOk result (λ found. IfSome found P) → IfOk result (λ found. IfSome found Q) → IfOk result (λ found. IfSome found R)
found_both (Err e) so is also = tt
found_both (Ok None) so is also = tt
found_both (Ok (Some x)) so is also = so x is also

-- what holds whatever was returned
pub whatever : {X E : Type 0} (result : Result X E) {P : Type 0} → P → OnOk result P
whatever (Ok x) is = is
whatever (Err e) is = tt

-- where no start stands there, or a damaged one, nothing was found
pub missing_then : {X : Type 0} (result : Result (Option X) Error) (P : X → Type 0) → IfOk result (λ found. IfSome found P)
    → IfOk (none_if_missing result) (λ found. IfSome found P)
missing_then (Ok None) P is = tt
missing_then (Ok (Some x)) P is = is
missing_then (Err NoMemory) P is = tt
missing_then (Err Fault) P is = tt
missing_then (Err MustReopen) P is = tt
missing_then (Err NotAStore) P is = tt
missing_then (Err (Damaged at)) P is = tt
missing_then (Err TooSmall) P is = tt
missing_then (Err Worn) P is = tt

-- what a call leaves that didn't fail
pub done_then : {X Y E : Type 0} (done : Result X E) (result : Result Y E) (P Q : Type 0) → (P → Q)
    → OnOk result (IfErr done (λ e. ⊥)) → OnOk done P → OnOk result Q
done_then (Ok x) (Ok y) P Q so was is = so is
done_then (Ok x) (Err e) P Q so was is = tt
done_then (Err e) (Ok y) P Q so was is = absurd was
done_then (Err e) (Err other) P Q so was is = tt

module _ {D : Type 0} (d : Ghosts D) {store : StoreView D} where
  -- the same mark once more
  pub mark_same : (one other : Mark) → other.place ≡ one.place → other.shown.desktop ≡ one.shown.desktop
      → IsMarkOf d one store → IsMarkOf d other store
  mark_same one other place shown is = record {
    place = subst (λ p. IsPagePlace d p store) (sym place) is.place;
    shown = subst (λ (x : ℕ × Desktop). IsDesktopAt d x.0 x.1 store)
        (λ i. (ap (λ (p : Place). p.k) (sym place) i, sym shown i)) is.shown;
  }

  pub marks_more : (old new : Marks) (mark : Mark) → new.marks.items ≡ old.marks.items ++ mark ∷ [] → new.near ≡ old.near
      → IsMarkOf d mark store → AreMarksOf d old store → AreMarksOf d new store
  marks_more old new mark items near is are = record {
    each = subst (All (λ m. IsMarkOf d m store)) (sym items)
        (All-push (λ m. IsMarkOf d m store) old.marks.items mark are.each is);
    near = subst (λ n. IfSome n (λ m. IsMarkOf d m store)) (sym near) are.near;
  }

  pub marks_set : (old new : Marks) (i : ℕ) (mark : Mark) → new.marks.items ≡ set old.marks.items i mark
      → new.near ≡ old.near → IsMarkOf d mark store → AreMarksOf d old store → AreMarksOf d new store
  marks_set old new i mark items near is are = record {
    each = subst (All (λ m. IsMarkOf d m store)) (sym items)
        (All-set (λ m. IsMarkOf d m store) old.marks.items i mark is are.each);
    near = subst (λ n. IfSome n (λ m. IsMarkOf d m store)) (sym near) are.near;
  }

  pub marks_near : (old new : Marks) (mark : Mark) → new.marks.items ≡ old.marks.items → new.near ≡ Some mark
      → IsMarkOf d mark store → AreMarksOf d old store → AreMarksOf d new store
  marks_near old new mark items near is are = record {
    each = subst (All (λ m. IsMarkOf d m store)) (sym items) are.each;
    near = subst (λ n. IfSome n (λ m. IsMarkOf d m store)) (sym near) is;
  }

  -- one that is kept
  pub mark_at : (marks : Marks) (i : ℕ) (mark : Mark) → i < length marks.marks.items → mark ≡ get_or marks.marks.items i mark
      → AreMarksOf d marks store → IsMarkOf d mark store
  mark_at marks i mark low is are = subst (λ m. IsMarkOf d m store) (sym is)
      (All-get_or (λ m. IsMarkOf d m store) marks.marks.items i mark low are.each)

  pub near_is : (marks : Marks) (mark : Mark) → marks.near ≡ Some mark → AreMarksOf d marks store → IsMarkOf d mark store
  near_is marks mark near are = subst (λ n. IfSome n (λ m. IsMarkOf d m store)) near are.near

  -- the present, which the store shows
  pub present_is : StandingLaw → PresentLaw → IsDurable d store → (copy : Desktop) → (d.honest store.disk → copy ≡ store.desktop)
      → (k : ℕ) → IsLastOf d k store → IsDesktopAt d k copy store
  present_is one_standing present durable copy same k last = λ past lies.
      let r = past.keeps.remembers in
      let m = now (d.trail store.disk) in
      let shows = durable past.honest m.reads (read_is_an_image m) in
      let one = one_standing (d.size store.disk) m.reads shows.standing r.standing shows.stands r.past.stands in
      let at = last past lies in
      record {
        there = record { low = omega (arith, at); high = omega (arith, at) };
        is = same past.honest ∙ sym shows.is ∙ ap desktop_of one ∙ r.is
            ∙ sym (present (d.size store.disk) past.start past.deeds past.desktop m.reads r)
            ∙ ap (moment past.start past.deeds) (sym at);
      }

module _ {D : Type 0} (d : Ghosts D) where
  -- what the whole past gives is its moment
  pub moment_found : {M E : Type 0} (store : StoreView D) (extent : Extent) (k : ℕ) (result : Result (Option (StoreView M)) E)
      → IfOk result (λ found. d.honest store.disk → (start : Start) (deeds : List PastDeed) (desktop : Desktop)
      → KeepsAll d start deeds desktop store → start.base ≡ extent.base → HasMoment start deeds k
      → IsSomeAnd found (λ shown. shown.desktop ≡ moment start deeds k))
      → IfOk result (λ found. IfSome found (λ shown. d.honest store.disk → (start : Start) (deeds : List PastDeed)
      (desktop : Desktop) → KeepsAll d start deeds desktop store → start.base ≡ extent.base → HasMoment start deeds k))
      → IfOk result (λ found. IfSome found (λ shown. IsExtentOf d extent store → IsDesktopAt d k shown.desktop store))
  moment_found store extent k (Err e) back there = tt
  moment_found store extent k (Ok None) back there = tt
  moment_found store extent k (Ok (Some shown)) back there = λ reaches past lies.
      let at : past.start.base ≡ extent.base = sym (reaches past lies).base in
      let has = there past.honest past.start past.deeds past.desktop past.keeps at in
      record { there = has; is = back past.honest past.start past.deeds past.desktop past.keeps at has }
