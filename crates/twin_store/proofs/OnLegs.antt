-- What is shown of a twin's crash images holds of those of its legs.
use Rattle.std.proofs.Common.{◌≡◌, ℕ, refl, arith, subst}
use Rattle.sector_disk.specs.declared.disk.Disk.{Ghosts}
use Rattle.sector_disk.specs.Trail.{Content, now, Leaves, LeavesOnly}
use Rattle.twin_disk.specs.declared.twin.TwinDisk.{TwinDisk}
use Rattle.twin_disk.specs.declared.choosing.Choice.{Choice}
use Rattle.twin_disk.specs.declared.choosing.Choice.TheVariants as choice
use Rattle.twin_disk.specs.Bounded.{bounded_content}
use Rattle.twin_disk.specs.Choosing.{GoesOn, IsSince, OfChosen}
use Rattle.twin_disk.specs.Survival.{HasHonestLegs, first_when, second_when, twin_moments, twin_size}
use Rattle.twin_disk.proofs.Chosen.{all_choose, all_follow, goes_nowhere}
use Rattle.twin_disk.proofs.Followed.{survives_each}
use Rattle.twin_disk.proofs.Seen.{bounded_at}
use Rattle.twin_store.specs.Legs.{IsOfFirst, LegsLeave, LegsLeaveOnly, LegsLeaveSince}

chosen_to : (c : Choice) {P Q P' Q' : Type 0} → (P → P') → (Q → Q') → OfChosen c P Q → OfChosen c P' Q'
chosen_to choice.First f g it = f it
chosen_to choice.Second f g it = g it
chosen_to choice.Neither f g it = it

-- what holds of an image up to a sector holds of the image
unbounded : (size : ℕ) (P : Content → Type 0) → IsOfFirst size P → (image : Content) → P (bounded_content size image)
    → P image
unbounded size P first image it = first (bounded_content size image) image (λ n low. bounded_at size n image low) it

module _ {A B : Type 0} (a : Ghosts A) (b : Ghosts B) where
  pub legs_leave_only : (old new : TwinDisk A B a b) (P : Content → Type 0) → IsOfFirst (twin_size new) P → GoesOn old new
      → HasHonestLegs old → HasHonestLegs new → LeavesOnly (twin_moments old) (twin_moments new) P
      → LegsLeaveOnly old new P
  legs_leave_only old new P first on h h' run =
      let has : (image : Content) → IsSince old new (bounded_content (twin_size new) image) → P image =
      λ image is. unbounded (twin_size new) P first image (run.each is.moment is.since is.real _ is.is) in
      let follows = all_follow a b old new on h h' in
      record {
        first = λ used u since image is. has image (follows.first used u since image is);
        second = λ used v since image is. has image (follows.second used v since image is);
        chosen = λ u v since since' i j is is'. chosen_to _ (has i) (has j)
            ((all_choose a b old new on h h').chosen u v since since' i j is is');
      }

  -- the twin as it is, after no call
  pub legs_leave : (d : TwinDisk A B a b) (P : Content → Type 0) → IsOfFirst (twin_size d) P → HasHonestLegs d
      → Leaves (now (twin_moments d)) P → LegsLeave d P
  legs_leave d P first h leaves =
      let none : LeavesOnly (twin_moments d) (twin_moments d) P = record {
        later = omega arith;
        kept = λ t le. refl;
        each = λ t low high. subst (λ u. Leaves ((twin_moments d).at u) P)
            (let here : (twin_moments d).clock ≡ t = omega (arith, low, high) in here) leaves;
      } in
      let on = goes_nowhere a b d d refl refl (λ lost. lost) refl refl refl
      (λ honest. record { later = omega arith; kept = λ t le. refl }) in
      let all = legs_leave_only d d P first on h h none in
      record {
        first = λ used. all.first used _ (omega arith, omega arith);
        second = λ used. all.second used _ (omega arith, omega arith);
        chosen = all.chosen _ _ (omega arith, omega arith) (omega arith, omega arith);
      }

  pub legs_leave_since : (old new : TwinDisk A B a b) (P : Content → Type 0) → IsOfFirst (twin_size new) P
      → HasHonestLegs new → LeavesOnly (twin_moments old) (twin_moments new) P
      → LegsLeaveSince (twin_moments old).clock new P
  legs_leave_since old new P first h run = record {
    first = λ u during since image is.
        let covered = (survives_each a b new).first h u during in
        unbounded (twin_size new) P first image (run.each (first_when new u) since covered.real _ (covered.images image is));
    second = λ v during since image is.
        let covered = (survives_each a b new).second h v during in
        unbounded (twin_size new) P first image (run.each (second_when new v) since covered.real _ (covered.images image is));
  }
