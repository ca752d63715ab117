-- Crash images of legs.
use Rattle.std.proofs.Common.{◌≡◌, ◌≢◌, ℕ, Bool, false, refl, sym, ◌∙◌, ap}
use Rattle.sector_disk.specs.declared.disk.Disk.{Ghosts}
use Rattle.sector_disk.specs.Trail.{Content, Moment, IsCrashImage}
use Rattle.twin_disk.specs.declared.legs.Left.{Left}
use Rattle.twin_disk.specs.declared.legs.Left.TheVariants.{Both, First, Second}
use Rattle.twin_disk.specs.declared.legs.Legs.{Legs}
use Rattle.twin_disk.specs.declared.twin.TwinDisk.{TwinDisk}
use Rattle.twin_disk.specs.Legs.{first_now, second_now, reads_of}
use Rattle.twin_disk.specs.Twin.{pending_first, pending_now, Agrees, IsInside}
use Rattle.twin_disk.specs.Survival.{Survives, twin_size}
use Rattle.twin_disk.specs.Bounded.{within}
use Rattle.twin_disk.proofs.Seen.{bounded_image}
use Rattle.twin_disk.proofs.Moments.{now_is}

module _ {A B : Type 0} (a : Ghosts A) (b : Ghosts B) where
  pub first_read : (lost : Bool) (pending : ℕ → Bool) (l : Legs A B) (left : Left) → l.left ≡ left → left ≢ Second
      → Agrees a b lost pending l → (n : ℕ) → pending n ≡ false → (first_now a b l).reads n ≡ reads_of a b l n
  first_read lost pending l Both is other agrees n settled = rw is refl
  first_read lost pending l First is other agrees n settled = rw is refl
  first_read lost pending l Second is other agrees n settled = absurd (other refl)

  pub second_read : (lost : Bool) (pending : ℕ → Bool) (l : Legs A B) (left : Left) → l.left ≡ left → left ≢ First
      → Agrees a b lost pending l → (n : ℕ) → pending n ≡ false → (second_now a b l).reads n ≡ reads_of a b l n
  second_read lost pending l Both is other agrees n settled = rw is (agrees.same_settled is n settled)
  second_read lost pending l First is other agrees n settled = absurd (other refl)
  second_read lost pending l Second is other agrees n settled = rw is refl

module _ {A B : Type 0} (a : Ghosts A) (b : Ghosts B) where
  pub survives : (d : TwinDisk A B a b) → Survives d
  survives d =
      let a' = within (twin_size d) a in
      let b' = within (twin_size d) b in
      let now : _ = now_is a' b' (pending_first a' b' d.start.items) d.calls.items d.legs in
      let pends : ℕ → Bool = pending_now a' b' d.start.items d.calls.items in
      record {
        first = λ h other image is n settled.
            let quiet : pends n ≡ false = ap (λ m. m.pending n) (sym now) ∙ settled in
            bounded_image (twin_size d) _ image is n ((d.agree h).first other n quiet)
            ∙ first_read a' b' d.lost pends d.legs d.legs.left refl other (d.agree h) n quiet
            ∙ ap (λ m. m.reads n) (sym now);
        second = λ h other image is n settled.
            let quiet : pends n ≡ false = ap (λ m. m.pending n) (sym now) ∙ settled in
            bounded_image (twin_size d) _ image is n ((d.agree h).second other n quiet)
            ∙ second_read a' b' d.lost pends d.legs d.legs.left refl other (d.agree h) n quiet
            ∙ ap (λ m. m.reads n) (sym now);
      }

-- a moment within another one
pub images_within : (inner outer : Moment) → IsInside inner outer → (image : Content) → IsCrashImage inner image
    → IsCrashImage outer image
images_within inner outer within image is n settled = is n (within.settled n settled) ∙ within.reads n settled
