-- Sectors that are written where they differ.
use Rattle.std.proofs.Common.{◌≡◌, ◌∙◌, inl, inr, ◌+◌, ◌≤◌, ℕ, List, arith, subst, sym}
use Rattle.std.proofs.lemmas.Bool.{cases_lt}
use Rattle.sector_disk.specs.Trail.{Content, Trail, now}
use Rattle.sector_disk.specs.Confined.{IsConfined}
use Rattle.sector_disk.proofs.Touching.{joined, widened, still_reads}
use Rattle.cli_copies.specs.Sectors.{DiffersBetween, HaveSameFrom, IsUnlike}

module _ {E : Type 0} (size : E → ℕ) (honest : E → Type 0) (trail : E → Trail) where
  -- the next sector is put there too
  pub put_more : (known : Type 0) (first n : ℕ) (bytes : List ℕ) (one : Content) {old mid new : E} → first ≤ n
      → (known → bytes ≡ one n)
      → IsConfined size honest trail (DiffersBetween known first n one (now (trail old)).reads) old mid
      → IsConfined size honest trail (IsUnlike n bytes (now (trail mid)).reads) mid new
      → IsConfined size honest trail (DiffersBetween known first (n + 1) one (now (trail old)).reads) old new
  put_more known first n bytes one {old = old} {mid = mid} {new = new} low is run step = record {
    as_large = step.as_large ∙ run.as_large;
    still = λ h. step.still (run.still h);
    already = λ h. run.already (step.already h);
    moments = λ h. joined (widened (λ k within. (within.0, omega (arith, within.1), within.2)) (run.moments h))
        (widened (λ k within. subst (λ j. DiffersBetween known first (n + 1) one (now (trail old)).reads j) (sym within.0) (
          low,
          omega arith,
          λ knows same. within.1
              (still_reads (trail old) (trail mid) (run.moments h) n (λ out. omega (arith, out.1)) ∙ same ∙ sym (is knows)),
        ))
        (step.moments (run.still h)));
  }

  -- the sectors up to it then hold the same
  pub same_more : (first n : ℕ) (bytes : List ℕ) (one : Content) {mid new : E} → honest mid → bytes ≡ one n
      → HaveSameFrom first n one (now (trail mid)).reads → (now (trail new)).reads n ≡ bytes
      → IsConfined size honest trail (IsUnlike n bytes (now (trail mid)).reads) mid new
      → HaveSameFrom first (n + 1) one (now (trail new)).reads
  same_more first n bytes one {mid = mid} {new = new} h is same here step k low high = elim (cases_lt k n) [
    | inl less ↦ still_reads (trail mid) (trail new) (step.moments h) k (λ at. omega (arith, less, at.0)) ∙ same k low less
    | inr ge ↦ subst (λ j. (now (trail new)).reads j ≡ one j) (omega (arith, ge, high)) (here ∙ is)
  ]
