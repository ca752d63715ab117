-- What a leg says after calls that only read, and what it said before them.
use Rattle.std.proofs.Common.{ℕ, List, true, ◌∙◌, ap, sym, subst}
use Rattle.sector_disk.specs.declared.disk.Disk.{Ghosts}
use Rattle.sector_disk.specs.Confined.{IsConfined}
use Rattle.sector_disk.specs.Trail.{Nowhere, now}
use Rattle.sector_disk.proofs.Touching.{still_reads, still_settled}
use Rattle.twin_disk.specs.Flags.{ShowsFlag, says_alone}

module _ {D : Type 0} (d : Ghosts D) (at : ℕ) where
  pub still_shown : {old new : D} → d.honest old → IsConfined d.size d.honest d.trail Nowhere old new
      → ShowsFlag at true (now (d.trail old)) → ShowsFlag at true (now (d.trail new))
  still_shown {old = old} {new = new} honest run shows =
      record {
        settled = still_settled (d.trail old) (d.trail new) (run.moments honest) at (λ none. none) shows.settled;
        says = ap says_alone (still_reads (d.trail old) (d.trail new) (run.moments honest) at (λ none. none)) ∙ shows.says;
      }

  -- and what it says in any sector
  pub says_still : (n : ℕ) (P : List ℕ → Type 0) {old new : D} → d.honest old
      → IsConfined d.size d.honest d.trail Nowhere old new → P ((now (d.trail old)).reads n)
      → P ((now (d.trail new)).reads n)
  says_still n P {old = old} {new = new} honest run said = subst P
      (sym (still_reads (d.trail old) (d.trail new) (run.moments honest) n (λ none. none))) said

  pub said_before : (P : List ℕ → Type 0) {old mid new : D} → d.honest old
      → IsConfined d.size d.honest d.trail Nowhere old mid → IsConfined d.size d.honest d.trail Nowhere mid new
      → P ((now (d.trail new)).reads at) → P ((now (d.trail old)).reads at)
  said_before P {old = old} {mid = mid} {new = new} honest first second said = subst P
      (still_reads (d.trail mid) (d.trail new) (second.moments (first.still honest)) at (λ none. none)
      ∙ still_reads (d.trail old) (d.trail mid) (first.moments honest) at (λ none. none)) said
