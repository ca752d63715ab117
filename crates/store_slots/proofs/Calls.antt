-- What calls of a disk keep, one after another.
use Rattle.std.proofs.Common.{◌≡◌, ℕ, Bool, true, sym, ◌∙◌, ap, subst}
use Rattle.sector_disk.specs.declared.disk.Disk.{Ghosts}
use Rattle.sector_disk.specs.Confined.{IsConfined}
use Rattle.sector_disk.specs.Trail.{now, Nowhere, Only}
use Rattle.sector_disk.proofs.Confinement.{joined, widened}
use Rattle.sector_disk.proofs.Touching.{still_reads}
use Rattle.store_layout.specs.declared.head.Head.{Head}
use Rattle.store_layout.specs.Layout.{is_open, slot_gate, slot_head, head, head_of}

module _ {D : Type 0} (d : Ghosts D) {area : ℕ → Type 0} {old new : D} where
  -- one sector was written
  pub wrote : {n k : ℕ} → n ≡ k → area k → IsConfined d.size d.honest d.trail (Only n) old new
      → IsConfined d.size d.honest d.trail area old new
  wrote is within run = widened d.size d.honest d.trail (λ j here. subst area (sym (here ∙ is)) within) run

  -- none was written
  pub none_wrote : IsConfined d.size d.honest d.trail Nowhere old new → IsConfined d.size d.honest d.trail area old new
  none_wrote run = widened d.size d.honest d.trail (λ n none. absurd none) run

  -- one call and then another
  pub both_kept : {mid : D} → IsConfined d.size d.honest d.trail area old mid → IsConfined d.size d.honest d.trail area mid new
      → IsConfined d.size d.honest d.trail area old new
  both_kept first second = joined d.size d.honest d.trail first second

-- a gate that was read, and a head that was read behind it
module _ {D : Type 0} (d : Ghosts D) (disk : D) (slot : ℕ) where
  pub gate_there : {n : ℕ} {opened : Bool} → n ≡ slot_gate slot → opened ≡ is_open ((now (d.trail disk)).reads n)
      → opened ≡ true → is_open ((now (d.trail disk)).reads (slot_gate slot)) ≡ true
  gate_there at read is = ap (λ k. is_open ((now (d.trail disk)).reads k)) (sym at) ∙ sym read ∙ is

  pub head_there : {mid : D} {n : ℕ} {h : Head} → IsConfined d.size d.honest d.trail Nowhere disk mid → d.honest disk
      → n ≡ slot_head slot → (d.honest mid → head_of ((now (d.trail mid)).reads n) ≡ h)
      → head (now (d.trail disk)).reads slot ≡ h
  head_there {mid = mid} run honest at read =
      ap head_of (sym (ap (now (d.trail mid)).reads at
      ∙ still_reads (d.trail disk) (d.trail mid) (run.moments honest) (slot_head slot) (λ none. none)))
      ∙ read (run.still honest)
