-- The part of a store that is in use. `d` is what is known of a disk.
use Rattle.std.proofs.Common.{◌≡◌, ◌+◌, ◌≤◌, ℕ, refl, sym, subst, arith}
use Rattle.std.specs.Prelude.{IfSome, IsSomeAnd, None, Option, Some}
use Rattle.sector_disk.specs.declared.disk.Disk.{Ghosts}
use Rattle.store_layout.specs.declared.layout.TheConstants.{STORE_SECTORS}
use Rattle.store_layout.specs.Meaning.{Standing}
use Rattle.desk_journal.specs.Undoing.{ShowsStanding}
use Rattle.desk_journal.specs.View.{StoreView}
use Rattle.past_pages.specs.declared.parts.Part.{Part}
use Rattle.past_pages.specs.Parts.{IsPastPart}
use Rattle.desk_past.proofs.Opened.{start_room}
use Rattle.past_steps.specs.Steps.{IsPartInUse}

module _ {D : Type 0} (d : Ghosts D) where
  -- it is the one in which the sector lies that the head tells
  pub part_used : (store : StoreView D) (found : Option Part) (sectors next : ℕ)
      → ((base end : ℕ) → IsPastPart sectors base end → base + STORE_SECTORS ≤ next → next ≤ end
      → IsSomeAnd found (λ part. (part.base ≡ base) × (part.end ≡ end)))
      → sectors ≡ d.size store.disk
      → (d.honest store.disk → (s : Standing) → ShowsStanding d store s → next ≡ s.past.next)
      → IfSome found (λ part. IsPartInUse d part.base store)
  part_used store None sectors next all large told = tt
  part_used store (Some part) sectors next all large told = λ past lies.
      let keeps = past.keeps in
      let at = told past.honest keeps.remembers.standing keeps.remembers.past.stands in
      let room = start_room d keeps past.start.base refl in
      let is : (part.base ≡ past.start.base) × (part.end ≡ lies.end) = all past.start.base lies.end
      (subst (λ n. IsPastPart n past.start.base lies.end) (sym large) lies.part)
      (omega (arith, room, at)) (omega (arith, lies.within, at)) in
      sym is.0
