-- A page that begins, and keeps a past from then on. `d` is what is known of the disk.
use Rattle.std.proofs.Common.{◌≡◌, ◌∙◌, ◌⊎◌, ℕ, inl, inr, refl, subst, sym, Bool, true, false, Option, Some, None, Result, Ok, Err, IfOk, IfErr}
use Rattle.std.proofs.lemmas.Bool.{true≢false}
use Rattle.sector_disk.specs.declared.disk.Disk.{Ghosts}
use Rattle.store_layout.specs.declared.layout.TheConstants.{LAST_EPOCH}
use Rattle.desk_journal.specs.Errors.{Error, NoMemory, Fault, MustReopen, OfPost, Worn}
use Rattle.page_disks.specs.Recording.{Recording}
use Rattle.desk_page.specs.Turns.{HostPage, Begins, IsMadeOrFound, IsNotBegun, IsOfMemory, KeepsFrom, faulty, starved}

-- the epochs aren't used up, and the store needn't be opened again
pub of_memory_alone : (error : Error) (must : Bool) (epoch : ℕ) → OfPost error → (error ≡ MustReopen → must ≡ true)
    → (error ≡ Worn → epoch ≡ LAST_EPOCH) → must ≡ false → (epoch ≡ LAST_EPOCH → ⊥) → IsOfMemory error
of_memory_alone error must epoch why reopen worn usable early = elim why [
  | inl memory ↦ inl memory
  | inr (inl fault) ↦ inr fault
  | inr (inr (inl is)) ↦ absurd (true≢false (sym (reopen is) ∙ usable))
  | inr (inr (inr is)) ↦ absurd (early (worn is))
]

module _ (d : Ghosts Recording) where
  first_usable : (loaded : Option Recording) (page : HostPage) → IsMadeOrFound d loaded page → page.store.must_reopen ≡ false
  first_usable None page is = is.usable
  first_usable (Some disk) page is = is.usable

  kept_usable : (first page : HostPage) → first.store.must_reopen ≡ false → KeepsFrom d first page
      → page.store.must_reopen ≡ false
  kept_usable first page usable keeps = elim keeps [
    | inl on ↦ on.usable
    | inr worn ↦ subst (λ (p : HostPage). p.store.must_reopen ≡ false) (sym worn.1) usable
  ]

  pub begun_usable : (past : Bool) (loaded : Option Recording) (page : HostPage) → Begins d past loaded page
      → page.store.must_reopen ≡ false
  begun_usable true loaded page begins =
      kept_usable begins.first page (first_usable loaded begins.first begins.is) (begins.keeps refl)
  begun_usable false loaded page begins =
      subst (λ (p : HostPage). p.store.must_reopen ≡ false) (sym (begins.stays refl)) (first_usable loaded begins.first begins.is)

  not_begun_from : (loaded : Option Recording) (error : Error) → IsOfMemory error → IsNotBegun d loaded error
  not_begun_from loaded error why = elim why [
    | inl is ↦ subst (IsNotBegun d loaded) (sym is) starved
    | inr is ↦ subst (IsNotBegun d loaded) (sym is) faulty
  ]

  pub not_begun_so : (loaded : Option Recording) (result : Result HostPage Error) → IfErr result IsOfMemory
      → IfErr result (IsNotBegun d loaded)
  not_begun_so loaded (Ok page) why = why
  not_begun_so loaded (Err error) why = not_begun_from loaded error why
