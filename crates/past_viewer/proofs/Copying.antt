-- What was copied, over a store that is only read. `d` is what is known of a disk.
use Rattle.std.proofs.Common.{◌≡◌, ◌∙◌, ℕ, true, false, List, length, Option, Some, None, inl, inr, refl, sym, subst}
use Rattle.std.specs.Prelude.{◌==◌, IfSome}
use Rattle.std.proofs.lemmas.Bool.{cond-true, cond-false}
use Rattle.sector_disk.specs.declared.disk.Disk.{Ghosts}
use Rattle.desktop_definitions.specs.Desktop.{Desktop}
use Rattle.desk_journal.specs.View.{StoreView}
use Rattle.past_pages.specs.Reading.{IsOnlyReadFrom}
use Rattle.past_pages.proofs.StillReads.{still_both}
use Rattle.past_looks.specs.Looking.{IsLookerOf, IsSeenAt}
use Rattle.past_looks.specs.declared.looker.Looker.{Looker}
use Rattle.past_viewer.proofs.Holding.{true_or_false}
use Rattle.past_viewer.specs.Copies.{copy_kept, exported_selection}
use Rattle.past_viewer.specs.Viewing.{IsTextCopied, KeepsCopied}

module _ {D : Type 0} (d : Ghosts D) where
  -- first the store was only read
  copied_after : {old mid : StoreView D} (text : Option (List ℕ)) → IsOnlyReadFrom d old mid → IfSome text (IsTextCopied d mid)
      → IfSome text (IsTextCopied d old)
  copied_after None still is = is
  copied_after (Some text) still is = record {
    mid = is.mid;
    read = still_both d still is.read;
    k = is.k;
    desktop = is.desktop;
    seen = is.seen;
    is = is.is;
  }

  pub keeps_after : {old mid : StoreView D} {kept kept' : Option (List ℕ)} → IsOnlyReadFrom d old mid
      → KeepsCopied d mid kept kept' → KeepsCopied d old kept kept'
  keeps_after still (inl same) = inl same
  keeps_after {kept' = kept'} still (inr is) = inr (copied_after kept' still is)

  -- one after another
  pub keeps_both : {old mid : StoreView D} {a b c : Option (List ℕ)} → IsOnlyReadFrom d old mid → KeepsCopied d old a b
      → KeepsCopied d mid b c → KeepsCopied d old a c
  keeps_both still (inl first) (inl second) = inl (second ∙ first)
  keeps_both {old = old} still (inr first) (inl second) = inr (subst (λ x. IfSome x (IsTextCopied d old)) (sym second) first)
  keeps_both {c = c} still first (inr second) = inr (copied_after c still second)

  -- it was the same before, and is the same behind it
  pub keeps_same : (store : StoreView D) {a b c : Option (List ℕ)} → b ≡ a → KeepsCopied d store b c → KeepsCopied d store a c
  keeps_same store before (inl same) = inl (same ∙ before)
  keeps_same store before (inr is) = inr is

  pub keeps_then : (store : StoreView D) {a b c : Option (List ℕ)} → KeepsCopied d store a b → c ≡ b → KeepsCopied d store a c
  keeps_then store (inl same) behind = inl (behind ∙ same)
  keeps_then store (inr is) behind = inr (subst (λ x. IfSome x (IsTextCopied d store)) (sym behind) is)

  -- nothing was copied before
  pub copied_first : {old mid : StoreView D} {kept kept' : Option (List ℕ)} → IsOnlyReadFrom d old mid → kept ≡ None
      → KeepsCopied d mid kept kept' → IfSome kept' (IsTextCopied d old)
  copied_first {old = old} still none (inl same) = subst (λ x. IfSome x (IsTextCopied d old)) (sym (same ∙ none)) tt
  copied_first {kept' = kept'} still none (inr is) = copied_after kept' still is

  pub none_copied : (old : StoreView D) {kept : Option (List ℕ)} → kept ≡ None → IfSome kept (IsTextCopied d old)
  none_copied old none = subst (λ x. IfSome x (IsTextCopied d old)) (sym none) tt

  -- what is selected at the moment that came is copied, if anything is
  pub copy_keeps : {old mid : StoreView D} (looker : Looker) (kept before kept' : Option (List ℕ)) → IsOnlyReadFrom d old mid
      → IsLookerOf d looker mid → before ≡ kept → kept' ≡ copy_kept before (exported_selection looker.look.shown.desktop)
      → KeepsCopied d old kept kept'
  copy_keeps {old = old} {mid = mid} looker kept before kept' still is same copied =
      let desktop : Desktop = looker.look.shown.desktop in
      let text : List ℕ = exported_selection desktop in
      elim (true_or_false (length text == 0)) [
        | inl none ↦ inl (copied ∙ cond-true (length text == 0) before (Some text) none ∙ same)
        | inr some ↦
            let one : IsTextCopied d old text = record {
              mid = mid;
              read = still;
              k = looker.shown;
              desktop = desktop;
              seen = is.look;
              is = refl;
            } in
            inr (subst (λ x. IfSome x (IsTextCopied d old)) (sym (copied ∙ cond-false (length text == 0) before (Some text) some)) one)
      ]
