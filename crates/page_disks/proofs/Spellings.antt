-- A call more is spelled after the others.
use Rattle.std.proofs.Common.{◌≡◌, ℕ, List, [], ◌∷◌, ◌++◌, refl, sym, ap, ◌∙◌}
use Rattle.std.proofs.lemmas.List.{append_assoc, append-nil}
use Rattle.sector_disk.specs.declared.call.DiskCall.{DiskCall}
use Rattle.page_disks.specs.Recording.{EndsWith}
use Rattle.page_disks.specs.Spelling.{spelled, spelling_of_calls}

pub none : spelling_of_calls [] ≡ []
unfolding spelling_of_calls
none = refl

pub spelling_more : (calls : List DiskCall) (call : DiskCall) → spelling_of_calls (calls ++ call ∷ [])
    ≡ spelling_of_calls calls ++ spelled call
unfolding spelling_of_calls
spelling_more [] call = append-nil (spelled call)
spelling_more (first ∷ calls) call = ap (λ s. spelled first ++ s) (spelling_more calls call)
    ∙ sym (append_assoc (spelled first) (spelling_of_calls calls) (spelled call))

-- what is spelled, in a buffer that has room for the call
pub grown : (old mid new : List ℕ) (before after : List DiskCall) (call : DiskCall) → mid ≡ old
    → old ≡ spelling_of_calls before → after ≡ before ++ call ∷ [] → new ≡ mid ++ spelled call → new ≡ spelling_of_calls after
grown old mid new before after call same is more added =
    added ∙ ap (λ s. s ++ spelled call) (same ∙ is) ∙ sym (spelling_more before call) ∙ sym (ap spelling_of_calls more)

-- all calls, and those since then
pub ends_more : (calls calls' since since' : List DiskCall) (call : DiskCall) → EndsWith calls since
    → calls' ≡ calls ++ call ∷ [] → since' ≡ since ++ call ∷ [] → EndsWith calls' since'
ends_more calls calls' since since' call is more added =
    (is.0, more ∙ ap (λ l. l ++ call ∷ []) is.1 ∙ append_assoc is.0 since (call ∷ []) ∙ ap (λ l. is.0 ++ l) (sym added))

-- all calls are those since then, as long as none is forgotten
pub whole_more : {A : Type 0} (calls calls' since since' : List DiskCall) (call : DiskCall) → (A → calls ≡ since)
    → calls' ≡ calls ++ call ∷ [] → since' ≡ since ++ call ∷ [] → A → calls' ≡ since'
whole_more calls calls' since since' call whole more added a = more ∙ ap (λ l. l ++ call ∷ []) (whole a) ∙ sym added

pub ends_at : (calls since : List DiskCall) → since ≡ [] → EndsWith calls since
ends_at calls since is = (calls, sym (append-nil' calls) ∙ ap (λ l. calls ++ l) (sym is))
  where
    append-nil' : (l : List DiskCall) → l ++ [] ≡ l
    append-nil' [] = refl
    append-nil' (x ∷ xs) = ap (λ t. x ∷ t) (append-nil' xs)
