-- The machine value of a `Held`. Assumes `Logic`.
use Rattle.std.proofs.Common.{◌≡◌, ℕ, List, [], ◌∷◌, ◌++◌, refl, subst}
use Rattle.std.specs.Prelude.{Option, Some, None}
use seplogic.Ra.Ura.{Ura}
use mir.Raw.{raw as bare}
use mir.Val.{Val, vptr, vstruct, vcons, vnil, vnull, of_list}
use base.Logic.{never, fst∗}
use types.Logic.{Logic, sem}
use types.Kit.{Item, Goal, Seq, Step, step, ‵, ◌$◌, drop, fsplit, fjoin, fpick, fpack, rewrite, feq_i, feq_l}
use denote.RattleType.{Valss}
use denote.Builtin.{RawPtr}
use denote.Memory.{lone}
use denote.RawPtr.{Ptr, block_ptr, null_ptr, ptr_val, in_a_block}
use denote.Steps.{nothing}
use denote.Struct.Struct.{within}
use denote.Struct.Owning.{shape}
use Rattle.std_alloc.specs.Box.Ownership.{box_owns}
use Rattle.piece_ring.specs.Ownership.{chunk}
use Rattle.desk_page.specs.Owning.{owned, IsThere}
use Rattle.desk_page.specs.contracts.kept.Kept as kept
use Rattle.desk_page.specs.contracts.held.Held as held

abbrev pub one_field : Val → Val
one_field v = vstruct (vcons v vnil)

module _ {M : Type 1} {𝓤 : Ura M} {𝓛 : Logic 𝓤} {K : Type 0} {Γ : List (Item 𝓤)} {G : Goal 𝓤 𝓛.H} where
  -- a place that has something, taken apart
  pub held_out : K → (d : held.the_row.Denot) (vs : List Val) (x : kept.the_row.Denot) → d.kept ≡ Some x
      → ((b o : ℕ) → d.at ≡ block_ptr b o → vs ≡ one_field (vptr b o) ∷ []
      → Seq K 𝓛 (‵ (box_owns chunk kept.the_row (block_ptr b o) x) ∷ Γ) G)
      → Seq K 𝓛 (‵ (held.the_row.own_val d vs) ∷ Γ) G
  held_out t d vs x is k =
      fsplit t $ fpick t (λ vss. fsplit t $ feq_l t (λ ev. fsplit t $ feq_l t (λ ep. drop t $
      rewrite t 0 (λ (q : Option kept.the_row.Denot). ‵ (owned d.at q)) is refl $
      in_a_block t d.at (λ p. box_owns chunk kept.the_row p x)
      (fst∗ 𝓤 (never 𝓤) (sem 𝓛 (chunk (bare (lone kept.the_row.mir)) null_ptr))) (λ b o e. k b o e
      (subst (λ (p : Ptr). vs ≡ vstruct (of_list (ptr_val p ∷ [])) ∷ []) e
      (subst (λ (ps : List Val). vs ≡ vstruct (of_list (ps ++ [])) ∷ []) ep ev))))))

  -- and made
  pub held_in : K → (b o : ℕ) (x : kept.the_row.Denot)
      → Step K 𝓛
      (‵ (held.the_row.own_val (record { at = block_ptr b o; kept = Some x }) (one_field (vptr b o) ∷ [])) ∷ Γ) G
      (‵ (box_owns chunk kept.the_row (block_ptr b o) x) ∷ Γ) G
  held_in t b o x = step (λ s. let v : Val = one_field (vptr b o) in
      nothing t $ feq_i t (List Val) (vptr b o ∷ []) (vptr b o ∷ []) refl $ fjoin t $
      feq_i t (List Val) (v ∷ []) (v ∷ []) refl $ fjoin t $
      fpack t (Valss (RawPtr ∷ [])) (within (shape held.the_type) (block_ptr b o, tt) (v ∷ [])) (vptr b o ∷ [], tt) $
      fjoin t $ s)

  -- and one of nothing
  pub held_none : K → Step K 𝓛
      (‵ (held.the_row.own_val (record { at = null_ptr; kept = None }) (one_field vnull ∷ [])) ∷ Γ) G Γ G
  held_none t = step (λ s. let v : Val = one_field vnull in
      nothing t $ nothing t $ feq_i t (List Val) (vnull ∷ []) (vnull ∷ []) refl $ fjoin t $
      feq_i t (List Val) (v ∷ []) (v ∷ []) refl $ fjoin t $
      fpack t (Valss (RawPtr ∷ [])) (within (shape held.the_type) (null_ptr, tt) (v ∷ [])) (vnull ∷ [], tt) $
      fjoin t $ s)

-- where something is kept, that is what is kept
pub found : (k : Option kept.the_row.Denot) → IsThere k → (x : kept.the_row.Denot) × (k ≡ Some x)
found None there = absurd there
found (Some x) there = (x, refl)
