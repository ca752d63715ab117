-- The machine value of a box that was taken apart: a pointer, and an allocator's handle. Assumes `Logic`.
use Rattle.std.proofs.Common.{◌≡◌, ◌∙◌, ap, ℕ, List, [], ◌∷◌, ◌++◌, refl}
use mathlib.Core.Bool.{true, ◌&&◌}
use lib.Dec.{T}
use seplogic.Ra.Ura.{Ura}
use mir.Syntax.{impl, tnil, dnil}
use mir.Raw.{raw as bare}
use mir.Val.{Val, vptr, vstruct, vcons, vnil, of_list, has_ty, WT}
use base.Logic.{never, fst∗}
use base.Fml.{Fml}
use types.Logic.{Logic, sem}
use types.Kit.{Item, Goal, Seq, Step, step, ‵, ◌$◌, move, drop, fsplit, fjoin, fpick, fpack, feq_i, feq_l}
use denote.RattleType.{RattleType, Valss}
use denote.Builtin.{RawPtr}
use denote.Memory.{lone}
use denote.RawPtr.{Ptr, block_ptr, null_ptr, ptr_val, in_a_block}
use denote.Steps.{nothing}
use denote.Param.{layout}
use denote.Param.Laws.{Laws}
use denote.Struct.Struct.{within}
use denote.Struct.Owning.{shape}
use Rattle.core.specs.declared.alloc.Allocator.{Ghosts}
use Rattle.core.proofs.alloc.Calls.{Al, Fits, handle_tells}
use Rattle.std_alloc.specs.Box.Ownership.{box_owns}
use Rattle.std_alloc.proofs.ResultValues.{and_tt}
use Rattle.desk_page.specs.contracts.apart.Apart as apart

-- two values beside one another
abbrev pub beside : Val → Val → Val
beside p h = vstruct (vcons p (vcons h vnil))

module _ (R Z : RattleType) (laws : Laws Z) (g : Ghosts Z.Denot) where
  abbrev pub Apart : RattleType
  Apart = apart.the_row R Z g

  -- an allocator by its row and its laws alone
  abbrev pub allocator : Al
  allocator = record { row = Z; laws = laws; g = g; d = impl [] tnil dnil; drops = impl [] tnil dnil }

  -- A pointer beside a handle that fits is a value of the struct.
  pub well_made : (b o : ℕ) (h : Val) → Fits allocator h
      → T (has_ty (layout Z) h && true) × WT (beside (vptr b o) h)
  well_made b o h fits = (and_tt (has_ty (layout Z) h) fits.0, (tt, (fits.1, tt)))

  -- what lies at a pointer, and the right to free it
  abbrev pub lies : Z.Denot → R.Denot → Ptr → Fml
  lies a x p = box_owns (g.dealloc_token a) R p x

  module _ {M : Type 1} {𝓤 : Ura M} {𝓛 : Logic 𝓤} {K : Type 0} {Γ : List (Item 𝓤)} {G : Goal 𝓤 𝓛.H} where
    -- Its parts: first the block, since nothing lies at null, and then the words.
    pub opened : K → (d : Apart.Denot) (vs : List Val)
        → ((b o : ℕ) (h : Val) → d.at ≡ block_ptr b o → vs ≡ beside (vptr b o) h ∷ [] → Fits allocator h
        → Seq K 𝓛 (‵ (Z.own_val d.alloc (h ∷ [])) ∷ ‵ (lies d.alloc d.value (block_ptr b o)) ∷ Γ) G)
        → Seq K 𝓛 (‵ (Apart.own_val d vs) ∷ Γ) G
    opened t d vs k =
        fsplit t $ move t (1 ∷ []) $
        in_a_block t d.at (lies d.alloc d.value)
        (fst∗ 𝓤 (never 𝓤) (sem 𝓛 (g.dealloc_token d.alloc (bare (lone R.mir)) null_ptr))) (λ b o at.
        move t (1 ∷ []) $ fpick t (λ words. fsplit t $ feq_l t (λ all. fsplit t $ feq_l t (λ first. fsplit t $
        handle_tells allocator t d.alloc words.1.0 (λ h second fits. move t (1 ∷ []) $ drop t $
        k b o h at
        (all ∙ (λ i. vstruct (of_list ((first ∙ ap (λ (p : Ptr). ptr_val p ∷ []) at) i ++ (second i ++ []))) ∷ []))
        fits)))))

    -- And made of them again.
    pub closed : K → (b o : ℕ) (h : Val) (a : Z.Denot) (x : R.Denot)
        → Step K 𝓛
        (‵ (Apart.own_val (record { at = block_ptr b o; alloc = a; value = x }) (beside (vptr b o) h ∷ [])) ∷ Γ) G
        (‵ (Z.own_val a (h ∷ [])) ∷ ‵ (lies a x (block_ptr b o)) ∷ Γ) G
    closed t b o h a x = step (λ rest. let word : Val = beside (vptr b o) h in
        nothing t $ move t (1 ∷ 0 ∷ []) $ fjoin t $
        feq_i t (List Val) (vptr b o ∷ []) (vptr b o ∷ []) refl $ fjoin t $
        feq_i t (List Val) (word ∷ []) (word ∷ []) refl $ fjoin t $
        fpack t (Valss (RawPtr ∷ Z ∷ [])) (within (shape (apart.the_type R Z g)) (block_ptr b o, (a, tt)) (word ∷ []))
        (vptr b o ∷ [], (h ∷ [], tt)) $ fjoin t $ rest)
