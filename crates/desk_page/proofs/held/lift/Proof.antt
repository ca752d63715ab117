-- `lift` moves the pointer back.
use Rattle.std.proofs.Common.{◌≡◌, List, [], ◌∷◌, ◌++◌, refl, sym, subst}
use Rattle.std.specs.Prelude.{Some}
use mir.Val.{Val, vptr}
use base.Logic.{SProp, ent, emp, id⊢}
use base.Fml.{ftrue}
use prog.Wp.{WpFn}
use types.Kit.{‵, raw, ◌⊛◌, ◌$◌, ◌∵◌, !, qed, by, move, keep, drop, split, fsplit, fjoin, suffices, use0}
use types.Run.{stop, fld, of_opd, no_more, and_then, returns, enter}
use types.ByLocal.{alloc_all, pass_all, free_all, look_at, get, get_in, sets}
use types.Part.{agg, sub, whole}
use contract.Monad.{fact, fact_i}
use contract.Running.{tables}
use denote.Exit.{yes}
use denote.RattleType.{RattleType, owns}
use denote.Signature.{types_at, plain}
use denote.RawPtr.{block_ptr}
use denote.Steps.{nothing, heard}
use denote.Triple.Walked.{Stays, stay_dropped, walk_of, Goes-dropped}
use Rattle.core.proofs.alloc.Calls.{handle_tells}
use Rattle.std.specs.contracts.alloc.Global as heap
use Rattle.std.proofs.alloc.Global.TheLaws as heap_laws
use Rattle.std.specs.contracts.impls.GlobalAllocator.TheImpl.{ghosts}
use Rattle.std.proofs.raw_atomic.Walks.{proved_at, leaves}
use Rattle.desk_page.specs.contracts.kept.Kept as kept
use Rattle.desk_page.specs.contracts.held.Held as held
use Rattle.desk_page.proofs.Values.{allocator, beside, well_made, closed}
use Rattle.desk_page.proofs.Places.{one_field, found, held_out}
use Rattle.desk_page.specs.Owning.{IsThere}
use Rattle.desk_page.specs.contracts.held.lift.{ended, clauses}
use Rattle.desk_page.specs.contracts.held.lift.Key.{name as #self}
use Rattle.desk_page.proofs.held.lift.Statement.{statement}
use Rattle.desk_page.proofs.held.lift.Code as code

pub lift_spec : {M : Type 1} → statement M
lift_spec 𝓤 𝓛 𝓜 𝓡 wired =
    let H = 𝓛.H in let 𝓣 = tables 𝓤 H 𝓜 𝓡 𝓡.env in let R : RattleType = kept.the_row in let Z : RattleType = heap.the_row in
    let LZ = heap_laws.the_row_laws in let c = clauses 𝓛 𝓜.mem 𝓡.returns in let fn = code.function in
    let hs : Stays ended.signature.params ended.kept = (
      stay_dropped (plain (λ _. Z)) yes,
      (stay_dropped (plain (λ _. held.the_row)) yes, tt),
    ) in
    proved_at 𝓛 ended hs c 𝓜 𝓡
    (Goes-dropped 𝓛 0 (plain (λ _. Z)) yes (λ κs x f. refl), (Goes-dropped 𝓛 0 (plain (λ _. held.the_row)) yes (λ κs x f. refl), tt))
    #self fn (code.unfolded 𝓤 H 𝓜 𝓡 wired) (λ z are.
    let Post : Val → SProp 𝓤 = (walk_of 𝓛 ended hs c).post z in
    let Run : List Val → SProp 𝓤 = λ ws. WpFn 𝓤 H 𝓣.C 𝓣.Λ fn ws Post in
    let a = z.0.3.0 in let d = z.0.3.1.0 in
    qed 𝓛 ((‵ ftrue ⊛ ‵ (owns (types_at ended.signature.params z.0.0) z.0.3 z.0.4)) ∷ raw (fact 𝓤 (IsThere d.kept)) ∷ []) ∵
    move ! (1 ∷ []) $ heard ! (IsThere d.kept) (λ there.
    let x = (found d.kept there).0 in let is = (found d.kept there).1 in split ! $ drop ! $ fsplit ! $
    handle_tells (allocator R Z LZ ghosts) ! a z.0.4.0 (λ h ea fits. move ! (1 ∷ []) $ fsplit ! $
    held_out ! d z.0.4.1.0 x is (λ b o e ws. move ! (0 ∷ 2 ∷ []) $
    let u : Val = one_field (vptr b o) in let w : Val = beside (vptr b o) h in
    suffices ! (Run (h ∷ u ∷ [])) (subst (λ (us : List Val). ent 𝓤 (Run (h ∷ u ∷ [])) (Run us))
    (sym (λ i. ea i ++ (ws i ++ []))) (id⊢ 𝓤 (Run (h ∷ u ∷ [])))) $
    enter ! 𝓣.C 𝓣.Λ fn (h ∷ u ∷ []) Post $ alloc_all ! (λ l. pass_all ! refl (fits, ((tt, (tt, tt)), tt)) $
    sets ! (of_opd ! (get_in ! (fld ! refl (stop !)) (sub ! 0 refl (whole !)))) refl (tt, tt) $
    sets ! (of_opd ! (get ! refl)) refl (tt, tt) $
    sets ! (agg ! (and_then ! (get ! refl) (and_then ! (get ! refl) (no_more !)))) refl (well_made R Z LZ ghosts b o h fits) $
    move ! (1 ∷ []) $ closed R Z LZ ghosts ! b o h a x $
    use0 𝓛 (raw (fact 𝓤 (d.kept ≡ Some x))) (fact_i 𝓤 (d.kept ≡ Some x) (emp 𝓤) is) $
    nothing ! $ nothing ! $ fjoin ! $ nothing ! $ fjoin ! $ nothing ! $
    returns ! (look_at ! 0 refl) $ free_all ! refl $ keep ! (0 ∷ 1 ∷ 3 ∷ 2 ∷ []) $
    by ! (leaves 𝓛 ended hs c z w (record { at = block_ptr b o; alloc = a; value = x }) (tt, (tt, tt)) (tt, (tt, tt))))))))
