-- `of`: the call hands out a pointer, beside the allocator, and the block; the struct is made of them.
use Rattle.std.proofs.Common.{◌≡◌, ◌∙◌, ap, sym, subst, refl, List, [], ◌∷◌, ◌++◌}
use mir.Syntax.{a_type, dcons, dnil}
use mir.Raw.{raw as bare}
use mir.Val.{Val, vptr, vstruct, of_list}
use mir.MapTy.{inst_fn}
use base.Logic.{SProp, ent, emp, never, id⊢, fst∗}
use base.Fml.{ftrue, fsep, flft}
use prog.Wp.{WpFn}
use types.Logic.{sem}
use types.Kit.{‵, raw, ◌⊛◌, some, later, ◌$◌, ◌∵◌, !, qed, by, move, keep, drop, split, split3, join, fsplit, fjoin, fpick, pick, suffices, use0, use1, await, rewrite, feq_l}
use types.Run.{stop, fld, of_opd, no_more, and_then, returns, enter}
use types.ByLocal.{alloc_all, pass_all, free_all, look_at, get, get_in, sets, lands_as}
use types.Part.{agg, sub, whole}
use contract.Monad.{fact, fact_i}
use contract.Running.{tables}
use denote.Exit.{no}
use denote.RattleType.{RattleType, owns}
use denote.Signature.{types_at, plain}
use denote.Builtin.{RawPtr}
use denote.RawPtr.{Ptr, block_ptr, null_ptr, ptr_val, in_a_block}
use denote.Steps.{nothing, only, heard}
use denote.Param.{param, layout, bounded}
use denote.Param.Laws.{param_laws}
use denote.Struct.Tuple.{Tuple}
use denote.Triple.Spec.{triple_of}
use denote.Triple.Call.{calls_at}
use denote.Triple.Walked.{Stays, stay_dropped, walk_of}
use Rattle.core.proofs.alloc.Calls.{Goes-blank, handle_tells}
use Rattle.core.proofs.atomic.Steps.{fm}
use Rattle.std_alloc.specs.Box.Ownership.{box_owns}
use Rattle.std_alloc.proofs.BoxSteps.Form as form
use Rattle.std_alloc.proofs.BoxSteps.Steps.{box_out, box_in}
use Rattle.std.proofs.raw_atomic.Walks.{proved_at, leaves}
use Rattle.desk_page.proofs.Values.{beside, well_made, closed}
use Rattle.std_alloc.specs.contracts.boxed.Box.into_raw_with_allocator as asked
use Rattle.std_alloc.proofs.boxed.Box.into_raw_with_allocator.Met as answered
use Rattle.desk_page.specs.contracts.apart.Apart.of as stated
use Rattle.desk_page.specs.contracts.apart.Apart.of.Key.{name as #of}
use Rattle.desk_page.proofs.apart.Apart.of.Statement.{statement}
use Rattle.desk_page.proofs.apart.Apart.of.Code as code

pub of_spec : {M : Type 1} → statement M
of_spec 𝓤 𝓛 𝓜 𝓡 wired T A LT LA g da dt fa met glueT glueA =
    let 𝓣 = tables 𝓤 𝓛.H 𝓜 𝓡 𝓡.env in
    let R : RattleType = param 0 T in
    let Z : RattleType = param 1 A in
    let LZ = param_laws 1 A LA in
    let E : form.Bx = record {
      row = T;
      laws = LT;
      al = record { row = A; laws = LA; g = g; d = da; drops = fa };
    } in
    let args = bounded (a_type ∷ a_type ∷ []) (T, (A, tt)) (dcons da (dcons dt (dcons fa dnil))) in
    let fn = inst_fn args code.function in
    let ended = stated.ended T A g da dt fa in
    let c = stated.clauses T A g da dt fa 𝓛 𝓜.mem 𝓡.returns in
    let stayed : Stays ended.signature.params ended.kept = (stay_dropped (plain (λ _. form.B E)) no, tt) in
    proved_at 𝓛 ended stayed c 𝓜 𝓡 (Goes-blank 𝓛 2 (plain (λ _. form.B E)) no (λ κs x f. tt), tt)
    (#of args) fn (code.unfolded 𝓤 𝓛.H 𝓜 𝓡 wired (T, (A, tt)) da dt fa) (λ z are.
    let κs = z.0.0 in
    let box = z.0.3.0 in
    let a = box.alloc in
    let Post : Val → SProp 𝓤 = (walk_of 𝓛 ended stayed c).post z in
    let Runs : List Val → SProp 𝓤 = λ ws. WpFn 𝓤 𝓛.H 𝓣.C 𝓣.Λ fn ws Post in
    let alive = ‵ (flft κs.0 z.0.1.0) ⊛ ‵ (flft κs.1.0 z.0.1.1.0) ⊛ ‵ ftrue in
    qed 𝓛 ((alive ⊛ ‵ (owns (types_at ended.signature.params κs) z.0.3 z.0.4)) ∷ raw ((c κs z.0.3).requires z.1) ∷ []) ∵
    split ! $ move ! (1 ∷ []) $ fsplit ! $
    -- [the box; nothing; the tokens; what is required]: which word the box is
    box_out E ! box z.0.4.0 (λ b o h at words fits. box_in E ! box b o box.value at refl $
    let word : Val = form.word E h b o in
    let typed = well_made R Z LZ g b o h fits in
    let call = triple_of 𝓛 (asked.signature T A g da fa dt) (asked.spec T A g da fa dt 𝓛 𝓜.mem 𝓡.returns) in
    let y : call.Ghost = ((κs, z.0.1, tt, (box, tt), (word ∷ [], tt)), tt) in
    fjoin ! $ move ! (1 ∷ 0 ∷ []) $ join ! $ join ! $ use1 𝓛 (raw (call.pre y)) (id⊢ 𝓤 _) $
    suffices ! (Runs (word ∷ []))
    (subst (λ (ws : List Val). ent 𝓤 (Runs (word ∷ [])) (Runs ws)) (sym (λ i. words i ++ [])) (id⊢ 𝓤 (Runs (word ∷ [])))) $
    enter ! 𝓣.C 𝓣.Λ fn (word ∷ []) Post $ alloc_all ! (λ l. pass_all ! refl (typed, tt) $
    sets ! (of_opd ! (get ! refl)) refl typed $
    calls_at ! (fm 𝓛 𝓜 𝓡) call
    (answered.met 𝓤 𝓛 𝓜 𝓡 (code.calls-std_alloc::boxed::Box::into_raw_with_allocator 𝓡.env wired)
    T A LT LA g da fa dt met glueA glueT) y (and_then ! (get ! refl) (no_more !)) (λ u.
    let Pair = Tuple (RawPtr ∷ Z ∷ []) in
    use1 𝓛 (later (some (λ (r : Ptr × A.Denot). (alive ⊛ ‵ (Pair.own_val r (u ∷ [])))
    ⊛ some (λ (_ : (Unit {0} × (Unit {0} × Unit {0})) × Unit {0}). ‵ (fsep (fsep ftrue (fsep ftrue ftrue)) ftrue)
    ⊛ (raw (fact 𝓤 (r.1 ≡ a)) ⊛ ‵ (box_owns (g.dealloc_token a) R r.0 box.value)))))) (id⊢ 𝓤 _) $
    await ! tt $ pick ! (λ r. split ! $ move ! (1 ∷ []) $ pick ! (λ _. split3 ! $ drop ! $ heard ! (r.1 ≡ a) (λ same.
    -- [the block; the tokens with the pair]: the pair's words
    in_a_block ! r.0 (λ p. box_owns (g.dealloc_token a) R p box.value)
    (fst∗ 𝓤 (never 𝓤) (sem 𝓛 (g.dealloc_token a (bare (layout T)) null_ptr))) (λ b' o' there.
    move ! (1 ∷ []) $ split ! $ move ! (1 ∷ []) $ fpick ! (λ parts. fsplit ! $ feq_l ! (λ all. fsplit ! $ feq_l ! (λ first.
    fsplit ! $ rewrite ! 0 (λ (s : A.Denot). ‵ (A.own_val s parts.1.0)) same refl $
    handle_tells E.al ! a parts.1.0 (λ h' second fits'.
    let made = well_made R Z LZ g b' o' h' fits' in
    let words' = all
    ∙ (λ j. vstruct (of_list ((first ∙ ap (λ (p : Ptr). ptr_val p ∷ []) there) j ++ (second j ++ []))) ∷ []) in
    lands_as ! (ap only words') refl made $
    -- [the handle; nothing; the tokens; the block; the locals]
    sets ! (of_opd ! (get_in ! (fld ! refl (stop !)) (sub ! 0 refl (whole !)))) refl (tt, tt) $
    sets ! (of_opd ! (get_in ! (fld ! refl (stop !)) (sub ! 1 refl (whole !)))) refl fits' $
    sets ! (of_opd ! (get ! refl)) refl fits' $
    sets ! (agg ! (and_then ! (get ! refl) (and_then ! (get ! refl) (no_more !)))) refl made $
    move ! (0 ∷ 3 ∷ []) $ closed R Z LZ g ! b' o' h' a box.value $
    use0 𝓛 (raw (fact 𝓤 (box.value ≡ box.value))) (fact_i 𝓤 (box.value ≡ box.value) (emp 𝓤) refl) $
    nothing ! $ nothing ! $ fjoin ! $
    returns ! (look_at ! 0 refl) $ free_all ! refl $ keep ! (4 ∷ 0 ∷ 2 ∷ 1 ∷ []) $
    by ! (leaves 𝓛 ended stayed c z (beside (vptr b' o') h')
    (record { at = block_ptr b' o'; alloc = a; value = box.value }) ((tt, (tt, tt)), tt) (tt, tt))))))))))))))
