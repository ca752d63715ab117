-- `whole`: the struct is opened, and its parts go to the call that makes the box.
use Rattle.std.proofs.Common.{◌≡◌, ap, sym, subst, refl, List, [], ◌∷◌, ◌++◌}
use mir.Syntax.{a_type, dcons, dnil}
use mir.Val.{Val, vptr}
use mir.MapTy.{inst_fn}
use base.Logic.{SProp, ent, id⊢}
use base.Fml.{ftrue, flft}
use prog.Wp.{WpFn}
use types.Kit.{‵, raw, ◌⊛◌, some, later, at_ret, ◌$◌, ◌∵◌, !, qed, by, move, keep, drop, split, split3, join, fsplit, fjoin, pick, suffices, use1, await, rewrite, feq_i}
use types.Run.{stop, fld, of_opd, no_more, and_then, first, blocks, exec, returns, enter}
use types.ByLocal.{alloc_all, pass_all, free_all, look_at, get, get_in, sets, lands_last, env}
use types.Part.{sub, whole}
use contract.Monad.{fact}
use contract.BorrowLft.{◌⊑◌}
use contract.Running.{tables}
use denote.Exit.{no}
use denote.RattleType.{RattleType, owns}
use denote.Signature.{types_at, plain}
use denote.RawPtr.{block_ptr}
use denote.Steps.{nothing, only}
use denote.Param.{param, layout, bounded}
use denote.Param.Laws.{param_laws}
use denote.Triple.Clauses.{Lasts, lasts}
use denote.Triple.Spec.{triple_of}
use denote.Triple.Call.{calls_at_last}
use denote.Triple.Walked.{Stays, stay_dropped, walk_of}
use Rattle.core.proofs.alloc.Calls.{Goes-blank}
use Rattle.core.proofs.alloc.Shapes.{after}
use Rattle.core.proofs.atomic.Steps.{fm}
use Rattle.core.proofs.cell.Inside.{Good}
use Rattle.std_alloc.proofs.BoxSteps.Form as form
use Rattle.std_alloc.proofs.BoxSteps.Steps.{box_out, box_in}
use Rattle.std.proofs.raw_atomic.Walks.{proved_at, leaves}
use Rattle.desk_page.proofs.Values.{Apart, beside, well_made, opened}
use Rattle.std_alloc.specs.contracts.boxed.Box.from_raw as asked
use Rattle.std_alloc.proofs.boxed.Box.from_raw.Met as answered
use Rattle.desk_page.specs.contracts.apart.Apart.whole as stated
use Rattle.desk_page.specs.contracts.apart.Apart.whole.Key.{name as #whole}
use Rattle.desk_page.proofs.apart.Apart.whole.Statement.{statement}
use Rattle.desk_page.proofs.apart.Apart.whole.Code as code

pub whole_spec : {M : Type 1} → statement M
whole_spec 𝓤 𝓛 𝓜 𝓡 wired T A LT LA g da dt fa met glueT glueA =
    let 𝓣 = tables 𝓤 𝓛.H 𝓜 𝓡 𝓡.env in
    let R : RattleType = param 0 T in
    let Z : RattleType = param 1 A in
    let LZ = param_laws 1 A LA in
    let E : form.Bx = record {
      row = T;
      laws = LT;
      al = record { row = A; laws = LA; g = g; d = da; drops = fa };
    } in
    let args = bounded (a_type ∷ a_type ∷ []) (T, (A, tt)) (dcons da (dcons dt (dcons fa dnil))) in
    let fn = inst_fn args code.function in
    let ended = stated.ended T A g da dt fa in
    let c = stated.clauses T A g da dt fa 𝓛 𝓜.mem 𝓡.returns in
    let stayed : Stays ended.signature.params ended.kept = (stay_dropped (plain (λ _. Apart R Z LZ g)) no, tt) in
    proved_at 𝓛 ended stayed c 𝓜 𝓡 (Goes-blank 𝓛 2 (plain (λ _. Apart R Z LZ g)) no (λ κs x f. tt), tt)
    (#whole args) fn (code.unfolded 𝓤 𝓛.H 𝓜 𝓡 wired (T, (A, tt)) da dt fa) (λ z are.
    let κs = z.0.0 in
    let parts = z.0.3.0 in
    let a = parts.alloc in
    let Post : Val → SProp 𝓤 = (walk_of 𝓛 ended stayed c).post z in
    let Runs : List Val → SProp 𝓤 = λ ws. WpFn 𝓤 𝓛.H 𝓣.C 𝓣.Λ fn ws Post in
    let alive = ‵ (flft κs.0 z.0.1.0) ⊛ ‵ (flft κs.1.0 z.0.1.1.0) ⊛ ‵ ftrue in
    qed 𝓛 ((alive ⊛ ‵ (owns (types_at ended.signature.params κs) z.0.3 z.0.4)) ∷ raw ((c κs z.0.3).requires z.1) ∷ []) ∵
    split ! $ move ! (1 ∷ []) $ fsplit ! $
    opened R Z LZ g ! parts z.0.4.0 (λ b o h at words fits.
    let word : Val = beside (vptr b o) h in
    let typed = well_made R Z LZ g b o h fits in
    let call = triple_of 𝓛 (asked.signature T A g da fa) (asked.spec T A g da fa 𝓛 𝓜.mem 𝓡.returns) in
    let y : call.Ghost = ((κs, z.0.1, tt, (a, (block_ptr b o, tt)), (h ∷ [], (vptr b o ∷ [], tt))), parts.value) in
    let B : RattleType = form.B E in
    -- [the handle; the block; nothing; the tokens; what is required]: the arguments
    move ! (2 ∷ []) $ feq_i ! (List Val) (vptr b o ∷ []) (vptr b o ∷ []) refl $ fjoin ! $ move ! (1 ∷ 0 ∷ []) $ fjoin ! $
    move ! (2 ∷ 0 ∷ []) $ join ! $
    -- [the tokens with them; the block; what is required]: what the call requires
    move ! (2 ∷ []) $ use1 𝓛 (raw (fact 𝓤 (κs.0 ⊑ T.lives)) ⊛ raw (fact 𝓤 (κs.1.0 ⊑ A.lives)) ⊛ ‵ ftrue) (id⊢ 𝓤 _) $
    split3 ! $ move ! (2 ∷ []) $ drop ! $ move ! (1 ∷ 3 ∷ []) $ join ! $ move ! (1 ∷ 0 ∷ []) $ join ! $
    move ! (1 ∷ 0 ∷ []) $ join ! $ use1 𝓛 (raw (call.pre y)) (id⊢ 𝓤 _) $
    suffices ! (Runs (word ∷ []))
    (subst (λ (ws : List Val). ent 𝓤 (Runs (word ∷ [])) (Runs ws)) (sym (λ i. words i ++ [])) (id⊢ 𝓤 (Runs (word ∷ [])))) $
    enter ! 𝓣.C 𝓣.Λ fn (word ∷ []) Post $ alloc_all ! (λ l. pass_all ! refl (typed, tt) $
    let Here = env fn.locals l in
    sets ! (of_opd ! (get_in ! (fld ! refl (stop !)) (sub ! 0 refl (whole !)))) refl (tt, tt) $
    sets ! (of_opd ! (get_in ! (fld ! refl (stop !)) (sub ! 1 refl (whole !)))) refl fits $
    first ! $ blocks ! $ sets ! (of_opd ! (get ! refl)) refl fits $
    calls_at_last ! (fm 𝓛 𝓜 𝓡) call
    (answered.met 𝓤 𝓛 𝓜 𝓡 (code.calls-std_alloc::boxed::Box::from_raw 𝓡.env wired) T A LT LA g da fa met glueA) y
    (and_then ! (get ! refl) (and_then ! (get ! refl) (no_more !))) (λ u.
    use1 𝓛 (later (some (λ (r : B.Denot). (alive ⊛ ‵ (B.own_val r (u ∷ [])))
    ⊛ some (λ (ls : Lasts (asked.ended T A g da fa) κs y.0.3). ‵ (lasts (asked.ended T A g da fa) κs y.0.3 ls)
    ⊛ (raw (fact 𝓤 (r.value ≡ parts.value)) ⊛ raw (fact 𝓤 (r.alloc ≡ a))))))) (id⊢ 𝓤 (call.post y u)) $
    await ! tt $ pick ! (λ r. split ! $ move ! (1 ∷ []) $ pick ! (λ _. split3 ! $ drop ! $
    -- [the value is the same; the allocator too; the tokens with the box]
    move ! (2 ∷ []) $ split ! $ move ! (1 ∷ []) $
    box_out E ! r (u ∷ []) (λ b' o' h' at' word' fits'. box_in E ! r b' o' r.value at' refl $
    rewrite ! 0 (λ (ws : List Val). ‵ (B.own_val r ws)) (sym word') refl $
    let good : Good (layout B) u = subst (Good (layout B)) (sym (ap only word')) (well_made R Z LZ g b' o' h' fits') in
    lands_last ! refl good $
    exec ! 𝓣.C 𝓣.Λ Here (after 3 fn.body) (at_ret Here Post) $ sets ! (of_opd ! (get ! refl)) refl good $
    nothing ! $ nothing ! $ fjoin ! $
    returns ! (look_at ! 0 refl) $ free_all ! refl $ keep ! (2 ∷ 0 ∷ 1 ∷ 3 ∷ []) $
    by ! (leaves 𝓛 ended stayed c z u r ((tt, (tt, tt)), tt) (tt, tt)))))))))
