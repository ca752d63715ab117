-- An empty body. The borrow is opened and closed at a list that has more.
use Rattle.std.proofs.Common.{List, [], ◌∷◌, ◌++◌, length, refl}
use mir.Syntax.{named, a_type}
use mir.Val.{Val, vunit, vptr}
use mir.MapTy.{inst_fn}
use base.Logic.{id⊢}
use base.Fml.{ftrue, flft}
use types.Kit.{‵, raw, ◌⊛◌, ◌$◌, ◌∵◌, !, qed, move, keep, drop, use1, split, join, fsplit, fsplit3, fjoin, fjoin3}
use types.Kit.{feq_i, suffices, frame, done}
use types.Run.{unit_lit, of_opd, returns, enter}
use types.ByLocal.{alloc_all, pass_all, free_all, look_at, sets}
use denote.RattleType.{RattleType, owns}
use denote.Exit.{yes}
use denote.Param.{param, layouts}
use denote.Ref.{MutRef, mut_vals, mut_Tells}
use denote.Signature.{plain}
use denote.Slice.{ShrSlice, slice_val, shr_slice_vals, shr_slice_Tells}
use denote.Steps.{opens, closes}
use denote.Triple.Walked.{says, Stays, stay_ref, stay_none_slice, Goes-ref, Goes-none_slice, ends_at}
use Rattle.std.proofs.raw_atomic.Walks.{proved}
use Rattle.ghost_traces.specs.contracts.trace.Trace as Trace
use Rattle.ghost_traces.specs.contracts.trace.Trace.add as it
use Rattle.ghost_traces.specs.contracts.trace.Trace.add.Key.{name as #it}
use Rattle.ghost_traces.proofs.trace.Trace.add.Statement.{statement}
use Rattle.ghost_traces.proofs.trace.Trace.add.Code as code

pub add_spec : {M : Type 1} → statement M
add_spec 𝓤 𝓛 𝓜 𝓡 wired T L =
    let types = layouts (a_type ∷ []) (T, tt) in
    let ended = it.ended T in
    let c = it.clauses T 𝓛 𝓜.mem 𝓡.returns in
    let item : RattleType = param 0 T in
    let row : RattleType = Trace.the_row item in
    let stayed : Stays ended.signature.params ended.kept =
    (stay_ref (0 ∷ []) tt (plain (λ _. row)), (stay_none_slice (1 ∷ []) tt (plain (λ _. item)) yes, tt)) in
    proved 𝓛 ended stayed c 𝓜 𝓡
    (Goes-ref 𝓛 3 0 tt (plain (λ _. row)), (Goes-none_slice 𝓛 3 (1 ∷ []) tt (plain (λ _. item)) yes, tt))
    (#it types) (inst_fn types code.function) (code.unfolded 𝓤 𝓛.H 𝓜 𝓡 wired (T, tt))
    (λ κs. (mut_vals, (shr_slice_vals, tt)))
    (λ κs. (mut_Tells (named 0) κs.0 row, (shr_slice_Tells (named 1) κs.1.0 item, tt))) (λ κs qs bounds a g are.
    let trace = a.0 in let more = a.1.0 in let b = trace.ref_ptr.0 in let o = trace.ref_ptr.1 in
    let longer : row.Denot = record { marker = trace.now.marker; items = trace.now.items ++ more.now } in
    let vss : List Val × (List Val × Unit {0}) = (vptr b o ∷ [], (slice_val more.ref_ptr (length more.now) ∷ [], tt)) in
    qed 𝓛 (((‵ (flft κs.0 qs.0) ⊛ (‵ (flft κs.1.0 qs.1.0) ⊛ (‵ (flft κs.1.1.0 qs.1.1.0) ⊛ ‵ ftrue)))
    ⊛ ‵ (owns (MutRef (named 0) κs.0 row ∷ ShrSlice (named 1) κs.1.0 item ∷ []) a vss))
    ∷ raw ((c κs a).requires g) ∷ []) ∵
    keep ! (0 ∷ []) $ split ! $ split ! $
    move ! (2 ∷ []) $ fsplit ! $ fsplit3 ! $ drop ! $ move ! (0 ∷ 1 ∷ 3 ∷ []) $
    enter ! _ _ _ (vptr b o ∷ slice_val more.ref_ptr (length more.now) ∷ []) _ $
    alloc_all ! (λ l. pass_all ! refl ((tt, tt), ((tt, (tt, (record { fits = are.1.0.0.1.0 }, tt))), tt)) $
    opens ! tt row {h = trace.now} b o (λ vs.
    sets ! (of_opd ! (unit_lit !)) refl (tt, tt) $
    move ! (1 ∷ []) $ use1 𝓛 (‵ (row.own_val longer vs)) (id⊢ 𝓤 _) $
    move ! (1 ∷ 0 ∷ []) $ closes ! tt row longer vs b o $
    returns ! (look_at ! 0 refl) $ free_all ! refl $
    suffices ! _ (ends_at 𝓛 ended stayed c ((κs, qs, bounds, a, vss), g) vunit tt (longer, (tt, tt)) (tt, (tt, tt))) $
    says ! refl $ move ! (2 ∷ 4 ∷ []) $ join ! $ frame ! $
    feq_i ! (List Val) (vptr b o ∷ []) (vptr b o ∷ []) refl $ fjoin3 ! $ fjoin ! $
    feq_i ! (List Val) (vunit ∷ []) (vunit ∷ []) refl $ move ! (1 ∷ 0 ∷ []) $ done !)))
