-- `link_on` reads one end of an edge that the chain lends. Assumes `Logic`.
use Rattle.piece_ring.proofs.Steps.{◌+◌, List, [], ◌∷◌, refl, ap, ◌∙◌, w64, proved, sem, never, fst∗}
use Rattle.piece_ring.proofs.Steps.{tables, ‵, at_ret, ◌$◌, ◌∵◌, !, qed, done, move, keep}
use Rattle.piece_ring.proofs.Steps.{discard, use1, split, join, fsplit, fjoin, feq_l, rewrite, suffices, frame, enter}
use Rattle.piece_ring.proofs.Steps.{of_opd, load, look, stop, fld, no_more, and_then, first, blocks, exec, returns, agg}
use Rattle.piece_ring.proofs.Steps.{alloc_all, pass_all, free_all, look_at, get, get_in, through, sets}
use Rattle.piece_ring.proofs.Steps.{sets_last, is, env, whole, sub, shared_of, hide, unhide, uint_vals}
use Rattle.piece_ring.proofs.Steps.{Ptr, RawPtr, ptr_val, in_a_block, shr_vals}
use Rattle.piece_ring.proofs.Steps.{nothing, heard, lent_at, walk_of, ends_at, after}
use Rattle.piece_ring.proofs.Steps.{Ptr-Good, word, word-Good}
use Rattle.piece_ring.specs.Nodes.{places}
use Rattle.piece_ring.proofs.Peeks.{stayed, passed, tells, goes, given}
use Rattle.piece_ring.specs.Ownership.{next_of, edge_lent, loop_lent}
use Rattle.piece_ring.proofs.Places.{head_of, cut_at, places_cut, next_inner, next_last}
use Rattle.piece_ring.proofs.Memory.{peer_in, peer_out, next_seen, says_both, word_made}
use Rattle.piece_ring.proofs.chain.Spot.TheLaws.{lowers}
use Rattle.piece_ring.specs.contracts.chain.Chain.link_on as f
use Rattle.piece_ring.proofs.chain.Chain.link_on.Statement.{statement}
use Rattle.piece_ring.proofs.chain.Chain.link_on.Code as code

pub link_on_spec : {M : Type 1} → statement M
link_on_spec 𝓤 𝓛 𝓜 𝓡 wired =
    let c = f.clauses 𝓛 𝓜.mem 𝓡.returns in let W = walk_of 𝓛 f.ended stayed c in let 𝓣 = tables 𝓤 𝓛.H 𝓜 𝓡 𝓡.env in
    proved 𝓛 f.ended stayed c 𝓜 𝓡 (goes 𝓛) f.Key.name code.function (code.unfolded 𝓤 𝓛.H 𝓜 𝓡 wired) passed tells
    (λ κs qs bounds a g are.
    let κ = κs.0 in let d = a.0.now in let at = a.1.0 in let i = a.1.1.0 in
    let y : W.Ghost = ((κs, qs, bounds, a, (shr_vals a.0, (lowers.lowered at ∷ [], (uint_vals w64 i, tt)))), tt) in
    qed 𝓛 (given 𝓤 κs qs a) ∵
    move ! (1 ∷ []) $ heard ! _ (λ asked.
    let cut = cut_at d.nodes i at.ptr asked in
    let other : Ptr = head_of (places cut.after) (head_of (places cut.before) at.ptr) in
    split ! $ split ! $ move ! (2 ∷ []) $ split ! $ keep ! (0 ∷ 2 ∷ []) $ fsplit ! $ feq_l ! (λ _.
    enter ! _ _ _ _ _ $ alloc_all ! (λ l. pass_all ! refl
    ((tt, tt), (word-Good [] at.ptr, ((tt, record { fits = are.1.1.0.1 }), tt))) $
    -- [what the `&` holds; the token of κ]
    unhide ! $ fsplit ! $ discard ! $ fsplit ! $
    rewrite ! 0 (λ (ps : List Ptr). ‵ (loop_lent ps κ)) (ap places cut.cut
    ∙ places_cut cut.before at.ptr cut.piece cut.after) refl $
    use1 𝓛 (‵ (edge_lent at.ptr other κ)) (next_seen 𝓛 κ (places cut.before) at.ptr (places cut.after)) $ fsplit ! $
    in_a_block ! at.ptr (λ p. lent_at RawPtr (next_of p) other κ)
    (fst∗ 𝓤 (never 𝓤) (sem 𝓛 (shared_of RawPtr other 0 0 κ))) (λ pb po ep.
    fsplit ! $ discard ! $ hide ! $ move ! (0 ∷ 3 ∷ []) $ peer_in ! tt other pb (po + 8) (λ s.
    sets ! (is ! (of_opd ! (get_in ! (fld ! refl (stop !)) (sub ! 0 refl (whole !)))) (ap ptr_val ep)) refl (tt, tt) $
    first ! $ blocks ! $ sets_last ! (of_opd ! (load ! (through ! refl (fld ! refl (stop !))) (look ! 0 refl))) refl
    (Ptr-Good other) $
    exec ! 𝓣.C 𝓣.Λ (env code.Mir.locals l) (after 2 (code.function).body) (at_ret _ (W.post y)) $
    sets ! (of_opd ! (get ! refl)) refl (Ptr-Good other) $
    sets ! (agg ! (and_then ! (get ! refl) (no_more !))) refl (word-Good [] other) $ peer_out ! tt other pb (po + 8) $
    returns ! (look_at ! 0 refl) $ free_all ! refl $ keep ! (0 ∷ []) $
    suffices ! _ (ends_at 𝓛 f.ended stayed c y (word other) (record { ptr = other }) (tt, (tt, (tt, tt)))
    (tt, (tt, (tt, tt)))) $ says_both ! (next_inner d.nodes i at.ptr cut) (next_last d.nodes i at.ptr cut) $
    word_made ! other $ nothing ! $ move ! (2 ∷ 0 ∷ []) $ join ! $ frame ! $ nothing ! $ nothing ! $ fjoin ! $
    nothing ! $ fjoin ! $ nothing ! $ fjoin ! $ done !))))))
