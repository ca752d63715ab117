-- `nowhere` is a null pointer, which owns nothing.
use Rattle.std.proofs.Common.{◌≡◌, [], ◌∷◌, refl, lit<}
use Rattle.std.specs.Prelude.{None}
use mir.Val.{Val, vnull}
use base.Logic.{SProp, emp}
use base.Fml.{ftrue}
use types.Kit.{‵, raw, ◌⊛◌, ◌$◌, ◌∵◌, !, qed, by, keep, drop, split, use0}
use types.Run.{lit, no_more, and_then, returns, enter}
use types.ByLocal.{alloc_all, pass_all, free_all, look_at, sets}
use types.Part.{agg}
use contract.Monad.{fact, fact_i}
use contract.Running.{tables}
use denote.RattleType.{owns}
use denote.RawPtr.{null_ptr}
use denote.Steps.{nothing}
use denote.Triple.Walked.{walk_of}
use Rattle.std.proofs.raw_atomic.Walks.{proved_at, leaves}
use Rattle.desk_page.specs.contracts.kept.Kept as kept
use Rattle.desk_page.specs.contracts.held.Held as held
use Rattle.desk_page.proofs.Places.{one_field, held_none}
use Rattle.desk_page.specs.contracts.held.nowhere.{ended, clauses}
use Rattle.desk_page.specs.contracts.held.nowhere.Key.{name as #self}
use Rattle.desk_page.proofs.held.nowhere.Statement.{statement}
use Rattle.desk_page.proofs.held.nowhere.Code as code

pub nowhere_spec : {M : Type 1} → statement M
nowhere_spec 𝓤 𝓛 𝓜 𝓡 wired =
    let H = 𝓛.H in let 𝓣 = tables 𝓤 H 𝓜 𝓡 𝓡.env in let c = clauses 𝓛 𝓜.mem 𝓡.returns in let fn = code.function in
    proved_at 𝓛 ended tt c 𝓜 𝓡 tt #self fn (code.unfolded 𝓤 H 𝓜 𝓡 wired) (λ z are.
    let Post : Val → SProp 𝓤 = (walk_of 𝓛 ended tt c).post z in
    let made : held.the_row.Denot = record { at = null_ptr; kept = None } in
    qed 𝓛 ((‵ ftrue ⊛ ‵ ftrue) ∷ raw ((c z.0.0 z.0.3).requires z.1) ∷ []) ∵ split ! $ drop ! $ drop ! $
    enter ! 𝓣.C 𝓣.Λ fn [] Post $ alloc_all ! (λ l. pass_all ! refl tt $
    sets ! (agg ! (and_then ! (lit ! tt) (no_more !))) refl (tt, (record { fits = lit< tt }, tt)) $
    held_none ! $
    use0 𝓛 (raw (fact 𝓤 (made.kept ≡ None))) (fact_i 𝓤 (made.kept ≡ None) (emp 𝓤) refl) $ nothing ! $ nothing ! $
    returns ! (look_at ! 0 refl) $ free_all ! refl $ keep ! (0 ∷ 1 ∷ 3 ∷ 2 ∷ []) $
    by ! (leaves 𝓛 ended tt c z (one_field vnull) made tt tt)))
