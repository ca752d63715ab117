-- Runs of calls, one after another.
use Rattle.std.proofs.Common.{◌≡◌, ◌<◌, List, [], ◌∷◌, ◌++◌, length, get_or, refl}
use Rattle.std.proofs.Common.{ap, subst, arith}
use Rattle.std.specs.Prelude.{zip}
use Rattle.sector_disk.specs.declared.disk.Disk.{Ghosts}
use Rattle.store_runs.specs.declared.call.StoreCall.{StoreCall}
use Rattle.store_runs.specs.Deeds.{ComposingLaw, Deed, DoesDeed, IsRun, StoreAnswer, called, deeds_of}
use Rattle.desk_journal.specs.View.{StoreView}

pub composed : {D : Type 0} (d : Ghosts D) → ComposingLaw d
composed d [] more first mid last one two = subst (λ s. IsRun d more s last) one two
composed d (deed ∷ deeds) more first mid last one two =
    (one.0, one.1, composed d deeds more one.0 mid last one.2 two)

-- one deed more
pub one_deed_more : {D : Type 0} (d : Ghosts D) (deeds : List Deed) (deed : Deed) (old mid new : StoreView D)
    → IsRun d deeds old mid → DoesDeed d deed mid new → IsRun d (deeds ++ deed ∷ []) old new
one_deed_more d deeds deed old mid new run does = composed d deeds (deed ∷ []) old mid new run (new, does, refl)

-- calls and their answers, side by side
abbrev pub answered : List StoreCall → List StoreAnswer → List Deed
answered calls answers = deeds_of (zip calls answers)

pub none_done : (calls : List StoreCall) → answered calls [] ≡ []
none_done [] = refl
none_done (call ∷ calls) = refl

-- one call and one answer more
pub deeds_grow : (calls : List StoreCall) (answers : List StoreAnswer) (answer : StoreAnswer) (d : StoreCall)
    → length answers < length calls
    → answered calls (answers ++ answer ∷ []) ≡ answered calls answers
    ++ called (get_or calls (length answers) d) answer ∷ []
deeds_grow [] answers answer d room = absurd (omega arith)
deeds_grow (call ∷ calls) [] answer d room = ap (λ ds. called call answer ∷ ds) (none_done calls)
deeds_grow (call ∷ calls) (a ∷ answers) answer d room = ap (λ ds. called call a ∷ ds)
    (deeds_grow calls answers answer d (omega (arith, room)))
