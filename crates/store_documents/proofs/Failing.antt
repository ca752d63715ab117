-- Failures that are counted, passed on.
use Rattle.std.proofs.Common.{◌≡◌, ◌∙◌, ◌<◌, ℕ, Err, sym, subst}
use Rattle.std.specs.Prelude.{Result}
use Rattle.sector_disk.specs.Faults.{FailsAs}
use Rattle.desk_journal.specs.Errors.{Error, Fault}

-- an error is passed on, after which nothing more is done
pub fails_on : {T U : Type 0} (P Q : Error → Type 0) (error : Error) (result : Result U Error) (first failed failed' : ℕ)
    → ((e : Error) → P e → Q e) → failed ≡ first → result ≡ Err error → FailsAs {T = T} Fault P (Err error) failed failed'
    → FailsAs Fault Q result first failed'
fails_on {U = U} P Q error result first failed failed' wider same is fails =
    subst (λ r. FailsAs Fault Q r first failed') (sym is) (record {
      rose = λ fault. subst (λ n. n < failed') same (fails.rose (cc fault));
      calm = λ fine. fails.calm (λ fault. fine (cc fault)) ∙ same;
      errors = wider error fails.errors;
    })
