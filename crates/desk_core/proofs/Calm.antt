-- What a source of characters is after some calls, where none failed.
use Rattle.std.proofs.Common.{◌≡◌, ℕ, subst, ◌∙◌, arith}
use Rattle.std.specs.Prelude.{Result, Ok, IsErrOf}
use Rattle.sector_disk.specs.Faults.{FailsAs}
use Rattle.char_file.specs.declared.source.CharSource.{Ghosts}
use Rattle.desktop_definitions.specs.Outcome.{IsSameSource}
use Rattle.desk_core.specs.declared.stop.Stop.{Stop}
use Rattle.desk_core.specs.declared.stop.Stop.TheVariants.{Fault}
use Rattle.desk_core.specs.Stops.{IsStop}
use Rattle.desk_core.specs.Doing.{Uses}

-- Nothing failed.
pub record IsCalm {S : Type 0} (s : Ghosts S) (old new : S) : Type 0 where
  pub source : IsSameSource s.failures s.honest s.same_ground old new
  pub calm : s.failures new ≡ s.failures old

module _ {S : Type 0} (s : Ghosts S) where
  module _ (through : (a b c : S) → s.same_ground a b → s.same_ground b c → s.same_ground a c) (a b c : S) where
    same_on : IsSameSource s.failures s.honest s.same_ground a b → IsSameSource s.failures s.honest s.same_ground b c
        → IsSameSource s.failures s.honest s.same_ground a c
    same_on first next = record {
      premise = (λ h. first.premise.0 (next.premise.0 h), λ h. next.premise.1 (first.premise.1 h));
      stands = through a b c first.stands next.stands;
      no_fewer = omega (arith, first.no_fewer, next.no_fewer);
    }

    -- a call more that fails or not
    pub uses_on : {T : Type 0} (result : Result T Stop) → IsCalm s a b → Uses s result b c → Uses s result a c
    uses_on result first next = record {
      source = same_on first.source next.source;
      faults = subst (λ (n : ℕ). FailsAs Fault IsStop result n (s.failures c)) first.calm next.faults;
    }

    -- and one that doesn't fail
    pub grown_on : {T : Type 0} (result : Result T Stop) → ¬ IsErrOf result Fault → IsCalm s a b → Uses s result b c
        → IsCalm s a c
    grown_on result never first next = record {
      source = (uses_on result first next).source;
      calm = next.faults.calm never ∙ first.calm;
    }

-- so it is after all of them
pub calm_uses : {S T : Type 0} (s : Ghosts S) (a b : S) (value : T) → IsCalm s a b → Uses s {T = T} (Ok value) a b
calm_uses s a b value calm = record {
  source = calm.source;
  faults = record {
    rose = λ wrong. absurd cc;
    calm = λ _. calm.calm;
    errors = tt;
  };
}

-- whatever is returned in place of what a call returned
pub uses_as : {S T U : Type 0} (s : Ghosts S) (a b : S) (value : T) (other : U) → Uses s {T = T} (Ok value) a b
    → Uses s {T = U} (Ok other) a b
uses_as s a b value other uses = calm_uses s a b other (record {
  source = uses.source;
  calm = uses.faults.calm (λ wrong. absurd cc);
})
