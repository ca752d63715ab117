-- How a script ends where the store refuses.
use Rattle.std.proofs.Common.{◌≡◌, ◌⊎◌, ℕ, ◌<◌, Result, Ok, Err, IfOk, IfErr, ◌≢◌, inl, inr, refl, sym, ap}
use Rattle.std.proofs.Common.{◌∙◌, subst}
use Rattle.sector_disk.specs.Faults.{FailsAs}
use Rattle.desk_journal.specs.Errors.{Error}
use Rattle.desk_journal.specs.Errors.{NoMemory, Fault, MustReopen, NotAStore, Damaged}
use Rattle.desk_journal.specs.Errors.{TooSmall, Worn}
use Rattle.oberon_main.specs.declared.answering.Answer.{Answer}
use Rattle.oberon_main.specs.declared.playing.PlayEnd.{PlayEnd}
use Rattle.oberon_main.specs.declared.playing.PlayEnd.TheVariants as ends
use Rattle.oberon_main.specs.Worked.{play_end_of, IsWorkEnd}

-- A store that is in use, and isn't worn, refuses for want of memory or after a fault of the disk.
pub record IsRefusal (error : Error) (failed failed' : ℕ) : Type 0 where
  pub named : (error ≡ NoMemory) ⊎ (error ≡ Fault)
  pub rose : error ≡ Fault → failed < failed'
  pub calm : ¬ error ≡ Fault → failed' ≡ failed

another_end : ends.Fault ≡ ends.Memory → ⊥
another_end is = cc

-- want of memory is told for nothing else
memory_alone : (error : Error) → play_end_of error ≡ ends.Memory → error ≡ NoMemory
memory_alone NoMemory is = refl
memory_alone Fault is = absurd (another_end is)
memory_alone MustReopen is = absurd (another_end is)
memory_alone NotAStore is = absurd (another_end is)
memory_alone (Damaged sector) is = absurd (another_end is)
memory_alone TooSmall is = absurd (another_end is)
memory_alone Worn is = absurd (another_end is)

pub only_memory : (error : Error) (result : Result Answer PlayEnd)
    → IfErr result (λ end. (error ≢ Worn) × (end ≡ play_end_of error)) → result ≡ Err ends.Memory → error ≡ NoMemory
only_memory error result other is =
    let why : IfErr {T = Answer} (Err ends.Memory) (λ end. (error ≢ Worn) × (end ≡ play_end_of error)) =
    subst (λ r. IfErr r (λ end. (error ≢ Worn) × (end ≡ play_end_of error))) is other in
    memory_alone error (sym why.1)

another_error : (error : Error) → (error ≡ NoMemory → ⊥) → (error ≡ Fault → ⊥) → (error ≡ NoMemory) ⊎ (error ≡ Fault)
    → ⊥
another_error error memory fault (inl is) = memory is
another_error error memory fault (inr is) = fault is

counts : {T : Type 0} (error : Error) (failed failed' : ℕ) → IsRefusal error failed failed'
    → FailsAs {T = T} ends.Fault IsWorkEnd (Err (play_end_of error)) failed failed'
counts NoMemory failed failed' refusal = record {
  rose = λ wrong. cc;
  calm = λ other. refusal.calm (λ wrong. cc);
  errors = inr refl;
}
counts Fault failed failed' refusal = record {
  rose = λ same. refusal.rose refl;
  calm = λ wrong. absurd (wrong refl);
  errors = inl refl;
}
counts MustReopen failed failed' refusal = absurd (another_error MustReopen (λ wrong. cc) (λ wrong. cc) refusal.named)
counts NotAStore failed failed' refusal = absurd (another_error NotAStore (λ wrong. cc) (λ wrong. cc) refusal.named)
counts (Damaged sector) failed failed' refusal = absurd (another_error (Damaged sector) (λ wrong. cc)
    (λ wrong. cc) refusal.named)
counts TooSmall failed failed' refusal = absurd (another_error TooSmall (λ wrong. cc) (λ wrong. cc) refusal.named)
counts Worn failed failed' refusal = absurd (another_error Worn (λ wrong. cc) (λ wrong. cc) refusal.named)

pub counts_end : {T : Type 0} (error : Error) (failed failed' : ℕ) → IsRefusal error failed failed' → (end : PlayEnd)
    → end ≡ play_end_of error
    → (result : Result T PlayEnd) → result ≡ Err end → FailsAs ends.Fault IsWorkEnd result failed failed'
counts_end error failed failed' refusal end is result gives =
    subst (λ r. FailsAs ends.Fault IsWorkEnd r failed failed') (sym (gives ∙ ap (λ e. Err e) is))
    (counts error failed failed' refusal)

-- what an error is of a call that also may answer MustReopen or Worn, where it is neither
refusal_of : {T : Type 0} (error : Error) (failed failed' : ℕ) (named : Error → Type 0)
    → (named error → (error ≡ NoMemory) ⊎ ((error ≡ Fault) ⊎ ((error ≡ MustReopen) ⊎ (error ≡ Worn))))
    → FailsAs {T = T} Fault named (Err error) failed failed'
    → (error ≡ MustReopen → ⊥) → (error ≡ Worn → ⊥) → IsRefusal error failed failed'
refusal_of error failed failed' named among faults usable room = record {
  named = elim (among faults.errors) [
    | inl memory ↦ inl memory
    | inr (inl fault) ↦ inr fault
    | inr (inr (inl reopen)) ↦ absurd (usable reopen)
    | inr (inr (inr worn)) ↦ absurd (room worn)
  ];
  rose = λ fault. faults.rose (ap (λ e. Err e) fault);
  calm = λ other. faults.calm (λ fault. other cc);
}

-- A call that was refused: Worn has an answer, else the script ends.
pub counts_call : {T : Type 0} (error : Error) (failed failed' : ℕ) (named : Error → Type 0)
    → (named error → (error ≡ NoMemory) ⊎ ((error ≡ Fault) ⊎ ((error ≡ MustReopen) ⊎ (error ≡ Worn))))
    → FailsAs {T = T} Fault named (Err error) failed failed'
    → (error ≡ MustReopen → ⊥) → (bytes : Answer → Type 0) → (result : Result Answer PlayEnd)
    → IfOk result (λ a. (error ≡ Worn) × bytes a)
    → IfErr result (λ end. (error ≢ Worn) × (end ≡ play_end_of error))
    → FailsAs ends.Fault IsWorkEnd result failed failed'
counts_call error failed failed' named among faults usable bytes (Ok a) worn other = record {
  rose = λ wrong. cc;
  calm = λ any. faults.calm (λ wrong. cc (wrong, worn.0));
  errors = tt;
}
counts_call error failed failed' named among faults usable bytes (Err end) worn other =
    counts_end error failed failed' (refusal_of error failed failed' named among faults usable other.0) end other.1
    (Err end) refl

-- A call that was done has an answer.
pub counts_done : {T : Type 0} {value : T} {named : Error → Type 0} {given : Answer} {failed failed' : ℕ}
    → FailsAs Fault named (Ok value) failed failed' → FailsAs ends.Fault IsWorkEnd (Ok given) failed failed'
counts_done faults = record {
  rose = λ wrong. cc;
  calm = λ any. faults.calm (λ wrong. cc);
  errors = tt;
}
