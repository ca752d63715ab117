-- Why a script ends: what of it was counted as a failure.
use Rattle.std.proofs.Common.{◌≡◌, ◌≢◌, inl, inr, ℕ, ◌+◌, ◌<◌, ◌≤◌, ◌⊎◌, Result, Err, [], ◌∷◌, arith, refl, sym, ap, ◌∙◌, subst}
use Rattle.sector_disk.specs.Faults.{FailsAs, OneOf}
use Rattle.byte_streams.specs.Counting.{RisesWhere}
use Rattle.oberon_main.specs.declared.playing.PlayEnd.{PlayEnd}
use Rattle.oberon_main.specs.declared.playing.PlayEnd.TheVariants.{Done, Fault, Memory, Input, Output}

-- ---- the ends of a line

-- an end as the call of one line returned it
pub rises_in_line : (cause end : PlayEnd) (line : Result Unit PlayEnd) (named : PlayEnd → Type 0) (failed failed' : ℕ)
    → line ≡ Err end → FailsAs cause named line failed failed' → RisesWhere (end ≡ cause) failed failed'
rises_in_line cause end line named failed failed' is counts = record {
  rose = λ same. counts.rose (is ∙ ap (λ e. Err e) same);
  calm = λ other. counts.calm (λ wrong. other (cc (wrong, is)));
}

-- what a line ends by isn't an end at which the store can be used on
pub only_failures : (end : PlayEnd) → OneOf (Fault ∷ Memory ∷ Output ∷ []) end → (end ≡ Done) ⊎ (end ≡ Input) → ⊥
only_failures Done (inl is) ends = cc
only_failures Done (inr (inl is)) ends = cc
only_failures Done (inr (inr is)) ends = cc
only_failures Fault named (inl is) = cc
only_failures Fault named (inr is) = cc
only_failures Memory named (inl is) = cc
only_failures Memory named (inr is) = cc
only_failures Input (inl is) ends = cc
only_failures Input (inr (inl is)) ends = cc
only_failures Input (inr (inr is)) ends = cc
only_failures Output named (inl is) = cc
only_failures Output named (inr is) = cc

-- ---- counts, one after another

-- nothing had failed before
pub rises_from : (when : Type 0) (first failed failed' : ℕ) → failed ≡ first → RisesWhere when failed failed'
    → RisesWhere when first failed'
rises_from when first failed failed' same counts = subst (λ n. RisesWhere when n failed') same counts

-- nothing fails afterwards
pub rises_before : (when : Type 0) (failed failed' last : ℕ) → RisesWhere when failed failed' → last ≡ failed'
    → RisesWhere when failed last
rises_before when failed failed' last counts same = subst (λ n. RisesWhere when failed n) (sym same) counts

-- nothing fails
pub never_rises : (when : Type 0) (failed failed' : ℕ) → (when → ⊥) → failed' ≡ failed → RisesWhere when failed failed'
never_rises when failed failed' never calm = record { rose = λ wrong. absurd (never wrong); calm = λ _. calm }

-- the output fails in the last word, and had not failed before
pub output_lost : (why : PlayEnd) (failed failed' failed'' : ℕ) → why ≢ Output → RisesWhere (why ≡ Output) failed failed'
    → failed' < failed'' → RisesWhere (Output ≡ Output) failed failed''
output_lost why failed failed' failed'' other counts rose = record {
  rose = λ _. let same : failed' ≡ failed = counts.calm other in omega (arith, same, rose);
  calm = λ wrong. absurd (wrong refl);
}

-- ---- reads

-- what was read and what may still be read come to what might be read at first
pub few_reads : (before most now rest : ℕ) → now + rest ≡ before + most → now ≤ before + most
few_reads before most now rest all = omega (arith, all)

-- the reads of the lines so far, and then those of one more
pub blank_after : (calls reads calls' reads' more calls0 reads0 : ℕ) → calls + reads0 ≡ calls0 + reads
    → calls' + reads ≤ calls + reads' + more → calls' + reads0 ≤ calls0 + reads' + more
blank_after calls reads calls' reads' more calls0 reads0 before now = omega (arith, before, now)

-- a read failed, or none was left
pub input_failed : {when : Type 0} (most reads reads' left failed failed' failed'' : ℕ) → when → failed' ≡ failed
    → reads' + left ≡ reads + most → RisesWhere (when × (left ≢ 0)) failed' failed''
    → RisesWhere ((Input ≡ Input) × (reads' ≢ reads + most)) failed failed''
input_failed most reads reads' left failed failed' failed'' holds calm all counts = record {
  rose = λ wrong. let rises : failed' < failed'' = counts.rose (holds, λ none. wrong.1 (all_read none)) in
      omega (arith, calm, rises);
  calm = λ never. counts.calm (λ wrong. never (refl, λ some. wrong.1 (none_left some))) ∙ calm;
} where
  all_read : left ≡ 0 → reads' ≡ reads + most
  all_read none = omega (arith, all, none)

  none_left : reads' ≡ reads + most → left ≡ 0
  none_left some = omega (arith, all, some)
