-- What an effect owes that reads no character: the same over any other characters of which there are as many.
use Rattle.std.specs.Prelude.{◌≡◌, ℕ, List, [], length, Result, Ok, Err, IfOk}
use Rattle.std.proofs.Common.{sym, ap, ◌∙◌, append-nil}
use Rattle.desktop_definitions.specs.declared.reply.Reply.TheVariants.{Done, No}
use Rattle.desktop_definitions.specs.declared.reply.Reply.{Reply}
use Rattle.desktop_definitions.specs.Desktop.{Desktop, KeptDesktop}
use Rattle.desktop_definitions.specs.Seen.{seen}
use Rattle.desktop_definitions.specs.Step.{outcome_after, outcome_of}
use Rattle.desktop_definitions.specs.Sound.{IsOver}
use Rattle.desk_core.specs.declared.stop.Stop.{Stop}
use Rattle.desk_core.specs.Doing.{SettlesUnread, SettlesBringing}

-- a desktop is over them
pub over_all : {old : List ℕ} {d : KeptDesktop} → IsOver old d → (all : List ℕ) → length all ≡ d.written → IsOver all d
over_all over all long = record { counted = long; whole = over.whole }

-- a refusal
pub refusal_is : {x : Desktop} {effect : Result Desktop ℕ} {code : ℕ} → effect ≡ Err code
    → outcome_of x (No code) ≡ outcome_after x effect
unfolding outcome_after
refusal_is {x} is = sym (ap (outcome_after x) is)

-- an effect that adds nothing brings none
pub brings_none : (effect : Desktop → Result Desktop ℕ) (d after : KeptDesktop) (result : Result Reply Stop)
    → IfOk result (SettlesUnread effect d after) → IfOk result (SettlesBringing [] (λ all. effect (seen all d)) d after)
brings_none effect d after (Ok Done) is = λ all long.
    ap (λ (l : List ℕ). outcome_of (seen l after) Done) (append-nil all) ∙ is all long
brings_none effect d after (Ok (No code)) is = is
brings_none effect d after (Err stop) is = tt
