-- What an arm of a match owes, where the match is over what the event does.
use Rattle.std.specs.Prelude.{◌≡◌, ℕ, List, Result, Ok, IfOk}
use Rattle.std.proofs.Common.{refl, sym, subst}
use Rattle.desktop_definitions.specs.declared.reply.Reply.{Reply}
use Rattle.desktop_definitions.specs.declared.reply.Reply.TheVariants.{Done}
use Rattle.desktop_definitions.specs.Desktop.{Desktop, KeptDesktop}
use Rattle.desktop_definitions.specs.Seen.{seen}
use Rattle.desktop_definitions.specs.Step.{outcome_after, Outcome}
use Rattle.desktop_definitions.specs.Sound.{IsOver}
use Rattle.desktop_definitions.specs.Outcome.{IsAnswered}
use Rattle.desk_core.specs.declared.stop.Stop.{Stop}
use Rattle.desk_core.proofs.ReadLemmas.{unchanged_answered}

-- what isn't in the table is done and changes nothing
pub rest_done : {H : Type 0} {old : List ℕ} {d : KeptDesktop} {outcome : Result Desktop ℕ} → IsOver old d
    → outcome ≡ Ok (seen old d) → IsAnswered H old old d d (outcome_after (seen old d) outcome) Done
rest_done {H} {old} {d} over is =
    subst (λ (o : Result Desktop ℕ). IsAnswered H old old d d (outcome_after (seen old d) o) Done) (sym is)
    (unchanged_answered H old old d (seen old d) over refl (λ h. refl) (λ h. refl))

-- an outcome by another name
pub outcome_as : (H : Type 0) (old new : List ℕ) (d after : KeptDesktop) (result : Result Reply Stop)
    {a b : Result Desktop ℕ} → a ≡ b
    → IfOk result (λ reply. IsAnswered H old new d after (outcome_after (seen old d) a) reply)
    → IfOk result (λ reply. IsAnswered H old new d after (outcome_after (seen old d) b) reply)
outcome_as H old new d after result same answered =
    subst (λ (o : Result Desktop ℕ). IfOk result (λ reply. IsAnswered H old new d after (outcome_after (seen old d) o) reply))
    same answered

-- what is answered of a desktop is answered of one that equals it
pub answered_there : {H : Type 0} {old new : List ℕ} {d x y : KeptDesktop} {outcome : Outcome} {reply : Reply}
    → y ≡ x → IsAnswered H old new d x outcome reply → IsAnswered H old new d y outcome reply
answered_there {H = H} {old = old} {new = new} {d = d} {outcome = outcome} {reply = reply} is =
    subst (λ (z : KeptDesktop). IsAnswered H old new d z outcome reply) (sym is)
