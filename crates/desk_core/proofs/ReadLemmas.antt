-- What an effect owes that reads the source first, and what it leaves.
use Rattle.std.proofs.Common.{◌≡◌, ◌≤◌, ℕ, List, length, sym, ap, subst, ◌∙◌, arith}
use Rattle.std.specs.Prelude.{Result, Ok, IfOk}
use Rattle.std.proofs.lemmas.Result.{IfOk-weaker}
use Rattle.piece_ring.specs.Flat.{flat}
use Rattle.char_file.specs.Source.{OnlyReads}
use Rattle.desktop_definitions.specs.declared.reply.Reply.{Reply}
use Rattle.desktop_definitions.specs.declared.reply.Reply.TheVariants.{Done}
use Rattle.desktop_definitions.specs.Desktop.{Desktop, KeptDesktop}
use Rattle.desktop_definitions.specs.Viewers.{text_in, viewer_or_none, with_org}
use Rattle.desktop_definitions.specs.Seen.{seen}
use Rattle.desktop_definitions.specs.Step.{outcome_after, Outcome}
use Rattle.desktop_definitions.specs.Sound.{IsOver}
use Rattle.desktop_definitions.specs.Outcome.{IsAnswered, IsSameSource}
use Rattle.desktop_definitions.proofs.RowLaws.{row_answered, fewer_answered, changed_as, over_built}
use Rattle.desktop_definitions.proofs.MarkLaws.{with_org_changed}
use Rattle.desk_core.specs.declared.stop.Stop.{Stop}

pub over_read : (old new : List ℕ) (d : KeptDesktop) → length new ≡ length old → IsOver old d → IsOver new d
over_read old new d long over = record { counted = long ∙ over.counted; whole = over.whole }

-- an effect that leaves the desktop as it is
pub unchanged_answered : (H : Type 0) (old new : List ℕ) (d : KeptDesktop) (outcome : Desktop) → IsOver old d
    → length new ≡ length old → (H → new ≡ old) → (H → seen old d ≡ outcome)
    → IsAnswered H old new d d (outcome_after (seen old d) (Ok outcome)) Done
unchanged_answered H old new d outcome over long same is =
    row_answered H old new d d outcome (over_read old new d long over)
    (λ h. ap (λ (l : List ℕ). seen l d) (same h) ∙ is h)

-- an effect after which a viewer begins elsewhere
pub org_answered : (H : Type 0) (old new : List ℕ) (d after : KeptDesktop) (v org : ℕ) (outcome : Desktop)
    → IsOver old d → org ≤ length (flat (text_in d.texts (viewer_or_none d.viewers v).main))
    → length new ≡ length old → (H → new ≡ old) → after ≡ with_org d v org
    → (H → with_org (seen old d) v org ≡ outcome)
    → IsAnswered H old new d after (outcome_after (seen old d) (Ok outcome)) Done
org_answered H old new d after v org outcome over low long same is exact =
    subst (λ (a : KeptDesktop). IsAnswered H old new d a (outcome_after (seen old d) (Ok outcome)) Done) (sym is)
    (fewer_answered H old new d (with_org d v org) outcome 0 over long same
    (changed_as outcome (with_org_changed H old d (over_built old d over) v org low) exact))

-- an effect after what was read: its outcome is the same where that is honest
pub read_answered : (H G : Type 0) (old mid new : List ℕ) (d after : KeptDesktop) (x y : Outcome)
    (reply : Reply) → (H → G) → length mid ≡ length old → (H → y ≡ x) → IsAnswered G mid new d after y reply
    → IsAnswered H old new d after x reply
read_answered H G old mid new d after x y reply so long same answered = record {
  exact = λ h. answered.exact (so h) ∙ same h;
  over = answered.over;
  known = answered.known;
  refusal = λ code is. record {
    desktop = (answered.refusal code is).desktop;
    as_long = (answered.refusal code is).as_long ∙ long;
  };
}

-- the same of what a call of the effect returned, whose outcome F says by what was read
pub read_first : {A : Type 0} (F : Desktop → A → Result Desktop ℕ) (a b : A) (H G : Type 0) (old mid new : List ℕ)
    (d after : KeptDesktop) (result : Result Reply Stop) → (H → G) → length mid ≡ length old → (H → mid ≡ old)
    → (H → a ≡ b)
    → IfOk result (λ reply. IsAnswered G mid new d after (outcome_after (seen mid d) (F (seen mid d) a)) reply)
    → IfOk result (λ reply. IsAnswered H old new d after (outcome_after (seen old d) (F (seen old d) b)) reply)
read_first F a b H G old mid new d after result so long same is answered =
    IfOk-weaker result
    (λ reply. IsAnswered G mid new d after (outcome_after (seen mid d) (F (seen mid d) a)) reply)
    (λ reply. IsAnswered H old new d after (outcome_after (seen old d) (F (seen old d) b)) reply)
    (λ reply done. read_answered H G old mid new d after (outcome_after (seen old d) (F (seen old d) b))
    (outcome_after (seen mid d) (F (seen mid d) a)) reply so long
    (λ h. λ k. outcome_after (seen (same h k) d) (F (seen (same h k) d) (is h k))) done) answered

module _ {S : Type 0} (characters : S → List ℕ) (failures : S → ℕ) (honest : S → Type 0)
    (same_ground : S → S → Type 0) where
  module _ (ground_through : (a b c : S) → same_ground a b → same_ground b c → same_ground a c) (a b c : S) where
    pub read_then_source : OnlyReads characters failures honest same_ground a b
        → IsSameSource failures honest same_ground b c → IsSameSource failures honest same_ground a c
    read_then_source reads same = record {
      premise = (λ h. reads.already (same.premise.0 h), λ h. same.premise.1 (reads.still h));
      stands = ground_through a b c reads.stands same.stands;
      no_fewer = omega (arith, reads.no_fewer, same.no_fewer);
    }
