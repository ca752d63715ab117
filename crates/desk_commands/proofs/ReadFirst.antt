-- An effect that reads the source first, and then does the rest: what it owes follows from what the reads leave, and
-- from what the rest promises over the source in the middle.
use Rattle.std.proofs.Common.{◌≡◌, ℕ, List, refl, sym, ap, subst, ◌∙◌}
use Rattle.std.specs.Prelude.{Result, Err, IfOk}
use Rattle.std.proofs.lemmas.Result.{IfOk-weaker}
use Rattle.sector_disk.specs.Faults.{OneOf, FailsAs}
use Rattle.char_file.specs.declared.source.CharSource.{Ghosts}
use Rattle.char_file.specs.Source.{OnlyReads}
use Rattle.desktop_definitions.specs.declared.reply.Reply.{Reply}
use Rattle.desktop_definitions.specs.declared.reply.Reply.TheVariants.{No}
use Rattle.desktop_definitions.specs.Desktop.{Desktop, KeptDesktop}
use Rattle.desktop_definitions.specs.Seen.{seen}
use Rattle.desktop_definitions.specs.Step.{outcome_after, outcome_of}
use Rattle.desktop_definitions.specs.Sound.{IsOver}
use Rattle.desktop_definitions.specs.Outcome.{reply_codes}
use Rattle.desktop_definitions.proofs.OutcomeLaws.{refused}
use Rattle.desk_core.specs.declared.stop.Stop.{Stop}
use Rattle.desk_core.specs.declared.stop.Stop.TheVariants.{Fault}
use Rattle.desk_core.specs.Stops.{IsStop}
use Rattle.desk_core.specs.Doing.{Settles, Uses, Does}
use Rattle.desk_core.proofs.ReadLemmas.{over_read, read_answered, read_then_source}

module _ {S : Type 0} (s : Ghosts S) where
  -- what the reads leave
  abbrev pub Reads : S → S → Type 0
  Reads old mid = OnlyReads s.characters s.failures s.honest s.same_ground old mid

  -- the desktop is over the source in the middle
  pub over_after : (old mid : S) (d : KeptDesktop) → Reads old mid → IsOver (s.characters old) d
      → IsOver (s.characters mid) d
  over_after old mid d reads over = over_read (s.characters old) (s.characters mid) d reads.as_long over

  -- What the rest does is F of what was read, which is `read` of the desktop before the event: the effect says that.
  pub settles_there : {A : Type 0} (F : Desktop → A → Result Desktop ℕ) (read : Desktop → A) (a : A)
      (effect : Desktop → Result Desktop ℕ) (old mid new : S) (d after : KeptDesktop) (result : Result Reply Stop)
      → Reads old mid → (s.honest old → a ≡ read (seen (s.characters old) d))
      → (a ≡ read (seen (s.characters old) d) → F (seen (s.characters old) d) a ≡ effect (seen (s.characters old) d))
      → IfOk result (Settles s (λ x. F x a) mid new d after)
      → IfOk result (Settles s effect old new d after)
  settles_there F read a effect old mid new d after result reads is same answered =
      IfOk-weaker result (Settles s (λ x. F x a) mid new d after) (Settles s effect old new d after)
      (λ reply done. read_answered (s.honest old) (s.honest mid) (s.characters old) (s.characters mid)
      (s.characters new) d after _ _ reply reads.still reads.as_long
      (λ h. (λ k. outcome_after (seen (reads.same h k) d) (F (seen (reads.same h k) d) a))
      ∙ ap (outcome_after (seen (s.characters old) d)) (same (is h))) done) answered

  -- a refusal after the reads
  pub refused_after : (effect : Desktop → Result Desktop ℕ) (code : ℕ) (old mid : S) (d : KeptDesktop) → Reads old mid
      → IsOver (s.characters old) d → OneOf reply_codes code
      → (s.honest old → effect (seen (s.characters old) d) ≡ Err code)
      → Settles s effect old mid d d (No code)
  unfolding outcome_after
  refused_after effect code old mid d reads over known is =
      read_answered (s.honest old) (s.honest mid) (s.characters old) (s.characters mid) (s.characters mid) d d
      (outcome_after (seen (s.characters old) d) (effect (seen (s.characters old) d)))
      (outcome_of (seen (s.characters mid) d) (No code))
      (No code) reads.still reads.as_long
      (λ h. ap (λ (l : List ℕ). outcome_of (seen l d) (No code)) (reads.same h)
      ∙ sym (ap (outcome_after (seen (s.characters old) d)) (is h)))
      (refused (s.honest mid) (s.characters mid) d (outcome_of (seen (s.characters mid) d) (No code)) code
      (over_after old mid d reads over) known (λ h. refl))

  module _ (ground_through : (a b c : S) → s.same_ground a b → s.same_ground b c → s.same_ground a c) where
    -- what the source is left with
    pub uses_after : {T : Type 0} (old mid new : S) (result : Result T Stop) → Reads old mid
        → s.failures mid ≡ s.failures old → Uses s result mid new → Uses s result old new
    uses_after old mid new result reads calm uses = record {
      source = read_then_source s.characters s.failures s.honest s.same_ground ground_through old mid new reads
          uses.source;
      faults = subst (λ n. FailsAs Fault IsStop result n (s.failures new)) calm uses.faults;
    }

    -- all that an effect owes, where the rest does what it should
    pub does_there : {A : Type 0} (F : Desktop → A → Result Desktop ℕ) (read : Desktop → A) (a : A)
        (effect : Desktop → Result Desktop ℕ) (old mid new : S) (d after : KeptDesktop) (result : Result Reply Stop)
        → Reads old mid → s.failures mid ≡ s.failures old → (s.honest old → a ≡ read (seen (s.characters old) d))
        → (a ≡ read (seen (s.characters old) d) → F (seen (s.characters old) d) a ≡ effect (seen (s.characters old) d))
        → Does s (λ x. F x a) result mid new d after → Does s effect result old new d after
    does_there F read a effect old mid new d after result reads calm is same rest = record {
      answered = settles_there F read a effect old mid new d after result reads is same rest.answered;
      uses = uses_after old mid new result reads calm rest.uses;
    }

    -- and where the effect is F of what is read
    pub does_after : {A : Type 0} (F : Desktop → A → Result Desktop ℕ) (read : Desktop → A) (a : A) (old mid new : S)
        (d after : KeptDesktop) (result : Result Reply Stop) → Reads old mid → s.failures mid ≡ s.failures old
        → (s.honest old → a ≡ read (seen (s.characters old) d))
        → Does s (λ x. F x a) result mid new d after → Does s (λ x. F x (read x)) result old new d after
    does_after F read a old mid new d after result reads calm is =
        does_there F read a (λ x. F x (read x)) old mid new d after result reads calm is
        (λ e. ap (F (seen (s.characters old) d)) e)
