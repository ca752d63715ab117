-- Reads of a desktop, one after another.
use Rattle.std.specs.Prelude.{◌≡◌, ℕ, List, Result, Ok}
use Rattle.std.proofs.Common.{refl, ap, subst, ◌∙◌}
use Rattle.std.proofs.lemmas.Result.{IfOk-weaker}
use Rattle.readers_scanners.specs.Words.{CountsFault}
use Rattle.char_file.proofs.Reading.{no_read, read_on}
use Rattle.char_file.specs.Source.{OnlyReads}
use Rattle.char_file.specs.declared.source.CharSource.{Ghosts}
use Rattle.desktop_definitions.specs.Desktop.{Desktop, KeptDesktop}
use Rattle.desktop_definitions.specs.Seen.{seen}
use Rattle.desktop_definitions.specs.Sound.{IsOver}
use Rattle.desk_core.specs.Reads.{TellsValue}
use Rattle.desk_core.proofs.ReadLemmas.{over_read}

module _ {S : Type 0} (s : Ghosts S) where
  -- the desktop is over the source after a read
  pub over_after : (old mid : S) (d : KeptDesktop) → OnlyReads s.characters s.failures s.honest s.same_ground old mid
      → IsOver (s.characters old) d → IsOver (s.characters mid) d
  over_after old mid d reads over = over_read (s.characters old) (s.characters mid) d reads.as_long over

  -- where nothing was read
  pub tells_still : {T E : Type 0} (ground_self : (a : S) → s.same_ground a a) (source : S) (d : KeptDesktop)
      (said : Desktop → T) (told : T) → (told ≡ said (seen (s.characters source) d))
      → TellsValue s {E = E} (Ok told) said source source d
  tells_still ground_self source d said told is = record {
    exact = λ h. is;
    reads = no_read s.characters s.failures s.honest s.same_ground ground_self source;
    cause = refl;
  }

  -- what is told by what was read first
  pub tells_as : {A T E : Type 0} (old new : S) (d : KeptDesktop) (first : Desktop → A) (said : Desktop → T) (a : A) (told : T)
      → (a ≡ first (seen (s.characters old) d) → told ≡ said (seen (s.characters old) d))
      → TellsValue s {E = E} (Ok a) first old new d → TellsValue s {E = E} (Ok told) said old new d
  tells_as old new d first said a told same before = record {
    exact = λ h. same (before.exact h);
    reads = before.reads;
    cause = before.cause;
  }

  -- and by what is read then
  pub tells_then : {A T E : Type 0}
      (ground_through : (a b c : S) → s.same_ground a b → s.same_ground b c → s.same_ground a c) (old mid new : S)
      (d : KeptDesktop) (first : Desktop → A) (there said : Desktop → T) (a : A) (result : Result T E)
      → (a ≡ first (seen (s.characters old) d) → there (seen (s.characters old) d) ≡ said (seen (s.characters old) d))
      → TellsValue s {E = E} (Ok a) first old mid d → TellsValue s result there mid new d → TellsValue s result said old new d
  tells_then {E = E} ground_through old mid new d first there said a result same before after = record {
    exact = IfOk-weaker result _ _ (λ told is h.
        is (before.reads.still h) ∙ ap (λ (l : List ℕ). there (seen l d)) (before.reads.same h) ∙ same (before.exact h))
        after.exact;
    reads = read_on s.characters s.failures s.honest s.same_ground ground_through old mid new before.reads after.reads;
    cause = subst (λ n. CountsFault result n (s.failures new)) before.cause after.cause;
  }

  -- what is told is said otherwise
  pub tells_so : {T E : Type 0} (old new : S) (d : KeptDesktop) (there said : Desktop → T) (result : Result T E)
      → there (seen (s.characters old) d) ≡ said (seen (s.characters old) d)
      → TellsValue s result there old new d → TellsValue s result said old new d
  tells_so old new d there said result same before = record {
    exact = IfOk-weaker result _ _ (λ told is h. is h ∙ same) before.exact;
    reads = before.reads;
    cause = before.cause;
  }
