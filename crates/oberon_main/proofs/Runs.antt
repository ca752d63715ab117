-- Lines that were served, one after another.
use Rattle.std.proofs.Common.{◌≡◌, ℕ, List, [], ◌∷◌, ◌++◌, refl, sym, ap, ◌∙◌, subst}
use Rattle.sector_disk.specs.declared.disk.Disk.{Ghosts}
use Rattle.desk_journal.specs.Session.{Session, session_of}
use Rattle.desk_journal.specs.View.{StoreView}
use Rattle.script_lines.specs.Request.{request_of}
use Rattle.oberon_main.specs.Answers.{answer, answers_to, after_all}
use Rattle.oberon_main.specs.ByLines.{ServesLine, IsLineRun}
use Rattle.oberon_main.proofs.Lines.{out_both, out_one}

module _ {D : Type 0} (d : Ghosts D) where
  pub run_more : (lines : List (List ℕ)) (line : List ℕ) (old mid new : StoreView D) → IsLineRun d lines old mid
      → ServesLine d line mid new → IsLineRun d (lines ++ line ∷ []) old new
  run_more [] line old mid new run serves = (new, subst (λ store. ServesLine d line store new) run serves, refl)
  run_more (first ∷ lines) line old mid new run serves =
      (run.0, run.1, run_more lines line run.0 mid new run.2 serves)

  pub run_both : (lines more : List (List ℕ)) (old mid new : StoreView D) → IsLineRun d lines old mid
      → IsLineRun d more mid new → IsLineRun d (lines ++ more) old new
  run_both [] more old mid new run later = subst (λ store. IsLineRun d more store new) run later
  run_both (first ∷ lines) more old mid new run later =
      (run.0, run.1, run_both lines more run.0 mid new run.2 later)

  pub run_session : (lines : List (List ℕ)) (old new : StoreView D) → IsLineRun d lines old new
      → session_of new ≡ after_all (session_of old) lines
  run_session [] old new run = ap session_of run
  run_session (line ∷ lines) old new run =
      run_session lines run.0 new run.2 ∙ ap (λ (s : Session). after_all s lines) run.1.session

  pub run_size : (lines : List (List ℕ)) (old new : StoreView D) → IsLineRun d lines old new
      → d.size new.disk ≡ d.size old.disk
  run_size [] old new run = ap (λ (store : StoreView D). d.size store.disk) run
  run_size (line ∷ lines) old new run = run_size lines run.0 new run.2 ∙ run.1.as_large

  -- the answer to the line after them
  pub answers_more : (lines : List (List ℕ)) (line : List ℕ) (old mid : StoreView D) → IsLineRun d lines old mid
      → answers_to (session_of old) lines ++ answer (session_of mid) (request_of line)
      ≡ answers_to (session_of old) (lines ++ line ∷ [])
  answers_more lines line old mid run =
      ap (λ l. answers_to (session_of old) lines ++ l) (ap (λ (t : Session). answer t (request_of line))
      (run_session lines old mid run) ∙ sym (out_one (after_all (session_of old) lines) line))
      ∙ sym (out_both (session_of old) lines (line ∷ []))
