-- What a crash leaves of a script that is played by lines, in events.
use Rattle.std.proofs.Common.{◌≡◌, ℕ, List, [], ◌∷◌, ◌++◌, Option, None, Some, IfSome}
use Rattle.std.proofs.Common.{refl, sym, ◌∙◌, ap, subst, append_assoc, append-nil}
use Rattle.std.specs.List.{AllByRecursion}
use Rattle.std.specs.Io.KnownBytes.{Appends, Keeps}
use Rattle.std.proofs.KnownBytes.{Appends-kept}
use Rattle.sector_disk.specs.declared.disk.Disk.{Ghosts}
use Rattle.sector_disk.proofs.Touching.{weakened}
use Rattle.screen_cells.specs.Sent.{AppendsFront}
use Rattle.desk_journal.specs.Session.{Session, session_of}
use Rattle.desk_journal.specs.View.{StoreView}
use Rattle.script_lines.specs.Script.{AreLines, BeginsWith, IsLine}
use Rattle.script_lines.specs.Request.{request_of}
use Rattle.oberon_main.specs.declared.playing.PlayEnd.{PlayEnd}
use Rattle.oberon_main.specs.declared.playing.PlayEnd.TheVariants.{Output}
use Rattle.oberon_main.specs.Answers.{answer, answers_to}
use Rattle.oberon_main.specs.Play.{PlayState, play_state, last_word}
use Rattle.oberon_main.specs.Surviving.{KeepsAnswered, HasTakenAnswers, ScriptSurvives}
use Rattle.oberon_main.specs.ByLines.{IsNextLine, Lasts, LeavesLine, ServesLine, IsLineRun, ScriptStops, SaysWhy}
use Rattle.oberon_main.specs.ByLines.{faulty, starved, cut_short, at_end, cut_off, at_line, said, unsaid}
use Rattle.oberon_main.specs.Laws.{ScriptsSurvive}
use Rattle.oberon_main.proofs.Lines.{all_both, begins_all, begins_came}
use Rattle.oberon_main.proofs.Runs.{run_session, run_size, answers_more}
use Rattle.oberon_main.proofs.InParts.{front_kept, in_parts}
use Rattle.oberon_main.proofs.Told.{front_after, whole_front}
use Rattle.oberon_main.proofs.Surviving.{no_line, failed_line, served_line, lines_after, more_lines, only_first}

module _ {D : Type 0} (d : Ghosts D) where
  run_keeps : (lines : List (List ℕ)) (old new : StoreView D) → Lasts d old → IsLineRun d lines old new
      → KeepsAnswered d lines lines old new
  run_keeps [] old new lasts run = subst (λ store. KeepsAnswered d [] [] old store) (sym run) (no_line d old lasts)
  run_keeps (line ∷ lines) old new lasts run =
      lines_after d old run.0 new (line ∷ []) lines lines (served_line d old run.0 line run.1) run.1.session
      run.1.as_large (run_keeps lines run.0 new run.1.lasts run.2)

  -- the first lines of a script were served, and of the line after them it is known what a crash leaves
  record IsKept (from : Option (List ℕ)) (old new : PlayState D) : Type 0 where
    answered : List (List ℕ)
    lines : List (List ℕ)
    others : List (List ℕ)
    parts : lines ≡ answered ++ others
    plain : AllByRecursion IsLine lines
    begins : IfSome from (λ script. BeginsWith script lines)
    written : HasTakenAnswers old.held new.held (answers_to (session_of old.store) answered)
    kept : KeepsAnswered d answered lines old.store new.store

  module _ (from : Option (List ℕ)) (old mid new : PlayState D) (held : Option (List ℕ)) (answered : List (List ℕ))
      (lasts : Lasts d old.store) (plain : AllByRecursion IsLine answered)
      (run : IsLineRun d answered old.store mid.store)
      (written : Appends old.held mid.held (answers_to (session_of old.store) answered)) where
    abbrev taken_of : List (List ℕ) → Type 0
    taken_of lines = HasTakenAnswers old.held new.held (answers_to (session_of old.store) lines)

    -- nothing came after them
    kept_all : new.store ≡ mid.store → IfSome from (λ script. BeginsWith script answered) → taken_of answered
        → IsKept from old new
    kept_all same begins taken = record {
      answered = answered;
      lines = answered;
      others = [];
      parts = sym (append-nil answered);
      plain = plain;
      begins = begins;
      written = taken;
      kept = subst (λ store. KeepsAnswered d answered answered old.store store) (sym same)
          (run_keeps answered old.store mid.store lasts run);
    }

    -- the line after them failed
    kept_before : (line : List ℕ) → IsNextLine from answered line → LeavesLine d line mid.store new.store
        → taken_of answered → IsKept from old new
    kept_before line follows leaves taken = record {
      answered = answered;
      lines = answered ++ line ∷ [];
      others = line ∷ [];
      parts = refl;
      plain = all_both answered (line ∷ []) plain (follows.plain, tt);
      begins = follows.begins;
      written = taken;
      kept = subst (λ ls. KeepsAnswered d ls (answered ++ line ∷ []) old.store new.store) (append-nil answered)
          (lines_after d old.store mid.store new.store answered [] (line ∷ [])
          (run_keeps answered old.store mid.store lasts run) (run_session d answered old.store mid.store run)
          (run_size d answered old.store mid.store run) (failed_line d mid.store new.store line leaves));
    }

    -- the output failed in the answer to the line after them
    kept_with : (line : List ℕ) → IsNextLine from answered line → ServesLine d line mid.store new.store
        → AppendsFront mid.held held (answer (session_of mid.store) (request_of line)) → Appends held new.held []
        → IsKept from old new
    kept_with line follows serves front nothing =
        let s : Session = session_of old.store in
        let more : List (List ℕ) = answered ++ line ∷ [] in
        record {
          answered = more;
          lines = more;
          others = [];
          parts = sym (append-nil more);
          plain = all_both answered (line ∷ []) plain (follows.plain, tt);
          begins = follows.begins;
          written = (
            Output,
            subst (AppendsFront old.held new.held)
                (answers_more d answered line old.store mid.store run ∙ sym (append-nil (answers_to s more)))
                (front_kept old.held held new.held
                (answers_to s answered ++ answer (session_of mid.store) (request_of line))
                (front_after old.held mid.held held (answers_to s answered)
                (answer (session_of mid.store) (request_of line)) written front) nothing),
          );
          kept = lines_after d old.store mid.store new.store answered (line ∷ []) (line ∷ [])
              (run_keeps answered old.store mid.store lasts run) (run_session d answered old.store mid.store run)
              (run_size d answered old.store mid.store run) (served_line d mid.store new.store line serves);
        }

    -- what was written of the word
    word_taken : {why end : PlayEnd} → Keeps mid.held held → SaysWhy why held new.held end → taken_of answered
    word_taken {why = why} keeps (said word) = (
      why,
      whole_front old.held held new.held (answers_to (session_of old.store) answered) (last_word why)
          (Appends-kept old.held mid.held held (answers_to (session_of old.store) answered) written keeps) word,
    )
    word_taken {why = why} keeps (unsaid early other word) = (
      why,
      front_after old.held held new.held (answers_to (session_of old.store) answered) (last_word why)
          (Appends-kept old.held mid.held held (answers_to (session_of old.store) answered) written keeps) word,
    )

    cut_kept : {end : PlayEnd} (line : List ℕ) → IsNextLine from answered line → ServesLine d line mid.store new.store
        → AppendsFront mid.held held (answer (session_of mid.store) (request_of line)) → SaysWhy Output held new.held end
        → IsKept from old new
    cut_kept line follows serves front (said word) = kept_with line follows serves front word
    cut_kept line follows serves front (unsaid early other word) = absurd (other refl)

    kept_ends : {why end : PlayEnd} → ScriptStops d from answered mid (play_state new.left held new.store) why
        → SaysWhy why held new.held end → IsKept from old new
    kept_ends (at_end silent are) word =
        kept_all silent.store (begins_all from answered are) (word_taken silent.held word)
    kept_ends (cut_off silent came) word =
        kept_all silent.store (begins_came from new.left answered came) (word_taken silent.held word)
    kept_ends (at_line line follows (faulty none leaves)) word =
        kept_before line follows leaves (word_taken none.kept word)
    kept_ends (at_line line follows (starved none leaves)) word =
        kept_before line follows (weakened leaves (only_first d line mid.store)) (word_taken none.kept word)
    kept_ends (at_line line follows (cut_short serves front)) word = cut_kept line follows serves front word

  script_kept : (script : List ℕ) (old new : PlayState D) → IsKept (Some script) old new
      → ScriptSurvives d script old new
  script_kept script old new kept =
      let begins : BeginsWith script kept.lines = kept.begins in
      let more : List (List ℕ) = begins.0 in
      let all : kept.lines ++ more ≡ kept.answered ++ (kept.others ++ more) = ap (λ ls. ls ++ more) kept.parts
      ∙ append_assoc kept.answered kept.others more in
      record {
        answered = kept.answered;
        begins = (kept.others ++ more, subst (AreLines script) all begins.1);
        written = kept.written;
        kept = subst (λ ls. KeepsAnswered d kept.answered ls old.store new.store) all
            (more_lines d old.store new.store kept.answered kept.lines more kept.kept);
      }

  survives_from : (from : Option (List ℕ)) (old new : PlayState D) → IsKept from old new
      → IfSome from (λ script. ScriptSurvives d script old new)
  survives_from None old new kept = tt
  survives_from (Some script) old new kept = script_kept script old new kept

  -- a script whose bytes are known
  pub scripts_kept : ScriptsSurvive d
  scripts_kept why end old new played =
      let parts = in_parts d why end old new played in
      survives_from old.left old new
      (kept_ends old.left old parts.lines.mid new parts.held_mid parts.lines.answered parts.lines.lasts parts.lines.plain
      parts.lines.run parts.lines.written parts.lines.stops parts.word)
