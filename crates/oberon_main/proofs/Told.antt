-- What a script that is played by lines is answered.
use Rattle.std.proofs.Common.{◌≡◌, ◌≢◌, ◌⊎◌, inl, inr, ℕ, List, [], ◌∷◌, ◌++◌, Option, None, Some, IfSome}
use Rattle.std.proofs.Common.{refl, sym, ap, ◌∙◌, subst, append_assoc, append-nil}
use Rattle.std.specs.Io.KnownBytes.{Appends, Keeps}
use Rattle.std.proofs.KnownBytes.{Appends-trans, Appends-kept}
use Rattle.sector_disk.specs.declared.disk.Disk.{Ghosts}
use Rattle.screen_cells.specs.Sent.{AppendsFront}
use Rattle.desk_journal.specs.Session.{Session, session_of}
use Rattle.script_lines.specs.Script.{BeginsWith}
use Rattle.script_lines.specs.Request.{request_of}
use Rattle.oberon_main.specs.declared.playing.PlayEnd.{PlayEnd}
use Rattle.oberon_main.specs.declared.playing.PlayEnd.TheVariants.{Done, Fault, Memory, Input, Output}
use Rattle.oberon_main.specs.Answers.{answer, answers_to, after_all}
use Rattle.oberon_main.specs.Play.{PlayState, play_state, last_word}
use Rattle.oberon_main.specs.ByLines.{IsNextLine, IsLineRun, ScriptStops}
use Rattle.oberon_main.specs.ByLines.{SaysWhy, faulty, starved, cut_short, at_end, cut_off, at_line, said, unsaid}
use Rattle.oberon_main.specs.Told.{HaveAnswers, IsTold}
use Rattle.oberon_main.specs.Laws.{ScriptsAreAnswered}
use Rattle.oberon_main.proofs.InParts.{front_kept, in_parts}
use Rattle.oberon_main.proofs.Lines.{out_both}
use Rattle.oberon_main.proofs.Runs.{run_session, answers_more}

-- ---- what a writer holds

pub front_after : (held held' held'' : Option (List ℕ)) (x y : List ℕ) → Appends held held' x
    → AppendsFront held' held'' y → AppendsFront held held'' (x ++ y)
front_after held held' held'' x y all front = record {
  front = x ++ front.front;
  back = front.back;
  parts = ap (λ l. x ++ l) front.parts ∙ sym (append_assoc x front.front front.back);
  taken = Appends-trans held held' held'' x front.front all front.taken;
}

pub whole_front : (held held' held'' : Option (List ℕ)) (x y : List ℕ) → Appends held held' x → Appends held' held'' y
    → AppendsFront held held'' (x ++ y)
whole_front held held' held'' x y before following = record {
  front = x ++ y;
  back = [];
  parts = sym (append-nil (x ++ y));
  taken = Appends-trans held held' held'' x y before following;
}

-- ---- the text

not_cut : (Output ≡ Done) ⊎ (Output ≡ Input) → ⊥
not_cut (inl is) = cc
not_cut (inr is) = cc

not_faulty : (Fault ≡ Done) ⊎ (Fault ≡ Input) → ⊥
not_faulty (inl is) = cc
not_faulty (inr is) = cc

not_starved : (Memory ≡ Done) ⊎ (Memory ≡ Input) → ⊥
not_starved (inl is) = cc
not_starved (inr is) = cc

module _ {D : Type 0} (d : Ghosts D) where
  module _ (script : List ℕ) (old mid new : PlayState D) (held : Option (List ℕ)) (answered : List (List ℕ))
      (run : IsLineRun d answered old.store mid.store)
      (written : Appends old.held mid.held (answers_to (session_of old.store) answered)) where
    -- the answers to these lines, and the word
    abbrev text : PlayEnd → List ℕ
    text why = answers_to (session_of old.store) answered ++ last_word why

    have_answers : {why : PlayEnd} → ScriptStops d (Some script) answered mid (play_state new.left held new.store) why
        → why ≢ Output → HaveAnswers why script new.left answered
    have_answers (at_end silent are) other = are
    have_answers (cut_off silent came) other = came
    have_answers (at_line line follows (faulty none leaves)) other = (line, none.asked, follows.begins)
    have_answers (at_line line follows (starved none leaves)) other = (line, none.asked, follows.begins)
    have_answers (at_line line follows (cut_short serves front)) other = absurd (other refl)

    same_session : new.store ≡ mid.store → session_of new.store ≡ after_all (session_of old.store) answered
    same_session same = ap session_of same ∙ run_session d answered old.store mid.store run

    session_at : {why : PlayEnd} → ScriptStops d (Some script) answered mid (play_state new.left held new.store) why
        → (why ≡ Done) ⊎ (why ≡ Input) → session_of new.store ≡ after_all (session_of old.store) answered
    session_at (at_end silent are) whole = same_session silent.store
    session_at (cut_off silent came) whole = same_session silent.store
    session_at (at_line line follows (faulty none leaves)) whole = absurd (not_faulty whole)
    session_at (at_line line follows (starved none leaves)) whole = absurd (not_starved whole)
    session_at (at_line line follows (cut_short serves front)) whole = absurd (not_cut whole)

    -- nothing was written after the answers
    kept_at : {why : PlayEnd} → ScriptStops d (Some script) answered mid (play_state new.left held new.store) why
        → why ≢ Output → Keeps mid.held held
    kept_at (at_end silent are) other = silent.held
    kept_at (cut_off silent came) other = silent.held
    kept_at (at_line line follows (faulty none leaves)) other = none.kept
    kept_at (at_line line follows (starved none leaves)) other = none.kept
    kept_at (at_line line follows (cut_short serves front)) other = absurd (other refl)

    answers_held : {why : PlayEnd} → ScriptStops d (Some script) answered mid (play_state new.left held new.store) why
        → why ≢ Output → Appends old.held held (answers_to (session_of old.store) answered)
    answers_held stops other =
        Appends-kept old.held mid.held held (answers_to (session_of old.store) answered) written (kept_at stops other)

    told_whole : {why : PlayEnd} → ScriptStops d (Some script) answered mid (play_state new.left held new.store) why
        → why ≢ Output → Appends held new.held (last_word why) → IsTold script why why old new
    told_whole {why = why} stops other word = record {
      lines = answered;
      have = have_answers stops other;
      session = session_at stops;
      text = text why;
      is = refl;
      written = inl (
        refl,
        Appends-trans old.held held new.held (answers_to (session_of old.store) answered) (last_word why)
            (answers_held stops other) word,
      );
    }

    told_unsaid : {why : PlayEnd} → ScriptStops d (Some script) answered mid (play_state new.left held new.store) why
        → why ≢ Output → AppendsFront held new.held (last_word why) → IsTold script why Output old new
    told_unsaid {why = why} stops other word = record {
      lines = answered;
      have = have_answers stops other;
      session = session_at stops;
      text = text why;
      is = refl;
      written = inr (
        refl,
        front_after old.held held new.held (answers_to (session_of old.store) answered) (last_word why)
            (answers_held stops other) word,
      );
    }

    -- the output failed in the answer to the line after them
    told_cut : (line : List ℕ) → IsNextLine (Some script) answered line
        → AppendsFront mid.held held (answer (session_of mid.store) (request_of line)) → Appends held new.held []
        → IsTold script Output Output old new
    told_cut line follows front nothing =
        let s : Session = session_of old.store in
        let begins : BeginsWith script (answered ++ line ∷ []) = follows.begins in
        let these_lines : List (List ℕ) = answered ++ line ∷ [] in
        let later : List ℕ = answers_to (after_all s these_lines) begins.0 in
        let these : AppendsFront old.held new.held (answers_to s (answered ++ line ∷ []))
        = subst (AppendsFront old.held new.held) (answers_more d answered line old.store mid.store run)
        (front_kept old.held held new.held (answers_to s answered ++ answer (session_of mid.store) (request_of line))
        (front_after old.held mid.held held (answers_to s answered) (answer (session_of mid.store) (request_of line))
        written front) nothing) in
        record {
          lines = these_lines ++ begins.0;
          have = begins.1;
          session = λ whole. absurd (not_cut whole);
          text = answers_to s (these_lines ++ begins.0) ++ [];
          is = refl;
          written = inr (
            refl,
            record {
              front = these.front;
              back = these.back ++ later;
              parts = append-nil (answers_to s (these_lines ++ begins.0)) ∙ out_both s these_lines begins.0
                  ∙ ap (λ l. l ++ later) these.parts ∙ append_assoc these.front these.back later;
              taken = these.taken;
            },
          );
        }

    told_said : {why : PlayEnd} → ScriptStops d (Some script) answered mid (play_state new.left held new.store) why
        → Appends held new.held (last_word why) → IsTold script why why old new
    told_said (at_end silent are) word = told_whole (at_end silent are) (λ wrong. cc) word
    told_said (cut_off silent came) word = told_whole (cut_off silent came) (λ wrong. cc) word
    told_said (at_line line follows (faulty none leaves)) word =
        told_whole (at_line line follows (faulty none leaves)) (λ wrong. cc) word
    told_said (at_line line follows (starved none leaves)) word =
        told_whole (at_line line follows (starved none leaves)) (λ wrong. cc) word
    told_said (at_line line follows (cut_short serves front)) word = told_cut line follows front word

    told_some : {why end : PlayEnd} → ScriptStops d (Some script) answered mid (play_state new.left held new.store) why
        → SaysWhy why held new.held end → IsTold script why end old new
    told_some stops (said word) = told_said stops word
    told_some stops (unsaid early other word) = told_unsaid stops other word

  told_from : (from : Option (List ℕ)) (why end : PlayEnd) (old mid new : PlayState D) (held : Option (List ℕ))
      (answered : List (List ℕ)) → IsLineRun d answered old.store mid.store
      → Appends old.held mid.held (answers_to (session_of old.store) answered)
      → ScriptStops d from answered mid (play_state new.left held new.store) why → SaysWhy why held new.held end
      → IfSome from (λ script. IsTold script why end old new)
  told_from None why end old mid new held answered run written stops word = tt
  told_from (Some script) why end old mid new held answered run written stops word =
      told_some script old mid new held answered run written stops word

  pub scripts_told : ScriptsAreAnswered d
  scripts_told why end old new played =
      let parts = in_parts d why end old new played in
      told_from old.left why end old parts.lines.mid new parts.held_mid parts.lines.answered parts.lines.run
      parts.lines.written parts.lines.stops parts.word
