-- A script that is played, as a whole and by its parts.
use Rattle.std.proofs.Common.{◌≡◌, ◌≢◌, ◌⊎◌, inl, inr, ℕ, List, [], Option, refl, sym, subst, append-nil}
use Rattle.std.specs.List.{AllByRecursion}
use Rattle.std.specs.Io.KnownBytes.{Appends, Keeps}
use Rattle.std.proofs.KnownBytes.{Appends-nil, Appends-trans, Appends-kept, Keeps-refl}
use Rattle.sector_disk.specs.declared.disk.Disk.{Ghosts}
use Rattle.screen_cells.specs.Sent.{AppendsFront}
use Rattle.desk_journal.specs.Session.{session_of}
use Rattle.script_lines.specs.Script.{IsLine}
use Rattle.script_lines.specs.Request.{request_of}
use Rattle.oberon_main.specs.declared.playing.PlayEnd.{PlayEnd}
use Rattle.oberon_main.specs.declared.playing.PlayEnd.TheVariants.{Done, Fault, Memory, Input, Output}
use Rattle.oberon_main.specs.Answers.{answer, answers_to}
use Rattle.oberon_main.specs.Play.{PlayState, play_state, last_word}
use Rattle.oberon_main.specs.ByLines.{Lasts, IsLineRun, PlaysByLines, IsNextLine, ServesLine, ScriptStops, PlaysLines}
use Rattle.oberon_main.specs.ByLines.{SaysWhy, faulty, starved, cut_short, at_end, cut_off, at_line, said, unsaid}

-- nothing is written afterwards
pub front_kept : (held held' held'' : Option (List ℕ)) (text : List ℕ) → AppendsFront held held' text
    → Appends held' held'' [] → AppendsFront held held'' text
front_kept held held' held'' text front nothing = record {
  front = front.front;
  back = front.back;
  parts = front.parts;
  taken = subst (Appends held held'') (append-nil front.front)
      (Appends-trans held held' held'' front.front [] front.taken nothing);
}

-- all of it is a front too
all_front : (held held' : Option (List ℕ)) (text : List ℕ) → Appends held held' text → AppendsFront held held' text
all_front held held' text all = record { front = text; back = []; parts = sym (append-nil text); taken = all }

module _ {D : Type 0} (d : Ghosts D) where
  -- the first lines, and then the word that says why the script ended
  pub record PlaysInParts (why end : PlayEnd) (old new : PlayState D) : Type 0 where
    pub held_mid : Option (List ℕ)
    pub lines : PlaysLines d why old (play_state new.left held_mid new.store)
    pub word : SaysWhy why held_mid new.held end

  -- ---- the whole of the parts

  -- the word, or a front of it
  abbrev TakesWord : PlayEnd → PlayEnd → Option (List ℕ) → Option (List ℕ) → Type 0
  TakesWord why end held held' = (end ≡ why) × Appends held held' (last_word why)
      ⊎ (end ≡ Output) × (why ≢ Done) × AppendsFront held held' (last_word why)

  word_taken : {why end : PlayEnd} {held held' : Option (List ℕ)} → SaysWhy why held held' end
      → TakesWord why end held held'
  word_taken (said word) = inl (refl, word)
  word_taken (unsaid early other front) = inr (refl, early, front)

  module _ (old mid new : PlayState D) (held : Option (List ℕ)) (answered : List (List ℕ)) (lasts : Lasts d old.store)
      (plain : AllByRecursion IsLine answered) (run : IsLineRun d answered old.store mid.store)
      (written : Appends old.held mid.held (answers_to (session_of old.store) answered)) where
    cut_whole : {end : PlayEnd} (line : List ℕ) → IsNextLine old.left answered line
        → ServesLine d line mid.store new.store
        → AppendsFront mid.held held (answer (session_of mid.store) (request_of line)) → SaysWhy Output held new.held end
        → PlaysByLines d Output end old new
    cut_whole line follows serves front (said word) = record {
      lasts = lasts;
      answered = answered;
      next = line;
      plain = (follows.plain, plain);
      come = follows.begins;
      mid = mid;
      run = run;
      written = written;
      ends = serves;
      told = inr (
        refl,
        (λ is. cc),
        front_kept mid.held held new.held (answer (session_of mid.store) (request_of line)) front word,
      );
    }
    cut_whole line follows serves front (unsaid early other word) = absurd (other refl)

    -- what was written before the word
    before : Keeps mid.held held → Appends old.held held (answers_to (session_of old.store) answered)
    before kept = Appends-kept old.held mid.held held (answers_to (session_of old.store) answered) written kept

    whole_of : {why end : PlayEnd} → ScriptStops d old.left answered mid (play_state new.left held new.store) why
        → SaysWhy why held new.held end → PlaysByLines d why end old new
    whole_of (at_end silent are) word = record {
      lasts = lasts;
      answered = answered;
      next = [];
      plain = (tt, plain);
      come = are;
      mid = play_state mid.left held mid.store;
      run = run;
      written = before silent.held;
      ends = silent.store;
      told = word_taken word;
    }
    whole_of (cut_off silent came) word = record {
      lasts = lasts;
      answered = answered;
      next = [];
      plain = (tt, plain);
      come = came;
      mid = play_state mid.left held mid.store;
      run = run;
      written = before silent.held;
      ends = silent.store;
      told = word_taken word;
    }
    whole_of (at_line line follows (faulty none leaves)) word = record {
      lasts = lasts;
      answered = answered;
      next = line;
      plain = (follows.plain, plain);
      come = follows.begins;
      mid = play_state mid.left held mid.store;
      run = run;
      written = before none.kept;
      ends = (none.asked, leaves);
      told = word_taken word;
    }
    whole_of (at_line line follows (starved none leaves)) word = record {
      lasts = lasts;
      answered = answered;
      next = line;
      plain = (follows.plain, plain);
      come = follows.begins;
      mid = play_state mid.left held mid.store;
      run = run;
      written = before none.kept;
      ends = (none.asked, leaves);
      told = word_taken word;
    }
    whole_of (at_line line follows (cut_short serves front)) word = cut_whole line follows serves front word

  pub whole : (why end : PlayEnd) (old new : PlayState D) → PlaysInParts why end old new → PlaysByLines d why end old new
  whole why end old new p = whole_of old p.lines.mid new p.held_mid p.lines.answered p.lines.lasts p.lines.plain
      p.lines.run p.lines.written p.lines.stops p.word

  -- ---- and its parts

  -- it ended by no output
  worded : (why end : PlayEnd) (old new : PlayState D) (p : PlaysByLines d why end old new) → why ≢ Output
      → TakesWord why end p.mid.held new.held
      → ScriptStops d old.left p.answered p.mid (play_state new.left p.mid.held new.store) why
      → PlaysInParts why end old new
  worded why end old new p other told stops = record {
    held_mid = p.mid.held;
    lines = record {
      lasts = p.lasts;
      answered = p.answered;
      plain = p.plain.1;
      mid = p.mid;
      run = p.run;
      written = p.written;
      stops = stops;
    };
    word = elim told [
      | inl all ↦ subst (SaysWhy why p.mid.held new.held) (sym all.0) (said all.1)
      | inr front ↦ subst (SaysWhy why p.mid.held new.held) (sym front.0) (unsaid front.1 other front.2)
    ];
  }

  pub in_parts : (why end : PlayEnd) (old new : PlayState D) → PlaysByLines d why end old new
      → PlaysInParts why end old new
  in_parts Done end old new p = worded Done end old new p (λ is. cc) p.told
      (at_end (record { store = p.ends; held = Keeps-refl p.mid.held }) p.come)
  in_parts Input end old new p = worded Input end old new p (λ is. cc) p.told
      (cut_off (record { store = p.ends; held = Keeps-refl p.mid.held }) p.come)
  in_parts Fault end old new p = worded Fault end old new p (λ is. cc) p.told
      (at_line p.next (record { plain = p.plain.0; begins = p.come })
      (faulty (record { asked = p.ends.0; kept = Keeps-refl p.mid.held }) p.ends.1))
  in_parts Memory end old new p = worded Memory end old new p (λ is. cc) p.told
      (at_line p.next (record { plain = p.plain.0; begins = p.come })
      (starved (record { asked = p.ends.0; kept = Keeps-refl p.mid.held }) p.ends.1))
  in_parts Output end old new p =
      let text = answer (session_of p.mid.store) (request_of p.next) in
      let cut : (end ≡ Output) × AppendsFront p.mid.held new.held text = elim p.told [
        | inl all ↦ (all.0, all_front p.mid.held new.held text all.1)
        | inr front ↦ (front.0, front.2)
      ] in
      record {
        held_mid = new.held;
        lines = record {
          lasts = p.lasts;
          answered = p.answered;
          plain = p.plain.1;
          mid = p.mid;
          run = p.run;
          written = p.written;
          stops = at_line p.next (record { plain = p.plain.0; begins = p.come }) (cut_short p.ends cut.1);
        };
        word = subst (SaysWhy Output new.held new.held) (sym cut.0) (said (Appends-nil new.held));
      }
