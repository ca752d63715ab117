-- The text that a script is answered, whole or cut short.
use Rattle.std.specs.Prelude.{◌≡◌, ◌≢◌, ◌⊎◌, ℕ, List, [], ◌∷◌, ◌++◌, Option}
use Rattle.std.specs.Io.KnownBytes.{Appends}
use Rattle.screen_cells.specs.Sent.{AppendsFront}
use Rattle.desk_journal.specs.Session.{session_of}
use Rattle.script_lines.specs.declared.request.Request.TheVariants.{Malformed}
use Rattle.script_lines.specs.Script.{AreLines, BeginsWith}
use Rattle.script_lines.specs.Request.{request_of}
use Rattle.oberon_main.specs.declared.playing.PlayEnd.{PlayEnd}
use Rattle.oberon_main.specs.declared.playing.PlayEnd.TheVariants.{Done, Fault, Memory, Input, Output}
use Rattle.oberon_main.specs.Answers.{answers_to, after_all}
use Rattle.oberon_main.specs.ByLines.{CameWhole}
use Rattle.oberon_main.specs.Play.{PlayState, last_word}

-- the next line of the script isn't malformed: it may fail
abbrev pub MayFailBehind : List ℕ → List (List ℕ) → Type 0
MayFailBehind script lines = (line : List ℕ) × (request_of line ≢ Malformed)
    × BeginsWith script (lines ++ line ∷ [])

-- Where a script ends for this reason, these lines have an answer: all, those that came whole before a read failed, or those
-- before one that failed. Where the output failed it is all of them: the text of which a front was taken. `left` is what the
-- reader has left, where it tells that.
abbrev pub HaveAnswers : PlayEnd → List ℕ → Option (List ℕ) → List (List ℕ) → Type 0
HaveAnswers Input script left lines = CameWhole script left lines
HaveAnswers Fault script left lines = MayFailBehind script lines
HaveAnswers Memory script left lines = MayFailBehind script lines
HaveAnswers why script left lines = AreLines script lines

-- What was written is the answers to these lines, and the word that says why the script ended; or, where the output failed,
-- a front of that.
pub record IsTold {D : Type 0} (script : List ℕ) (why end : PlayEnd) (old new : PlayState D)
    : Type 0 where
  pub lines : List (List ℕ)
  pub have : HaveAnswers why script new.left lines
  pub session : (why ≡ Done) ⊎ (why ≡ Input)
      → session_of new.store ≡ after_all (session_of old.store) lines
  pub text : List ℕ
  pub is : text ≡ answers_to (session_of old.store) lines ++ last_word why
  pub written : (end ≡ why) × Appends old.held new.held text
      ⊎ (end ≡ Output) × AppendsFront old.held new.held text
