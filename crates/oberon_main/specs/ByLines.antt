-- A script that is played line by line: what each line leaves of the store, one after another, and how the script ends.
use Rattle.std.specs.Prelude.{◌≡◌, ◌≢◌, ◌⊎◌, ℕ, List, [], ◌∷◌, ◌++◌, Option, Some, IfSome, Result, MatchResult}
use Rattle.std.specs.List.{AllByRecursion}
use Rattle.std.specs.Io.KnownBytes.{Appends, Consumes, Keeps}
use Rattle.sector_disk.specs.declared.disk.Disk.{Ghosts}
use Rattle.sector_disk.specs.Trail.{now, Leaves, LeavesOnly}
use Rattle.screen_cells.specs.Sent.{AppendsFront}
use Rattle.desktop_definitions.specs.Desktop.{Desktop}
use Rattle.store_layout.specs.Meaning.{MeansEither, Shows}
use Rattle.desk_journal.specs.Session.{Session, session_of}
use Rattle.desk_journal.specs.View.{StoreView, IsDurable}
use Rattle.script_lines.specs.declared.line.Line.{Line}
use Rattle.script_lines.specs.declared.request.Request.TheVariants.{Malformed}
use Rattle.script_lines.specs.Script.{IsLine, IsSplit, AreLines, BeginsWith}
use Rattle.script_lines.specs.Request.{request_of}
use Rattle.script_lines.specs.Reading.{HoldsLine}
use Rattle.oberon_main.specs.declared.playing.PlayEnd.{PlayEnd}
use Rattle.oberon_main.specs.declared.playing.PlayEnd.TheVariants.{Done, Fault, Memory, Input, Output}
use Rattle.oberon_main.specs.Answers.{answer, session_after, answers_to}
use Rattle.oberon_main.specs.Play.{PlayState, last_word}

-- ---- the lines of a script

-- These lines came whole of a script of which this was left when its reading failed.
abbrev pub CameWhole : List ℕ → Option (List ℕ) → List (List ℕ) → Type 0
CameWhole script left lines = (read : List ℕ) × (rest : List ℕ)
    × Consumes (Some script) left read × IsSplit read lines rest

-- Where a script ends for this reason, and these lines were answered, they are all of its lines, or those that came whole
-- before a read failed; or else this line comes next.
abbrev pub HaveCome : PlayEnd → List ℕ → Option (List ℕ) → List (List ℕ) → List ℕ → Type 0
HaveCome Done script left lines next = AreLines script lines
HaveCome Input script left lines next = CameWhole script left lines
HaveCome why script left lines next = BeginsWith script (lines ++ next ∷ [])

-- what is written behind their answers: the answer in which the output failed, or the word that says why the script ended
abbrev pub last_part : PlayEnd → Session → List ℕ → List ℕ
last_part Output s next = answer s (request_of next)
last_part why s next = last_word why

module _ {D : Type 0} (d : Ghosts D) where
  -- ---- one line

  -- a crash now leaves what the store shows
  abbrev pub Lasts : StoreView D → Type 0
  Lasts store = Leaves (now (d.trail store.disk))
      (Shows (d.size store.disk) store.layout store.epoch store.events store.desktop)

  -- at every moment from the one state of a store to the other a crash leaves the desktop of the first, or this one
  abbrev pub LeavesOr : Desktop → StoreView D → StoreView D → Type 0
  LeavesOr desktop old new = LeavesOnly (d.trail old.disk) (d.trail new.disk)
      (MeansEither (d.size old.disk) old.desktop desktop)

  -- The line was served: its answer was worked out. The store then shows the session after it, and a crash leaves that.
  pub record ServesLine (line : List ℕ) (old new : StoreView D) : Type 0 where
    pub any_moment : LeavesOr (session_after (session_of old) (request_of line)).desktop old
        new
    pub session : session_of new ≡ session_after (session_of old) (request_of line)
    pub lasts : Lasts new
    pub as_large : d.size new.disk ≡ d.size old.disk

  -- How a script ends at a line. After a fault its event may be in an image or not, and for want of memory it is in none; a
  -- malformed line is always answered. Where the output fails the line was served before.
  abbrev pub EndsFor : PlayEnd → List ℕ → StoreView D → StoreView D → Type 0
  EndsFor Fault line old new = (request_of line ≢ Malformed)
      × LeavesOr (session_after (session_of old) (request_of line)).desktop old new
  EndsFor Memory line old new = (request_of line ≢ Malformed) × LeavesOr old.desktop old new
  EndsFor Output line old new = ServesLine line old new
  EndsFor why line old new = new ≡ old

  -- ---- a script

  -- These lines led from the one state of the store to the other: each was served, from where those before it led.
  abbrev pub IsLineRun : List (List ℕ) → StoreView D → StoreView D → Type 0
  IsLineRun [] old new = new ≡ old
  IsLineRun (line ∷ lines) old new = (mid : StoreView D) × ServesLine line old mid
      × IsLineRun lines mid new

  -- A script was played. Its first lines were served, one after another, from a store of which a crash leaves what it
  -- shows. The writer took their answers as a whole; and then the script ended for a reason, at the next line if it came to
  -- one. The writer took the last part as a whole too, or a front of it, by which the script then ended.
  pub record PlaysByLines (why end : PlayEnd) (old new : PlayState D) : Type 0 where
    pub lasts : Lasts old.store
    pub answered : List (List ℕ)
    pub next : List ℕ
    pub plain : AllByRecursion IsLine (next ∷ answered)
    pub come : IfSome old.left (λ script. HaveCome why script new.left answered next)
    pub mid : PlayState D
    pub run : IsLineRun answered old.store mid.store
    pub written : Appends old.held mid.held (answers_to (session_of old.store) answered)
    pub ends : EndsFor why next mid.store new.store
    pub told : (end ≡ why)
        × Appends mid.held new.held (last_part why (session_of mid.store) next)
        ⊎ (end ≡ Output) × (why ≢ Done)
        × AppendsFront mid.held new.held (last_part why (session_of mid.store) next)

-- ---- words of the code: `held` is what the writer holds before, and `held'` what it holds afterwards, where it tells that

-- After these lines comes this one, in the script where its bytes are known.
pub record IsNextLine (from : Option (List ℕ)) (lines : List (List ℕ))
    (line : List ℕ) : Type 0 where
  pub plain : IsLine line
  pub begins : IfSome from (λ script. BeginsWith script (lines ++ line ∷ []))

-- The line isn't malformed, and nothing of an answer to it was written.
pub record IsUnanswered (line : List ℕ) (held held' : Option (List ℕ)) : Type 0 where
  pub asked : request_of line ≢ Malformed
  pub kept : Keeps held held'

-- The word was written that says why a script ended; or the output failed in it, and so the script ends by that.
pub data SaysWhy (why : PlayEnd) (held held' : Option (List ℕ)) : PlayEnd → Type 0 where
  said : Appends held held' (last_word why) → SaysWhy why held held' why
  unsaid : why ≢ Done → why ≢ Output → AppendsFront held held' (last_word why)
      → SaysWhy why held held' Output

module _ {D : Type 0} (d : Ghosts D) where
  -- The line was served, and the writer took its whole answer.
  pub record AnswersLine (line : List ℕ) (held held' : Option (List ℕ))
      (old new : StoreView D) : Type 0 where
    pub serves : ServesLine d line old new
    pub written : Appends held held' (answer (session_of old) (request_of line))

  -- a line before which and after which one stands so
  abbrev pub LeavesLine : List ℕ → StoreView D → StoreView D → Type 0
  LeavesLine line old new = LeavesOr d (session_after (session_of old) (request_of line)).desktop
      old new

  -- A script ends at a line, and nothing of an answer to it was written but a front of it where the output failed.
  pub data EndsAt (line : List ℕ) (held held' : Option (List ℕ))
      (old new : StoreView D) : PlayEnd → Type 0 where
    faulty : IsUnanswered line held held' → LeavesLine line old new
        → EndsAt line held held' old new Fault
    starved : IsUnanswered line held held' → LeavesOr d old.desktop old new
        → EndsAt line held held' old new Memory
    cut_short : ServesLine d line old new
        → AppendsFront held held' (answer (session_of old) (request_of line))
        → EndsAt line held held' old new Output

  -- What comes of a line that is held, whatever the line is: it is answered, or the script ends at it.
  abbrev pub PlaysLine : Line → Result Unit PlayEnd → Option (List ℕ) → Option (List ℕ)
      → StoreView D → StoreView D
      → Type 0
  PlaysLine line result held held' old new = IsDurable d old → d.honest old.disk → (bytes : List ℕ)
      → HoldsLine line bytes → MatchResult result (λ _. AnswersLine bytes held held' old new)
      (λ end. EndsAt bytes held held' old new end)

  -- What comes of what stands after the last line feed: nothing, or a line.
  pub data EndsInRest (rest : List ℕ) (held held' : Option (List ℕ))
      (old new : StoreView D) : PlayEnd → Type 0 where
    no_line : rest ≡ [] → Keeps held held' → new ≡ old → EndsInRest rest held held' old new Done
    answered : rest ≢ [] → AnswersLine rest held held' old new
        → EndsInRest rest held held' old new Done
    ended : {end : PlayEnd} → rest ≢ [] → EndsAt rest held held' old new end
        → EndsInRest rest held held' old new end

  -- nothing is done, and nothing is written
  pub record IsSilent (old new : PlayState D) : Type 0 where
    pub store : new.store ≡ old.store
    pub held : Keeps old.held new.held

  -- Why no line was answered after these: there is none, a read failed, or the script ended at the next one.
  pub data ScriptStops (from : Option (List ℕ)) (answered : List (List ℕ))
      (old new : PlayState D) : PlayEnd → Type 0
    where
      at_end : IsSilent old new → IfSome from (λ script. AreLines script answered)
          → ScriptStops from answered old new Done
      cut_off : IsSilent old new → IfSome from (λ script. CameWhole script new.left answered)
          → ScriptStops from answered old new Input
      at_line : {end : PlayEnd} (line : List ℕ) → IsNextLine from answered line
          → EndsAt line old.held new.held old.store new.store end
          → ScriptStops from answered old new end

  -- The first lines of a script were served, and then it stopped: no word was written yet that says why.
  pub record PlaysLines (end : PlayEnd) (old new : PlayState D) : Type 0 where
    pub lasts : Lasts d old.store
    pub answered : List (List ℕ)
    pub plain : AllByRecursion IsLine answered
    pub mid : PlayState D
    pub run : IsLineRun d answered old.store mid.store
    pub written : Appends old.held mid.held (answers_to (session_of old.store) answered)
    pub stops : ScriptStops old.left answered mid new end
