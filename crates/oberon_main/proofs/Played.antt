-- Playing the lines of a script, one after another.
use Rattle.std.proofs.Common.{◌≡◌, ◌≢◌, ℕ, List, [], ◌∷◌, ◌++◌, Option, None, Some, IfSome, ◌+◌, ◌≤◌}
use Rattle.std.proofs.Common.{length, length-append, arith, refl, sym, ap, ◌∙◌, subst, inl, inr}
use Rattle.std.specs.List.{AllByRecursion, flat_map}
use Rattle.std.specs.Io.KnownBytes.{Appends, Consumes, Keeps, IsAtEnd}
use Rattle.std.proofs.KnownBytes.{Consumes-nil, Consumes-trans, Appends-nil, Appends-trans, Appends-kept}
use Rattle.sector_disk.specs.declared.disk.Disk.{Ghosts}
use Rattle.sector_disk.specs.Trail.{LeavesOnly}
use Rattle.sector_disk.proofs.Touching.{weakened}
use Rattle.store_layout.specs.Meaning.{MeansEither}
use Rattle.screen_cells.specs.Sent.{AppendsFront}
use Rattle.desk_journal.specs.Session.{Session, session_of}
use Rattle.desk_journal.specs.View.{StoreView, IsDurable}
use Rattle.script_lines.specs.declared.line.Line.{Line}
use Rattle.script_lines.specs.declared.request.Request.{Request}
use Rattle.script_lines.specs.declared.request.Request.TheVariants.{Malformed}
use Rattle.screen_pictures.specs.Printed.{ended_line}
use Rattle.script_lines.specs.Script.{IsLine, IsSplit, lines_at_end, AreLines, BeginsWith}
use Rattle.script_lines.specs.Reading.{HoldsLine, Unplayed, TakesLine, TakesRest, ComesInPieces, most_bytes}
use Rattle.script_lines.specs.Request.{request_of}
use Rattle.oberon_main.specs.declared.playing.PlayEnd.{PlayEnd}
use Rattle.oberon_main.specs.declared.playing.PlayEnd.TheVariants.{Done, Memory, Input, Output}
use Rattle.oberon_main.specs.Answers.{answer, session_after, answers_to}
use Rattle.oberon_main.specs.Play.{PlayState, play_state, last_word}
use Rattle.oberon_main.specs.Surviving.{LeavesFirst, Withstands, SparesRequest}
use Rattle.oberon_main.specs.Worked.{IsWorkEnd}
use Rattle.oberon_main.specs.ByLines.{CameWhole, IsUnanswered, LeavesLine, ServesLine, AnswersLine}
use Rattle.oberon_main.specs.ByLines.{EndsAt, EndsInRest, IsLineRun, ScriptStops, PlaysLines, PlaysByLines}
use Rattle.oberon_main.specs.ByLines.{faulty, starved, no_line, answered, ended, at_end, cut_off, at_line, said, unsaid}
use Rattle.oberon_main.proofs.InParts.{whole}
use Rattle.oberon_main.proofs.Lines.{all_both, out_both, out_one, last_line, lines_then, plain_rest, begins_read}
use Rattle.oberon_main.proofs.Lines.{begins_rest, split_rest, parts_more, all_read}
use Rattle.oberon_main.proofs.Runs.{run_session, run_more, run_both, answers_more}

pub keeps_same : (held : Option (List ℕ)) → Keeps held held
keeps_same None = tt
keeps_same (Some bytes) = refl

module _ {D : Type 0} (d : Ghosts D) where
  -- ---- one line

  left_in : (end : PlayEnd) (line : List ℕ) (held held' : Option (List ℕ)) (old new : StoreView D) → IsWorkEnd end
      → IsUnanswered line held held' → LeavesLine d line old new → (end ≡ Memory → LeavesFirst d old new)
      → EndsAt d line held held' old new end
  left_in end line held held' old new (inl is) none either spared =
      subst (λ e. EndsAt d line held held' old new e) (sym is) (faulty none either)
  left_in end line held held' old new (inr is) none either spared =
      subst (λ e. EndsAt d line held held' old new e) (sym is) (starved none (weakened (spared is) (λ c means. inl means)))

  -- what a request leaves, for the line that asks it
  pub moments_of : (held : Line) (request : Request) (old new : StoreView D)
      → ((line : List ℕ) → HoldsLine held line → request ≡ request_of line) → Withstands d request old new
      → IsDurable d old → d.honest old.disk → (line : List ℕ) → HoldsLine held line → LeavesLine d line old new
  moments_of held request old new asked withstands durable honest line holds =
      subst (λ r. LeavesOnly (d.trail old.disk) (d.trail new.disk)
      (MeansEither (d.size old.disk) old.desktop (session_after (session_of old) r).desktop)) (asked line holds)
      (withstands.any_moment durable honest)

  pub line_ended : (line : Line) (request : Request) (end : PlayEnd) (held : Option (List ℕ)) (old new : StoreView D)
      → ((bytes : List ℕ) → HoldsLine line bytes → request ≡ request_of bytes) → IsWorkEnd end
      → (request ≡ Malformed → ⊥) → Withstands d request old new → (end ≡ Memory → SparesRequest d old new)
      → IsDurable d old → d.honest old.disk → (bytes : List ℕ) → HoldsLine line bytes
      → EndsAt d bytes held held old new end
  line_ended line request end held old new asked named plain withstands spared durable honest bytes holds =
      left_in end bytes held held old new named
      (record { asked = λ is. plain (asked bytes holds ∙ is); kept = keeps_same held })
      (moments_of line request old new asked withstands durable honest bytes holds)
      (λ is. spared is durable honest)

  pub line_served : (line : Line) (request : Request) (old new : StoreView D)
      → ((bytes : List ℕ) → HoldsLine line bytes → request ≡ request_of bytes)
      → (d.honest old.disk → session_of new ≡ session_after (session_of old) request)
      → IsDurable d new → (d.honest old.disk → d.honest new.disk) → Withstands d request old new
      → IsDurable d old → d.honest old.disk → (bytes : List ℕ) → HoldsLine line bytes → ServesLine d bytes old new
  line_served line request old new asked session lasting still withstands durable honest bytes holds = record {
    any_moment = moments_of line request old new asked withstands durable honest bytes holds;
    session = session honest ∙ ap (session_after (session_of old)) (asked bytes holds);
    lasts = lasting (still honest);
    as_large = withstands.as_large;
  }

  -- ---- the loop

  -- The lines that came so far were answered; what stands in no line yet is pending.
  pub record HasPlayed (old now : StoreView D) (left left' held held' : Option (List ℕ)) (most : ℕ)
      (unplayed : Unplayed) : Type 0 where
    pub lines : List (List ℕ)
    pub read : List ℕ
    pub came : Consumes left left' read
    pub few : length read + most_bytes unplayed.reads ≤ most_bytes most
    pub each : AllByRecursion IsLine lines
    pub parts : read ≡ flat_map ended_line lines ++ unplayed.pending
    pub run : d.honest old.disk → IsLineRun d lines old now
    pub written : d.honest old.disk → Appends held held' (answers_to (session_of old) lines)

  pub played_none : (store : StoreView D) (left held : Option (List ℕ)) (most : ℕ) (u : Unplayed)
      → u.pending ≡ [] → u.reads ≡ most → HasPlayed store store left left held held most u
  played_none store left held most u none reads = record {
    lines = [];
    read = [];
    came = Consumes-nil left;
    few = omega (arith, reads);
    each = tt;
    parts = sym none;
    run = λ _. refl;
    written = λ _. Appends-nil held;
  }

  few_both : (read read' all old new most : ℕ) → all ≡ read + read' → read + old ≤ most → read' + new ≤ old
      → all + new ≤ most
  few_both read read' all old new most is before now = omega (arith, is, before, now)

  pub played_more : {old mid : StoreView D} {left left' left'' held held' : Option (List ℕ)} {most : ℕ}
      {u u' : Unplayed} {line : Line} (held'' : Option (List ℕ)) (new : StoreView D)
      → (so_far : HasPlayed old mid left left' held held' most u) → (taken : TakesLine u u' left' left'' line)
      → (d.honest old.disk → AnswersLine d taken.line held' held'' mid new)
      → HasPlayed old new left left'' held held'' most u'
  played_more {old = old} {mid = mid} {left = left} {left' = left'} {left'' = left''} {held = held} {held' = held'}
      {most = most} {u = u} {u' = u'} held'' new so_far taken answers = record {
        lines = so_far.lines ++ taken.line ∷ [];
        read = so_far.read ++ taken.read;
        came = Consumes-trans left left' left'' so_far.read taken.read so_far.came taken.came;
        few = few_both (length so_far.read) (length taken.read) _ (most_bytes u.reads) (most_bytes u'.reads)
            (most_bytes most) (length-append so_far.read taken.read) so_far.few taken.few;
        each = all_both so_far.lines (taken.line ∷ []) so_far.each (taken.plain, tt);
        parts = parts_more so_far.read taken.read u.pending u'.pending taken.line so_far.lines so_far.parts taken.parts;
        run = λ honest. run_more d so_far.lines taken.line old mid new (so_far.run honest) (answers honest).serves;
        written = λ honest. subst (Appends held held'')
            (answers_more d so_far.lines taken.line old mid (so_far.run honest))
            (Appends-trans held held' held'' (answers_to (session_of old) so_far.lines)
            (answer (session_of mid) (request_of taken.line)) (so_far.written honest) (answers honest).written);
      }

  -- ---- in how many pieces the script came

  at_most : (read read' all old more most : ℕ) → all ≡ read + read' → read + old ≤ most → read' + more ≤ old
      → all ≤ most
  at_most read read' all old more most is before now = omega (arith, is, before, now)

  pub pieces_with : {old mid : StoreView D} {left left' held held' : Option (List ℕ)} {most : ℕ} {u : Unplayed}
      (left'' : Option (List ℕ)) (read : List ℕ) (more : ℕ) → HasPlayed old mid left left' held held' most u
      → Consumes left' left'' read → length read + more ≤ most_bytes u.reads → ComesInPieces most left left''
  pieces_with {left = left} {left' = left'} {most = most} {u = u} left'' read more so_far came few = record {
    read = so_far.read ++ read;
    came = Consumes-trans left left' left'' so_far.read read so_far.came came;
    few = at_most (length so_far.read) (length read) _ (most_bytes u.reads) more (most_bytes most)
        (length-append so_far.read read) so_far.few few;
  }

  -- ---- the lines of the script

  module _ {old mid : StoreView D} {left' left'' held held' : Option (List ℕ)} {most : ℕ} {u u' : Unplayed}
      {line : Line} where
    begins_with_line : (script : List ℕ) → (so_far : HasPlayed old mid (Some script) left' held held' most u)
        → (taken : TakesLine u u' left' left'' line) → BeginsWith script (so_far.lines ++ taken.line ∷ [])
    begins_with_line script so_far taken =
        begins_read script left'' (so_far.read ++ taken.read) u'.pending (so_far.lines ++ taken.line ∷ [])
        (Consumes-trans (Some script) left' left'' so_far.read taken.read so_far.came taken.came)
        (all_both so_far.lines (taken.line ∷ []) so_far.each (taken.plain, tt))
        (parts_more so_far.read taken.read u.pending u'.pending taken.line so_far.lines so_far.parts taken.parts)

    split_with_rest : (script : List ℕ) → (so_far : HasPlayed old mid (Some script) left' held held' most u)
        → (taken : TakesRest u u' left' left'' line) → IsAtEnd left'' → IsSplit script so_far.lines taken.rest
    split_with_rest script so_far taken at_its_end = record {
      whole = all_read script left'' (so_far.read ++ taken.read)
          (Consumes-trans (Some script) left' left'' so_far.read taken.read so_far.came taken.came) at_its_end
          ∙ split_rest so_far.read taken.read u.pending taken.rest so_far.lines so_far.parts taken.parts;
      each = so_far.each;
      last = taken.plain;
    }

    begins_next : (from : Option (List ℕ)) → (so_far : HasPlayed old mid from left' held held' most u)
        → (taken : TakesLine u u' left' left'' line)
        → IfSome from (λ script. BeginsWith script (so_far.lines ++ taken.line ∷ []))
    begins_next None so_far taken = tt
    begins_next (Some script) so_far taken = begins_with_line script so_far taken

    begins_last : (from : Option (List ℕ)) → (so_far : HasPlayed old mid from left' held held' most u)
        → (taken : TakesRest u u' left' left'' line) → IsAtEnd left'' → taken.rest ≢ []
        → IfSome from (λ script. BeginsWith script (so_far.lines ++ taken.rest ∷ []))
    begins_last None so_far taken at_its_end there = tt
    begins_last (Some script) so_far taken at_its_end there =
        begins_rest script so_far.lines taken.rest (split_with_rest script so_far taken at_its_end) there

    are_all : (from : Option (List ℕ)) → (so_far : HasPlayed old mid from left' held held' most u)
        → (taken : TakesRest u u' left' left'' line) → IsAtEnd left''
        → IfSome from (λ script. AreLines script (so_far.lines ++ lines_at_end [] taken.rest))
    are_all None so_far taken at_its_end = tt
    are_all (Some script) so_far taken at_its_end = record {
      ends = so_far.lines;
      rest = taken.rest;
      split = split_with_rest script so_far taken at_its_end;
      are = sym (lines_then so_far.lines taken.rest);
    }

    came_whole : (from : Option (List ℕ)) → (so_far : HasPlayed old mid from left' held held' most u)
        → (taken : TakesRest u u' left' left'' line) → IfSome from (λ script. CameWhole script left'' so_far.lines)
    came_whole None so_far taken = tt
    came_whole (Some script) so_far taken = (
      so_far.read ++ taken.read,
      taken.rest,
      Consumes-trans (Some script) left' left'' so_far.read taken.read so_far.came taken.came,
      record {
        whole = split_rest so_far.read taken.read u.pending taken.rest so_far.lines so_far.parts taken.parts;
        each = so_far.each;
        last = taken.plain;
      },
    )

  -- ---- how the script ends after the lines so far

  module _ {old mid : StoreView D} {from left' held held' : Option (List ℕ)} {most : ℕ} {u : Unplayed} where
    stops_after : (end : PlayEnd) (left'' held'' : Option (List ℕ)) (new : StoreView D)
        → (so_far : HasPlayed old mid from left' held held' most u) → IsDurable d old → d.honest old.disk
        → ScriptStops d from so_far.lines (play_state left' held' mid) (play_state left'' held'' new) end
        → PlaysLines d end (play_state from held old) (play_state left'' held'' new)
    stops_after end left'' held'' new so_far durable honest stops = record {
      lasts = durable honest;
      answered = so_far.lines;
      plain = so_far.each;
      mid = play_state left' held' mid;
      run = so_far.run honest;
      written = so_far.written honest;
      stops = stops;
    }

    module _ {left'' : Option (List ℕ)} {u' : Unplayed} {line : Line} where
      -- at a line
      pub ended_by_line : (end : PlayEnd) (held'' : Option (List ℕ)) (new : StoreView D)
          → (so_far : HasPlayed old mid from left' held held' most u) → (taken : TakesLine u u' left' left'' line)
          → IsDurable d old → d.honest old.disk → EndsAt d taken.line held' held'' mid new end
          → PlaysLines d end (play_state from held old) (play_state left'' held'' new)
      ended_by_line end held'' new so_far taken durable honest ends =
          stops_after end left'' held'' new so_far durable honest
          (at_line taken.line (record { plain = taken.plain; begins = begins_next from so_far taken }) ends)

      -- all lines were answered, and these are the last ones
      all_answered : (held'' : Option (List ℕ)) (new : StoreView D)
          → (so_far : HasPlayed old mid from left' held held' most u) → (taken : TakesRest u u' left' left'' line)
          → IsAtEnd left'' → IsDurable d old → d.honest old.disk → IsLineRun d (lines_at_end [] taken.rest) mid new
          → Appends held' held'' (answers_to (session_of mid) (lines_at_end [] taken.rest))
          → PlaysLines d Done (play_state from held old) (play_state left'' held'' new)
      all_answered held'' new so_far taken at_its_end durable honest run written =
          let more : List (List ℕ) = lines_at_end [] taken.rest in
          let s : Session = session_of old in
          record {
            lasts = durable honest;
            answered = so_far.lines ++ more;
            plain = all_both so_far.lines more so_far.each (plain_rest taken.rest taken.plain);
            mid = play_state left'' held'' new;
            run = run_both d so_far.lines more old mid new (so_far.run honest) run;
            written = subst (Appends held held'')
                (ap (λ (t : Session). answers_to s so_far.lines ++ answers_to t more)
                (run_session d so_far.lines old mid (so_far.run honest)) ∙ sym (out_both s so_far.lines more))
                (Appends-trans held held' held'' (answers_to s so_far.lines) (answers_to (session_of mid) more)
                (so_far.written honest) written);
            stops = at_end (record { store = refl; held = keeps_same held'' }) (are_all from so_far taken at_its_end);
          }

      -- in what stands after the last line feed
      pub ended_by_rest : (end : PlayEnd) (held'' : Option (List ℕ)) (new : StoreView D)
          → (so_far : HasPlayed old mid from left' held held' most u) → (taken : TakesRest u u' left' left'' line)
          → IsAtEnd left'' → IsDurable d old → d.honest old.disk → EndsInRest d taken.rest held' held'' mid new end
          → PlaysLines d end (play_state from held old) (play_state left'' held'' new)
      ended_by_rest Done held'' new so_far taken at_its_end durable honest (no_line none keeps same) =
          all_answered held'' new so_far taken at_its_end durable honest
          (subst (λ bs. IsLineRun d (lines_at_end [] bs) mid new) (sym none) same)
          (subst (λ bs. Appends held' held'' (answers_to (session_of mid) (lines_at_end [] bs))) (sym none)
          (Appends-kept held' held' held'' [] (Appends-nil held') keeps))
      ended_by_rest Done held'' new so_far taken at_its_end durable honest (answered there answers) =
          all_answered held'' new so_far taken at_its_end durable honest
          (subst (λ ls. IsLineRun d ls mid new) (sym (last_line taken.rest there)) (new, answers.serves, refl))
          (subst (λ ls. Appends held' held'' (answers_to (session_of mid) ls)) (sym (last_line taken.rest there))
          (subst (Appends held' held'') (sym (out_one (session_of mid) taken.rest)) answers.written))
      ended_by_rest end held'' new so_far taken at_its_end durable honest (ended there ends) =
          stops_after end left'' held'' new so_far durable honest
          (at_line taken.rest (record {
            plain = taken.plain;
            begins = begins_last from so_far taken at_its_end there;
          }) ends)

      -- a read failed
      pub ended_by_read : (so_far : HasPlayed old mid from left' held held' most u)
          → (taken : TakesRest u u' left' left'' line) → IsDurable d old → d.honest old.disk
          → PlaysLines d Input (play_state from held old) (play_state left'' held' mid)
      ended_by_read so_far taken durable honest = stops_after Input left'' held' mid so_far durable honest
          (cut_off (record { store = refl; held = keeps_same held' }) (came_whole from so_far taken))

  -- ---- the last word

  pub said_by_lines : (end : PlayEnd) (old : PlayState D) (left held held' : Option (List ℕ)) (new : StoreView D)
      → PlaysLines d end old (play_state left held new) → Appends held held' (last_word end)
      → PlaysByLines d end end old (play_state left held' new)
  said_by_lines end old left held held' new lines word = whole d end end old (play_state left held' new)
      (record { held_mid = held; lines = lines; word = said word })

  pub unsaid_by_lines : (why : PlayEnd) (old : PlayState D) (left held held' : Option (List ℕ)) (new : StoreView D)
      → why ≢ Done → why ≢ Output → PlaysLines d why old (play_state left held new)
      → AppendsFront held held' (last_word why) → PlaysByLines d why Output old (play_state left held' new)
  unsaid_by_lines why old left held held' new early output lines front = whole d why Output old (play_state left held' new)
      (record { held_mid = held; lines = lines; word = unsaid early output front })
