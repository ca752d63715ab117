-- What a crash leaves at every moment of a script that is played by lines.
use Rattle.std.proofs.Common.{◌≡◌, inl, inr, ℕ, ◌≤◌, List, [], ◌∷◌, ◌++◌, length, Option, IfSome}
use Rattle.std.proofs.Common.{refl, sym, ◌∙◌, ap, subst, arith, append_assoc, append-nil}
use Rattle.std.specs.List.{AllByRecursion}
use Rattle.sector_disk.specs.declared.disk.Disk.{Ghosts}
use Rattle.sector_disk.specs.Trail.{Content, Trail, now, IsCrashImage, LeavesOnly}
use Rattle.sector_disk.proofs.Touching.{weakened}
use Rattle.desktop_definitions.specs.Desktop.{Desktop}
use Rattle.store_layout.specs.Meaning.{Means, MeansEither}
use Rattle.desk_journal.specs.View.{StoreView}
use Rattle.desk_journal.proofs.Passing.{at_start}
use Rattle.script_lines.specs.Script.{IsLine, BeginsWith}
use Rattle.script_lines.specs.Request.{request_of}
use Rattle.oberon_main.specs.declared.playing.PlayEnd.{PlayEnd}
use Rattle.desk_journal.specs.Session.{Session}
use Rattle.oberon_main.specs.Answers.{session_after, after_all}
use Rattle.desk_journal.specs.Session.{session_of}
use Rattle.oberon_main.specs.Surviving.{led_to}
use Rattle.oberon_main.specs.Play.{PlayState, play_state}
use Rattle.oberon_main.specs.ByLines.{IsNextLine, Lasts, LeavesLine, ServesLine, IsLineRun, ScriptStops}
use Rattle.oberon_main.specs.ByLines.{faulty, starved, cut_short, at_end, cut_off, at_line}
use Rattle.oberon_main.specs.Laws.{ScriptsAreCutOff}
use Rattle.oberon_main.specs.Moments.{AreAnswered}
use Rattle.oberon_main.specs.Moments.AreAnswered.{none, one_more}
use Rattle.oberon_main.proofs.InParts.{in_parts}
use Rattle.oberon_main.proofs.Lines.{all_both, after_both, begins_all, begins_came}
use Rattle.oberon_main.proofs.Surviving.{only_first}
use Rattle.oberon_main.proofs.Runs.{run_session, run_size}
use Rattle.oberon_main.proofs.Surviving.{lines_steps, lasting_means}

-- ---- the same meaning in other words

moved : (n n' : ℕ) (x y : Desktop) (c : Content) → n' ≡ n → x ≡ y → Means n x c → Means n' y c
moved n n' x y c size same means = subst (λ d. Means n' d c) same (subst (λ m. Means m x c) (sym size) means)

moved_either : (n n' : ℕ) (x y x' y' : Desktop) (c : Content) → n' ≡ n → x ≡ x' → y ≡ y' → MeansEither n x y c
    → MeansEither n' x' y' c
moved_either n n' x y x' y' c size first second (inl means) = inl (moved n n' x x' c size first means)
moved_either n n' x y x' y' c size first second (inr means) = inr (moved n n' y y' c size second means)

-- lines that lead on from where others led
led_on : (s now : Session) (lines more : List (List ℕ)) → now ≡ after_all s lines
    → (after_all now more).desktop ≡ led_to s (lines ++ more)
led_on s now lines more session = ap (λ (t : Session). (after_all t more).desktop) session
    ∙ ap (λ (t : Session). t.desktop) (sym (after_both s lines more)) ∙ lines_steps s (lines ++ more)

led_here : (s now : Session) (lines : List (List ℕ)) → now ≡ after_all s lines → now.desktop ≡ led_to s lines
led_here s now lines session = ap (λ (t : Session). t.desktop) session ∙ lines_steps s lines

module _ {D : Type 0} (d : Ghosts D) where
  -- ---- the line at which a script ended

  -- it isn't known yet which lines came before it
  record IsTail (from : Option (List ℕ)) (answered : List (List ℕ)) (mid new : StoreView D) : Type 0 where
    begun : List (List ℕ)
    one : length begun ≤ 1
    plain : AllByRecursion IsLine begun
    begins : IfSome from (λ script. BeginsWith script (answered ++ begun))
    moments : LeavesOnly (d.trail mid.disk) (d.trail new.disk)
        (MeansEither (d.size mid.disk) mid.desktop (after_all (session_of mid) begun).desktop)

  module _ (from : Option (List ℕ)) (answered : List (List ℕ)) (mid new : StoreView D) where
    nothing_begun : Lasts d mid → new ≡ mid → IfSome from (λ script. BeginsWith script answered)
        → IsTail from answered mid new
    nothing_begun lasts same begins = record {
      begun = [];
      one = omega arith;
      plain = tt;
      begins = subst (λ ls. IfSome from (λ script. BeginsWith script ls)) (sym (append-nil answered)) begins;
      moments = subst (λ (store : StoreView D). LeavesOnly (d.trail mid.disk) (d.trail store.disk)
          (MeansEither (d.size mid.disk) mid.desktop mid.desktop)) (sym same)
          (at_start (d.trail mid.disk) _ (λ c image. inl (lasting_means d mid lasts c image)));
    }

    line_begun : (line : List ℕ) → IsNextLine from answered line → LeavesLine d line mid new
        → IsTail from answered mid new
    line_begun line follows leaves = record {
      begun = line ∷ [];
      one = omega arith;
      plain = (follows.plain, tt);
      begins = follows.begins;
      moments = leaves;
    }

  tail_of : (from : Option (List ℕ)) (answered : List (List ℕ)) (mid new : PlayState D) {why : PlayEnd}
      → Lasts d mid.store → ScriptStops d from answered mid new why → IsTail from answered mid.store new.store
  tail_of from answered mid new lasts (at_end silent are) =
      nothing_begun from answered mid.store new.store lasts silent.store (begins_all from answered are)
  tail_of from answered mid new lasts (cut_off silent came) =
      nothing_begun from answered mid.store new.store lasts silent.store (begins_came from new.left answered came)
  tail_of from answered mid new lasts (at_line line follows (faulty silent leaves)) =
      line_begun from answered mid.store new.store line follows leaves
  tail_of from answered mid new lasts (at_line line follows (starved silent leaves)) =
      line_begun from answered mid.store new.store line follows (weakened leaves (only_first d line mid.store))
  tail_of from answered mid new lasts (at_line line follows (cut_short serves front)) =
      line_begun from answered mid.store new.store line follows serves.any_moment

  -- ---- the lines before it

  run_lasts : (lines : List (List ℕ)) (old new : StoreView D) → Lasts d old → IsLineRun d lines old new → Lasts d new
  run_lasts [] old new lasts run = subst (λ store. Lasts d store) (sym run) lasts
  run_lasts (line ∷ lines) old new lasts run = run_lasts lines run.0 new run.1.lasts run.2

  module _ (trail : Trail) where
    -- the trail goes on from this state of the store
    record GoesOn (store : StoreView D) : Type 0 where
      later : (d.trail store.disk).clock ≤ trail.clock
      kept : (t : ℕ) → t ≤ (d.trail store.disk).clock → trail.at t ≡ (d.trail store.disk).at t

    run_goes_on : (lines : List (List ℕ)) (old new : StoreView D) → IsLineRun d lines old new → GoesOn new → GoesOn old
    run_goes_on [] old new run on = subst GoesOn run on
    run_goes_on (line ∷ lines) old new run on =
        let following : GoesOn run.0 = run_goes_on lines run.0 new run.2 on in
        let moments = run.1.any_moment in
        record {
          later = omega (arith, moments.later, following.later);
          kept = λ t early. following.kept t (omega (arith, early, moments.later)) ∙ moments.kept t early;
        }

    module _ (size : ℕ) (s : Session) (from : ℕ) where
      answer_more : (done : List (List ℕ)) (line : List ℕ) (first mid : StoreView D)
          → AreAnswered size s trail from (d.trail first.disk).clock done → session_of first ≡ after_all s done
          → d.size first.disk ≡ size → ServesLine d line first mid → GoesOn mid
          → AreAnswered size s trail from (d.trail mid.disk).clock (done ++ line ∷ [])
      answer_more done line first mid so_far session as_large serves on = one_more line so_far serves.any_moment.later
          (λ t above below c image. moved_either (d.size first.disk) size first.desktop
          (session_after (session_of first) (request_of line)).desktop (led_to s done) (led_to s (done ++ line ∷ [])) c
          (sym as_large) (led_here s (session_of first) done session)
          (led_on s (session_of first) done (line ∷ []) session)
          (serves.any_moment.each t above below c (subst (λ m. IsCrashImage m c) (on.kept t below) image)))
          (λ c image. moved (d.size mid.disk) size mid.desktop (led_to s (done ++ line ∷ [])) c
          (sym as_large ∙ sym serves.as_large)
          (ap (λ (t : Session). t.desktop) serves.session ∙ led_on s (session_of first) done (line ∷ []) session)
          (lasting_means d mid serves.lasts c
          (subst (λ m. IsCrashImage m c) (on.kept (d.trail mid.disk).clock (omega arith)) image)))

      all_answered : (done lines : List (List ℕ)) (first mid : StoreView D)
          → AreAnswered size s trail from (d.trail first.disk).clock done → session_of first ≡ after_all s done
          → d.size first.disk ≡ size → IsLineRun d lines first mid → GoesOn mid
          → AreAnswered size s trail from (d.trail mid.disk).clock (done ++ lines)
      all_answered done [] first mid so_far session as_large run on =
          subst (λ ls. AreAnswered size s trail from (d.trail mid.disk).clock ls) (sym (append-nil done))
          (subst (λ (store : StoreView D). AreAnswered size s trail from (d.trail store.disk).clock done) (sym run)
          so_far)
      all_answered done (line ∷ lines) first mid so_far session as_large run on =
          subst (λ ls. AreAnswered size s trail from (d.trail mid.disk).clock ls)
          (append_assoc done (line ∷ []) lines)
          (all_answered (done ++ line ∷ []) lines run.0 mid
          (answer_more done line first run.0 so_far session as_large run.1 (run_goes_on lines run.0 mid run.2 on))
          (run.1.session ∙ ap (λ (t : Session). session_after t (request_of line)) session
          ∙ sym (after_both s done (line ∷ []))) (run.1.as_large ∙ as_large) run.2 on)

  -- ---- a script

  pub scripts_cut : ScriptsAreCutOff d
  scripts_cut why end before new by_lines =
      let played = in_parts d why end before new by_lines in
      let old : StoreView D = before.store in
      let mid : StoreView D = played.lines.mid.store in
      let answered : List (List ℕ) = played.lines.answered in
      let run : IsLineRun d answered old mid = played.lines.run in
      let s : Session = session_of old in
      let trail : Trail = d.trail new.store.disk in
      let session : session_of mid ≡ after_all s answered = run_session d answered old mid run in
      let as_large : d.size mid.disk ≡ d.size old.disk = run_size d answered old mid run in
      let tail : IsTail before.left answered mid new.store = tail_of before.left answered played.lines.mid
      (play_state new.left played.held_mid new.store) (run_lasts answered old mid played.lines.lasts run)
      played.lines.stops in
      let on : GoesOn trail mid = record { later = tail.moments.later; kept = tail.moments.kept } in
      record {
        answered = answered;
        begun = tail.begun;
        one = tail.one;
        plain = all_both answered tail.begun played.lines.plain tail.plain;
        begins = tail.begins;
        past = (run_goes_on trail answered old mid run on).kept;
        last = (d.trail mid.disk).clock;
        each = all_answered trail (d.size old.disk) s (d.trail old.disk).clock [] answered old mid none refl
            refl run on;
        later = tail.moments.later;
        rest = λ t above below c image. moved_either (d.size mid.disk) (d.size old.disk) mid.desktop
            (after_all (session_of mid) tail.begun).desktop (led_to s answered)
            (led_to s (answered ++ tail.begun)) c (sym as_large)
            (led_here s (session_of mid) answered session)
            (led_on s (session_of mid) answered tail.begun session)
            (tail.moments.each t above below c image);
      }
