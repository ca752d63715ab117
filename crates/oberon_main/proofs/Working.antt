-- What is promised of a request, from what the calls of the store promise.
use Rattle.std.proofs.Common.{◌≡◌, ◌≢◌, ◌↔◌, Result, IfOk, ap, ◌∙◌, sym, false}
use Rattle.std.specs.Prelude.{codes}
use Rattle.std.proofs.lemmas.Result.{IfOk-weaker}
use Rattle.sector_disk.specs.declared.disk.Disk.{Ghosts}
use Rattle.screen_pictures.specs.Printed.{ended_line}
use Rattle.desk_journal.specs.Errors.{Error}
use Rattle.desk_journal.specs.Errors.{Worn}
use Rattle.desk_journal.specs.Posting.{TurnsAway}
use Rattle.desk_journal.specs.View.{StoreView}
use Rattle.desk_journal.specs.Session.{session_of}
use Rattle.script_lines.specs.declared.request.Request.{Request}
use Rattle.script_lines.specs.declared.request.Request.TheVariants.{Malformed}
use Rattle.oberon_main.specs.declared.answering.Answer.{Answer}
use Rattle.oberon_main.specs.declared.playing.PlayEnd.{PlayEnd}
use Rattle.oberon_main.specs.Answers.{answer, session_after}
use Rattle.oberon_main.specs.Worked.{bytes_of_answer, IsWorkedOut, WorksOut, LooksOut}
use Rattle.oberon_main.proofs.Surviving.{look_withstands, look_spares}

module _ {D : Type 0} (d : Ghosts D) {request : Request} {result : Result Answer PlayEnd} where
  pub look_works_out : (old new : StoreView D) → request ≢ Malformed → LooksOut d request result old new
      → WorksOut d request result old new
  look_works_out old new plain look = record {
    worked_out = look.worked_out;
    faults = look.faults;
    crash = look_withstands d request old new look.only_read;
    spared = λ is. look_spares d old new look.only_read;
    malformed = λ is. absurd (plain is);
  }

  -- A worn store changes nothing, and says so; any other refusal ends the script.
  pub refusal_works_out : {error : Error} {refused when : Type 0} (old new : StoreView D)
      → IfOk result (λ a. (error ≡ Worn) × (bytes_of_answer a ≡ ended_line (codes "worn"))) → TurnsAway refused when old new
      → (error ≡ Worn → refused)
      → (when → (answer (session_of old) request ≡ ended_line (codes "worn"))
      × (session_after (session_of old) request ≡ session_of old))
      → old.must_reopen ≡ false → (d.honest new.disk ↔ d.honest old.disk) → IsWorkedOut d request result old new
  refusal_works_out old new says turned worn same usable premise = record {
    bytes = IfOk-weaker result _ _ (λ a is honest. is.1 ∙ sym (same (turned.only (worn is.0))).0) says;
    session = IfOk-weaker result _ _ (λ a is honest. ap session_of (turned.unchanged (worn is.0))
        ∙ sym (same (turned.only (worn is.0))).1) says;
    usable = IfOk-weaker result _ _ (λ a is. ap (λ (s : StoreView D). s.must_reopen) (turned.unchanged (worn is.0))
        ∙ usable) says;
    premise = premise;
  }
