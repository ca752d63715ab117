use Rattle.std.proofs.Common.{inl, inr, refl}
use Rattle.std.proofs.lemmas.Bool.{false≢true}
use Rattle.oberon_main.proofs.Causes.{output_lost, rises_before}
use Rattle.oberon_main.proofs.Played.{said_by_lines, unsaid_by_lines}
use Rattle.oberon_main.proofs.playing.play_bounded.Goals as goal

pub returns-in-Ok : goal.returns-in-Ok
returns-in-Ok g c =
    let lines = c.play_lines-end.ensures in
    let end = c.play_lines-end.result in
    record {
      why = end;
      named = inl refl;
      by_lines = λ honest. said_by_lines g.D.Disk end _ _ _ _ _ (lines.by_lines honest) c.in-Ok.ensures.said.sent;
      usable = lines.usable;
      premise = lines.premise;
      reading = lines.reading;
      writing = record {
        handed = λ other none. c.in-Ok.ensures.handed (lines.writing.handed other none);
        output = rises_before _ _ _ _ lines.writing.output c.in-Ok.ensures.cause;
      };
      faults = lines.faults;
    }

pub returns-in-Err : goal.returns-in-Err
returns-in-Err g c =
    let lines = c.play_lines-end.ensures in
    let end = c.play_lines-end.result in
    record {
      why = end;
      named = inr refl;
      by_lines = λ honest. unsaid_by_lines g.D.Disk end _ _ _ _ _
          (λ done. false≢true (c.in-Err.ensures.done done)) (λ output. false≢true (c.in-Err.ensures.output output))
          (lines.by_lines honest) c.in-Err.ensures.said.front;
      usable = lines.usable;
      premise = lines.premise;
      reading = lines.reading;
      writing = record {
        handed = λ other none. absurd (other refl);
        output = output_lost end _ _ _ (λ output. false≢true (c.in-Err.ensures.output output)) lines.writing.output
            c.in-Err.ensures.cause;
      };
      faults = lines.faults;
    }
