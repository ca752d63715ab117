use Rattle.std.proofs.Common.{ap, ◌∙◌, subst, Err}
use Rattle.std.specs.Io.KnownBytes.{Appends}
use Rattle.std.proofs.lemmas.Result.{err_from_is_err_and}
use Rattle.desk_journal.specs.Session.{session_of}
use Rattle.oberon_main.specs.Answers.{answer}
use Rattle.screen_cells.specs.Sent.{AppendsFront}
use Rattle.oberon_main.specs.ByLines.{cut_short}
use Rattle.oberon_main.proofs.Played.{line_ended, line_served}
use Rattle.oberon_main.proofs.playing.play_line.Goals as goal

pub returns-in_err-answer-clause-by_lines : goal.returns-in_err-answer-clause-by_lines
returns-in_err-answer-clause-by_lines g c =
    let p = err_from_is_err_and c.from_residual.result c.from_residual.ensures.1 in
    let made = c.in_err-answer.ensures in
    rw (p.1, p.2) (line_ended g.D.Disk c.args.line.now c.ask.new.request c.in_err-answer.field-0.0 _ c.args.store.now
    c.work_out.new.store c.ask.ensures made.faults.errors (λ is. absurd (cc (made.malformed is))) made.crash
    (λ is. made.spared (ap (λ e. Err e) is)))

pub returns-in_err-send-clause-by_lines : goal.returns-in_err-send-clause-by_lines
returns-in_err-send-clause-by_lines g c =
    let p = err_from_is_err_and c.from_residual-in_err-send.result c.from_residual-in_err-send.ensures.1 in
    let made = c.in_ok-answer.ensures in
    rw (p.1, p.2) (λ durable honest bytes holds. cut_short
    (line_served g.D.Disk c.args.line.now c.ask.new.request c.args.store.now c.work_out.new.store
    c.ask.ensures made.worked_out.session (c.shows_what_crashes_leave.ensures.durable made.worked_out.usable)
    made.worked_out.premise.1 made.crash durable honest bytes holds)
    (subst (AppendsFront _ _)
    (c.as_bytes.ensures ∙ made.worked_out.bytes honest
    ∙ ap (λ r. answer (session_of c.args.store.now) r) (c.ask.ensures bytes holds)) c.in_err-send.ensures.sent.front))

pub returns-clause-by_lines : goal.returns-clause-by_lines
returns-clause-by_lines g c =
    let made = c.in_ok-answer.ensures in
    λ durable honest bytes holds. record {
      serves = line_served g.D.Disk c.args.line.now c.ask.new.request c.args.store.now c.work_out.new.store
          c.ask.ensures made.worked_out.session (c.shows_what_crashes_leave.ensures.durable made.worked_out.usable)
          made.worked_out.premise.1 made.crash durable honest bytes holds;
      written = subst (Appends _ _)
          (c.as_bytes.ensures ∙ made.worked_out.bytes honest
          ∙ ap (λ r. answer (session_of c.args.store.now) r) (c.ask.ensures bytes holds)) c.in_ok-send.ensures.sent.sent;
    }

pub returns-clause-durable : goal.returns-clause-durable
returns-clause-durable g c = c.shows_what_crashes_leave.ensures.durable c.in_ok-answer.ensures.worked_out.usable
