use Rattle.std.proofs.Common.{refl, ◌∙◌, inl, inr, ap, ◌+◌, arith}
use Rattle.oberon_main.proofs.Played.{played_none, played_more, pieces_with, ended_by_line, ended_by_rest, ended_by_read}
use Rattle.oberon_main.proofs.Causes.{rises_in_line, rises_from, never_rises, only_failures, few_reads, blank_after}
use Rattle.oberon_main.proofs.Causes.{input_failed}
use Rattle.oberon_main.proofs.playing.play_lines.Goals as goal

pub loop-line-init : goal.loop-line-init
loop-line-init g c =
    let durable = c.shows_what_crashes_leave.ensures.durable c.requires in
    record {
      played = played_none g.D.Disk _ _ _ _ _ c.new-script.ensures.pending c.new-script.ensures.reads;
      usable = c.requires;
      started = durable;
      durable = durable;
      calm = refl;
      counted = ap (λ n. g.R.ScriptReader.reads c.args.reader.now + n) c.new-script.ensures.reads;
      called = refl;
      reading = refl;
      handed = λ none. none;
      writing = refl;
      still = λ honest. honest;
      already = λ honest. honest;
    }

pub loop-line-preserved : goal.loop-line-preserved
loop-line-preserved g c =
    let i = c.loop-line.invariant in
    let taken = c.in-Feed.ensures.line refl in
    record {
      played = played_more g.D.Disk _ _ i.played taken
          (λ honest. c.in_default.ensures.by_lines i.durable (i.still honest) taken.line taken.holds);
      usable = c.in_default.ensures.usable;
      started = i.started;
      durable = c.in_default.ensures.durable;
      calm = c.in_default.ensures.faults.calm (λ wrong. cc) ∙ i.calm;
      counted = c.take_line.ensures.counted ∙ i.counted;
      called = omega (arith, i.called, c.in-Feed.ensures.given refl);
      reading = c.in-Feed.ensures.cause.calm (λ wrong. cc (wrong.0)) ∙ i.reading;
      handed = λ none. c.in_default.ensures.handed (λ wrong. cc) (i.handed none);
      writing = c.in_default.ensures.output.calm (λ wrong. cc) ∙ i.writing;
      still = λ honest. c.in_default.ensures.premise.1 (i.still honest);
      already = λ honest. i.already (c.in_default.ensures.premise.0 honest);
    }

-- ---- at a line

pub returns-in-Err-clause-by_lines : goal.returns-in-Err-clause-by_lines
returns-in-Err-clause-by_lines g c = λ honest.
    let i = c.loop-line.invariant in
    let taken = c.in-Feed.ensures.line refl in
    ended_by_line g.D.Disk c.in-Err.end _ _ i.played taken i.started honest
    (c.in-Err.ensures.by_lines i.durable (i.still honest) taken.line taken.holds)

pub returns-in-Err-clause-usable : goal.returns-in-Err-clause-usable
returns-in-Err-clause-usable g c = λ ends. absurd (only_failures c.in-Err.end c.in-Err.ensures.faults.errors ends)

pub returns-in-Err-clause-premise : goal.returns-in-Err-clause-premise
returns-in-Err-clause-premise g c = (
  λ honest. c.loop-line.invariant.already (c.in-Err.ensures.premise.0 honest),
  λ honest. c.in-Err.ensures.premise.1 (c.loop-line.invariant.still honest),
)

pub returns-in-Err-clause-reading : goal.returns-in-Err-clause-reading
returns-in-Err-clause-reading g c =
    let i = c.loop-line.invariant in
    let taken = c.in-Feed.ensures.line refl in
    record {
      pieces = pieces_with g.D.Disk _ taken.read _ i.played taken.came taken.few;
      limit = few_reads _ _ _ _ (c.take_line.ensures.counted ∙ i.counted);
      one_blank = blank_after _ _ _ _ 1 _ _ i.called c.take_line.ensures.one_blank;
      input = never_rises _ _ _
          (λ wrong. only_failures c.in-Err.end c.in-Err.ensures.faults.errors (inr wrong.0))
          (c.in-Feed.ensures.cause.calm (λ wrong. cc (wrong.0)) ∙ i.reading);
    }

pub returns-in-Err-clause-writing : goal.returns-in-Err-clause-writing
returns-in-Err-clause-writing g c =
    let i = c.loop-line.invariant in
    record {
      handed = λ other none. c.play_line.ensures.handed (λ is. other (cc (is, c.in-Err.is))) (i.handed none);
      output = rises_from _ _ _ _ i.writing
          (rises_in_line _ c.in-Err.end _ _ _ _ c.in-Err.is c.play_line.ensures.output);
    }

pub returns-in-Err-clause-faults : goal.returns-in-Err-clause-faults
returns-in-Err-clause-faults g c = rises_from _ _ _ _ c.loop-line.invariant.calm
    (rises_in_line _ c.in-Err.end _ _ _ _ c.in-Err.is c.play_line.ensures.faults)

-- ---- at the end of the script

pub returns-in-End-clause-by_lines : goal.returns-in-End-clause-by_lines
returns-in-End-clause-by_lines g c = λ honest.
    let i = c.loop-line.invariant in
    let taken = c.in-End.ensures.rest (λ wrong. cc) in
    ended_by_rest g.D.Disk c.play_rest.result _ _ i.played taken (c.in-End.ensures.end refl) i.started honest
    (c.play_rest.ensures.by_lines i.durable (i.still honest) taken.rest taken.holds)

pub returns-in-End-clause-usable : goal.returns-in-End-clause-usable
returns-in-End-clause-usable g c = λ ends. elim ends [
  | inl done ↦ c.play_rest.ensures.usable done
  | inr input ↦ absurd (c.play_rest.ensures.no_input input)
]

pub returns-in-End-clause-premise : goal.returns-in-End-clause-premise
returns-in-End-clause-premise g c = (
  λ honest. c.loop-line.invariant.already (c.play_rest.ensures.premise.0 honest),
  λ honest. c.play_rest.ensures.premise.1 (c.loop-line.invariant.still honest),
)

pub returns-in-End-clause-reading : goal.returns-in-End-clause-reading
returns-in-End-clause-reading g c =
    let i = c.loop-line.invariant in
    let taken = c.in-End.ensures.rest (λ wrong. cc) in
    record {
      pieces = pieces_with g.D.Disk _ taken.read _ i.played taken.came taken.few;
      limit = few_reads _ _ _ _ (c.take_line.ensures.counted ∙ i.counted);
      one_blank = blank_after _ _ _ _ 1 _ _ i.called c.take_line.ensures.one_blank;
      input = never_rises _ _ _ (λ wrong. c.play_rest.ensures.no_input wrong.0)
          (c.in-End.ensures.cause.calm (λ wrong. cc (wrong.0)) ∙ i.reading);
    }

pub returns-in-End-clause-writing : goal.returns-in-End-clause-writing
returns-in-End-clause-writing g c =
    let i = c.loop-line.invariant in
    record {
      handed = λ other none. c.play_rest.ensures.writing.handed other (i.handed none);
      output = rises_from _ _ _ _ i.writing c.play_rest.ensures.writing.output;
    }

pub returns-in-End-clause-faults : goal.returns-in-End-clause-faults
returns-in-End-clause-faults g c = rises_from _ _ _ _ c.loop-line.invariant.calm c.play_rest.ensures.faults

-- ---- where a read failed

pub returns-in-Fault-clause-by_lines : goal.returns-in-Fault-clause-by_lines
returns-in-Fault-clause-by_lines g c = λ honest.
    ended_by_read g.D.Disk c.loop-line.invariant.played (c.in-Fault.ensures.rest (λ wrong. cc))
    c.loop-line.invariant.started honest

pub returns-in-Fault-clause-usable : goal.returns-in-Fault-clause-usable
returns-in-Fault-clause-usable g c = λ ends. c.loop-line.invariant.usable

pub returns-in-Fault-clause-premise : goal.returns-in-Fault-clause-premise
returns-in-Fault-clause-premise g c = (c.loop-line.invariant.already, c.loop-line.invariant.still)

pub returns-in-Fault-clause-reading : goal.returns-in-Fault-clause-reading
returns-in-Fault-clause-reading g c =
    let i = c.loop-line.invariant in
    let taken = c.in-Fault.ensures.rest (λ wrong. cc) in
    record {
      pieces = pieces_with g.D.Disk _ taken.read _ i.played taken.came taken.few;
      limit = few_reads _ _ _ _ (c.take_line.ensures.counted ∙ i.counted);
      one_blank = blank_after _ _ _ _ 1 _ _ i.called c.take_line.ensures.one_blank;
      input = input_failed _ _ _ _ _ _ _ refl i.reading (c.take_line.ensures.counted ∙ i.counted) c.in-Fault.ensures.cause;
    }

pub returns-in-Fault-clause-writing : goal.returns-in-Fault-clause-writing
returns-in-Fault-clause-writing g c = record {
  handed = λ other none. c.loop-line.invariant.handed none;
  output = never_rises _ _ _ (λ wrong. cc) c.loop-line.invariant.writing;
}

pub returns-in-Fault-clause-faults : goal.returns-in-Fault-clause-faults
returns-in-Fault-clause-faults g c = never_rises _ _ _ (λ wrong. cc) c.loop-line.invariant.calm
