use Rattle.std.proofs.Common.{◌∙◌, ap, sym, Err, inr}
use Rattle.std.proofs.lemmas.Bool.{false≢true}
use Rattle.desk_journal.specs.Errors.{OfCheckpoint}
use Rattle.desk_journal.specs.Session.{session_of}
use Rattle.oberon_main.proofs.Sessions.{last_answer, last_after, renewed_answer, renewed_after}
use Rattle.oberon_main.proofs.Surviving.{checkpoint_withstands}
use Rattle.oberon_main.proofs.Ends.{counts_call, counts_done}
use Rattle.oberon_main.proofs.Working.{refusal_works_out}
use Rattle.oberon_main.proofs.answering.checkpoint.Goals as goal

pub returns-in-Ok : goal.returns-in-Ok
returns-in-Ok g c = record {
  worked_out = record {
    bytes = λ honest. c.short_line.ensures
        ∙ sym (renewed_answer (session_of c.args.store.now)
        (λ last. cc (c.in-Ok.ensures.worn.always (c.requires, last))));
    session = λ honest. renewed_after (session_of c.args.store.now) (session_of c.checkpoint.new.self)
        (λ last. cc (c.in-Ok.ensures.worn.always (c.requires, last)))
        (c.in-Ok.ensures.ok.desktop honest) c.in-Ok.ensures.ok.layout c.in-Ok.ensures.ok.epoch c.in-Ok.ensures.ok.events;
    usable = c.in-Ok.ensures.ok.usable;
    premise = (c.in-Ok.ensures.behaves.device.already, c.in-Ok.ensures.behaves.device.still);
  };
  faults = counts_done c.in-Ok.ensures.behaves.faults;
  crash = checkpoint_withstands g.D.Disk c.args.store.now c.checkpoint.new.self c.requires
      c.in-Ok.ensures.any_moment c.in-Ok.ensures.behaves.device;
  spared = λ wrong durable honest. c.in-Ok.ensures.any_moment c.requires honest;
  malformed = λ wrong. absurd (cc wrong);
}

pub returns-in-Err : goal.returns-in-Err
returns-in-Err g c = record {
  worked_out = refusal_works_out g.D.Disk c.args.store.now c.checkpoint.new.self c.refused.ensures.worn
      c.in-Err.ensures.worn (λ is. ap (λ e. Err e) is)
      (λ when. (last_answer (session_of c.args.store.now) when.1, last_after (session_of c.args.store.now) when.1))
      c.requires (c.in-Err.ensures.behaves.device.already, c.in-Err.ensures.behaves.device.still);
  faults = counts_call c.in-Err.error _ _ OfCheckpoint (λ is. inr is) c.in-Err.ensures.behaves.faults
      (λ is. false≢true (sym c.requires ∙ c.in-Err.ensures.behaves.reopen.only (ap (λ e. Err e) is))) _ c.refused.result
      c.refused.ensures.worn c.refused.ensures.other;
  crash = checkpoint_withstands g.D.Disk c.args.store.now c.checkpoint.new.self c.requires
      c.in-Err.ensures.any_moment c.in-Err.ensures.behaves.device;
  spared = λ is durable honest. c.in-Err.ensures.any_moment c.requires honest;
  malformed = λ wrong. absurd (cc wrong);
}
