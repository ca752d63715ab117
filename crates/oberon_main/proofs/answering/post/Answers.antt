use Rattle.std.proofs.Common.{◌∙◌, ap, sym, Err}
use Rattle.std.proofs.lemmas.Bool.{false≢true}
use Rattle.desk_journal.specs.Errors.{OfPost}
use Rattle.desk_journal.specs.Session.{session_of}
use Rattle.desk_journal.proofs.Stepped.{stepped_newest}
use Rattle.oberon_main.proofs.Sessions.{worn_answer, worn_after, reply_answer, reply_after}
use Rattle.oberon_main.proofs.Surviving.{post_withstands}
use Rattle.oberon_main.proofs.Ends.{counts_call, counts_done, only_memory}
use Rattle.oberon_main.proofs.Working.{refusal_works_out}
use Rattle.oberon_main.proofs.answering.post.Goals as goal

pub returns-in-Ok : goal.returns-in-Ok
returns-in-Ok g c = record {
  worked_out = record {
    bytes = λ honest. c.reply_bytes.ensures
        ∙ sym (reply_answer (session_of c.args.store.now) c.args.event.now c.post.new.self.desktop c.in-Ok.reply
        (λ worn. absurd (cc (c.in-Ok.ensures.worn.always ((c.requires, worn.0), worn.1))))
        (stepped_newest g.D.Disk c.in-Ok.ensures.ok honest));
    session = λ honest. reply_after (session_of c.args.store.now)
        (session_of c.post.new.self) c.args.event.now c.in-Ok.reply
        (λ worn. absurd (cc (c.in-Ok.ensures.worn.always ((c.requires, worn.0), worn.1))))
        (stepped_newest g.D.Disk c.in-Ok.ensures.ok honest) c.in-Ok.ensures.ok.more c.in-Ok.ensures.ok.anew
        c.in-Ok.ensures.ok.layout;
    usable = c.in-Ok.ensures.ok.usable;
    premise = (c.in-Ok.ensures.behaves.device.already, c.in-Ok.ensures.behaves.device.still);
  };
  faults = counts_done c.in-Ok.ensures.behaves.faults;
  crash = post_withstands g.D.Disk c.args.event.now _ c.args.store.now c.post.new.self c.requires
      c.in-Ok.ensures.any_moment c.in-Ok.ensures.worn c.in-Ok.ensures.behaves.device;
  spared = λ wrong. absurd (cc wrong);
  malformed = λ wrong. absurd (cc wrong);
}

pub returns-in-Err : goal.returns-in-Err
returns-in-Err g c = record {
  worked_out = refusal_works_out g.D.Disk c.args.store.now c.post.new.self c.refused.ensures.worn
      c.in-Err.ensures.worn (λ is. ap (λ e. Err e) is)
      (λ when. (
        worn_answer (session_of c.args.store.now) c.args.event.now when.0.1 when.1,
        worn_after (session_of c.args.store.now) c.args.event.now when.0.1 when.1,
      )) c.requires
      (c.in-Err.ensures.behaves.device.already, c.in-Err.ensures.behaves.device.still);
  faults = counts_call c.in-Err.error _ _ OfPost (λ is. is) c.in-Err.ensures.behaves.faults
      (λ is. false≢true (sym c.requires ∙ c.in-Err.ensures.behaves.reopen.only (ap (λ e. Err e) is))) _ c.refused.result
      c.refused.ensures.worn c.refused.ensures.other;
  crash = post_withstands g.D.Disk c.args.event.now _ c.args.store.now c.post.new.self c.requires
      c.in-Err.ensures.any_moment c.in-Err.ensures.worn c.in-Err.ensures.behaves.device;
  spared = λ is durable honest. (c.in-Err.ensures.memory (ap (λ e. Err e)
      (only_memory c.in-Err.error c.refused.result c.refused.ensures.other is))).unrecorded c.requires honest;
  malformed = λ wrong. absurd (cc wrong);
}
