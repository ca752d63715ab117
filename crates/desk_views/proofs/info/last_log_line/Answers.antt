use Rattle.std.proofs.Common.{◌∙◌}
use Rattle.std.proofs.lemmas.Result.{IfOk-weaker}
use Rattle.desk_core.specs.Kept.{kept_desktop}
use Rattle.desk_views.proofs.InfoLemmas.{log_there, log_within, log_read}
use Rattle.desk_views.proofs.info.last_log_line.Goals as goal

pub text_there-requires : goal.text_there-requires
text_there-requires g c = log_there (kept_desktop c.args.desk.now) c.requires.whole

pub last_line-requires : goal.last_line-requires
last_line-requires g c = log_within _ (kept_desktop c.args.desk.now) c.text_there.result.now c.requires c.text_there.ensures

pub returns : goal.returns
returns g c = record {
  exact = IfOk-weaker c.last_line.result _ _
      (λ line is h. is h ∙ log_read (g.S.CharSource.characters c.args.source.now) (kept_desktop c.args.desk.now)
      c.text_there.result.now c.text_there.ensures)
      c.last_line.ensures.line;
  reads = c.last_line.ensures.source.reads;
  cause = c.last_line.ensures.source.cause;
}
