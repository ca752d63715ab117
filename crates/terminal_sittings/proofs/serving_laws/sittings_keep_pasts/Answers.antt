use Rattle.terminal_sittings.proofs.Forgetting.{forget_nothing}
use Rattle.terminal_sittings.proofs.serving_laws.sittings_keep_pasts.Goals as goal

pub returns : goal.returns
returns g c = forget_nothing g.D.Disk
