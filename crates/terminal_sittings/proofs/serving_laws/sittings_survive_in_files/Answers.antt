use Rattle.sector_disk.proofs.FileLeaving.{file_leaves, file_leaves_only}
use Rattle.terminal_sittings.proofs.serving_laws.sittings_survive_in_files.Goals as goal

pub returns : goal.returns
returns g c = λ end acknowledged begun old new left. record {
  any_moment = file_leaves_only _ _ _ left.survives.any_moment;
  at_last = file_leaves _ _ left.survives.at_last;
}
