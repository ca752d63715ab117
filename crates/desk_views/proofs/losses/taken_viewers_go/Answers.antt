use Rattle.desk_views.proofs.TakenLaws.{taken_go}
use Rattle.desk_views.proofs.losses.taken_viewers_go.Goals as goal

pub returns : goal.returns
returns c = taken_go
