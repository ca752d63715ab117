use Rattle.std.proofs.lemmas.Result.{on_ok_weaker}
use Rattle.past_pages.proofs.StillReads.{still_both}
use Rattle.past_looks.proofs.looker.Looker.go_on.Goals as goal

pub returns-clause-looker : goal.returns-clause-looker
returns-clause-looker g c =
    on_ok_weaker c.come.result (λ knows is. knows (c.in_ok-seek_on.ensures.looker is)) c.come.ensures.looker

pub returns-clause-still : goal.returns-clause-still
returns-clause-still g c = still_both g.D.Disk c.seek_on.ensures.still c.come.ensures.still
