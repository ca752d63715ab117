use Rattle.std.proofs.Common.{◌∙◌, inr, ap, sym}
use Rattle.std.proofs.lemmas.Result.{IfOk-weaker}
use Rattle.sector_disk.proofs.Touching.{still_all}
use Rattle.cli_copies.proofs.sectors.is_whole_copy.Goals as goal

pub returns-clause-other : goal.returns-clause-other
returns-clause-other g c =
    let d = g.D.Disk in
    let e = g.E.Disk in
    let read = c.are_same.ensures.read in
    let beside = c.are_same.ensures.beside in
    IfOk-weaker c.are_same_from.result _ _ (λ same differ is known other copy. differ is (read.still known) (beside.still other)
    (λ n low high. ap (λ r. r n) (still_all (e.trail c.args.other.now) (e.trail c.are_same.new.second) (beside.moments other))
    ∙ copy n (high, inr low)
    ∙ sym (ap (λ r. r n) (still_all (d.trail c.args.from.now) (d.trail c.are_same.new.first) (read.moments known)))))
    c.are_same_from.ensures.other
