use Rattle.twin_disk.proofs.Marked.{marked_legs, named_legs}
use Rattle.twin_disk.proofs.twin.TwinDisk.mark.Goals as goal

pub mark_both-requires-clause-same : goal.mark_both-requires-clause-same
mark_both-requires-clause-same g c = named_legs g.A.Disk g.B.Disk c.args.self c.requires c.into_legs-first.result
    c.into_legs-first.ensures

pub returns : goal.returns
returns g c = marked_legs g.A.Disk g.B.Disk c.args.self c.into_legs-first.result c.into_legs-first.ensures
    c.mark_both.new.first c.mark_both.new.second c.mark_both.ensures.first c.mark_both.ensures.second c.mark_both.ensures.marks
