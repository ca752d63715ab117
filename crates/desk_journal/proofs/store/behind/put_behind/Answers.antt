use Rattle.std.proofs.Common.{◌*◌, ◌≤◌, [], length, subst, sym, ap, ◌∙◌}
use Rattle.sector_disk.specs.declared.disk.TheConstants.{SECTOR_BYTES}
use Rattle.sector_disk.specs.Stored.{HoldsBytes}
use Rattle.sector_disk.specs.Trail.{Content, now}
use Rattle.desk_journal.proofs.store.behind.put_behind.Goals as goal

pub returns-clause-held : goal.returns-clause-held
returns-clause-held g c = λ honest.
    let d = g.D.Disk in
    let second = c.put_over.ensures.kept.still honest in
    let third = c.finish.ensures.kept.still second in
    let taken = c.in_ok-put_over.ensures.taken honest [] (c.new-filling.ensures.taken (now (d.trail c.args.disk.now)).reads) in
    let limit = c.put_over.ensures.limit ∙ c.new-filling.ensures.limit in
    let from = c.put_over.ensures.from ∙ c.new-filling.ensures.from in
    let held = c.in_ok-finish.ensures.held second c.args.bytes.now taken
    (subst (λ n. length c.args.bytes.now ≤ SECTOR_BYTES * n) (sym limit) c.requires.fits) in
    subst (λ (m : Content). HoldsBytes m c.args.from c.args.bytes.now)
    (sym (ap (λ m. m.reads) (c.in_ok-sync.ensures.settled third)))
    (subst (λ n. HoldsBytes (now (d.trail c.finish.new.disk)).reads n c.args.bytes.now) from held)
