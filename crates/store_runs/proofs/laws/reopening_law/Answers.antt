use Rattle.sector_disk.specs.Trail.{now}
use Rattle.sector_disk.proofs.Touching.{read_is_an_image}
use Rattle.store_runs.proofs.laws.reopening_law.Goals as goal

pub returns : goal.returns
returns g c = λ closed opened honest durable found.
    let content = (now (g.D.Disk.trail closed.disk)).reads in
    let same = c.showing_law.ensures (g.D.Disk.size closed.disk) content closed.layout closed.epoch closed.events opened.layout
    opened.epoch opened.events closed.desktop opened.desktop
    (durable honest content (read_is_an_image (now (g.D.Disk.trail closed.disk)))) (found.found honest) in
    (same.0, λ i. record { layout = same.1 i; epoch = same.2 i; events = same.3 i })
