use Rattle.std.proofs.Common.{sym, subst, refl}
use Rattle.command_table.specs.Versions.{version_number}
use Rattle.desk_journal.proofs.Storing.{known}
use Rattle.store_layout.specs.Kept.{ShowsSettled}
use Rattle.sector_disk.specs.Trail.{now}
use Rattle.store_slots.specs.Live.{seen_live}
use Rattle.store_slots.proofs.Settling.{kept_shows}
use Rattle.desk_journal.proofs.store.Store.open.Goals as goal

pub returns-in-Ok-clause-ok : goal.returns-in-Ok-clause-ok
returns-in-Ok-clause-ok g c =
    let x = c.in-Ok.loaded in
    let e = c.in-Ok.ensures in
    let disk = c.load.new.disk in
    record {
      found = e.found;
      durable = λ honest.
          let desktop = seen_live (now (g.D.Disk.trail disk)).reads x.desktop in
          kept_shows (g.D.Disk.size disk) (g.D.Disk.trail disk) x.slot (version_number x.version) x.epoch x.events
          desktop
          (subst (λ n. ShowsSettled n (g.D.Disk.trail disk) x.slot (version_number x.version) x.epoch x.events desktop)
          (sym e.kept.as_large)
          (e.shown (e.kept.already honest)).0);
      settled = λ honest. (e.shown honest).0.settled.quiet;
      usable = refl;
      first = (known x.version).0;
      newest = (known x.version).1;
    }
