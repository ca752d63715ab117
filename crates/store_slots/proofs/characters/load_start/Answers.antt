use Rattle.std.proofs.Common.{◌∙◌, ap, subst}
use Rattle.std.proofs.lemmas.Result.{IfOk-weaker}
use Rattle.sector_disk.specs.Stored.{stored}
use Rattle.sector_disk.specs.Trail.{now}
use Rattle.command_table.specs.Versions.{version_number}
use Rattle.store_slots.specs.Load.{HasNoStart}
use Rattle.store_slots.proofs.Starting.{start_from}
use Rattle.store_slots.proofs.characters.load_start.Goals as goal

pub returns-clause-start : goal.returns-clause-start
returns-clause-start g c = IfOk-weaker c.read_through.result _ _ (λ d start. start_from (λ honest.
    c.new-draining.ensures.left _
    ∙ ap (λ n. stored (now (g.D.Disk.trail c.args.disk.now)).reads n c.args.head.now.extent) c.image_at.ensures) start)
    c.read_through.ensures.start

pub returns-clause-damaged : goal.returns-clause-damaged
returns-clause-damaged g c = λ is honest.
    subst (λ bytes. HasNoStart bytes (version_number c.args.version) c.args.head.now.written) (c.new-draining.ensures.left _
    ∙ ap (λ n. stored (now (g.D.Disk.trail c.args.disk.now)).reads n c.args.head.now.extent) c.image_at.ensures)
    (c.read_through.ensures.damaged is honest)
