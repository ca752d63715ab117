use Rattle.std.proofs.Common.{◌≤◌, subst, sym, ◌∙◌}
use Rattle.std.proofs.lemmas.Result.{on_ok_weaker}
use Rattle.store_layout.specs.declared.layout.TheConstants.{STORE_SECTORS}
use Rattle.command_table.specs.Versions.{version_number}
use Rattle.store_slots.proofs.Laying.{laid_out}
use Rattle.store_slots.proofs.format.lay_out.Goals as goal

pub returns-clause-empty : goal.returns-clause-empty
returns-clause-empty g c = on_ok_weaker c.open_slot.result (λ opened honest.
    let second = c.close_slots.ensures.kept.still honest in
    let third = c.write_start.ensures.kept.still second in
    let size = c.open_slot.ensures.kept.as_large ∙ c.write_start.ensures.kept.as_large
    ∙ c.close_slots.ensures.kept.as_large in
    laid_out _ (version_number c.args.version) (g.D.Disk.trail c.close_slots.new.disk) (g.D.Disk.trail c.write_start.new.disk)
    (g.D.Disk.trail c.open_slot.new.disk) (subst (λ n. STORE_SECTORS ≤ n) (sym size) c.requires)
    (c.in_ok-close_slots.ensures.closed honest) (c.write_start.ensures.kept.moments second)
    (c.in_ok-write_start.ensures.label second) (c.in_ok-write_start.ensures.start second).new
    (c.open_slot.ensures.kept.moments third) (opened third)) c.open_slot.ensures.opened
