use Rattle.store_slots.proofs.Calls.{both_kept, gate_there, head_there}
use Rattle.store_slots.proofs.slots.read_slot.Goals as goal

pub returns-in_err-head-clause-kept : goal.returns-in_err-head-clause-kept
returns-in_err-head-clause-kept g c = both_kept g.D.Disk c.is_open_at.ensures.kept c.head_in.ensures.kept

pub returns-then-not-is_good-clause-kept : goal.returns-then-not-is_good-clause-kept
returns-then-not-is_good-clause-kept g c = both_kept g.D.Disk c.is_open_at.ensures.kept c.head_in.ensures.kept

pub returns-clause-kept : goal.returns-clause-kept
returns-clause-kept g c = both_kept g.D.Disk c.is_open_at.ensures.kept c.head_in.ensures.kept

pub returns-clause-some : goal.returns-clause-some
returns-clause-some g c = λ honest. (
  gate_there g.D.Disk c.args.disk.now c.args.slot c.slot_gate.ensures (c.in_ok-is_open_at.ensures.opened honest) c.if-not-branch.false,
  head_there g.D.Disk c.args.disk.now c.args.slot c.is_open_at.ensures.kept honest c.slot_head-at.ensures c.in_ok-head.ensures.head,
)
