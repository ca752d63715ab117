use Rattle.std.proofs.Common.{◌∙◌, length}
use Rattle.command_table.specs.Versions.{version_number}
use Rattle.image_format.specs.Laws.{empty_bytes}
use Rattle.store_slots.proofs.Fronts.{placed}
use Rattle.store_layout.specs.Layout.{untold}
use Rattle.store_slots.proofs.Laying.{empty_spelled, few_bytes, slot_started, versions_known, labelled}
use Rattle.store_slots.proofs.Laying.{image_kept, head_kept, gate_kept, label_kept, sync_kept}
use Rattle.store_slots.proofs.format.write_start.Goals as goal

pub returns-clause-start : goal.returns-clause-start
returns-clause-start g c = λ honest.
    let second = c.write.ensures.kept.still honest in
    let third = c.write-2.ensures.kept.still second in
    let fourth = c.write-3.ensures.kept.still third in
    let fifth = c.write-4.ensures.kept.still fourth in
    let v = version_number c.args.version in
    slot_started _ _ _ _ _ _ c.first_image.result c.sector.result c.closed_gate.result c.label.result (empty_bytes v)
    v (versions_known c.args.version) (empty_spelled c.empty_image.ensures v) (few_bytes v) c.first_image.ensures
    (c.sector.ensures ∙ (λ i. record {
      version = c.number.ensures i;
      epoch = 1;
      written = 0;
      extent = length (c.empty_image_of.ensures i);
      area = 0;
      past = untold;
    }))
    c.closed_gate.ensures
    (placed _ _ _ _ _ c.image_at.ensures (c.in_ok-write.ensures.written honest))
    (placed _ _ _ _ _ c.slot_head.ensures (c.in_ok-write-2.ensures.written second))
    (placed _ _ _ _ _ c.gate.ensures (c.in_ok-write-3.ensures.written third))
    (c.in_ok-write-4.ensures.written fourth) (c.in_ok-sync.ensures.settled fifth)

pub returns-in_err-write-2-clause-kept : goal.returns-in_err-write-2-clause-kept
returns-in_err-write-2-clause-kept g c =
    let d = g.D.Disk in
    let one = image_kept d c.image_at.ensures c.write.ensures.kept in
    head_kept d one c.slot_head.ensures c.write-2.ensures.kept

pub returns-in_err-write-3-clause-kept : goal.returns-in_err-write-3-clause-kept
returns-in_err-write-3-clause-kept g c =
    let d = g.D.Disk in
    let one = image_kept d c.image_at.ensures c.write.ensures.kept in
    let two = head_kept d one c.slot_head.ensures c.write-2.ensures.kept in
    gate_kept d two c.gate.ensures c.write-3.ensures.kept

pub returns-in_err-write-4-clause-kept : goal.returns-in_err-write-4-clause-kept
returns-in_err-write-4-clause-kept g c =
    let d = g.D.Disk in
    let one = image_kept d c.image_at.ensures c.write.ensures.kept in
    let two = head_kept d one c.slot_head.ensures c.write-2.ensures.kept in
    let three = gate_kept d two c.gate.ensures c.write-3.ensures.kept in
    label_kept d three c.write-4.ensures.kept

pub returns-in_err-sync-clause-kept : goal.returns-in_err-sync-clause-kept
returns-in_err-sync-clause-kept g c =
    let d = g.D.Disk in
    let one = image_kept d c.image_at.ensures c.write.ensures.kept in
    let two = head_kept d one c.slot_head.ensures c.write-2.ensures.kept in
    let three = gate_kept d two c.gate.ensures c.write-3.ensures.kept in
    let four = label_kept d three c.write-4.ensures.kept in
    sync_kept d four c.sync.ensures.kept

pub returns-clause-kept : goal.returns-clause-kept
returns-clause-kept g c =
    let d = g.D.Disk in
    let one = image_kept d c.image_at.ensures c.write.ensures.kept in
    let two = head_kept d one c.slot_head.ensures c.write-2.ensures.kept in
    let three = gate_kept d two c.gate.ensures c.write-3.ensures.kept in
    let four = label_kept d three c.write-4.ensures.kept in
    sync_kept d four c.sync.ensures.kept

pub returns-clause-label : goal.returns-clause-label
returns-clause-label g c = λ honest.
    let second = c.write.ensures.kept.still honest in
    let third = c.write-2.ensures.kept.still second in
    let fourth = c.write-3.ensures.kept.still third in
    let fifth = c.write-4.ensures.kept.still fourth in
    labelled _ _ _ c.label.result c.label.ensures (c.in_ok-write-4.ensures.written fourth)
    (c.in_ok-sync.ensures.settled fifth)
