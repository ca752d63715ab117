use Rattle.std.proofs.Common.{arith}
use Rattle.sector_disk.specs.Trail.{now}
use Rattle.store_slots.specs.Live.{live_characters}
use Rattle.store_slots.proofs.Fronts.{placed}
use Rattle.store_slots.proofs.NewSlot.{slot_filled}
use Rattle.store_slots.proofs.checkpoint.write_slot.Goals as goal

pub sector-requires : goal.sector-requires
sector-requires g c = λ first. omega (arith, first, c.args.place.low)

pub returns-clause-filled : goal.returns-clause-filled
returns-clause-filled g c = λ honest.
    let second = c.fill_slot.ensures.kept.still honest in
    let third = c.write.ensures.kept.still second in
    let fourth = c.write-2.ensures.kept.still third in
    let e = c.in_ok-extent.ensures in
    let content = (now (g.D.Disk.trail c.args.disk.now)).reads in
    let characters = live_characters content c.args.desktop.now in
    slot_filled _ _ _ _ c.args.place.slot c.args.place.epoch c.in_ok-extent.extent c.written.result
    c.args.place.area c.args.place.past c.args.desktop.now.desktop characters c.sector.result c.closed_gate.result
    c.args.place.two c.args.place.low
    c.args.place.numbered e.fits (c.requires.live.over content) e.spelled (e.stored honest) (e.front honest)
    c.sector.ensures (c.written.ensures content) c.closed_gate.ensures
    (placed _ _ _ _ _ c.slot_head.ensures (c.in_ok-write.ensures.written second))
    (placed _ _ _ _ _ c.gate.ensures (c.in_ok-write-2.ensures.written third)) (c.in_ok-sync.ensures.settled fourth)
