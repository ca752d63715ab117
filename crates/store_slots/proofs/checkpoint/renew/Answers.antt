use Rattle.std.proofs.Common.{sym, subst, arith}
use Rattle.sector_disk.specs.Trail.{now}
use Rattle.store_layout.specs.declared.layout.TheConstants.{LAYOUT}
use Rattle.store_layout.specs.Kept.{ShowsSettled}
use Rattle.store_slots.proofs.Renewing.{shown_settled, named_settled}
use Rattle.store_slots.proofs.Staying.{goes_on, told_stays, lines_stay, apart_renewal}
use Rattle.store_slots.proofs.checkpoint.renew.Goals as goal

pub settle-requires-clause-place : goal.settle-requires-clause-place
settle-requires-clause-place g c = λ some.
    let live = c.args.desktop.now in
    let there = goes_on live c.args.place c.requires.live c.requires.goes some in
    omega (arith, there, c.requires.live.based)

pub returns-clause-renewed : goal.returns-clause-renewed
returns-clause-renewed g c =
    let d = g.D.Disk in
    let after = c.change_slot.new.disk in
    let renewed = c.in_ok-change_slot.ensures.renewed in
    record {
      shown = λ honest live version number count before was.
          subst (λ x. ShowsSettled (d.size c.args.disk.now) (d.trail after) c.args.place.slot LAYOUT c.args.place.epoch 0 x)
          (sym (shown_settled _ _ c.args.place c.args.desktop.now c.settle.new.self c.requires.live c.requires.goes
          (c.change_slot.ensures.kept.moments honest) (c.in_ok-change_slot.ensures.front honest)
          c.settle.ensures.stays.desktop c.settle.ensures.same)) (renewed.shown honest live version number count before was);
      stands = renewed.stands;
      beside = renewed.beside;
    }

pub returns-clause-left : goal.returns-clause-left
returns-clause-left g c =
    let shown = λ (honest : g.D.Disk.honest c.args.disk.now).
    shown_settled _ _ c.args.place c.args.desktop.now c.settle.new.self c.requires.live c.requires.goes
    (c.change_slot.ensures.kept.moments honest) (c.in_ok-change_slot.ensures.front honest)
    c.settle.ensures.stays.desktop c.settle.ensures.same in
    record {
      live = c.settle.ensures.live;
      told = λ told.
          lines_stay g.D.Disk c.args.desktop.now c.settle.new.self c.change_slot.ensures.kept shown
          c.settle.ensures.stays.lines told
          (λ honest. c.settle.ensures.stays.read.told _
          (told_stays g.D.Disk c.args.desktop.now.pages c.change_slot.ensures.kept
          (apart_renewal c.args.desktop.now c.args.place c.requires.live c.requires.goes) told.pages honest));
      named = λ honest.
          named_settled _ _ c.args.place c.args.desktop.now c.settle.new.self c.requires.live c.requires.goes
          (c.change_slot.ensures.kept.moments honest) (c.in_ok-change_slot.ensures.front honest)
          c.settle.ensures.stays.desktop c.settle.ensures.same c.settle.ensures.saved.area c.settle.ensures.saved.counted;
      shown = shown;
    }
