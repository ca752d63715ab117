use Rattle.std.proofs.Common.{◌∙◌, ap}
use Rattle.sector_disk.specs.Trail.{Content, now}
use Rattle.sector_disk.proofs.Touching.{still_all}
use Rattle.seen_desktops.specs.Shape.{all_characters_of}
use Rattle.store_slots.specs.Live.{seen_live}
use Rattle.store_slots.proofs.Alike.{by_characters, other_shape}
use Rattle.store_slots.proofs.Staying.{apart_nowhere, live_stays, stays_on, stays_so}
use Rattle.store_slots.proofs.live.LiveDesktop.shows_same.Goals as goal

pub characters-requires-2-clause-on : goal.characters-requires-2-clause-on
characters-requires-2-clause-on g c =
    let other = c.args.other.now in record {
      live = c.requires.other.live;
      told = live_stays g.D.Disk other c.characters.ensures.disk (apart_nowhere other.pages) c.requires.other.told;
    }

pub returns-then-not-branch-clause-same : goal.returns-then-not-branch-clause-same
returns-then-not-branch-clause-same g c = λ honest.
    other_shape c.desktops_are_shapes.ensures _ _ _ _ c.in_ok-has_shape_of.ensures c.if-not-branch.true

pub returns-clause-same : goal.returns-clause-same
returns-clause-same g c = λ honest.
    let run = c.characters.ensures.disk in
    let old = (now (g.D.Disk.trail c.args.disk.now)).reads in
    let same = still_all (g.D.Disk.trail c.args.disk.now) (g.D.Disk.trail c.characters.new.disk) (run.moments honest) in
    by_characters c.desktops_are_shapes.ensures _ _ _ _ c.in_ok-has_shape_of.ensures c.if-not-branch.false
    (c.as_slice.ensures.value ∙ c.in_ok-one.ensures.read honest)
    (c.as_slice-2.ensures.value ∙ c.in_ok-two.ensures.read (run.still honest)
    ∙ ap (λ (x : Content). all_characters_of (seen_live x c.args.other.now)) same)
    c.are_same.ensures

pub returns-in_err-has_shape_of-clause-kept : goal.returns-in_err-has_shape_of-clause-kept
returns-in_err-has_shape_of-clause-kept g c =
    stays_so g.D.Disk c.args.self.now c.requires.on.live c.requires.on.told

pub returns-then-not-branch-clause-kept : goal.returns-then-not-branch-clause-kept
returns-then-not-branch-clause-kept g c = stays_so g.D.Disk c.args.self.now c.requires.on.live c.requires.on.told

pub returns-in_err-two-clause-kept : goal.returns-in_err-two-clause-kept
returns-in_err-two-clause-kept g c =
    let one = c.characters.ensures in
    stays_on g.D.Disk c.args.self.now c.characters.new.self one.disk c.characters-2.ensures.disk one.kept

pub returns-clause-kept : goal.returns-clause-kept
returns-clause-kept g c =
    let one = c.characters.ensures in
    stays_on g.D.Disk c.args.self.now c.characters.new.self one.disk c.characters-2.ensures.disk one.kept
