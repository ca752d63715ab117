use Rattle.twin_disk.proofs.Opened.{wrote_cause, wrote_kept, wrote_opened, wrote_there}
use Rattle.twin_disk.proofs.marks.write_open.Goals as goal

pub returns-clause-kept : goal.returns-clause-kept
returns-clause-kept g c = wrote_kept g.D.Disk c.args.at c.args.n c.requires.within c.args.bytes.now c.args.closed.now
    c.open_leg-opened.new.closed c.args.leg.now c.open_leg-opened.new.leg c.write_opened.new.leg c.open_leg-opened.ensures.kept
    c.open_leg-opened.ensures.marks c.open_leg-opened.result c.write_opened.result c.write_opened.ensures

pub returns-clause-cause : goal.returns-clause-cause
returns-clause-cause g c = wrote_cause g.D.Disk c.args.at c.args.n c.requires.within c.args.bytes.now c.args.closed.now
    c.open_leg-opened.new.closed c.args.leg.now c.open_leg-opened.new.leg c.write_opened.new.leg c.open_leg-opened.ensures.kept
    c.open_leg-opened.ensures.marks c.open_leg-opened.result c.write_opened.result c.write_opened.ensures
    c.open_leg-opened.ensures.cause

pub returns-clause-written : goal.returns-clause-written
returns-clause-written g c = wrote_there g.D.Disk c.args.at c.args.n c.requires.within c.args.bytes.now c.args.closed.now
    c.open_leg-opened.new.closed c.args.leg.now c.open_leg-opened.new.leg c.write_opened.new.leg c.open_leg-opened.ensures.kept
    c.open_leg-opened.ensures.marks c.open_leg-opened.result c.write_opened.result c.write_opened.ensures

pub returns-clause-marks : goal.returns-clause-marks
returns-clause-marks g c = wrote_opened g.D.Disk c.args.at c.args.n c.requires.within c.args.bytes.now c.args.closed.now
    c.open_leg-opened.new.closed c.args.leg.now c.open_leg-opened.new.leg c.write_opened.new.leg c.open_leg-opened.ensures.kept
    c.open_leg-opened.ensures.marks c.open_leg-opened.result c.write_opened.result c.write_opened.ensures
    c.open_leg-opened.ensures.gone
