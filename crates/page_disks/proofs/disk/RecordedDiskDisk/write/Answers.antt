use Rattle.sector_disk.specs.declared.call.DiskCall.TheVariants.{Write}
use Rattle.page_disks.proofs.Spellings.{grown, ends_more, whole_more}
use Rattle.page_disks.proofs.disk.RecordedDiskDisk.write.Goals as goal

pub invariant_of-self-2 : goal.invariant_of-self-2
invariant_of-self-2 c = let call = (Write c.args.n c.args.bytes.now) in (
  ends_more c.self.inside.disk.calls c.write.new.self.calls c.self.inside.since.items c.add.new.self.items call
      c.self.invariant.0 c.in_ok-write.ensures.recorded c.add.ensures,
  grown c.self.inside.spelled.items c.make_room.new.spelled.items c.spell.new.spelled.items
      c.self.inside.since.items c.add.new.self.items call c.make_room.ensures.same c.self.invariant.1 c.add.ensures
      c.spell.ensures,
  whole_more c.self.inside.disk.calls c.write.new.self.calls c.self.inside.since.items c.add.new.self.items call
      c.self.invariant.2 c.in_ok-write.ensures.recorded c.add.ensures,
)
