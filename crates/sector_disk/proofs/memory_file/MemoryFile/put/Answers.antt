use Rattle.std.proofs.Common.{◌==◌, if◌then◌else◌, sym, ◌∙◌, ap}
use Rattle.sector_disk.specs.declared.file_call.FileCall.TheVariants.{Byte}
use Rattle.sector_disk.specs.FileTrail.{current}
use Rattle.sector_disk.specs.MemoryFile.{file_trail_of}
use Rattle.sector_disk.proofs.FileReplay.{current_after, byte_reads}
use Rattle.sector_disk.proofs.memory_file.MemoryFile.put.Goals as goal

pub invariant_of-self-2 : goal.invariant_of-self-2
invariant_of-self-2 c = λ i.
    let at = c.args.at in
    let value = c.args.value in
    let old = current (file_trail_of c.self.inside.calls.items) in
    c.in_ok-set_byte.ensures.set i
    ∙ ap (λ was. if i == at then value else was) (c.self.invariant i)
    ∙ sym (ap (λ m. m.reads i) (current_after c.self.inside.calls.items c.add.new.self.items (Byte at value) c.add.ensures)
    ∙ byte_reads old at value i)
