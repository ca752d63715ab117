use Rattle.std.proofs.Common.{◌≡◌, [], ◌∷◌, ◌++◌, sym, ◌∙◌, ap}
use Rattle.sector_disk.specs.declared.file_call.FileCall.TheVariants.{Sync}
use Rattle.sector_disk.specs.Trail.{Nowhere}
use Rattle.sector_disk.specs.FileTrail.{current}
use Rattle.sector_disk.specs.MemoryFile.{file_trail_of}
use Rattle.sector_disk.proofs.FileReplay.{current_after, goes_on, sync_keeps}
use Rattle.sector_disk.proofs.memory_file.MemoryFileHostFile.sync_data.Goals as goal

pub invariant_of-self : goal.invariant_of-self
invariant_of-self c = λ i. c.self.invariant i ∙ sym (ap (λ m. m.reads i)
    (current_after c.self.inside.calls.items c.add.new.self.items Sync c.add.ensures))

pub returns-clause-kept : goal.returns-clause-kept
returns-clause-kept c =
    let is : c.add.new.self.items ≡ c.args.self.now ++ Sync ∷ [] = c.add.ensures ∙ ap (λ l. l ++ Sync ∷ []) c.self.view_is in
    goes_on c.args.self.now c.add.new.self.items Sync is Nowhere (sync_keeps (current (file_trail_of c.args.self.now)))

pub returns-clause-settled : goal.returns-clause-settled
returns-clause-settled c = λ _.
    let is : c.add.new.self.items ≡ c.args.self.now ++ Sync ∷ [] = c.add.ensures ∙ ap (λ l. l ++ Sync ∷ []) c.self.view_is in
    current_after c.args.self.now c.add.new.self.items Sync is
