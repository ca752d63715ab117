use Rattle.std.proofs.Common.{◌≡◌, ◌+◌, ◌<◌, [], ◌∷◌, ◌++◌, length, take, get_or, is_ok, not, true}
use Rattle.std.proofs.Common.{refl, sym, ◌∙◌, ap, arith}
use Rattle.std.proofs.lemmas.List.{drop_more}
use Rattle.sector_disk.specs.declared.file_call.FileCall.TheVariants.{Byte}
use Rattle.sector_disk.specs.FileTrail.{current, Span, overwritten}
use Rattle.sector_disk.specs.MemoryFile.{file_trail_of, file_after}
use Rattle.sector_disk.proofs.FileBytes.{confined_joined, overwritten_more}
use Rattle.sector_disk.proofs.FileViews.{where_ok}
use Rattle.sector_disk.proofs.FileReplay.{current_after, goes_on, byte_keeps}
use Rattle.sector_disk.proofs.memory_file.MemoryFileHostFile.write_at.Goals as goal

pub loop-i-preserved : goal.loop-i-preserved
loop-i-preserved c =
    let inv = c.loop-i.invariant in
    let i = c.loop-i.i in
    let bytes = c.args.bytes.now in
    let from = c.args.offset in
    let value = get_or bytes i 0 in
    let m = current (file_trail_of c.args.self.now) in
    let low : i < length bytes = omega arith in
    let done : is_ok c.put.result ≡ true = c.is_err.ensures.negation ∙ ap not c.if-is_err.false in
    let is : c.put.new.self ≡ c.loop-i.self ++ Byte (from + i) value ∷ [] =
    where_ok c.put.result _ c.put.ensures.written done in
    record {
      kept = confined_joined (λ _. Unit {0}) file_trail_of inv.kept (goes_on c.loop-i.self c.put.new.self
          (Byte (from + i) value) is (Span from (length bytes))
          (byte_keeps (current (file_trail_of c.loop-i.self)) (from + i) value from (length bytes)
          (omega arith) (omega arith)));
      written = current_after c.loop-i.self c.put.new.self (Byte (from + i) value) is
          ∙ ap (file_after (Byte (from + i) value)) inv.written
          ∙ ap (overwritten (overwritten m from (take i bytes)) (from + i)) (sym (ap (take 1) (drop_more bytes i 0 low)))
          ∙ overwritten_more m from bytes i 1 (from + i) refl (omega (arith, low));
    }
