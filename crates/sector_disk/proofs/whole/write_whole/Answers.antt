use Rattle.std.proofs.Common.{◌≡◌, ◌≤◌, ◌+◌, ◌-◌, ℕ, List, length, take, drop, slice_range, refl, sym, ◌∙◌, ap, arith, Err}
use Rattle.std.proofs.lemmas.List.{take_rest, length-drop}
use Rattle.sector_disk.specs.FileTrail.{current, Span, overwritten}
use Rattle.sector_disk.proofs.FileBytes.{overwritten_none, overwritten_more, confined_stays, confined_joined, confined_widened}
use Rattle.sector_disk.proofs.whole.write_whole.Goals as goal
use Rattle.sector_disk.proofs.whole.write_whole.Goals.{in-Ok, in-Err-Interrupted}

pub calls-init : goal.calls-init
calls-init g c =
    let bytes = c.args.bytes.now in
    record {
      few = omega arith;
      kept = confined_stays g.F.HostFile.honest g.F.HostFile.trail (Span c.args.offset (length bytes)) c.args.file.now;
      intact = c.requires.intact;
      written = λ h. sym (overwritten_none (current (g.F.HostFile.trail c.args.file.now)) c.args.offset bytes);
    }

pub calls-preserved : goal.calls-preserved
calls-preserved g c =
    let bytes = c.args.bytes.now in
    let offset = c.args.offset in
    let taken = c.calls.taken in
    let inv = c.calls.invariant in
    let whole : slice_range bytes taken (length bytes) ≡ drop taken bytes = take_rest bytes taken in
    let left : length (slice_range bytes taken (length bytes)) ≡ length bytes - taken = ap length whole ∙ length-drop taken bytes in
    let kept = confined_joined g.F.HostFile.honest g.F.HostFile.trail inv.kept
    (confined_widened g.F.HostFile.honest g.F.HostFile.trail {more = Span offset (length bytes)}
    (λ i span. (omega (arith, span.0), omega (arith, span.1, left, inv.few))) c.write_at.ensures.kept) in
    let first = current (g.F.HostFile.trail c.args.file.now) in
    elim c.match-write_at.branch [
      | in-Ok w ↦
          let more = w.in-Ok.more in
          let few : taken + more ≤ length bytes = omega (arith, w.in-Ok.ensures.within, left, inv.few) in
          record {
            few = omega (arith, w.taken-is, few);
            kept = kept;
            intact = c.write_at.ensures.still_intact;
            written = λ h. w.in-Ok.ensures.written (inv.kept.still h)
                ∙ ap (λ m. overwritten m (offset + taken) (take more (slice_range bytes taken (length bytes))))
                (inv.written h)
                ∙ ap (λ (l : List ℕ). overwritten (overwritten first offset (take taken bytes)) (offset + taken) (take more l))
                whole
                ∙ overwritten_more first offset bytes taken more (offset + taken) refl few
                ∙ ap (λ k. overwritten first offset (take k bytes)) (sym w.taken-is);
          }
      | in-Err-Interrupted w ↦ record {
        few = omega (arith, w.taken-is, inv.few);
        kept = kept;
        intact = c.write_at.ensures.still_intact;
        written = λ h. w.in-Err-Interrupted.ensures.interrupted (ap Err w.in-Err-Interrupted.field-0-is) (inv.kept.still h)
            ∙ inv.written h
            ∙ ap (λ k. overwritten first offset (take k bytes)) (sym w.taken-is);
      }
    ]
