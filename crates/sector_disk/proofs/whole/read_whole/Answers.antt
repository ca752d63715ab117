use Rattle.std.proofs.Common.{◌≡◌, ◌<◌, ◌+◌, ◌-◌, ℕ, List, length, replicate, get_or, slice_range, sym, ◌∙◌, ap, inl, inr, arith}
use Rattle.std.proofs.lemmas.List.{take_rest, length-drop, get_or-replicate}
use Rattle.std.proofs.lemmas.Bool.{cases_lt}
use borrow.Rule.Slice.PartMut.{put_mid}
use Rattle.sector_disk.specs.FileTrail.{current}
use Rattle.sector_disk.proofs.FileBytes.{still_reads}
use Rattle.sector_disk.proofs.FileViews.{bytes_by_index}
use Rattle.sector_disk.proofs.Filling.{length-refilled, before_rest, in_rest}
use Rattle.sector_disk.proofs.whole.read_whole.Goals as goal

pub returns-then-filled-buffer-clause-bytes : goal.returns-then-filled-buffer-clause-bytes
returns-then-filled-buffer-clause-bytes g c = λ _ h.
    bytes_by_index (current (g.F.HostFile.trail c.args.file.now)).reads c.args.offset (length c.args.buffer.now)
    c.calls.buffer c.calls.auto.buffer
    (λ i low. c.calls.invariant.bytes h i (omega (arith, low, c.calls.auto.buffer)))

pub returns-in-Ok-eq0-clause-bytes : goal.returns-in-Ok-eq0-clause-bytes
returns-in-Ok-eq0-clause-bytes g c = λ _ h.
    let filled = c.calls.filled in
    let inv = c.calls.invariant in
    let given : List ℕ = c.read_at.new.buffer in
    let read : List ℕ = put_mid filled (length c.calls.buffer - filled) c.calls.buffer given in
    let rest : List ℕ = c.fill.new.self in
    let left : length given ≡ length c.calls.buffer - filled =
    c.read_at.auto.buffer ∙ ap length (take_rest c.calls.buffer filled) ∙ length-drop filled c.calls.buffer in
    let long : length read ≡ length c.calls.buffer = length-refilled c.calls.buffer given filled inv.few left in
    let behind : length (slice_range read filled (length read)) ≡ length read - filled =
    ap length (take_rest read filled) ∙ length-drop filled read in
    let zeros : rest ≡ replicate (length (slice_range read filled (length read))) 0 =
    c.fill.ensures.after (λ y same. same) in
    let many : length rest ≡ length read - filled = c.fill.auto.self ∙ behind in
    let reads = (current (g.F.HostFile.trail c.args.file.now)).reads in
    bytes_by_index reads c.args.offset (length c.args.buffer.now)
    (put_mid filled (length read - filled) read rest)
    (length-refilled read rest filled (omega (arith, long, inv.few)) many ∙ long ∙ c.calls.auto.buffer)
    (λ i low. let within : i < length read = omega (arith, low, long, c.calls.auto.buffer) in
    elim (cases_lt i filled) [
      | inl early ↦ before_rest read rest filled (omega (arith, long, inv.few)) many i early
          ∙ before_rest c.calls.buffer given filled inv.few left i early
          ∙ inv.bytes h i early
      | inr late ↦ in_rest read rest filled (omega (arith, long, inv.few)) many i late within
          ∙ ap (λ (l : List ℕ). get_or l (i - filled) 0) zeros
          ∙ get_or-replicate (length (slice_range read filled (length read))) (i - filled) 0 0
          (omega (arith, behind, late, within))
          ∙ sym (c.in-Ok-eq0.ensures.ended (inv.kept.still h) c.in-Ok-eq0.field-0-test
          (omega (arith, left, late, within, long)) (c.args.offset + i) (omega (arith, late)))
          ∙ still_reads (g.F.HostFile.trail c.args.file.now) (g.F.HostFile.trail c.calls.file)
          (inv.kept.moments h) (c.args.offset + i) (λ none. none)
    ])
