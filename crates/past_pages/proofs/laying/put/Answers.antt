use Rattle.std.proofs.Common.{◌≡◌, inl, inr, ◌∙◌, ap, refl, sym}
use Rattle.sector_disk.specs.Trail.{now}
use Rattle.store_layout.proofs.Filled.{reads_elsewhere, reads_here}
use Rattle.past_pages.proofs.laying.put.Goals as goal

pub returns-then-is_zeros-clause-here : goal.returns-then-is_zeros-clause-here
returns-then-is_zeros-clause-here g c = λ honest was. elim was [
  | inl zeros ↦ zeros ∙ sym (c.is_zeros.ensures c.if-is_zeros.true)
  | inr same ↦ same
]

pub returns-then-is_zeros-clause-device : goal.returns-then-is_zeros-clause-device
returns-then-is_zeros-clause-device g c = record { as_large = refl; still = λ h. h; already = λ h. h }

pub returns-in-Ok-clause-here : goal.returns-in-Ok-clause-here
returns-in-Ok-clause-here g c = λ honest was.
    ap (λ m. m.reads c.args.n) (c.in-Ok.ensures.written honest)
    ∙ reads_here (now (g.E.Disk.trail c.args.disk.now)) c.args.n c.args.sector.now

pub returns-in-Ok-clause-others : goal.returns-in-Ok-clause-others
returns-in-Ok-clause-others g c = λ honest k other.
    ap (λ m. m.reads k) (c.in-Ok.ensures.written honest)
    ∙ reads_elsewhere (now (g.E.Disk.trail c.args.disk.now)) c.args.n k c.args.sector.now other

pub returns-in-Ok-clause-device : goal.returns-in-Ok-clause-device
returns-in-Ok-clause-device g c =
    let kept = c.write.ensures.kept in
    record { as_large = kept.as_large; still = kept.still; already = kept.already }

pub returns-in-Err-clause-device : goal.returns-in-Err-clause-device
returns-in-Err-clause-device g c =
    let kept = c.write.ensures.kept in
    record { as_large = kept.as_large; still = kept.still; already = kept.already }
