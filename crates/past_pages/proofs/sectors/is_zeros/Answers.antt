use Rattle.std.proofs.Common.{◌≡◌, ◌∙◌, ap, arith, length, replicate, rules, sym}
use Rattle.std.proofs.lemmas.List.{take_all}
use Rattle.sector_disk.specs.declared.disk.TheConstants.{SECTOR_BYTES}
use Rattle.past_pages.proofs.sectors.is_zeros.Goals as goal

pub returns : goal.returns
returns c = λ is.
    let long : length c.args.sector.now ≡ SECTOR_BYTES = search rules in
    let end : c.loop-byte.byte-index ≡ SECTOR_BYTES =
    omega (arith, long, c.loop-byte-test.false, c.loop-byte.auto.byte-index-end) in
    sym (take_all c.loop-byte.byte-index c.args.sector.now (omega (arith, long, end)))
    ∙ c.loop-byte.invariant is ∙ ap (λ n. replicate n 0) end
