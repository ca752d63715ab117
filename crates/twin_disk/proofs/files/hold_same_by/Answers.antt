use Rattle.std.proofs.Common.{rules, ◌≡◌, ℕ, ◌+◌, ◌*◌, ◌/◌, ◌%◌, length, subst, ◌∙◌, arith, ap}
use Rattle.std.proofs.lemmas.List.{length-take-le}
use Rattle.sector_disk.specs.declared.disk.TheConstants.{SECTOR_BYTES}
use Rattle.twin_disk.specs.Files.{AgreeFrom}
use Rattle.twin_disk.specs.declared.files.TheConstants.{RUN_BYTES}
use Rattle.twin_disk.proofs.Compared.{one_compared, all_compared}
use Rattle.twin_disk.proofs.files.hold_same_by.Goals as goal

pub loop-n-preserved : goal.loop-n-preserved
loop-n-preserved g c =
    let long : length c.is_run_same.new.first ≡ RUN_BYTES =
    c.is_run_same.auto.first ∙ c.loop-n.auto.first ∙ c.requires.long in
    one_compared g.F.HostFile g.G.HostFile c.loop-n.invariant c.is_run_same.ensures.one c.is_run_same.ensures.other
    (subst (λ n. g.F.HostFile.honest c.is_run_same.new.one → g.G.HostFile.honest c.is_run_same.new.other
    → AgreeFrom (c.loop-n.n * RUN_BYTES) n (g.F.HostFile.trail c.is_run_same.new.one)
    (g.G.HostFile.trail c.is_run_same.new.other)) long (c.is_run_same.ensures.same (search rules)))

pub returns-clause-same : goal.returns-clause-same
returns-clause-same g c = λ yes.
    let end : c.args.sectors / 64 ≡ c.loop-n.n = omega (arith, c.loop-n.auto.n-end, c.loop-n-test.false) in
    let long : length c.is_run_same-2.new.first ≡ (c.args.sectors % 64) * SECTOR_BYTES =
    c.is_run_same-2.auto.first ∙ length-take-le (c.args.sectors % 64 * 1024) c.loop-n.first
    (omega (arith, c.loop-n.auto.first, c.requires.long)) in
    all_compared g.F.HostFile g.G.HostFile c.loop-n.invariant c.is_run_same-2.ensures.one c.is_run_same-2.ensures.other
    (c.args.sectors / 64 * RUN_BYTES) (length c.is_run_same-2.new.first) (SECTOR_BYTES * c.args.sectors)
    (c.is_run_same-2.ensures.same yes) (ap (λ (n : ℕ). n * RUN_BYTES) end)
    (let whole : c.args.sectors / 64 * RUN_BYTES + (c.args.sectors % 64) * SECTOR_BYTES ≡ SECTOR_BYTES * c.args.sectors =
    omega arith in ap (λ (n : ℕ). c.args.sectors / 64 * RUN_BYTES + n) long ∙ whole)
