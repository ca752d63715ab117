use Rattle.std.proofs.Common.{◌≡◌, ◌∙◌, ap, arith, rules}
use Rattle.sector_disk.specs.Trail.{now}
use Rattle.sector_disk.proofs.Confinement.{joined, widened}
use Rattle.sector_disk.proofs.Touching.{still_all}
use Rattle.cli_copies.proofs.Sparse.{put_more, same_more}
use Rattle.cli_copies.proofs.sectors.copy_changed.Goals as goal

pub returns-in_err-put-clause-sparse : goal.returns-in_err-put-clause-sparse
returns-in_err-put-clause-sparse g c =
    let d = g.D.Disk in
    let e = g.E.Disk in
    let i = c.loop-n.invariant in
    let bytes : d.honest c.args.from.now → c.read.new.buffer ≡ (now (d.trail c.args.from.now)).reads c.loop-n.n =
    λ known. c.in_ok-read.ensures.bytes (i.read.still known)
    ∙ ap (λ r. r c.loop-n.n) (still_all (d.trail c.args.from.now) (d.trail c.loop-n.from) (i.read.moments known)) in
    widened e.size e.honest e.trail (λ n within. (within.0, omega (arith, within.1, c.loop-n-test.true), within.2))
    (put_more e.size e.honest e.trail (d.honest c.args.from.now) c.args.first c.loop-n.n c.read.new.buffer
    (now (d.trail c.args.from.now)).reads i.low bytes i.sparse c.put.ensures.sparse)

pub loop-n-preserved : goal.loop-n-preserved
loop-n-preserved g c =
    let d = g.D.Disk in
    let e = g.E.Disk in
    let i = c.loop-n.invariant in
    let one = (now (d.trail c.args.from.now)).reads in
    let bytes : d.honest c.args.from.now → c.read.new.buffer ≡ one c.loop-n.n =
    λ known. c.in_ok-read.ensures.bytes (i.read.still known)
    ∙ ap (λ r. r c.loop-n.n) (still_all (d.trail c.args.from.now) (d.trail c.loop-n.from) (i.read.moments known)) in
    record {
      low = omega (arith, i.low);
      read = joined d.size d.honest d.trail i.read c.read.ensures.kept;
      sparse = put_more e.size e.honest e.trail (d.honest c.args.from.now) c.args.first c.loop-n.n c.read.new.buffer one
          i.low bytes i.sparse c.put.ensures.sparse;
      same = λ known other. same_more e.size e.honest e.trail c.args.first c.loop-n.n c.read.new.buffer one
          (i.sparse.still other) (bytes known) (i.same known other) (c.in_ok-put.ensures.here (i.sparse.still other))
          c.put.ensures.sparse;
      calm = search rules;
      beside = search rules;
    }
