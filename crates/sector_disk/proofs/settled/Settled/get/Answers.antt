use Rattle.std.proofs.Common.{sym, ◌∙◌, ap, arith}
use Rattle.sector_disk.specs.Settled.{settled_place}
use Rattle.sector_disk.proofs.Places.{kept_past, kept_here, kept_other}
use Rattle.sector_disk.proofs.settled.Settled.get.Goals as goal

pub returns-then-place-self : goal.returns-then-place-self
returns-then-place-self c =
    ap (λ l. settled_place l c.args.n c.args.place) (sym c.self.view_is)
    ∙ kept_past c.self.inside.kept.items c.self.inside.used c.args.n c.args.place c.if-place-self.true

pub returns-then-number-n : goal.returns-then-number-n
returns-then-number-n c =
    let low = c.if-place-self.false in
    ap (λ l. settled_place l c.args.n c.args.place) (sym c.self.view_is)
    ∙ kept_here c.self.inside.kept.items c.self.inside.used c.args.n c.args.place c.index.result.now (omega (arith, low))
    c.self.invariant c.index.ensures c.if-number-n.true

pub returns-else-number-n : goal.returns-else-number-n
returns-else-number-n c =
    let low = c.if-place-self.false in
    ap (λ l. settled_place l c.args.n c.args.place) (sym c.self.view_is)
    ∙ kept_other c.self.inside.kept.items c.self.inside.used c.args.n c.args.place c.index.result.now (omega (arith, low))
    c.self.invariant c.index.ensures c.if-number-n.false
