use Rattle.std.proofs.Common.{◌≡◌, ◌∙◌, rules, sym, false}
use Rattle.past_pages.proofs.Failing.{closed_of, looks_closed, looks_none, looks_read}
use Rattle.past_pages.proofs.pages.front_in.Goals as goal

pub returns-then-is_err-clause-looks : goal.returns-then-is_err-clause-looks
returns-then-is_err-clause-looks g c = looks_closed g.D.Disk c.args.store.now
    (closed_of c.args.store.now.must_reopen c.info.result c.info.ensures.value
    (sym c.is_err.ensures.value ∙ c.if-is_err.true))

pub returns-then-end-sectors-clause-looks : goal.returns-then-end-sectors-clause-looks
returns-then-end-sectors-clause-looks g c =
    let usable : c.args.store.now.must_reopen ≡ false = search rules in looks_none g.D.Disk _ c.args.store.now usable

pub returns-clause-looks : goal.returns-clause-looks
returns-clause-looks g c =
    let usable : c.args.store.now.must_reopen ≡ false = search rules in
    looks_read g.D.Disk c.front_at.result usable c.front_at.ensures.still c.front_at.ensures.faults
