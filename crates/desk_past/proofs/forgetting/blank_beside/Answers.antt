use Rattle.std.proofs.Common.{◌≡◌, ◌⊎◌, inl, inr, ◌+◌, ◌-◌, ◌*◌, ◌≤◌, ◌∙◌, ℕ, ap, arith, subst}
use Rattle.std.proofs.lemmas.Result.{on_ok_weaker}
use Rattle.sector_disk.specs.Trail.{now}
use Rattle.store_layout.specs.declared.layout.TheConstants.{STORE_SECTORS}
use Rattle.past_pages.specs.declared.parts.TheConstants.{PARTS, PART_SECTORS}
use Rattle.past_pages.specs.Sectors.{AreBlank}
use Rattle.past_pages.specs.Parts.{part_count, parts_end}
use Rattle.desk_past.proofs.Apart.{part_above}
use Rattle.desk_past.proofs.Begun.{aside_both, same_both}
use Rattle.desk_past.proofs.Copied.{spared_reads}
use Rattle.desk_past.proofs.Forgotten.{blank_around, blank_as, spares_start, start_then}
use Rattle.desk_past.proofs.forgetting.blank_beside.Goals as goal

pub returns-in_err-blank-clause-only : goal.returns-in_err-blank-clause-only
returns-in_err-blank-clause-only g c = spares_start g.D.Disk c.args.base PARTS (c.args.base - PARTS) (omega arith)
    (inr (let low = part_above _ _ _ c.requires.part in omega (arith, low))) c.blank.ensures.only

pub returns-clause-only : goal.returns-clause-only
returns-clause-only g c =
    let d = g.D.Disk in
    let low = part_above _ _ _ c.requires.part in
    start_then d c.blank-2.new.store c.blank.ensures.device.same c.in_ok-blank.ensures.aside.usable
    (spares_start d c.args.base PARTS (c.args.base - PARTS) (omega arith) (inr (omega (arith, low)))
    c.blank.ensures.only)
    (spares_start d c.args.base (c.args.base + STORE_SECTORS)
    (PARTS + PART_SECTORS * c.part_count.result - (c.args.base + STORE_SECTORS))
    (omega arith) (inl (omega arith)) c.blank-2.ensures.only)

pub returns-clause-aside : goal.returns-clause-aside
returns-clause-aside g c =
    on_ok_weaker c.blank-2.result (λ last. aside_both g.D.Disk c.blank.ensures.device.same c.in_ok-blank.ensures.aside
    last)
    c.blank-2.ensures.aside

pub returns-clause-blank : goal.returns-clause-blank
returns-clause-blank g c = on_ok_weaker c.blank-2.result (λ last honest.
    let d = g.D.Disk in
    let base = c.args.base in
    let low = part_above _ _ _ c.requires.part in
    let second = c.blank.ensures.device.same.still honest in
    let c' = (now (d.trail c.blank-2.new.store.disk)).reads in
    let mid = (now (d.trail c.blank.new.store.disk)).reads in
    let at : c.part_count.result ≡ part_count (d.size c.args.store.now.disk) =
    c.part_count.ensures.value ∙ ap part_count c.sectors.ensures in
    let end : ℕ = parts_end (d.size c.args.store.now.disk) in
    let end_is : PARTS + PART_SECTORS * c.part_count.result ≡ parts_end (d.size c.args.store.now.disk) =
    ap (λ n. PARTS + PART_SECTORS * n) at in
    blank_around PARTS base end c' low
    (blank_as PARTS (base - PARTS) mid c' (λ n within. spared_reads d c.blank-2.ensures.only
    c.in_ok-blank.ensures.aside.usable
    second n (λ inside. omega (arith, inside.0, within.1, low))) (c.in_ok-blank.ensures.blank honest))
    (subst (λ e. AreBlank (base + STORE_SECTORS) (e - (base + STORE_SECTORS)) c') end_is (last second)))
    c.blank-2.ensures.blank
