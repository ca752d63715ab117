use Rattle.std.proofs.Common.{◌≡◌, ◌-◌, ◌%◌, ◌<◌, length, refl, sym, ◌∙◌, arith}
use Rattle.std.proofs.lemmas.List.{get_or_default}
use Rattle.std.proofs.lemmas.Result.{IfOk-weaker}
use Rattle.sector_disk.specs.Trail.{now}
use Rattle.sector_disk.specs.declared.disk.TheConstants.{SECTOR_BYTES}
use Rattle.char_pages.proofs.Caching.{below_with}
use Rattle.char_pages.proofs.Paging.{paged_in_area, paged_behind, looked_up}
use Rattle.char_pages.proofs.pages.Pages.char_over.Goals as goal

pub returns-then-offset-self-clause-value : goal.returns-then-offset-self-clause-value
returns-then-offset-self-clause-value g c =
    let p = c.args.self.now in
    let reads = (now (g.D.Disk.trail c.args.disk.now)).reads in
    IfOk-weaker c.byte_of.result _ _
    (λ byte value. λ h true_of. value h true_of.cached
    ∙ sym (paged_in_area reads p.base p.saved p.rest.items c.args.offset c.if-offset-self.true))
    c.byte_of.ensures.value

pub returns-then-offset-self-clause-reads : goal.returns-then-offset-self-clause-reads
returns-then-offset-self-clause-reads g c =
    let looked = c.byte_of.ensures.looked in
    looked_up looked.cached (λ h true_of. true_of.found) refl refl refl refl looked.kept looked.cause

pub returns-else-offset-self-clause-value : goal.returns-else-offset-self-clause-value
returns-else-offset-self-clause-value g c = λ h true_of.
    let p = c.args.self.now in
    let reads = (now (g.D.Disk.trail c.args.disk.now)).reads in
    let there : c.args.offset - p.saved < length p.rest.items =
    omega (arith, c.requires.within, c.if-offset-self.false) in
    c.index.ensures ∙ get_or_default p.rest.items (c.args.offset - p.saved) _ 0 there
    ∙ sym (paged_behind reads p.base p.saved p.rest.items c.args.offset c.if-offset-self.false)

pub invariant_of-self-clause-below : goal.invariant_of-self-clause-below
invariant_of-self-clause-below g c =
    let p = c.args.self.now in
    let offset = c.args.offset in
    let before : offset < p.saved = c.if-offset-self.true in
    let whole : p.saved % SECTOR_BYTES ≡ 0 = p.whole in
    below_with c.byte_of.ensures.looked.cached (omega arith) (omega (arith, before, whole)) p.below
