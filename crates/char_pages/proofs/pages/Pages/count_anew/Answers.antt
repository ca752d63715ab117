use Rattle.std.proofs.Common.{◌/◌, refl, sym, ◌∙◌, subst, arith}
use Rattle.std.proofs.lemmas.Result.{err_from_is_err_and}
use Rattle.sector_disk.specs.Trail.{CountsFault, now}
use Rattle.sector_disk.specs.declared.disk.TheConstants.{SECTOR_BYTES}
use Rattle.char_pages.proofs.Caching.{below_with}
use Rattle.char_pages.proofs.Paging.{looked_up}
use Rattle.char_pages.proofs.pages.Pages.count_anew.Goals as goal

pub invariant_of-self : goal.invariant_of-self
invariant_of-self g c =
    let p = c.args.self.now in
    let within = c.requires.within in
    record {
      whole = p.whole;
      few = p.few;
      room = c.sector_of.ensures.capacity ∙ p.room;
      below = below_with c.sector_of.ensures.cached (omega arith) (omega (arith, within)) p.below;
      known = p.known;
      anew = p.anew;
    }

pub returns-in_err-sector-clause-reads : goal.returns-in_err-sector-clause-reads
returns-in_err-sector-clause-reads g c =
    let fault = err_from_is_err_and c.from_residual.result c.from_residual.ensures.1 in
    looked_up c.sector_of.ensures.cached (λ h true_of. true_of.found) refl refl refl refl c.sector_of.ensures.kept
    (subst (λ result. CountsFault result (g.D.Disk.failures c.args.disk.now) (g.D.Disk.failures c.sector_of.new.disk))
    (sym fault.1) c.in_err-sector.ensures.cause)

pub invariant_of-self-2 : goal.invariant_of-self-2
invariant_of-self-2 g c =
    let p = c.args.self.now in
    let within = c.requires.within in
    record {
      whole = p.whole;
      few = p.few;
      room = c.sector_of.ensures.capacity ∙ p.room;
      below = below_with c.sector_of.ensures.cached (omega arith) (omega (arith, within)) p.below;
      known = c.note.ensures.below (p.saved / SECTOR_BYTES) within p.known;
      anew = p.anew;
    }

pub returns-clause-reads : goal.returns-clause-reads
returns-clause-reads g c =
    let ok = c.in_ok-sector.ensures in
    let reads = (now (g.D.Disk.trail c.args.disk.now)).reads in
    looked_up c.sector_of.ensures.cached
    (λ h true_of. c.note.ensures.found reads c.args.self.now.base true_of.found (ok.value h true_of.cached))
    refl refl refl refl c.sector_of.ensures.kept ok.cause
