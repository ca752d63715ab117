use Rattle.std.proofs.Common.{◌≡◌, ◌≤◌, ◌<◌, ◌+◌, ◌-◌, ◌%◌, ◌==◌, count_by, slice_range}
use Rattle.std.proofs.Common.{sym, ◌∙◌, ap, arith}
use Rattle.sector_disk.specs.Trail.{now}
use Rattle.sector_disk.specs.declared.disk.TheConstants.{SECTOR_BYTES}
use Rattle.char_pages.proofs.Paging.{range_in_area, range_behind}
use Rattle.char_pages.proofs.pages.Pages.count_over.Goals as goal

pub returns-then-offset-self-clause-looked : goal.returns-then-offset-self-clause-looked
returns-then-offset-self-clause-looked g c =
    let p = c.args.self.now in
    let reads = (now (g.D.Disk.trail c.args.disk.now)).reads in
    let past : p.saved ≤ c.args.offset = c.if-offset-self.true in
    let at = c.args.offset - p.saved in
    record {
      some = c.requires.some;
      most = omega arith;
      exact = λ h. c.count_range.ensures.count
          ∙ ap (λ l. count_by (λ b. b == c.args.wanted) (slice_range l at (at + c.args.most))) c.deref.ensures.value
          ∙ ap (count_by (λ b. b == c.args.wanted)) (sym (range_behind reads p.base p.saved
          p.rest.items c.args.offset c.args.most past));
      few = c.count_range.ensures.few;
    }

pub returns-clause-looked : goal.returns-clause-looked
returns-clause-looked g c =
    let p = c.args.self.now in
    let reads = (now (g.D.Disk.trail c.args.disk.now)).reads in
    let low : c.args.offset < p.saved = omega (arith, c.if-offset-self.false) in
    let whole : p.saved % SECTOR_BYTES ≡ 0 = p.whole in
    let least = c.min-few.ensures in
    let some = c.requires.some in
    let within : c.args.offset % SECTOR_BYTES + c.min-few.result ≤ SECTOR_BYTES = omega (arith, least) in
    record {
      some = omega (arith, least, some);
      most = omega (arith, least);
      exact = λ h.
          let is = c.in_ok-found.ensures.count h.0 h.1 in
          is.exact ∙ ap (count_by (λ b. b == c.args.wanted))
          (sym (range_in_area reads p.base p.saved p.rest.items c.args.offset c.min-few.result whole low within is.whole));
      few = c.in_ok-found.ensures.most;
    }
