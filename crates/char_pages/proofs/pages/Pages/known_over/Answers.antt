use Rattle.std.proofs.Common.{◌≡◌, ◌≤◌, ◌<◌, ◌+◌, ◌/◌, ◌%◌, ◌==◌, count_by, sym, ◌∙◌, ap, arith}
use Rattle.sector_disk.specs.declared.disk.TheConstants.{SECTOR_BYTES}
use Rattle.char_pages.proofs.Paging.{range_in_area}
use Rattle.char_pages.proofs.pages.Pages.known_over.Goals as goal

pub returns : goal.returns
returns c = λ content.
    let p = c.args.self.now in
    let whole : p.saved % SECTOR_BYTES ≡ 0 = p.whole in
    let less = c.in_ok-found.ensures.below (p.saved / SECTOR_BYTES) p.known in
    let low : c.args.offset < p.saved = omega (arith, less, whole) in
    let few = c.if-few-at.false in
    let within : c.args.offset % SECTOR_BYTES + c.args.few ≤ SECTOR_BYTES = omega (arith, few) in
    record {
      some = c.requires;
      most = omega arith;
      exact = λ h.
          let is = c.in_ok-found.ensures.count content p.base h.found in
          is.exact ∙ ap (count_by (λ b. b == c.args.wanted))
          (sym (range_in_area content p.base p.saved p.rest.items c.args.offset c.args.few whole low within is.whole));
      few = c.in_ok-found.ensures.most;
    }
