use Rattle.std.proofs.Common.{◌≡◌, ◌++◌, ◌/◌, ◌∙◌, ap, arith, length, refl}
use Rattle.sector_disk.specs.Trail.{now}
use Rattle.sector_disk.specs.Memory.{trail_of}
use Rattle.store_layout.specs.declared.layout.TheConstants.{LAYOUT}
use Rattle.past_pages.specs.Page.{number}
use Rattle.past_pages.proofs.CopyReads.{copy_shows, made, sectors_long}
use Rattle.past_pages.proofs.copies.copy_page.Goals as goal

pub overflow_cast-count : goal.overflow_cast-count
overflow_cast-count c = omega (arith, c.len.ensures, c.in_ok-sectors.ensures.short)

pub returns : goal.returns
returns c = made c.page_of.result c.page_of.ensures.bytes c.page_of.ensures.few (λ bytes is few.
    let has = c.in_ok-sectors.ensures.spelled tt in
    let spelled = c.as_slice.ensures.value ∙ has.spelled in
    let all = ap length has.spelled in
    let cut = ap length spelled in
    let long = sectors_long has.sectors has.are in
    let counts : c.len.result / 1028 ≡ length has.sectors = omega (arith, c.len.ensures, all, long) in
    record {
      sectors = has.sectors;
      are = is ∙ (λ i. number (c.copy_kind.ensures i) ++ (number LAYOUT ++ (number (counts i)
          ++ (number (length (spelled i)) ++ spelled i))));
      few = let short = c.in_ok-sectors.ensures.short in omega (arith, short, all, long);
      good = record {
        newest = refl;
        few = omega (arith, few, cut, long);
        short = omega (arith, few, cut);
        valid = copy_shows (now (trail_of c.in_ok-disk.disk.calls)).reads has.sectors has.are has.same
            c.in_ok-disk.ensures.means;
      };
    })
