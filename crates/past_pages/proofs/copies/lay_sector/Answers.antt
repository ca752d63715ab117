use Rattle.std.proofs.Common.{◌≡◌, ◌++◌, ◌∙◌, ap, arith, length, refl, rules, take, sym}
use Rattle.std.proofs.lemmas.List.{length-take}
use Rattle.sector_disk.specs.Trail.{now}
use Rattle.sector_disk.specs.declared.disk.TheConstants.{SECTOR_BYTES}
use Rattle.past_pages.proofs.CopyReads.{back_is, place_is, taken_front, written_over}
use Rattle.past_pages.proofs.copies.lay_sector.Goals as goal

pub slice_bounds-copy_from_slice-end-2 : goal.slice_bounds-copy_from_slice-end-2
slice_bounds-copy_from_slice-end-2 g c =
    let cut = length-take 1024 c.split_at.result.1.now in
    omega (arith, cut, c.split_at.ensures.back_len, c.if-bytes-lt-SPELLED.false)

pub copy_from_slice-requires : goal.copy_from_slice-requires
copy_from_slice-requires g c =
    let wide : length c.blank_sector-sector.result ≡ SECTOR_BYTES = search rules in
    let cut = length-take 1024 c.split_at.result.1.now in
    omega (arith, wide, cut, c.split_at.ensures.back_len, c.if-bytes-lt-SPELLED.false)

pub returns-in-Ok-clause-laid : goal.returns-in-Ok-clause-laid
returns-in-Ok-clause-laid g c = λ honest sector sectors rest low long is.
    let bytes = c.args.bytes.now in
    let place = place_is bytes sector rest c.split_at.result.0.now c.split_at.result.1.now low is
    c.split_at.ensures.front
    c.split_at.ensures.back c.number_in-n.result c.number_in-n.ensures in
    let held : c.copy_from_slice.new.self ≡ sector.1 = c.copy_from_slice.ensures.after
    ∙ ap (take 1024) (back_is bytes sector rest c.split_at.result.0.now c.split_at.result.1.now low is
    c.split_at.ensures.front c.split_at.ensures.back) ∙ taken_front sector.1 rest 1024 long in (
      refl,
      written_over (now (g.E.Disk.trail c.args.disk.now)) c.number_in-n.result c.copy_from_slice.new.self sector sectors
          (now (g.E.Disk.trail c.write.new.self)).reads (ap (λ m. m.reads) (c.in-Ok.ensures.written honest)) place held,
    )
