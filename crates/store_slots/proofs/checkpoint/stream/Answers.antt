use Rattle.std.proofs.Common.{[], ◌+◌, ◌∙◌, arith, ap, length}
use Rattle.sector_disk.specs.Trail.{now}
use Rattle.command_table.specs.Versions.{newest_version}
use Rattle.image_format.specs.Image.{image_of, image_bytes}
use Rattle.store_slots.proofs.Counting.{no_content}
use Rattle.store_slots.proofs.Streaming.{all_stored, has_room, put_within}
use Rattle.store_slots.proofs.checkpoint.stream.Goals as goal

pub returns-in_err-finish-clause-kept : goal.returns-in_err-finish-clause-kept
returns-in_err-finish-clause-kept g c =
    let f = c.new-filling.ensures in
    let p = c.put_through.ensures in
    put_within g.D.Disk c.new-filling.result c.put_through.new.filling (f.from ∙ c.image_at.ensures) f.limit p.from
    p.limit p.kept c.finish.ensures.kept

pub overflow_add-result : goal.overflow_add-result
overflow_add-result g c =
    let e = c.in_ok-length.ensures.spelled in
    let room = has_room c.args.desktop.now.desktop c.args.tail.now c.in_ok-length.length
    (c.requires.live.over no_content).whole e.0 c.requires.tail e.1 c.images_have_room.ensures in
    omega (arith, room)

pub returns-clause-kept : goal.returns-clause-kept
returns-clause-kept g c =
    let f = c.new-filling.ensures in
    let p = c.put_through.ensures in
    put_within g.D.Disk c.new-filling.result c.put_through.new.filling (f.from ∙ c.image_at.ensures) f.limit p.from
    p.limit p.kept c.finish.ensures.kept

pub returns-clause-fits : goal.returns-clause-fits
returns-clause-fits g c =
    let e = c.in_ok-length.ensures.spelled in
    has_room c.args.desktop.now.desktop c.args.tail.now c.in_ok-length.length
    (c.requires.live.over no_content).whole e.0 c.requires.tail e.1 c.images_have_room.ensures

pub returns-clause-stored : goal.returns-clause-stored
returns-clause-stored g c = λ honest.
    let f = c.new-filling.ensures in
    let p = c.put_through.ensures in
    let e = c.in_ok-length.ensures.spelled in
    let d = c.args.desktop.now.desktop in
    let bytes = image_bytes newest_version (image_of d) in
    all_stored (now (g.D.Disk.trail c.finish.new.disk)).reads c.put_through.new.filling _
    (length c.args.tail.now + c.in_ok-length.length) c.args.tail.now bytes
    (p.from ∙ f.from ∙ c.image_at.ensures) (p.limit ∙ f.limit) (ap (λ n. length c.args.tail.now + n) e.1)
    (has_room d c.args.tail.now c.in_ok-length.length (c.requires.live.over no_content).whole e.0 c.requires.tail e.1
    c.images_have_room.ensures)
    (c.in_ok-finish.ensures.held (p.kept.still honest) _ (c.in_ok-length.ensures.taken honest [] (f.taken _)))
