use Rattle.std.proofs.Common.{◌≡◌, ◌+◌, ◌∙◌, [], length, arith, sym}
use Rattle.std.proofs.lemmas.Bool.{eqb-true}
use Rattle.sector_disk.specs.Stored.{stored}
use Rattle.sector_disk.specs.Trail.{now}
use Rattle.sector_disk.proofs.Touching.{still_all}
use Rattle.store_layout.specs.Draining.{bytes_left}
use Rattle.command_table.specs.Versions.{newest_version}
use Rattle.image_format.specs.Image.{image_of, image_bytes}
use Rattle.store_layout.specs.Layout.{image_at}
use Rattle.store_slots.proofs.Counting.{no_content}
use Rattle.store_slots.proofs.SlotStarts.{image_agrees}
use Rattle.store_slots.proofs.Streaming.{has_room}
use Rattle.store_slots.proofs.comparing.has_image.Goals as goal

pub overflow_add-result : goal.overflow_add-result
overflow_add-result g c =
    let e = c.in_ok-length.ensures.spelled in
    let room = has_room c.args.desktop.now.desktop c.args.tail.now c.in_ok-length.length
    (c.requires.live.over no_content).whole e.0 c.requires.tail e.1 c.images_have_room.ensures in
    omega (arith, room)

pub returns-then-comparing-clause-stored : goal.returns-then-comparing-clause-stored
returns-then-comparing-clause-stored g c = (
  c.in_ok-length.ensures.spelled.0,
  λ long honest.
      let e = c.in_ok-length.ensures.spelled in
      let f = c.new-comparing.ensures in
      let p = c.compare_through.ensures in
      let old = (now (g.D.Disk.trail c.args.disk.now)).reads in
      let new = (now (g.D.Disk.trail c.compare_through.new.disk)).reads in
      let left = bytes_left new c.compare_through.new.comparing.draining in
      let bytes = image_bytes newest_version (image_of c.args.desktop.now.desktop) in
      let same : new ≡ old = still_all _ _ (p.kept.moments honest) in
      let agreed = c.in_ok-length.ensures.agreed honest [] (f.agreed _) in
      let there = p.from ∙ f.from ∙ c.image_at.ensures in
      let extent = p.extent ∙ f.extent in
      image_agrees old (image_at c.args.slot) c.args.extent c.in_ok-length.length c.args.tail.now bytes left
      (sym (λ i. stored (same i) (there i) (extent i)) ∙ agreed.agrees c.if-comparing.true) e.1
      (eqb-true (length c.args.tail.now + c.in_ok-length.length) c.args.extent long),
)
