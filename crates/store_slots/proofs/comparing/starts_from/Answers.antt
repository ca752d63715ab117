use Rattle.std.proofs.Common.{◌≡◌, ◌++◌, ◌∙◌, ap, arith, length, refl, subst, sym}
use Rattle.std.proofs.lemmas.Result.{IfOk-weaker}
use Rattle.sector_disk.specs.Stored.{stored}
use Rattle.sector_disk.specs.Trail.{now}
use Rattle.sector_disk.proofs.Touching.{still_all}
use Rattle.command_table.specs.Versions.{newest_version}
use Rattle.image_format.specs.Image.{image_of, image_bytes}
use Rattle.store_layout.specs.declared.layout.TheConstants.{LAYOUT}
use Rattle.store_layout.specs.Kept.{HasFront}
use Rattle.store_layout.specs.Layout.{image_at}
use Rattle.store_layout.specs.Meaning.{full_sectors}
use Rattle.store_slots.specs.Live.{live_characters}
use Rattle.store_slots.proofs.Fronts.{few_in_area, filled, tail_long, tail_same}
use Rattle.store_slots.proofs.NewSlot.{all_written}
use Rattle.store_slots.proofs.SlotStarts.{based_there, starts_here}
use Rattle.store_slots.proofs.comparing.starts_from.Goals as goal

pub has_characters-requires-clause-few : goal.has_characters-requires-clause-few
has_characters-requires-clause-few g c =
    let live = c.args.desktop.now in
    few_in_area live.pages live.desktop c.rest-rest.result.now c.rest-rest.ensures c.requires.live.over
    c.saved.result c.saved.ensures

pub has_image-requires-clause-tail : goal.has_image-requires-clause-tail
has_image-requires-clause-tail g c =
    let live = c.args.desktop.now in
    tail_long live.pages live.desktop c.rest-rest.result.now c.rest-rest.ensures c.requires.live.over

pub returns-clause-starts : goal.returns-clause-starts
returns-clause-starts g c = IfOk-weaker c.has_image.result _ _ (λ same has true_is honest is.
    let content = (now (g.D.Disk.trail c.args.disk.now)).reads in
    let live = c.args.desktop.now in
    let h = c.args.head.now in
    let slot = c.args.slot in
    let area = c.next_area-area.result in
    let rest = c.rest-rest.result.now in
    let rest_is = c.rest-rest.ensures in
    let characters = live_characters content live in
    let image = image_bytes newest_version (image_of live.desktop) in
    let over = c.requires.live.over content in
    let version : h.version ≡ LAYOUT = omega (arith, c.if-head-ne-LAYOUT.false) in
    let by_head : h.written ≡ c.written-written.result = omega (arith, c.if-head-written.false) in
    let area_is : h.area ≡ area = omega (arith, c.if-head-area.false) in
    let kept = still_all _ _ (c.has_characters.ensures.kept.moments honest) in
    let front = filled content live.pages rest rest_is content content area c.saved.result slot
    (based_there live area c.requires.live c.next_area-area.ensures.area) c.saved.ensures c.requires.at.two
    (c.in_ok-has_characters.ensures.front c.if-not-branch.false honest) (λ n outside. refl) in
    let there = has.1 true_is (c.has_characters.ensures.kept.still honest) in
    starts_here content slot h live.desktop characters is version
    (by_head ∙ c.written-written.ensures content ∙ all_written characters live.desktop over) over has.0
    (ap (λ r. stored r (image_at slot) h.extent) (sym kept) ∙ there
    ∙ ap (λ l. l ++ image) (tail_same content live.pages rest rest_is))
    (subst (λ n. HasFront content n (full_sectors (length characters)) characters) (sym area_is) front))
    c.has_image.ensures.stored
