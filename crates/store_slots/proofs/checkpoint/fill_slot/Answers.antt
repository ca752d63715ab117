use Rattle.std.proofs.Common.{◌++◌, ap, ◌∙◌}
use Rattle.std.proofs.lemmas.Result.{on_ok_weaker, IfOk-weaker}
use Rattle.sector_disk.specs.Trail.{now}
use Rattle.sector_disk.proofs.Touching.{still_reads}
use Rattle.command_table.specs.Versions.{newest_version}
use Rattle.image_format.specs.Image.{image_of, image_bytes}
use Rattle.store_slots.proofs.Staying.{goes_on}
use Rattle.store_slots.proofs.Fronts.{filled, few_in_area, tail_same, tail_long}
use Rattle.store_slots.proofs.checkpoint.fill_slot.Goals as goal

pub fill_area-requires-clause-few : goal.fill_area-requires-clause-few
fill_area-requires-clause-few g c =
    let live = c.args.desktop.now in
    few_in_area live.pages live.desktop c.rest-rest.result.now c.rest-rest.ensures c.requires.live.over
    c.args.place.saved c.requires.goes.saved_is

pub stream-requires-clause-tail : goal.stream-requires-clause-tail
stream-requires-clause-tail g c =
    let live = c.args.desktop.now in
    tail_long live.pages live.desktop c.rest-rest.result.now c.rest-rest.ensures c.requires.live.over

pub returns-clause-front : goal.returns-clause-front
returns-clause-front g c = on_ok_weaker c.stream.result (λ none honest.
    let second = c.fill_area.ensures.kept.still honest in
    filled (now (g.D.Disk.trail c.args.disk.now)).reads c.args.desktop.now.pages c.rest-rest.result.now
    c.rest-rest.ensures (now (g.D.Disk.trail c.fill_area.new.disk)).reads
    (now (g.D.Disk.trail c.stream.new.disk)).reads c.args.place.area c.args.place.saved c.args.place.slot
    (goes_on c.args.desktop.now c.args.place c.requires.live c.requires.goes) c.requires.goes.saved_is c.args.place.two
    (c.in_ok-fill_area.ensures.front honest)
    (still_reads _ _ (c.stream.ensures.kept.moments second)))
    c.stream.ensures.spelled

pub returns-clause-stored : goal.returns-clause-stored
returns-clause-stored g c = IfOk-weaker c.stream.result _ _ (λ n is_stored honest.
    let live = c.args.desktop.now in
    is_stored (c.fill_area.ensures.kept.still honest) ∙ ap (λ l. l ++ image_bytes newest_version (image_of live.desktop))
    (tail_same (now (g.D.Disk.trail c.args.disk.now)).reads live.pages c.rest-rest.result.now c.rest-rest.ensures))
    c.stream.ensures.stored
