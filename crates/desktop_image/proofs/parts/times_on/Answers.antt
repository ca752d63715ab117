use Rattle.std.proofs.Common.{◌≡◌, ◌∙◌, ap, arith, map, get_or}
use Rattle.std.proofs.lemmas.List.{length-map}
use Rattle.std.proofs.lemmas.List.Sums.{sum_by_more}
use Rattle.arrayvec.specs.ArrayVec.{ArrayVec}
use Rattle.viewer_tracks.specs.Viewers.{Entry, times_in}
use Rattle.image_format.specs.declared.picture.Stretch.{Stretch}
use Rattle.image_format.specs.Pictures.{entry_of_stretch, track_of_stretches}
use Rattle.desktop_image.proofs.DraftLemmas.{times_few}
use Rattle.desktop_image.proofs.parts.times_on.Goals as goal

pub overflow_add-times : goal.overflow_add-times
overflow_add-times c =
    let here = c.times_in-times.ensures in
    let few = times_few c.args.id (map entry_of_stretch c.as_slice.result.now) in
    let same = length-map {B = Entry} c.as_slice.result.now entry_of_stretch in
    let fits = c.as_slice.ensures.fits in
    let before = c.loop-track.invariant.few in
    let low = c.loop-track-test.true in
    let all = c.requires in
    omega (arith, here, few, same, fits, before, low, all)

pub loop-track-preserved : goal.loop-track-preserved
loop-track-preserved c =
    let id = c.args.id in
    let here = c.times_in-times.ensures in
    let few = times_few id (map entry_of_stretch c.as_slice.result.now) in
    let same = length-map {B = Entry} c.as_slice.result.now entry_of_stretch in
    let fits = c.as_slice.ensures.fits in
    let before = c.loop-track.invariant in
    let track : map entry_of_stretch c.as_slice.result.now
    ≡ track_of_stretches (get_or c.args.stack.now c.loop-track.track-index c.track-item.result) =
    ap (map entry_of_stretch) c.as_slice.ensures.value ∙ ap track_of_stretches c.track-item.is in
    let more = sum_by_more (λ (t : ArrayVec Stretch). times_in id (track_of_stretches t)) c.args.stack.now
    c.loop-track.track-index c.track-item.result c.loop-track-test.true in
    let read = ap (times_in id) track in
    let so_far = before.times in
    let low = before.few in
    record {
      times = omega (arith, here, more, read, so_far);
      few = omega (arith, here, few, same, fits, low);
    }
