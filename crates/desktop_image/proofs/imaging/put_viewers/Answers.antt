use Rattle.std.proofs.Common.{◌≡◌, ◌∙◌, ◌+◌, ◌∷◌, ℕ, List, All, drop, map, ap, sym, subst, slice_index_or}
use Rattle.std.specs.Map.{keys_of}
use Rattle.std.proofs.lemmas.List.Elements.{All-cons}
use Rattle.desktop_definitions.specs.Limits.{newest_version}
use Rattle.desktop_definitions.specs.declared.viewer.Viewer.{Viewer}
use Rattle.image_format.specs.declared.picture.ViewerPicture.{ViewerPicture}
use Rattle.image_format.specs.Image.{viewers_bytes, viewer_bytes, picture_of, InWord}
use Rattle.image_format.proofs.Putting.{item_put}
use Rattle.desktop_image.proofs.ImageLemmas.{from_here}
use Rattle.desktop_image.proofs.imaging.put_viewers.Goals as goal

pub loop-place-preserved : goal.loop-place-preserved
loop-place-preserved g c =
    let i = c.loop-place.invariant in
    let viewers = c.args.viewers.now in
    let place = c.loop-place.place in
    let none : ℕ × Viewer = (0, record { menu = 0; main = 0; org = 0 }) in
    let later = drop (place + 1) viewers in
    let front : drop place viewers ≡ slice_index_or viewers place none ∷ later =
    from_here viewers place none c.loop-place-test.true in
    let seen = picture_of c.args.caret c.args.selections.now in
    let picture = c.picture_of-picture in
    record {
      ids = λ small. i.ids (subst (λ (es : List (ℕ × Viewer)). All InWord (keys_of es)) (sym front)
          (All-cons InWord (slice_index_or viewers place none).0 (keys_of later) picture.ensures.small small));
      left = item_put g.K.ByteSink g.met.K.ByteSink.ground_through (viewer_bytes newest_version)
          (viewers_bytes newest_version (map seen viewers)) (map seen (drop place viewers)) picture.result (map seen later)
          (ap (map seen) front ∙ ap (λ (p : ViewerPicture). p ∷ map seen later) (sym picture.ensures.picture))
          i.left c.in_ok-put_viewer.ensures;
    }
