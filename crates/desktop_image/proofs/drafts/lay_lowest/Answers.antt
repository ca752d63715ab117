use Rattle.std.proofs.Common.{◌∙◌, ap, subst, sym}
use Rattle.viewer_tracks.specs.Columns.{IsOnTop, columns_changed, after_open_track}
use Rattle.desktop_image.proofs.Building.{on_top, lowered}
use Rattle.desktop_image.proofs.drafts.lay_lowest.Goals as goal

pub change-requires : goal.change-requires
change-requires c =
    let t = c.args.tracks.now in
    let v = c.args.lowest.viewer in
    subst (IsOnTop v) (sym (c.open_track.ensures.opened ∙ ap (after_open_track t v) c.left.ensures))
    (on_top t c.args.track v)

pub returns-clause-laid : goal.returns-clause-laid
returns-clause-laid c =
    let t = c.args.tracks.now in
    let v = c.args.lowest.viewer in
    let h = c.args.lowest.height in
    c.change.ensures.changed
    ∙ ap (λ x. columns_changed x v h) (c.open_track.ensures.opened ∙ ap (after_open_track t v) c.left.ensures)
    ∙ lowered t c.args.track v h c.requires.sound c.requires.fresh c.requires.room c.requires.fits.0 c.requires.fits.1
