use Rattle.std.proofs.Common.{◌∙◌}
use Rattle.viewer_tracks.specs.Columns.{after_open_track}
use Rattle.desktop_definitions.specs.Viewers.{covered_by}
use Rattle.desk_core.specs.Kept.{kept_desktop}
use Rattle.desk_core.proofs.desk.Desk.cover.Goals as goal

pub returns : goal.returns
unfolding covered_by
returns c =
    (λ k. record (kept_desktop c.unmark_shown.new.self) { columns = c.open_track.ensures.opened k })
    ∙ (λ k. record (c.unmark_shown.ensures k) {
      columns = after_open_track (c.unmark_shown.ensures k).columns c.args.id (c.left.ensures k);
    })
