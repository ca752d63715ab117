use Rattle.std.proofs.Common.{◌≡◌, ◌++◌, map, take, sum_by}
use Rattle.viewer_tracks.specs.Columns.{IsColumns, shown_track, with_shown}
use Rattle.image_format.specs.Pictures.{entry_of_stretch}
use Rattle.desktop_image.proofs.drafts.pile.Given as goal

-- those so far stand on one another
abbrev pub invariant-loop-stretch : goal.invariant-loop-stretch
invariant-loop-stretch l = record {
  tracks : l.tracks
      ≡ with_shown l.fn.tracks l.track (shown_track l.fn.tracks l.track ++ map entry_of_stretch (take l.stretch-index l.stretches));
  top : l.top
      ≡ sum_by (λ e. e.height) (shown_track l.fn.tracks l.track ++ map entry_of_stretch (take l.stretch-index l.stretches));
  sound : IsColumns l.tracks;
}
