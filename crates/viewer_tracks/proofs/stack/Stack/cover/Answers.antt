use Rattle.std.proofs.Common.{rules, ◌≡◌, ◌<◌, ◌+◌, List, ◌∷◌, length, ap, ◌∙◌}
use Rattle.viewer_tracks.specs.Viewers.{Entry}
use Rattle.viewer_tracks.specs.Edits.{opened}
use Rattle.viewer_tracks.specs.Columns.{whole_track}
use Rattle.viewer_tracks.proofs.LevelLemmas.{covered_over, whole}
use Rattle.viewer_tracks.proofs.stack.Stack.cover.Goals as goal

pub returns : goal.returns
returns c =
    let made : c.open.new.self ≡ whole_track c.args.viewer.0 =
    c.open.ensures.track ∙ ap (λ (t : List Entry). opened t c.args.viewer.0 32) c.new-track.ensures
    ∙ whole c.args.viewer.0 in
    let inside : c.self.inside.covered + 1 < length c.self.inside.tracks = search rules in
    covered_over c.self.inside.tracks c.self.inside.covered c.open.new.self inside
    ∙ (λ k. made k ∷ c.self.view_is k)
