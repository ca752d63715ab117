use Rattle.std.proofs.Common.{rules, ◌<◌, ◌≤◌, ◌+◌, ◌-◌, ℕ, List, length, slice_index_or, ap, ◌∙◌, arith}
use Rattle.viewer_tracks.specs.Viewers.{Entry}
use Rattle.viewer_tracks.specs.Columns.{track_on}
use Rattle.viewer_tracks.proofs.LevelLemmas.{length-stack_over, kept_level}
use Rattle.viewer_tracks.proofs.stack.Stack.track.Goals as goal

pub returns : goal.returns
returns c =
    let ts = c.self.inside.tracks in
    let many = length-stack_over ts c.self.inside.covered in
    let inside : c.self.inside.covered < length ts = search rules in
    let within : c.args.level ≤ c.self.inside.covered + 1 =
    omega (arith, c.requires.within, many, ap length c.self.view_is) in
    ap (λ (n : ℕ). slice_index_or ts (n - 1) c.index-self-from.result) c.from.ensures
    ∙ kept_level ts c.self.inside.covered c.args.level c.index-self-from.result inside c.requires.some within
    ∙ ap (λ (s : List (List Entry)). track_on s c.args.level) c.self.view_is
