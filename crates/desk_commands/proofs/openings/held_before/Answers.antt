use Rattle.std.proofs.Common.{◌+◌, Option, ℕ, ap, ◌∙◌}
use Rattle.viewer_tracks.specs.Columns.{after_open, replaced_at}
use Rattle.desktop_definitions.specs.Desktop.{characters_held}
use Rattle.desktop_definitions.specs.Opening.{without_unshown}
use Rattle.desktop_definitions.specs.Viewers.{without_viewer}
use Rattle.desktop_definitions.specs.Seen.{seen}
use Rattle.desktop_definitions.specs.Opening.{new_id}
use Rattle.desktop_definitions.proofs.OpeningDone.{new_fresh, whole_columns}
use Rattle.desk_core.specs.Kept.{kept_desktop}
use Rattle.desk_commands.proofs.OpeningLemmas.{not_taken}
use Rattle.desk_commands.proofs.openings.held_before.Goals as goal

pub returns-clause-held : goal.returns-clause-held
returns-clause-held c = λ characters. c.held_without.ensures.held characters
    ∙ ap (λ (t : Option ℕ). characters_held (without_unshown (without_viewer (seen characters (kept_desktop c.args.desk.now)) t)))
    c.replaced.ensures

pub returns-clause-apart : goal.returns-clause-apart
returns-clause-apart c =
    let d = kept_desktop c.args.desk.now in
    let v = new_id d in
    not_taken d.columns (after_open d.columns (v + 1) c.args.x c.args.y) v (replaced_at d.columns c.args.x c.args.y)
    (new_fresh d c.requires.whole)
    (c.edits_place_viewers.ensures.opened d.columns (v + 1) c.args.x c.args.y v (whole_columns d c.requires.whole))
