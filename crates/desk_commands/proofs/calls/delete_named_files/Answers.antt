use Rattle.std.specs.Prelude.{ℕ, List, Result, Ok}
use Rattle.std.proofs.Common.{rules, sym, ap, ◌∙◌}
use Rattle.command_table.specs.Parameters.{listed_names, first_names}
use Rattle.desktop_definitions.specs.Desktop.{Desktop}
use Rattle.desktop_definitions.specs.Seen.{seen}
use Rattle.desktop_definitions.specs.Call.{names_of}
use Rattle.desktop_definitions.specs.Needs.{given}
use Rattle.desktop_definitions.specs.Effects.{files_deleted}
use Rattle.desktop_definitions.proofs.StoreLaws.{deleted_by_first}
use Rattle.desk_core.specs.Kept.{kept_desktop}
use Rattle.desk_commands.proofs.ReadFirst.{refused_after, does_there}
use Rattle.desk_commands.proofs.calls.delete_named_files.Goals as goal

pub returns-in-Ok : goal.returns-in-Ok
returns-in-Ok g c =
    let read = c.in_ok-names.ensures.told in
    let d = seen (g.S.CharSource.characters c.args.source.now) (kept_desktop c.args.desk.now) in
    does_there g.S.CharSource g.met.S.CharSource.ground_through
    (λ (x : Desktop) (r : Result (List (List ℕ)) ℕ). given r (files_deleted x))
    (λ (x : Desktop). first_names (names_of x c.args.call)) (Ok c.in-Ok.names.items)
    (λ (x : Desktop). given (names_of x c.args.call) (files_deleted x)) _ _ _
    (kept_desktop c.args.desk.now) _ _ read.reads read.cause (λ h. sym (ap listed_names c.in-Ok.is) ∙ read.exact h)
    (λ e. ap (λ (r : Result (List (List ℕ)) ℕ). given r (files_deleted d)) e
    ∙ deleted_by_first d (c.requires.over.whole.sound (g.S.CharSource.characters c.args.source.now)).shaped.files.few
    (names_of d c.args.call)) (rw c.as_slice.ensures.value at c.delete_files.ensures)

pub returns-in-Err : goal.returns-in-Err
returns-in-Err g c = record {
  answered =
      let read = c.in_ok-names.ensures.told in
      let d = seen (g.S.CharSource.characters c.args.source.now) (kept_desktop c.args.desk.now) in
      refused_after g.S.CharSource (λ (x : Desktop). given (names_of x c.args.call) (files_deleted x)) c.in-Err.code _ _
      (kept_desktop c.args.desk.now) read.reads c.requires.over (rw c.in-Err.is at c.in_ok-names.ensures.codes)
      (λ h. sym (deleted_by_first d
      (c.requires.over.whole.sound (g.S.CharSource.characters c.args.source.now)).shaped.files.few
      (names_of d c.args.call))
      ∙ ap (λ (r : Result (List (List ℕ)) ℕ). given r (files_deleted d)) (sym (read.exact h) ∙ ap listed_names c.in-Err.is));
  uses = search (rules, g.met.S.CharSource.ground_self, g.met.S.CharSource.ground_through);
}
