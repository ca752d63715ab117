use Rattle.std.proofs.Common.{◌-◌, ◌∙◌, ap, List, length}
use Rattle.std.specs.Prelude.{slice_get}
use Rattle.desktop_definitions.specs.declared.viewer.Selection.{Selection}
use Rattle.desktop_definitions.proofs.RowPartLaws.{last_newest}
use Rattle.desk_core.proofs.desk.Desk.newest.Goals as goal

pub returns : goal.returns
returns c =
    c.copied.ensures ∙ c.last.ensures.value
    ∙ ap (λ (l : List Selection). slice_get l (length l - 1)) c.deref.ensures.value
    ∙ last_newest c.args.self.now.selections.items
