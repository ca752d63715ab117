use Rattle.std.proofs.Common.{rules, ◌∷◌, ◌++◌, [], List, ap, ◌∙◌}
use Rattle.std.proofs.lemmas.Fn.{filter_same}
use Rattle.desktop_definitions.specs.declared.viewer.Selection.{Selection}
use Rattle.desk_core.proofs.viewers.select.Goals as goal

pub returns : goal.returns
returns c =
    c.in_ok-push.ensures.items
    ∙ ap (λ (l : List Selection). l ++ c.args.newest ∷ [])
    (filter_same _ _ _ (λ x b f' k. search rules) _ _ c.retain.ensures.filtered)
