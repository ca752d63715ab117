use Rattle.std.proofs.Common.{rules, ◌==◌, not}
use Rattle.std.proofs.lemmas.Fn.{filter_same}
use Rattle.desk_core.proofs.tables.unselect.Goals as goal

pub returns : goal.returns
returns c =
    filter_same _ (λ s. not (s.viewer == c.args.id)) _ (λ s b f run. search rules) _ _ c.retain.ensures.filtered
