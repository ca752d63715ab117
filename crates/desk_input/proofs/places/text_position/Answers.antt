use Rattle.std.proofs.Common.{◌∙◌}
use Rattle.std.proofs.lemmas.Result.{IfOk-weaker}
use Rattle.desk_core.proofs.PositionLemmas.{nearest}
use Rattle.desk_input.proofs.places.text_position.Goals as goal

pub returns-clause-told : goal.returns-clause-told
returns-clause-told g c =
    record {
      exact = IfOk-weaker c.position_in.result _ _ (λ p is. λ h. is h
          ∙ nearest _ _ c.args.id c.args.x c.args.y
          c.text_column-column.result c.text_row-row.result c.text_column-column.ensures c.text_row-row.ensures.row)
          c.position_in.ensures.told.exact;
      reads = c.position_in.ensures.told.reads;
      cause = c.position_in.ensures.told.cause;
    }
