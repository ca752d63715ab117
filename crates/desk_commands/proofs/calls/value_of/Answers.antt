use Rattle.std.proofs.Common.{◌∙◌}
use Rattle.std.proofs.lemmas.Result.{IfOk-weaker}
use Rattle.piece_ring.specs.Flat.{flat}
use Rattle.readers_scanners.specs.Reading.{bytes_of_text}
use Rattle.command_table.specs.Parameters.{value_parameter}
use Rattle.desktop_definitions.proofs.CallLaws.{place_stands, menu_stands, value_read}
use Rattle.desk_core.specs.Kept.{kept_desktop}
use Rattle.desk_commands.proofs.CallLemmas.{call_place}
use Rattle.desk_commands.proofs.calls.value_of.Goals as goal

pub params-requires-clause-text : goal.params-requires-clause-text
params-requires-clause-text g c = rw c.text_called-text.ensures (call_place c.requires)

pub params-requires-clause-sel : goal.params-requires-clause-sel
params-requires-clause-sel g c = rw c.selection_place.ensures (place_stands _ _ c.requires.over)

pub params-requires-clause-menu : goal.params-requires-clause-menu
params-requires-clause-menu g c = rw c.menu_at_marker.ensures (menu_stands _ _ c.requires.over)

pub returns-clause-told : goal.returns-clause-told
returns-clause-told g c = record {
  exact =
      IfOk-weaker c.params.result _ _ (λ r fact h. fact h
      ∙ (λ k. value_parameter (bytes_of_text (g.S.CharSource.characters c.args.source.now)) (flat (c.text_called-text.ensures k))
      c.args.call.after (c.selection_place.ensures k) (c.menu_at_marker.ensures k))
      ∙ value_read _ (kept_desktop c.args.desk.now) c.args.call) c.params.ensures.value;
  reads = c.params.ensures.reads;
  cause = c.params.ensures.cause;
}
