use Rattle.std.proofs.Common.{ap, ◌∙◌}
use Rattle.std.proofs.lemmas.Result.{IfOk-weaker}
use Rattle.piece_ring.specs.Flat.{flat}
use Rattle.readers_scanners.specs.Reading.{bytes_of_text}
use Rattle.command_table.specs.Parameters.{names, first_names}
use Rattle.desktop_definitions.proofs.CallLaws.{place_stands, names_read}
use Rattle.desk_core.specs.Kept.{kept_desktop}
use Rattle.desk_commands.proofs.CallLemmas.{call_place}
use Rattle.desk_commands.proofs.calls.names_of.Goals as goal

pub names-requires-clause-text : goal.names-requires-clause-text
names-requires-clause-text g c = rw c.text_called-text.ensures (call_place c.requires)

pub names-requires-clause-sel : goal.names-requires-clause-sel
names-requires-clause-sel g c = rw c.selection_place.ensures (place_stands _ _ c.requires.over)

pub returns-clause-told : goal.returns-clause-told
returns-clause-told g c = record {
  exact =
      IfOk-weaker c.names.result _ _ (λ r fact h. fact h
      ∙ ap first_names ((λ k. names (bytes_of_text (g.S.CharSource.characters c.args.source.now))
      (flat (c.text_called-text.ensures k)) c.args.call.after (c.selection_place.ensures k))
      ∙ names_read _ (kept_desktop c.args.desk.now) c.args.call)) c.names.ensures.names;
  reads = c.names.ensures.reads;
  cause = c.names.ensures.cause;
}
