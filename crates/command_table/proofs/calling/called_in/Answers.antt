use Rattle.std.proofs.Common.{ap, ◌∙◌}
use Rattle.std.specs.List.{prefix_len}
use Rattle.std.proofs.lemmas.List.{take_rest}
use Rattle.event_bytes.specs.Bytes.{is_name_byte}
use Rattle.command_table.specs.Versions.{version_number}
use Rattle.command_table.proofs.Runs.{no_call}
use Rattle.command_table.proofs.calling.called_in.Goals as goal

pub returns-then-run-eq0-clause-call : goal.returns-then-run-eq0-clause-call
returns-then-run-eq0-clause-call c =
    no_call (version_number c.args.version) c.args.bytes.now c.args.at c.run_len-run.result (c.run_len-run.ensures.run
    ∙ ap (prefix_len is_name_byte) (take_rest c.args.bytes.now c.args.at)) c.if-run-eq0.true
