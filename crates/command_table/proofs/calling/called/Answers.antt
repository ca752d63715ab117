use Rattle.std.specs.Prelude.{Some, None}
use Rattle.std.proofs.Common.{◌∙◌, rules}
use Rattle.piece_ring.specs.Flat.{flat}
use Rattle.command_table.specs.Versions.{version_number}
use Rattle.command_table.proofs.Runs.{called_there}
use Rattle.command_table.proofs.calling.called.Goals as goal

pub returns-in-None-clause-call : goal.returns-in-None-clause-call
returns-in-None-clause-call g c h =
    let characters = g.S.CharSource.characters c.args.source.now in
    called_there (version_number c.args.version) characters (flat c.args.text.now) c.args.pos
    c.saturating_sub-start.result
    c.as_slice.result.now None
    c.saturating_sub-start.ensures c.requires.within (c.as_slice.ensures.value ∙ c.in_ok-window.ensures.bytes h)
    (search rules)

pub returns-in-Some-clause-call : goal.returns-in-Some-clause-call
returns-in-Some-clause-call g c h =
    let characters = g.S.CharSource.characters c.args.source.now in
    called_there (version_number c.args.version) characters (flat c.args.text.now) c.args.pos
    c.saturating_sub-start.result
    c.as_slice.result.now
    (Some (c.in-Some.command, c.in-Some.end)) c.saturating_sub-start.ensures c.requires.within
    (c.as_slice.ensures.value ∙ c.in_ok-window.ensures.bytes h) (search rules)
