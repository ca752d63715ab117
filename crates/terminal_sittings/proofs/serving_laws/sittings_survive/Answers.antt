use Rattle.terminal_sittings.proofs.Surviving.{scenes_survive, turns_survive, ends_survive}
use Rattle.terminal_sittings.proofs.serving_laws.sittings_survive.Goals as goal

pub returns-clause-scenes : goal.returns-clause-scenes
returns-clause-scenes g c = λ desk. scenes_survive desk g.D.Disk

pub returns-clause-turns : goal.returns-clause-turns
returns-clause-turns g c = λ desk. turns_survive desk g.D.Disk

pub returns-clause-ends : goal.returns-clause-ends
returns-clause-ends g c = λ desk. ends_survive desk g.D.Disk
