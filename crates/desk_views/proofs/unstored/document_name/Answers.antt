use Rattle.std.proofs.Common.{◌∙◌, ap, arith}
use Rattle.command_table.specs.Parameters.{name_in}
use Rattle.desk_views.proofs.unstored.document_name.Goals as goal

pub symbol_at-requires : goal.symbol_at-requires
symbol_at-requires g c = record { within = omega arith; offsets = c.requires }

pub returns-clause-name : goal.returns-clause-name
returns-clause-name g c = λ h. c.name_in.ensures ∙ ap name_in (c.in_ok-symbol.ensures.symbol h)
