use Rattle.std.proofs.Common.{◌-◌, length}
use Rattle.command_table.specs.declared.listing.TheConstants.{MOST_NAMES}
use Rattle.command_table.proofs.Gathering.{IsGathering}
use Rattle.command_table.proofs.listing.names_from.Given as goal

abbrev pub invariant-names : goal.invariant-names
invariant-names g l =
    let s = g.S.CharSource in
    IsGathering s.characters s.failures s.honest s.same_ground MOST_NAMES l.fn.source l.source l.fn.scanner.text
    (l.fn.first, l.fn.scanner.position) l.scanner l.names.items

abbrev pub decreases-names : goal.decreases-names
decreases-names g l = MOST_NAMES - length l.names.items
