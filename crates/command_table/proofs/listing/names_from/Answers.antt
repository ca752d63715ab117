use Rattle.std.proofs.Common.{sym, ◌∙◌, arith, refl}
use Rattle.command_table.specs.declared.listing.TheConstants.{MOST_NAMES}
use Rattle.command_table.proofs.Gathering.{begun, onward, ended, filled, no_names, has_room, is_filled}
use Rattle.command_table.proofs.listing.names_from.Goals as goal

pub returns-in_default-clause-names : goal.returns-in_default-clause-names
returns-in_default-clause-names g c h =
    no_names _ MOST_NAMES c.args.first.now c.args.scanner.now.position _ c.new-names.ensures (sym c.in_default.is
    ∙ c.name_in.ensures)

pub names-init : goal.names-init
names-init g c =
    let s = g.S.CharSource in let laws = g.met.S.CharSource in
    begun s.characters s.failures s.honest s.same_ground laws.ground_self laws.ground_through MOST_NAMES
    c.args.source.now c.args.scanner.now.text c.args.first.now c.args.scanner.now
    c.new-names.result.items _ c.in-Some.name (omega arith) refl c.requires.within (sym c.in-Some.is
    ∙ c.name_in.ensures) c.new-names.ensures c.push.ensures.items

pub names-preserved : goal.names-preserved
names-preserved g c =
    let s = g.S.CharSource in let laws = g.met.S.CharSource in let scanned = c.in_ok-symbol.ensures in
    onward s.characters s.failures s.honest s.same_ground laws.ground_self laws.ground_through _ _ _ _ _ _ _
    c.names.invariant _ _ c.in_ok-symbol.symbol c.in-Some-name_in.name _
    (has_room MOST_NAMES c.names.names.items c.is_full.result c.is_full.ensures.value c.names-test.true)
    scanned.moves.same scanned.moves.within scanned.symbol
    (sym c.in-Some-name_in.is
    ∙ c.name_in-in-names.ensures) c.push-in-Some-name_in.ensures.items scanned.reads scanned.cause

pub returns-in-None-clause-names : goal.returns-in-None-clause-names
returns-in-None-clause-names g c h =
    let s = g.S.CharSource in let laws = g.met.S.CharSource in
    ended s.characters s.failures s.honest s.same_ground laws.ground_self laws.ground_through _ _ _ _ _ _ _
    c.names.invariant c.in_ok-symbol.symbol _ c.in_ok-symbol.ensures.symbol
    (sym c.in-None.is ∙ c.name_in-in-names.ensures) h

pub returns-clause-names : goal.returns-clause-names
returns-clause-names g c h =
    let s = g.S.CharSource in let laws = g.met.S.CharSource in
    filled s.characters s.failures s.honest s.same_ground laws.ground_self laws.ground_through _ _ _ _ _ _ _
    c.names.invariant
    (is_filled MOST_NAMES c.names.names.items c.is_full.result c.is_full.ensures.value c.names-test.false) h
