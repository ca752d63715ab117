use Rattle.std.proofs.Common.{◌∙◌, ◌&&◌, Bool, not, sym, ap}
use Rattle.command_table.specs.Deciding.{is_among}
use Rattle.desktop_definitions.proofs.StoreLaws.{named_among}
use Rattle.desk_commands.proofs.stores.can_go.Goals as goal

pub returns-then-contains_key : goal.returns-then-contains_key
returns-then-contains_key c =
    ap not c.is_among.ensures
    ∙ ap (λ (b : Bool). b && not (is_among c.args.others.now c.args.name.now))
    (sym c.if-contains_key.true ∙ c.contains_key.ensures ∙ named_among c.args.files.now.entries c.args.name.now)

pub returns-else-contains_key : goal.returns-else-contains_key
returns-else-contains_key c =
    c.if-contains_key.false
    ∙ ap (λ (b : Bool). b && not (is_among c.args.others.now c.args.name.now))
    (sym c.if-contains_key.false ∙ c.contains_key.ensures ∙ named_among c.args.files.now.entries c.args.name.now)
