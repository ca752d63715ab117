use Rattle.std.proofs.Common.{◌∙◌, ◌+◌, ◌&&◌, Bool, drop, sym, ap, arith}
use Rattle.std.specs.Map.{keys_of}
use Rattle.command_table.specs.Deciding.{can_be_deleted}
use Rattle.desktop_definitions.proofs.StoreLaws.{can_at, can_end}
use Rattle.desk_commands.proofs.stores.can_be_deleted.Goals as goal

pub returns-then-not-can_go : goal.returns-then-not-can_go
returns-then-not-can_go c =
    let files = keys_of c.args.files.now.entries in
    let names = c.args.names.now in
    let at = c.loop-at.at in
    sym (c.loop-at.invariant
    ∙ can_at files names at c.index-names-at.result (omega (arith, c.loop-at-test.true)) c.index-names-at.is
    ∙ ap (λ (b : Bool). b && can_be_deleted files (drop (at + 1) names))
    (sym c.can_go.ensures ∙ c.if-not-can_go.true))

pub loop-at-preserved : goal.loop-at-preserved
loop-at-preserved c =
    let files = keys_of c.args.files.now.entries in
    let names = c.args.names.now in
    let at = c.loop-at.at in
    c.loop-at.invariant
    ∙ can_at files names at c.index-names-at.result (omega (arith, c.loop-at-test.true)) c.index-names-at.is
    ∙ ap (λ (b : Bool). b && can_be_deleted files (drop (at + 1) names))
    (sym c.can_go.ensures ∙ c.if-not-can_go.false)

pub returns : goal.returns
returns c =
    sym (c.loop-at.invariant
    ∙ can_end (keys_of c.args.files.now.entries) c.args.names.now c.loop-at.at (omega (arith, c.loop-at-test.false)))
