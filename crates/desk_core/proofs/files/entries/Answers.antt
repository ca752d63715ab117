use Rattle.std.proofs.Common.{◌≡◌, ◌∙◌, sym, subst, append-nil, List, ◌++◌, map}
use Rattle.piece_ring.specs.declared.piece.Piece.{Piece}
use Rattle.desktop_definitions.specs.Tables.{Files}
use Rattle.desk_core.proofs.ListLemmas.{kept_entry, entries_seen, entry_more}
use Rattle.desk_core.proofs.files.entries.Goals as goal

pub loop-name-preserved : goal.loop-name-preserved
loop-name-preserved c =
    entry_more c.loop-name.entries.items c.push.new.self.items c.in_ok-clone.field-0 c.len.result
    (c.in-Some.name.now, c.in-Some.text.now) c.next.new.self c.loop-name.name-iterator _
    c.in_ok-push.ensures.items
    (cc c.in_ok-clone.ensures.copy) c.len.ensures c.in-Some.ensures.steps c.loop-name.invariant

pub returns-clause-entries : goal.returns-clause-entries
returns-clause-entries c = λ characters.
    sym (append-nil c.loop-name.entries.items)
    ∙ subst (λ (rest : Files (List Piece)). c.loop-name.entries.items ++ map kept_entry rest
    ≡ map kept_entry c.args.files.now.entries) c.in-None.ensures.steps.0 c.loop-name.invariant
    ∙ sym (entries_seen characters c.args.files.now.entries)
