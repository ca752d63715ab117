use Rattle.std.proofs.Common.{◌≡◌, ◌++◌, drop}
use Rattle.piece_ring.specs.Look.{default_look}
use Rattle.store_documents.specs.Markup.{marked_text}
use Rattle.store_documents.proofs.markup.push_text.Given as goal

abbrev pub invariant-loop-character : goal.invariant-loop-character
invariant-loop-character l = l.fn.bytes.items ++ marked_text default_look l.text
    ≡ l.bytes.items ++ marked_text l.before (drop l.character-index l.text)
