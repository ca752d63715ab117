use Rattle.std.proofs.Common.{◌≡◌, ◌++◌, ℕ, List, codes, flat_map, take}
use Rattle.told_pasts.proofs.words.push_others.Given as goal

-- the names so far
abbrev pub invariant-loop-document : goal.invariant-loop-document
invariant-loop-document l = l.line.items
    ≡ l.fn.line.items ++ flat_map (λ (document : List ℕ × List ℕ). codes ", " ++ document.0)
    (take l.document-index l.documents)
