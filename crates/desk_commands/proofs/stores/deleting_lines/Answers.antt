use Rattle.std.proofs.Common.{◌∙◌, ◌+◌, ◌++◌, List, ℕ, [], ◌∷◌, map, drop, sym, ap, append_assoc}
use Rattle.std.proofs.lemmas.List.{map-append}
use Rattle.arrayvec.specs.ArrayVec.{ArrayVec}
use Rattle.desktop_definitions.specs.Effects.{deleting_line}
use Rattle.desktop_definitions.proofs.StoreLaws.{next_at}
use Rattle.desk_commands.specs.Lines.{bytes_of_lines}
use Rattle.desk_commands.proofs.stores.deleting_lines.Goals as goal

pub loop-name-preserved : goal.loop-name-preserved
loop-name-preserved c =
    let names = c.args.names.now in
    let at = c.loop-name.name-index in
    let rest : List (List ℕ) = map deleting_line (drop (at + 1) names) in
    let before : List (ArrayVec ℕ) = c.loop-name.lines.items in
    let new : List (ArrayVec ℕ) = c.deleting_line.result ∷ [] in
    ap (λ (lines : List (ArrayVec ℕ)). bytes_of_lines lines ++ rest) c.in_ok-push.ensures.items
    ∙ ap (λ (bytes : List (List ℕ)). bytes ++ rest) (map-append (λ (line : ArrayVec ℕ). line.items) before new)
    ∙ append_assoc (bytes_of_lines before) (c.deleting_line.result.items ∷ []) rest
    ∙ ap (λ (line : List ℕ). bytes_of_lines before ++ line ∷ rest) c.deleting_line.ensures
    ∙ sym (ap (λ (names : List (List ℕ)). bytes_of_lines before ++ map deleting_line names)
    (next_at names at c.name-item.result c.loop-name-test.true c.name-item.is))
    ∙ c.loop-name.invariant
