-- A line that points with the mouse.
use Rattle.std.proofs.Common.{◌≡◌, ℕ, true, List, Option, Some, refl, sym, ap, ◌∙◌}
use Rattle.std.specs.Prelude.{codes, unwrap_or}
use Rattle.std.specs.Str.{bytes_eq}
use Rattle.std.specs.Option.{option_map, IfSome}
use Rattle.std.specs.declared.option.Option.TheVariants.{None}
use Rattle.std.proofs.lemmas.Bool.{cond-true}
use Rattle.std.proofs.lemmas.Slice.Eq.{bytes_eq-Decides}
use Rattle.event_bytes.specs.declared.keys.Keys.{Keys}
use Rattle.script_lines.specs.declared.request.Request.{Request}
use Rattle.script_lines.specs.declared.request.Request.TheVariants.{Malformed}
use Rattle.script_lines.specs.Words.{first_word, argument}
use Rattle.script_lines.specs.Request.{command_of, is_readable, request_of, point_of, pointing}

abbrev Drag : Type 0
Drag = Keys × ℕ × ℕ × ℕ × ℕ

points : (text : List ℕ) → unwrap_or (command_of (codes "point") (Some text)) Malformed ≡ unwrap_or (point_of text) Malformed
unfolding command_of
points text = refl

asked : (line name text : List ℕ) → is_readable line ≡ true → name ≡ first_word line → Some text ≡ argument line
    → bytes_eq name (codes "point") ≡ true → request_of line ≡ unwrap_or (point_of text) Malformed
unfolding request_of
asked line name text readable first rest points_there =
    cond-true (is_readable line) _ Malformed readable
    ∙ ap (λ (argument : Option (List ℕ)). unwrap_or (command_of (first_word line) argument) Malformed) (sym rest)
    ∙ ap (λ (word : List ℕ). unwrap_or (command_of word (Some text)) Malformed)
    (sym first ∙ (bytes_eq-Decides name (codes "point")).0 points_there)
    ∙ points text

-- what such a line asks for
pub pointed_line : (line name text : List ℕ) (drag : Option Drag) → is_readable line ≡ true → name ≡ first_word line
    → Some text ≡ argument line → bytes_eq name (codes "point") ≡ true → option_map pointing drag ≡ point_of text
    → IfSome drag (λ drag. request_of line ≡ pointing drag)
pointed_line line name text None readable first rest points_there is = tt
pointed_line line name text (Some drag) readable first rest points_there is =
    asked line name text readable first rest points_there
    ∙ ap (λ (found : Option Request). unwrap_or found Malformed) (sym is)
