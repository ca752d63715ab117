use Rattle.std.proofs.Common.{rules, ◌≤◌, ◌∙◌, List, length, take, ap, sym, subst, arith}
use Rattle.std.specs.Prelude.{slice_range}
use Rattle.std.proofs.lemmas.Result.{IfOk-weaker}
use Rattle.piece_ring.specs.declared.piece.Piece.{Piece}
use Rattle.piece_ring.specs.Flat.{flat}
use Rattle.piece_ring.specs.Text.{AreWithin}
use Rattle.readers_scanners.specs.Reading.{bytes_of_text}
use Rattle.desktop_definitions.specs.Limits.{most_pattern}
use Rattle.desktop_definitions.specs.Viewers.{viewer_or_none}
use Rattle.desktop_definitions.proofs.RowLaws.{over_built}
use Rattle.desktop_definitions.proofs.RowPartLaws.{kept_newest, text_within}
use Rattle.desktop_definitions.proofs.SearchLaws.{pattern_old, pattern_selected}
use Rattle.desk_core.specs.Kept.{kept_desktop}
use Rattle.desk_commands.proofs.searches.pattern_after.Goals as goal

pub returns-in_default-clause-told : goal.returns-in_default-clause-told
returns-in_default-clause-told g c = record {
  exact =
      λ h. c.copied.ensures ∙ c.as_slice.ensures.value
      ∙ pattern_old (g.S.CharSource.characters c.args.source.now) (kept_desktop c.args.desk.now)
      (sym c.newest.ensures ∙ c.in_default.is);
  reads = search (rules, g.met.S.CharSource.ground_self);
  cause = search rules;
}

pub main_text-text-requires-clause-placed : goal.main_text-text-requires-clause-placed
main_text-text-requires-clause-placed g c =
    let old = g.S.CharSource.characters c.args.source.now in
    let d = kept_desktop c.args.desk.now in
    (kept_newest _ d c.in-Some.selection (over_built old d c.requires.over) (sym c.newest.ensures ∙ c.in-Some.is)).0

pub first_bytes-requires-clause-order : goal.first_bytes-requires-clause-order
first_bytes-requires-clause-order g c =
    let old = g.S.CharSource.characters c.args.source.now in
    let d = kept_desktop c.args.desk.now in
    let some = (kept_newest _ d c.in-Some.selection (over_built old d c.requires.over)
    (sym c.newest.ensures ∙ c.in-Some.is)).1 in
    omega (arith, some)

pub first_bytes-requires-clause-within : goal.first_bytes-requires-clause-within
first_bytes-requires-clause-within g c =
    let old = g.S.CharSource.characters c.args.source.now in
    let d = kept_desktop c.args.desk.now in
    subst (λ (b : List Piece). c.in-Some.selection.end ≤ length (flat b)) (sym c.main_text-text.ensures)
    (kept_newest _ d c.in-Some.selection (over_built old d c.requires.over) (sym c.newest.ensures ∙ c.in-Some.is)).2

pub first_bytes-requires-clause-offsets : goal.first_bytes-requires-clause-offsets
first_bytes-requires-clause-offsets g c =
    let old = g.S.CharSource.characters c.args.source.now in
    let d = kept_desktop c.args.desk.now in
    subst (λ (b : List Piece). AreWithin (length old) (flat b)) (sym c.main_text-text.ensures)
    (text_within (length old) d (viewer_or_none d.viewers c.in-Some.selection.viewer).main
    (over_built old d c.requires.over).within)

pub returns-clause-told : goal.returns-clause-told
returns-clause-told g c = record {
  exact =
      let old = g.S.CharSource.characters c.args.source.now in
      let d = kept_desktop c.args.desk.now in
      let s = c.in-Some.selection in
      IfOk-weaker c.first_bytes.result _ _
      (λ pattern is h. is h
      ∙ ap (λ (b : List Piece). take most_pattern (slice_range (bytes_of_text old (flat b)) s.beg s.end))
      c.main_text-text.ensures
      ∙ pattern_selected old d s (sym c.newest.ensures ∙ c.in-Some.is)) c.first_bytes.ensures.bytes;
  reads = c.first_bytes.ensures.reads;
  cause = c.first_bytes.ensures.cause;
}
