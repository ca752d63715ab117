use Rattle.std.proofs.Common.{rules, ◌+◌, ◌<◌, ◌≤◌, ◌∙◌, List, length, ap, sym, subst, arith}
use Rattle.std.proofs.lemmas.Bool.{eqb-true, eqb-false}
use Rattle.piece_ring.specs.declared.piece.Piece.{Piece}
use Rattle.piece_ring.specs.Flat.{flat}
use Rattle.piece_ring.specs.Text.{AreWithin}
use Rattle.desktop_definitions.specs.Limits.{no_selection, not_found}
use Rattle.desktop_definitions.specs.Viewers.{viewer_or_none, kept_main}
use Rattle.desktop_definitions.specs.Effects.{after_search}
use Rattle.desktop_definitions.proofs.RowLaws.{known_no_selection, over_built}
use Rattle.desktop_definitions.specs.Sound.{IsBuilt}
use Rattle.desktop_definitions.proofs.RowPartLaws.{text_within}
use Rattle.desktop_definitions.proofs.RowLaws.{known_not_found}
use Rattle.desktop_definitions.proofs.SearchLaws.{searched_none, searched_lost, search_answered}
use Rattle.desktop_definitions.proofs.SearchLaws.{start_within, found_as}
use Rattle.desktop_definitions.proofs.KeyLaws.{main_small}
use Rattle.desk_core.specs.Kept.{kept_desktop}
use Rattle.desk_commands.proofs.ReadFirst.{refused_after}
use Rattle.char_file.proofs.Reading.{read_on}
use Rattle.desk_commands.proofs.searches.search.Goals as goal

pub returns-then-is_empty : goal.returns-then-is_empty
returns-then-is_empty g c = record {
  answered =
      let s = g.S.CharSource in
      let old = s.characters c.args.source.now in
      let d = kept_desktop c.args.desk.now in
      let pattern = c.in_ok-pattern in
      refused_after s (λ x. after_search x c.args.id) no_selection _ _ d pattern.ensures.told.reads c.requires.over
      known_no_selection
      (λ h. searched_none old d c.args.id pattern.pattern.items (pattern.ensures.told.exact h)
      (eqb-true _ _ (sym c.is_empty.ensures ∙ c.if-is_empty.true)));
  uses = search (rules, g.met.S.CharSource.ground_self, g.met.S.CharSource.ground_through);
}

pub found_at-requires-clause-place : goal.found_at-requires-clause-place
found_at-requires-clause-place g c =
    let old = g.S.CharSource.characters c.args.source.now in
    let d = kept_desktop c.args.desk.now in
    let low = start_within (length old) d c.args.id (over_built old d c.requires.over) in
    let same = ap (λ (b : List Piece). length (flat b)) c.main_text-text.ensures in
    omega (arith, low, same, c.start_in-start.ensures)

pub found_at-requires-clause-offsets : goal.found_at-requires-clause-offsets
found_at-requires-clause-offsets g c =
    let old = g.S.CharSource.characters c.args.source.now in
    let d = kept_desktop c.args.desk.now in
    let within = subst (λ (b : List Piece). AreWithin (length old) (flat b)) (sym c.main_text-text.ensures)
    (text_within (length old) d (viewer_or_none d.viewers c.args.id).main (over_built old d c.requires.over).within) in
    subst (λ n. AreWithin n (flat c.main_text-text.result.now)) (sym c.in_ok-pattern.ensures.told.reads.as_long) within

pub returns-in_default : goal.returns-in_default
returns-in_default g c = record {
  answered =
      let s = g.S.CharSource in
      let old = s.characters c.args.source.now in
      let d = kept_desktop c.args.desk.now in
      let first = c.in_ok-pattern.ensures.told.reads in
      let pattern = c.in_ok-pattern.pattern.items in
      let none = eqb-false _ _ (sym c.is_empty.ensures ∙ c.if-is_empty.false) in
      let some : 0 < length pattern = omega (arith, none) in
      refused_after s (λ x. after_search x c.args.id) not_found _ _ d
      (read_on s.characters s.failures s.honest s.same_ground g.met.S.CharSource.ground_through _ _ _ first
      c.in_ok-pos.ensures.reads) c.requires.over known_not_found
      (λ h. searched_lost old d c.args.id pattern (c.in_ok-pattern.ensures.told.exact h) some
      (found_as (s.characters c.pattern_after.new.source) old c.main_text-text.result.now (kept_main d c.args.id)
      c.as_slice.result.now pattern c.start_in-start.result c.args.id d.caret c.in_ok-pos.field-0 (first.same h)
      c.main_text-text.ensures c.as_slice.ensures.value c.start_in-start.ensures
      (c.in_ok-pos.ensures.found (first.still h)) ∙ c.in_default.is));
  uses = search (rules, g.met.S.CharSource.ground_self, g.met.S.CharSource.ground_through);
}

pub overflow_add-pos : goal.overflow_add-pos
overflow_add-pos g c =
    let old = g.S.CharSource.characters c.args.source.now in
    let d = kept_desktop c.args.desk.now in
    let low : c.in-Some.pos + length c.as_slice.result.now ≤ length (flat c.main_text-text.result.now) =
    rw c.in-Some.is at c.in_ok-pos.ensures.within in
    let small = main_small old d c.args.id c.requires.over in
    let same = ap (λ (b : List Piece). length (flat b)) c.main_text-text.ensures in
    let slice = ap length c.as_slice.ensures.value in
    omega (arith, low, small, same, slice, c.len.ensures.value)

pub show_caret-requires-clause-built : goal.show_caret-requires-clause-built
show_caret-requires-clause-built g c =
    let old = g.S.CharSource.characters c.args.source.now in
    let d = kept_desktop c.args.desk.now in
    subst (λ n. IsBuilt n d) (sym (c.in_ok-pos.ensures.reads.as_long ∙ c.in_ok-pattern.ensures.told.reads.as_long))
    (over_built old d c.requires.over)

pub returns : goal.returns
returns g c = record {
  answered =
      let s = g.S.CharSource in
      let old = s.characters c.args.source.now in
      let d = kept_desktop c.args.desk.now in
      let first = c.in_ok-pattern.ensures.told.reads in
      let second = c.in_ok-pos.ensures.reads in
      let third = c.in_ok-show_caret.ensures.reads in
      let pattern = c.in_ok-pattern.pattern.items in
      let none = eqb-false _ _ (sym c.is_empty.ensures ∙ c.if-is_empty.false) in
      let some : 0 < length pattern = omega (arith, none) in
      search_answered (s.honest c.args.source.now) (s.honest c.found_at.new.source) old
      (s.characters c.found_at.new.source) (s.characters c.show_caret.new.source) d (kept_desktop c.show_caret.new.self) c.args.id
      c.in-Some.pos c.len.result pattern c.requires.over (λ h. second.still (first.still h))
      (second.as_long ∙ first.as_long) (λ h. second.same (first.still h) ∙ first.same h) third.as_long third.same
      c.in_ok-pattern.ensures.few some c.len.ensures.value c.in_ok-pattern.ensures.told.exact
      (λ h. found_as (s.characters c.pattern_after.new.source) old c.main_text-text.result.now (kept_main d c.args.id)
      c.as_slice.result.now pattern c.start_in-start.result c.args.id d.caret c.in_ok-pos.field-0 (first.same h)
      c.main_text-text.ensures c.as_slice.ensures.value c.start_in-start.ensures
      (c.in_ok-pos.ensures.found (first.still h)) ∙ c.in-Some.is) c.in_ok-show_caret.ensures.changed;
  uses = search (rules, g.met.S.CharSource.ground_self, g.met.S.CharSource.ground_through);
}
