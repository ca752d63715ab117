use Rattle.std.proofs.Common.{◌∙◌, ℕ, List, length, sym, subst}
use Rattle.std.specs.Prelude.{All, ◌<◌, ◌≤◌}
use Rattle.std.specs.List.{slice_index_or}
use Rattle.char_file.proofs.Reading.{read_on}
use Rattle.desktop_definitions.specs.declared.viewer.Viewer.{Viewer}
use Rattle.desktop_definitions.specs.Seen.{seen}
use Rattle.desk_core.specs.Kept.{kept_desktop}
use Rattle.desk_views.specs.Views.{AreThere}
use Rattle.desk_views.specs.Losses.{is_rival}
use Rattle.desk_views.proofs.Painted.{all_there}
use Rattle.desk_views.proofs.RivalLemmas.{any_here, none_from, no_entry}
use Rattle.desk_views.proofs.rivals.has_rival.Goals as goal

pub is_rival-requires-clause-there : goal.is_rival-requires-clause-there
is_rival-requires-clause-there g c =
    let d = kept_desktop c.args.desk.now in
    subst (All (AreThere d)) (sym c.as_slice-viewers.ensures.value) (all_there d c.requires.whole) c.loop-at.at _
    c.loop-at-test.true

pub returns-then-rivals : goal.returns-then-rivals
unfolding seen
returns-then-rivals g c =
    let s = g.S.CharSource in let d = kept_desktop c.args.desk.now in let before = c.loop-at.invariant in
    let value = c.as_slice-viewers.ensures.value in
    record {
      exact = λ h. any_here (is_rival (seen (s.characters c.args.source.now) d) c.args.number c.args.name.now)
          d.viewers c.loop-at.at no_entry c.in_ok-rivals.rivals
          (subst (λ (l : List (ℕ × Viewer)). c.loop-at.at < length l) value c.loop-at-test.true) (before.so_far h)
          (c.in_ok-rivals.ensures.exact (before.reads.still h)
          ∙ (λ k. is_rival (seen (before.reads.same h k) d) c.args.number c.args.name.now
          (slice_index_or (value k) c.loop-at.at no_entry)))
          c.if-rivals.true;
      reads = read_on s.characters s.failures s.honest s.same_ground g.met.S.CharSource.ground_through _ _ _ before.reads
          c.in_ok-rivals.ensures.reads;
      cause = c.in_ok-rivals.ensures.cause ∙ before.calm;
    }

pub returns : goal.returns
unfolding seen
returns g c =
    let s = g.S.CharSource in let d = kept_desktop c.args.desk.now in let before = c.loop-at.invariant in
    record {
      exact = λ h. sym (before.so_far h
          ∙ none_from (is_rival (seen (s.characters c.args.source.now) d) c.args.number c.args.name.now) d.viewers c.loop-at.at
          (subst (λ (l : List (ℕ × Viewer)). length l ≤ c.loop-at.at) c.as_slice-viewers.ensures.value c.loop-at-test.false));
      reads = before.reads;
      cause = before.calm;
    }
