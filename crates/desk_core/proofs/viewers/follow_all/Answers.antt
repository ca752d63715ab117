use Rattle.std.proofs.Common.{◌≡◌, ℕ, length, ap, arith, ◌∙◌}
use Rattle.std.specs.Prelude.{slice_set}
use Rattle.std.proofs.lemmas.List.Edits.{map_over_more}
use Rattle.char_file.proofs.Reading.{read_on}
use Rattle.piece_ring.specs.Flat.{flat}
use Rattle.readers_scanners.specs.Reading.{bytes_of_text}
use Rattle.desktop_definitions.specs.declared.viewer.Viewer.{Viewer}
use Rattle.desktop_definitions.specs.Change.{following_viewer}
use Rattle.desk_core.proofs.ViewerLemmas.{moved_more}
use Rattle.desk_core.proofs.viewers.follow_all.Goals as goal

pub loop-at-preserved : goal.loop-at-preserved
loop-at-preserved g c =
    let s = g.S.CharSource in
    let i = c.loop-at.invariant in
    let text = flat c.args.text.now in
    let change = c.args.change in
    let olds = c.args.viewers.now.items in
    let nows = c.loop-at.viewers.items in
    let at = c.loop-at.at in
    let old = c.index_mut-entry.result.now in
    let test = c.loop-at-test.true in
    let size = c.len-at-end.ensures in
    let long = i.moved.as_long in
    record {
      moved = moved_more change.number (length text) at olds nows old c.follow.new.entry i.moved
          (omega (arith, test, size, long)) c.index_mut-entry.ensures.value c.in_ok-follow.ensures.moved;
      exact = λ h.
          let f : ℕ × Viewer → ℕ × Viewer = λ e. (
            e.0,
            following_viewer change.number (bytes_of_text (s.characters c.args.source.now) text) change.pos change.more change.fewer
                e.1,
          ) in
          let is : c.follow.new.entry ≡ f old =
          rw (i.reads.same h) at (c.in_ok-follow.ensures.exact (i.reads.still h)) in
          ap (λ (x : ℕ × Viewer). slice_set nows at x) is
          ∙ map_over_more f olds nows at old (omega (arith, test, size)) (i.exact h) c.index_mut-entry.ensures.value;
      reads = read_on s.characters s.failures s.honest s.same_ground g.met.S.CharSource.ground_through _ _ _ i.reads
          c.in_ok-follow.ensures.reads;
      calm = c.in_ok-follow.ensures.cause ∙ i.calm;
    }
