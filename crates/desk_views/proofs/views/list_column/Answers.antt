use Rattle.std.proofs.Common.{◌≡◌, ◌∙◌, ◌++◌, ◌+◌, List, length, map, ap, refl, arith, inl}
use Rattle.std.proofs.lemmas.Result.{err_from_is_err_and}
use Rattle.viewer_tracks.specs.Columns.{stack_of, track_on}
use Rattle.desktop_definitions.specs.declared.entry.Entry.{Entry}
use Rattle.desktop_definitions.specs.Listing.{track_entries}
use Rattle.desktop_definitions.specs.Unread.{without_name}
use Rattle.desktop_definitions.specs.Seen.{seen}
use Rattle.desk_core.specs.Kept.{kept_desktop}
use Rattle.desk_views.proofs.Listed.{lowest_entries, all_tracks, listed_track, told_track, none_listed, reads_then}
use Rattle.desk_views.proofs.views.list_column.Goals as goal

pub loop-below-init : goal.loop-below-init
loop-below-init g c = none_listed g.S.CharSource g.met.S.CharSource.ground_self _ _ _ _ _ (λ x. refl) (λ x. refl)

pub list_level-requires-clause-over : goal.list_level-requires-clause-over
list_level-requires-clause-over g c = record {
  counted = c.loop-below.invariant.reads.as_long ∙ c.requires.counted;
  whole = c.requires.whole;
}

pub loop-below-preserved : goal.loop-below-preserved
loop-below-preserved g c =
    let C = g.S.CharSource in
    let i = c.loop-below.invariant in
    let e = c.in_ok-list_level.ensures in
    let d = kept_desktop c.args.desk.now in
    let k = c.args.track in
    let n = c.loop-below.below in
    let characters = C.characters c.args.source.now in
    let stack = stack_of d.columns k in
    record {
      reads = reads_then C g.met.S.CharSource.ground_through _ _ _ i.reads e.reads;
      calm = e.faults.calm (λ wrong. absurd cc) ∙ i.calm;
      so_far = λ honest.
          listed_track (seen characters d) k stack n c.args.entries.now.items c.loop-below.entries.items
          c.list_over.new.entries.items c.list_level.new.entries.items c.in_ok-list_over.ensures (i.so_far honest)
          (e.entries (i.reads.still honest)
          ∙ (λ j. c.list_over.new.entries.items
          ++ track_entries (seen (i.reads.same honest j) d) k (track_on stack (n + 1))));
      unread = λ all long.
          told_track (seen all d) k stack n c.args.entries.now.items c.loop-below.entries.items
          c.list_over.new.entries.items c.list_level.new.entries.items c.in_ok-list_over.ensures without_name
          (i.unread all long) (e.unread all long);
    }

pub returns-in_err-list_over-clause-faults : goal.returns-in_err-list_over-clause-faults
returns-in_err-list_over-clause-faults g c =
    let p = err_from_is_err_and c.from_residual.result c.from_residual.ensures.1 in
    rw (p.1, p.2) (record {
      rose = λ wrong. absurd (cc wrong);
      calm = λ other. c.loop-below.invariant.calm;
      errors = inl refl;
    })

pub returns-in_err-list_level-clause-reads : goal.returns-in_err-list_level-clause-reads
returns-in_err-list_level-clause-reads g c =
    reads_then g.S.CharSource g.met.S.CharSource.ground_through _ _ _ c.loop-below.invariant.reads
    c.in_err-list_level.ensures.reads

pub returns-clause-entries : goal.returns-clause-entries
unfolding seen
returns-clause-entries g c = λ honest.
    let d = kept_desktop c.args.desk.now in
    let k = c.args.track in
    let x = seen (g.S.CharSource.characters c.args.source.now) d in
    let stack = stack_of d.columns k in
    let last : c.loop-below.below ≡ length stack = omega (arith, c.levels-below-end.ensures.depth) in
    c.loop-below.invariant.so_far honest
    ∙ ap (λ (l : List Entry). c.args.entries.now.items ++ l)
    (ap (λ n. lowest_entries x k stack n) last ∙ all_tracks x k stack)

pub returns-clause-unread : goal.returns-clause-unread
unfolding seen
returns-clause-unread g c = λ all long.
    let d = kept_desktop c.args.desk.now in
    let k = c.args.track in
    let x = seen all d in
    let stack = stack_of d.columns k in
    let last : c.loop-below.below ≡ length stack = omega (arith, c.levels-below-end.ensures.depth) in
    c.loop-below.invariant.unread all long
    ∙ ap (λ (l : List Entry). map without_name c.args.entries.now.items ++ map without_name l)
    (ap (λ n. lowest_entries x k stack n) last ∙ all_tracks x k stack)
