use Rattle.std.proofs.Common.{◌∙◌, ◌++◌, List, map, sym, ap, refl, arith, [], ◌∷◌, Option}
use Rattle.std.specs.Option.{option_map}
use Rattle.std.proofs.lemmas.List.{map-append}
use Rattle.std.proofs.lemmas.Simd.{map-map}
use Rattle.desktop_definitions.specs.declared.entry.Entry.{Entry}
use Rattle.viewer_tracks.specs.Viewers.{Entry as Standing}
use Rattle.viewer_tracks.specs.Columns.{stack_of, track_on}
use Rattle.desk_views.proofs.Listed.{none_listed, reads_then}
use Rattle.desktop_definitions.specs.Listing.{viewer_entry}
use Rattle.desktop_definitions.specs.Unread.{without_name}
use Rattle.desktop_definitions.specs.Seen.{seen}
use Rattle.desktop_definitions.proofs.ViewLaws.{listed_more, listed_all}
use Rattle.desk_core.specs.Kept.{kept_desktop}
use Rattle.desk_views.proofs.views.list_level.Goals as goal

pub loop-index-init : goal.loop-index-init
loop-index-init g c = none_listed g.S.CharSource g.met.S.CharSource.ground_self _ _ _ _ _ (λ x. refl) (λ x. refl)

pub entry_of-requires-clause-over : goal.entry_of-requires-clause-over
entry_of-requires-clause-over g c = record {
  counted = c.loop-index.invariant.reads.as_long ∙ c.requires.over.counted;
  whole = c.requires.over.whole;
}

pub loop-index-preserved : goal.loop-index-preserved
loop-index-preserved g c =
    let d = kept_desktop c.args.desk.now in
    let C = g.S.CharSource in
    let characters = C.characters c.args.source.now in
    let i = c.loop-index.invariant in
    let e = c.in_ok-entry.ensures in
    let standing = track_on (stack_of d.columns c.args.track) c.args.level in
    let v = c.entry_in.result.0.0 in
    let here = sym (ap (λ (o : Option Standing). option_map (λ (x : Standing). x.viewer) o) c.entry_in.ensures.entry) in
    let entry = viewer_entry (seen characters d) c.args.track in
    record {
      reads = reads_then C g.met.S.CharSource.ground_through _ _ _ i.reads e.reads;
      calm = e.faults.calm (λ wrong. absurd cc) ∙ i.calm;
      so_far = λ honest.
          listed_more entry standing c.loop-index.index v c.args.entries.now.items
          c.loop-index.entries.items c.push.new.self.items c.in_ok-entry.entry here (i.so_far honest)
          (e.entry (i.reads.still honest)
          ∙ (λ k. viewer_entry (seen (i.reads.same honest k) d) c.args.track v))
          c.in_ok-push.ensures.items;
      unread = λ all long.
          listed_more (λ v. without_name (viewer_entry (seen all d) c.args.track v)) standing
          c.loop-index.index v (map without_name c.args.entries.now.items)
          (map without_name c.loop-index.entries.items) (map without_name c.push.new.self.items)
          (without_name c.in_ok-entry.entry) here (i.unread all long) (e.unread all long)
          (ap (map without_name) c.in_ok-push.ensures.items
          ∙ map-append without_name c.loop-index.entries.items (c.in_ok-entry.entry ∷ []));
    }

pub returns-clause-entries : goal.returns-clause-entries
unfolding seen
returns-clause-entries g c = λ honest.
    let d = kept_desktop c.args.desk.now in
    let standing = track_on (stack_of d.columns c.args.track) c.args.level in
    let entry = viewer_entry (seen (g.S.CharSource.characters c.args.source.now) d) c.args.track in
    listed_all entry standing c.loop-index.index c.args.entries.now.items c.loop-index.entries.items
    (omega (arith, c.count-index-end.ensures.count)) (c.loop-index.invariant.so_far honest)

pub returns-clause-unread : goal.returns-clause-unread
unfolding seen
returns-clause-unread g c = λ all long.
    let d = kept_desktop c.args.desk.now in
    let standing = track_on (stack_of d.columns c.args.track) c.args.level in
    let entry = viewer_entry (seen all d) c.args.track in
    listed_all (λ v. without_name (entry v)) standing c.loop-index.index (map without_name c.args.entries.now.items)
    (map without_name c.loop-index.entries.items) (omega (arith, c.count-index-end.ensures.count))
    (c.loop-index.invariant.unread all long)
    ∙ ap (λ (l : List Entry). map without_name c.args.entries.now.items ++ l)
    (sym (map-map without_name (λ (e : Standing). entry e.viewer) standing))

pub returns-in_err-push-clause-reads : goal.returns-in_err-push-clause-reads
returns-in_err-push-clause-reads g c =
    reads_then g.S.CharSource g.met.S.CharSource.ground_through _ _ _ c.loop-index.invariant.reads
    c.in_ok-entry.ensures.reads
