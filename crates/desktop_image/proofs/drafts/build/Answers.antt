use Rattle.std.proofs.Common.{◌∷◌, ◌++◌, ◌∙◌, ◌<◌, List, length, ap, subst, sym, arith}
use Rattle.std.specs.Prelude.{reverse}
use Rattle.std.proofs.lemmas.List.{length-map, take_all}
use Rattle.viewer_tracks.specs.declared.display.TheConstants.{DEPTH}
use Rattle.viewer_tracks.specs.Viewers.{Entry, times_in}
use Rattle.viewer_tracks.specs.Columns.{Columns, shown_track, with_shown, stack_of, with_stack, times_placed}
use Rattle.image_format.specs.Pictures.{entry_of_stretch, track_of_stretches, stack_of_stretches as levels_of}
use Rattle.desktop_image.specs.Images.{Levels}
use Rattle.desktop_image.proofs.Building.{some_levels, lowest_heights, lowest_bottom, lowest_once, lowest_built, room}
use Rattle.desktop_image.proofs.Building.{track_there, some_there, once_more, built_more}
use Rattle.desktop_image.proofs.drafts.build.Goals as goal

pub on_level-requires : goal.on_level-requires
on_level-requires c =
    let some = some_levels _ _ _ c.requires.can in
    let same = length-map {B = List Entry} c.args.stack.now track_of_stretches in
    omega (arith, some, same)

pub pile-requires-clause-heights : goal.pile-requires-clause-heights
pile-requires-clause-heights c = rw c.on_level.ensures.viewers (lowest_heights _ _ _ c.requires.can)

pub pile-requires-clause-bottom : goal.pile-requires-clause-bottom
pile-requires-clause-bottom c = lowest_bottom _ _ _ c.requires.can

pub pile-requires-clause-once : goal.pile-requires-clause-once
pile-requires-clause-once c = λ v. rw c.on_level.ensures.viewers (lowest_once _ _ _ c.requires.can v)

pub loop-level-init : goal.loop-level-init
loop-level-init c =
    let t = c.args.tracks.now in
    let k = c.args.track in
    record {
      tracks = c.pile.ensures.piled
          ∙ ap (λ (l : List Entry). with_shown t k (shown_track t k ++ l)) c.on_level.ensures.viewers
          ∙ lowest_built _ _ _ c.requires.can;
      sound = c.pile.ensures.sound;
    }

pub lay-requires-clause-some : goal.lay-requires-clause-some
lay-requires-clause-some c =
    let level = c.on_level-in-loop-level in
    let from = c.loop-level.auto.level in
    let long = ap length level.ensures.viewers in
    let entries = length-map {B = Entry} level.result.now entry_of_stretch in
    let some = some_there _ _ _ c.requires.can c.loop-level.level (omega (arith, from)) level.ensures.within in
    omega (arith, long, entries, some)

pub lay-requires-clause-room : goal.lay-requires-clause-room
lay-requires-clause-room c = subst (λ (x : Columns). length (stack_of x c.args.track) < DEPTH)
    (sym c.loop-level.invariant.tracks)
    (room _ _ _ c.requires.can c.loop-level.level c.on_level-in-loop-level.ensures.within)

pub lay-requires-clause-heights : goal.lay-requires-clause-heights
lay-requires-clause-heights c =
    let level = c.on_level-in-loop-level.ensures in
    rw level.viewers (track_there _ _ _ c.requires.can c.loop-level.level level.within)

pub lay-requires-clause-once : goal.lay-requires-clause-once
lay-requires-clause-once c = λ v.
    let level = c.on_level-in-loop-level.ensures in
    let here = ap (times_in v) level.viewers in
    let placed = ap (times_placed v) c.loop-level.invariant.tracks in
    let one = once_more _ _ _ c.requires.can c.loop-level.level level.within v in
    omega (arith, here, placed, one)

pub loop-level-preserved : goal.loop-level-preserved
loop-level-preserved c =
    let k = c.args.track in
    let level = c.on_level-in-loop-level.ensures in
    let before = c.loop-level.invariant.tracks in
    record {
      tracks = c.lay.ensures.laid
          ∙ (λ i. with_stack (before i) k (level.viewers i ∷ stack_of (before i) k))
          ∙ built_more c.args.tracks.now k (levels_of c.args.stack.now) c.loop-level.level level.within;
      sound = c.lay.ensures.sound;
    }

pub returns-clause-built : goal.returns-clause-built
returns-clause-built c =
    let stack = c.args.stack.now in
    let same = length-map {B = List Entry} stack track_of_stretches in
    let past = c.loop-level-test.false in
    c.loop-level.invariant.tracks
    ∙ ap (λ (l : Levels). with_stack c.args.tracks.now c.args.track (reverse l))
    (take_all c.loop-level.level (levels_of stack) (omega (arith, past, same)))
