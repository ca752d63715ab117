use Rattle.std.proofs.Common.{◌∙◌, ap, arith}
use Rattle.std.specs.Prelude.{reverse}
use Rattle.viewer_tracks.specs.declared.display.Track.TheVariants.{User, System}
use Rattle.viewer_tracks.specs.Columns.{Columns, stack_of, times_placed, with_stack}
use Rattle.image_format.specs.Pictures.{stack_of_stretches as levels_of}
use Rattle.desktop_image.proofs.Stacks.{times_reversed, nothing_placed}
use Rattle.desktop_image.proofs.drafts.tracks_of.Goals as goal

pub build-requires-clause-can : goal.build-requires-clause-can
build-requires-clause-can c = record {
  empty = ap (λ (t : Columns). stack_of t User) c.new-tracks.ensures.empty;
  stack = c.requires.user;
  once = λ v.
      let once = c.requires.once v in
      let none = nothing_placed v in
      let placed = ap (times_placed v) c.new-tracks.ensures.empty in
      omega (arith, once, none, placed);
}

pub build-requires-2-clause-can : goal.build-requires-2-clause-can
build-requires-2-clause-can c =
    let user = levels_of c.args.user.now in
    let now = c.build.ensures.built
    ∙ ap (λ (t : Columns). with_stack t User (reverse user)) c.new-tracks.ensures.empty in
    record {
      empty = ap (λ (t : Columns). stack_of t System) now;
      stack = c.requires.system;
      once = λ v.
          let once = c.requires.once v in
          let none = nothing_placed v in
          let turned = times_reversed v user in
          let placed = ap (times_placed v) now in
          omega (arith, once, none, turned, placed);
    }
