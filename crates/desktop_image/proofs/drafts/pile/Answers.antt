use Rattle.std.proofs.Common.{◌∙◌, ◌+◌, ℕ, ap, subst, sym, arith, get_or, append-nil}
use Rattle.viewer_tracks.specs.Columns.{after_open, IsPlaced, shown_track, with_shown}
use Rattle.image_format.specs.declared.picture.Stretch.{Stretch}
use Rattle.desktop_image.proofs.DraftLemmas.{as_shown, full_to, rows_fit, not_there, piled, height_more}
use Rattle.desktop_image.proofs.drafts.pile.Goals as goal

abbrev none : Stretch
none = record { viewer = 0; height = 0 }

pub loop-stretch-init : goal.loop-stretch-init
loop-stretch-init c =
    let t = shown_track c.args.tracks.now c.args.track in
    record {
      tracks = as_shown c.args.tracks.now c.args.track c.requires.sound
          ∙ ap (with_shown c.args.tracks.now c.args.track) (sym (append-nil t));
      top = c.requires.bottom ∙ full_to t;
      sound = c.requires.sound;
    }

pub overflow_add-top : goal.overflow_add-top
overflow_add-top c =
    let fits = rows_fit c.args.tracks.now c.args.track c.args.stretches.now c.loop-stretch.stretch-index none
    c.loop-stretch-test.true c.requires.heights in
    let top = c.loop-stretch.invariant.top in
    omega (arith, fits, top)

pub open-requires-clause-fresh : goal.open-requires-clause-fresh
open-requires-clause-fresh c =
    let v = (get_or c.args.stretches.now c.loop-stretch.stretch-index none).viewer in
    subst (λ t. ¬ IsPlaced v t) (sym c.loop-stretch.invariant.tracks)
    (not_there c.args.tracks.now c.args.track c.args.stretches.now c.loop-stretch.stretch-index none
    c.loop-stretch-test.true c.requires.sound (c.requires.once v))

pub loop-stretch-preserved : goal.loop-stretch-preserved
loop-stretch-preserved c =
    let ss = c.args.stretches.now in
    let i = c.loop-stretch.stretch-index in
    let low = c.loop-stretch-test.true in
    let before = c.loop-stretch.invariant in
    let v = (get_or ss i none).viewer in
    let h = (get_or ss i none).height in
    record {
      tracks = c.open.ensures.opened
          ∙ (λ k. after_open (before.tracks k) v (c.left.ensures k) (before.top k + h))
          ∙ piled c.args.tracks.now c.args.track ss i none low c.requires.heights;
      top = ap (λ (n : ℕ). n + h) before.top ∙ sym (height_more c.args.tracks.now c.args.track ss i none low);
      sound = c.open.ensures.sound;
    }
