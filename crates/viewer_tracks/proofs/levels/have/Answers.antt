use Rattle.std.proofs.Common.{◌≡◌, ◌<◌, ◌+◌, ℕ, suc, take, ap, sym, ◌∙◌, subst, add-one, arith}
use Rattle.viewer_tracks.specs.Columns.{times_on}
use Rattle.viewer_tracks.specs.Levels.{stack_over}
use Rattle.viewer_tracks.proofs.LevelLemmas.{any_times, times_any, times-first_tracks}
use Rattle.viewer_tracks.proofs.levels.have.Goals as goal

pub returns : goal.returns
returns c =
    let ts = c.args.tracks.now in
    let top = c.args.top in
    let v = c.args.viewer.0 in
    let inside = c.requires in
    let same : times_on v (take (top + 1) ts) ≡ times_on v (stack_over ts top) =
    ap (λ n. times_on v (take n ts)) (add-one top) ∙ sym (times-first_tracks v ts (suc top) (omega (arith, inside))) in (
      λ yes. subst (λ (n : ℕ). 0 < n) same (any_times v (take (top + 1) ts) (c.any_has.ensures.0 yes)),
      λ some. c.any_has.ensures.1 (times_any v (take (top + 1) ts) (subst (λ (n : ℕ). 0 < n) (sym same) some)),
    )
