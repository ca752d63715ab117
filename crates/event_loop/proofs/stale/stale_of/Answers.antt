use Rattle.std.proofs.Common.{refl, ap, ◌∙◌}
use Rattle.desk_core.specs.Kept.{kept_desktop}
use Rattle.desk_input.specs.Stale.{stale_of, stale_by_key}
use Rattle.event_loop.proofs.StaleLemmas.{stale_there}
use Rattle.event_loop.proofs.stale.stale_of.Goals as goal

pub returns-in-Typed : goal.returns-in-Typed
unfolding stale_of
returns-in-Typed c = rw c.in-Typed.is c.stale_at_caret.ensures

pub returns-in-Key : goal.returns-in-Key
unfolding stale_of
returns-in-Key c =
    let d = kept_desktop c.args.desk.now in
    rw c.in-Key.is (c.stale_by_key.ensures
    ∙ ap (λ latest. stale_by_key d.viewers d.caret latest c.in-Key.key) c.newest.ensures)

pub returns-in-Mark : goal.returns-in-Mark
unfolding stale_of
returns-in-Mark c = rw c.in-Mark.is refl

pub returns-in-Point : goal.returns-in-Point
unfolding stale_of
returns-in-Point c =
    rw c.in-Point.is (stale_there (kept_desktop c.args.desk.now) _ _ _ _ _ (rw c.in-Point.is at c.requires)
    c.stale_by_point.ensures)

pub returns-in-File : goal.returns-in-File
unfolding stale_of
returns-in-File c = rw c.in-File.is refl
