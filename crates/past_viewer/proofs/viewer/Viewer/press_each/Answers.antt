use Rattle.std.proofs.Common.{refl}
use Rattle.std.proofs.lemmas.Result.{IfOk-weaker}
use Rattle.past_viewer.proofs.Copying.{keeps_both}
use Rattle.past_viewer.proofs.Ending.{output_behind}
use Rattle.past_viewer.proofs.Showing.{does_behind, leaves_looks, leaves_none, looks_same}
use Rattle.past_viewer.proofs.viewer.Viewer.press_each.Goals as goal

pub returns-in-Nothing-clause-does : goal.returns-in-Nothing-clause-does
returns-in-Nothing-clause-does g c =
    looks_same g.D.Disk c.requires (record { moments = refl; shown = refl; look = refl; untouched = refl })

pub returns-in-Nothing-clause-any_moment : goal.returns-in-Nothing-clause-any_moment
returns-in-Nothing-clause-any_moment g c = λ is. leaves_none g.D.Disk c.requires

pub returns-in-Leaves-clause-does : goal.returns-in-Leaves-clause-does
returns-in-Leaves-clause-does g c = (rw c.in-Leaves.is at c.in_ok-press-in-Two.ensures.does)

pub returns-in-Stays-clause-does : goal.returns-in-Stays-clause-does
returns-in-Stays-clause-does g c =
    let first = (rw c.in-Stays.is at c.in_ok-press-in-Two.ensures.does) in
    IfOk-weaker c.press-in-Stays.result _ _ (λ doing does.
    does_behind g.D.Disk doing _ _ _ _ _ _ _ _ _ c.in_ok-press-in-Two.ensures.usable
    (c.shows_what_crashes_leave.ensures.quiet c.in_ok-press-in-Two.ensures.usable) first does) c.press-in-Stays.ensures.does

pub returns-in-Stays-clause-any_moment : goal.returns-in-Stays-clause-any_moment
returns-in-Stays-clause-any_moment g c =
    let first = (rw c.in-Stays.is at c.in_ok-press-in-Two.ensures.does) in
    leaves_looks g.D.Disk c.in_ok-press-in-Two.ensures.usable
    (c.shows_what_crashes_leave.ensures.quiet c.in_ok-press-in-Two.ensures.usable) first c.press-in-Stays.ensures.any_moment

pub returns-in-Stays-clause-output : goal.returns-in-Stays-clause-output
returns-in-Stays-clause-output g c =
    output_behind c.press-in-Stays.result _ _ _ c.in_ok-press-in-Two.ensures.output c.press-in-Stays.ensures.output

-- ---- what was copied

pub returns-in-Stays-clause-copied : goal.returns-in-Stays-clause-copied
returns-in-Stays-clause-copied g c =
    let first = (rw c.in-Stays.is at c.in_ok-press-in-Two.ensures.does) in
    IfOk-weaker c.press-in-Stays.result _ _ (λ doing keeps is.
    keeps_both g.D.Disk first.read (c.in_ok-press-in-Two.ensures.copied is) (keeps (first.knows is))) c.press-in-Stays.ensures.copied
