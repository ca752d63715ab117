use Rattle.std.proofs.Common.{rules, ◌≡◌, ◌⊎◌, ◌+◌, ◌∙◌, true, false, sym, subst}
use Rattle.sector_disk.specs.Trail.{now}
use Rattle.twin_disk.specs.Flags.{IsNameless, pair_name, says_alone, says_closed}
use Rattle.host_stores.proofs.Left.{said_before, says_still, still_shown}
use Rattle.host_stores.proofs.left_alone.Goals as goal

pub returns-clause-alone : goal.returns-clause-alone
returns-clause-alone g c is honest =
    let first = c.in_ok-opened-2.ensures.untouched.still (c.flag_at.ensures.kept.still honest) in
    let then_honest = subst (λ leg. g.D.Disk.honest leg) (sym c.close-leg.ensures) first in
    still_shown g.D.Disk c.args.at (c.leave_twin.ensures.kept.still then_honest) c.in_ok-opened-3.ensures.untouched
    (c.in_ok-left.ensures.shown is then_honest)

pub returns-clause-stays : goal.returns-clause-stays
returns-clause-stays g c is honest =
    let first = c.in_ok-opened-2.ensures.untouched.still (c.flag_at.ensures.kept.still honest) in
    let then_honest = subst (λ leg. g.D.Disk.honest leg) (sym c.close-leg.ensures) first in
    said_before g.D.Disk c.args.at (λ bytes. (says_alone bytes ≡ true) ⊎ IsNameless (pair_name bytes)) honest
    c.flag_at.ensures.kept c.in_ok-opened-2.ensures.untouched
    (subst (λ leg. (says_alone ((now (g.D.Disk.trail leg)).reads c.args.at) ≡ true)
    ⊎ IsNameless (pair_name ((now (g.D.Disk.trail leg)).reads c.args.at))) c.close-leg.ensures
    (c.in_ok-left.ensures.stays is then_honest))

pub returns-clause-in_use : goal.returns-clause-in_use
returns-clause-in_use g c honest =
    let first = c.in_ok-opened-2.ensures.untouched.still (c.flag_at.ensures.kept.still honest) in
    let then_honest = subst (λ leg. g.D.Disk.honest leg) (sym c.close-leg.ensures) first in
    says_still g.D.Disk c.args.at (c.args.at + 1) (λ bytes. says_closed bytes ≡ false)
    (c.leave_twin.ensures.kept.still then_honest) c.in_ok-opened-3.ensures.untouched
    (c.in_ok-left.ensures.in_use then_honest)

pub returns-then-not-has_name-clause-in_use : goal.returns-then-not-has_name-clause-in_use
returns-then-not-has_name-clause-in_use g c honest =
    let shut : c.in_ok-flag.flag.closed ≡ false = search rules in
    says_still g.D.Disk c.args.at (c.args.at + 1) (λ bytes. says_closed bytes ≡ false) (c.flag_at.ensures.kept.still honest)
    c.in_ok-opened.ensures.untouched
    (says_still g.D.Disk c.args.at (c.args.at + 1) (λ bytes. says_closed bytes ≡ false) honest c.flag_at.ensures.kept
    (sym (c.in_ok-flag.ensures.closed honest) ∙ shut))
