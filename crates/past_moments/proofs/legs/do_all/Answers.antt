use Rattle.std.proofs.Common.{◌∙◌, subst}
use Rattle.past_pages.specs.Reading.{IsRead}
use Rattle.past_moments.proofs.Ways.{done_events, done_import, done_mark}
use Rattle.past_moments.proofs.legs.do_all.Goals as goal

pub returns-in_ok-post_all-in-Events : goal.returns-in_ok-post_all-in-Events
returns-in_ok-post_all-in-Events c = λ done p read.
    done_events c.args.deeds.now p _ _ _ (λ version page is. c.as_slice.ensures.value ∙ (rw c.in-Events.is at is))
    (λ version page is. (rw c.in-Events.is at is)) (λ version k to is. (rw c.in-Events.is at is))
    (λ version far sectors to is. (rw c.in-Events.is at is)) read
    (c.in_ok-post_all-in-Events.ensures.led.desktop tt)

pub returns-in_ok-bring-in-Import : goal.returns-in_ok-bring-in-Import
returns-in_ok-bring-in-Import c = λ done p read.
    done_import c.args.deeds.now p _ _ _ (λ version page is. (rw c.in-Import.is at is))
    (λ version page is. c.as_slice-in-Import.ensures.value ∙ (rw c.in-Import.is at is))
    (λ version k to is. (rw c.in-Import.is at is)) (λ version far sectors to is. (rw c.in-Import.is at is)) read
    c.in_ok-bring-in-Import.ensures

pub returns-in-Mark : goal.returns-in-Mark
returns-in-Mark c = λ done p read.
    done_mark p c.args.shown.now.desktop (subst (λ x. IsRead x p) c.in-Mark.is read)
