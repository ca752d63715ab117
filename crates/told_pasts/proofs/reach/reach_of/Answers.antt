use Rattle.std.proofs.Common.{◌≡◌, ◌∙◌, ap, false, rules, sym}
use Rattle.std.specs.Prelude.{Err, IsSomeAnd}
use Rattle.std.proofs.lemmas.Result.{err_from_is_err_and}
use Rattle.sector_disk.specs.Trail.{now}
use Rattle.past_pages.proofs.Failing.{none_failed}
use Rattle.past_pages.proofs.StillReads.{still_looked, still_none}
use Rattle.past_pages.proofs.Told.{ok_of, shown_as}
use Rattle.told_pasts.proofs.Reached.{part_found}
use Rattle.told_pasts.proofs.Stops.{looks_stop, stops_first, stops_none}
use Rattle.told_pasts.proofs.reach.reach_of.Goals as goal

pub returns-in-None-clause-told : goal.returns-in-None-clause-told
returns-in-None-clause-told g c = λ honest start deeds desktop keeps lies.
    let d = g.D.Disk in
    let read = still_looked d c.past.result (still_none d c.args.store.now keeps.usable) c.past.ensures.looks in
    let told = c.in_ok-told.ensures.told honest keeps.remembers.standing keeps.remembers.past.stands in
    let found : IsSomeAnd c.part_at.result (λ part. (part.base ≡ start.base) × (part.end ≡ lies.end)) =
    part_found d keeps lies c.part_at.result _ _ c.part_at.ensures.all
    (c.sectors.ensures ∙ read.left.disk.device.as_large) (ap (λ p. p.next) told) in
    absurd (rw c.in-None.is at found)

pub returns-in-Some-clause-told : goal.returns-in-Some-clause-told
returns-in-Some-clause-told g c = λ honest start deeds desktop keeps lies.
    let d = g.D.Disk in
    let s = keeps.remembers.standing in
    let read = still_looked d c.past.result (still_none d c.args.store.now keeps.usable) c.past.ensures.looks in
    let told = c.in_ok-told.ensures.told honest s keeps.remembers.past.stands in
    let found : IsSomeAnd c.part_at.result (λ part. (part.base ≡ start.base) × (part.end ≡ lies.end)) =
    part_found d keeps lies c.part_at.result _ _ c.part_at.ensures.all
    (c.sectors.ensures ∙ read.left.disk.device.as_large) (ap (λ p. p.next) told) in
    let at = rw c.in-Some.is at found in
    let is = shown_as (now (d.trail c.args.store.now.disk)) s c.standing_law.ensures
    (c.shows_what_crashes_leave.ensures.durable keeps.usable honest) keeps.remembers.past.stands in
    let info_is = ap (ok_of c.in_ok-info.info) (sym c.in_ok-info.was ∙ c.info.ensures.value read.usable) in
    record {
      base = at.0;
      next = ap (λ p. p.next) told;
      before = ap (λ p. p.before) told;
      journal = ap (λ x. x.events) info_is ∙ c.past.ensures.looks.events ∙ sym is.events;
    }

pub returns-in_err-told-clause-stops : goal.returns-in_err-told-clause-stops
returns-in_err-told-clause-stops g c =
    let p = err_from_is_err_and c.from_residual.result c.from_residual.ensures.1 in
    let failed : c.past.result ≡ Err p.0 = cc (p.2, c.in_err-told.was) in
    stops_first g.D.Disk (looks_stop g.D.Disk c.past.result c.past.ensures.looks) (λ usable. usable) failed p.1

pub returns-in_err-info-clause-stops : goal.returns-in_err-info-clause-stops
returns-in_err-info-clause-stops g c =
    let usable : c.args.store.now.must_reopen ≡ false = search rules in
    let there = c.info.ensures.value (c.past.ensures.looks.usable ∙ usable) in
    absurd (let wrong : ⊥ = cc (there, c.in_err-info.was) in wrong)

pub returns-in-None-clause-stops : goal.returns-in-None-clause-stops
returns-in-None-clause-stops g c = stops_none g.D.Disk (none_failed c.in_ok-told.ensures.looks.faults)

pub returns-in-Some-clause-stops : goal.returns-in-Some-clause-stops
returns-in-Some-clause-stops g c = stops_none g.D.Disk (none_failed c.in_ok-told.ensures.looks.faults)
