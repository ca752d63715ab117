use Rattle.std.proofs.Common.{◌≡◌, inl, inr, ◌∙◌, false, true, refl, subst, sym}
use Rattle.std.proofs.lemmas.Bool.{false≢true}
use Rattle.std.proofs.lemmas.Result.{IfOk-weaker}
use Rattle.sector_disk.specs.Trail.{now}
use Rattle.past_pages.specs.Parts.{IsPastPart}
use Rattle.past_pages.proofs.StillReads.{still_none}
use Rattle.desk_past.proofs.Found.{wanted_started, wanted_there}
use Rattle.desk_past.proofs.going_on.is_wanted.Goals as goal

pub returns-then-asked-clause-is : goal.returns-then-asked-clause-is
returns-then-asked-clause-is g c = λ honest. (λ is. inl c.if-asked.true, λ wanted. refl)

pub returns-then-asked-clause-still : goal.returns-then-asked-clause-still
returns-then-asked-clause-still g c = still_none g.D.Disk c.args.store.now c.requires

pub returns-in_default-clause-is : goal.returns-in_default-clause-is
returns-in_default-clause-is g c = IfOk-weaker c.is_started.result _ _ (λ is decides honest.
    let d = g.D.Disk in
    let size = d.size c.args.store.now.disk in
    let x = decides honest in (
      λ yes. inr (inl (x.0 yes)),
      λ wanted. x.1 (wanted_started c.args.asked size c.args.next (now (d.trail c.args.store.now.disk)).reads
          (λ t. false≢true (sym c.if-asked.false ∙ t))
          (λ there. c.in_default.ensures.all there.base there.end
          (subst (λ n. IsPastPart n there.base there.end) (sym c.sectors.ensures) there.part) there.low there.high)
          wanted),
    )) c.is_started.ensures.is

pub returns-clause-is : goal.returns-clause-is
returns-clause-is g c = λ honest. (
  λ is. wanted_there c.args.asked (g.D.Disk.size c.args.store.now.disk) c.args.next
      (now (g.D.Disk.trail c.args.store.now.disk)).reads (record {
        base = c.in-Some._part.base;
        end = c.in-Some._part.end;
        part = subst (λ n. IsPastPart n c.in-Some._part.base c.in-Some._part.end) c.sectors.ensures
            c.in-Some.ensures.is;
        low = c.in-Some.ensures.within.0;
        high = c.in-Some.ensures.within.1;
      }),
  λ wanted. refl,
)

pub returns-clause-still : goal.returns-clause-still
returns-clause-still g c = still_none g.D.Disk c.args.store.now c.requires
