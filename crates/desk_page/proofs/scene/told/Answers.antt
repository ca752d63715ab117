use Rattle.std.proofs.Common.{◌∙◌, ap, refl}
use Rattle.page_disks.proofs.Recorded.{forgotten_now}
use Rattle.page_disks.specs.Recording.{Recording, forgotten}
use Rattle.desk_journal.specs.View.{StoreView}
use Rattle.desk_page.proofs.scene.told.Goals as goal

pub forget_noted-requires : goal.forget_noted-requires
forget_noted-requires c = record {
  as_large = refl;
  moment = forgotten_now c.args.page.store.disk (forgotten c.args.page.store.disk) refl;
  already = λ honest. honest;
}

pub returns-clause-page : goal.returns-clause-page
returns-clause-page c =
    let usable = ap (λ (s : StoreView Recording). s.must_reopen) c.forget_noted.ensures
    ∙ c.in_ok-usable.ensures.usable refl in
    record {
      left = c.in_ok-usable.ensures.durable refl;
      desktop = ap (λ (s : StoreView Recording). s.desktop) c.forget_noted.ensures;
      sitting = refl;
      parser = refl;
      durable = c.shows_what_crashes_leave.ensures.durable usable;
      usable = usable;
      forgot = ap (λ (s : StoreView Recording). s.disk) c.forget_noted.ensures;
    }
