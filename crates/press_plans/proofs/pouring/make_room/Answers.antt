use Rattle.std.proofs.Common.{◌∙◌, ap}
use Rattle.std.specs.Prelude.{min}
use Rattle.std.proofs.lemmas.Result.{err_from_is_err_and}
use Rattle.filled_pastes.specs.Poured.{word_length}
use Rattle.press_plans.proofs.Planning.{makes_room, plans_seen, plans_unseen}
use Rattle.press_plans.proofs.pouring.make_room.Goals as goal

pub returns-in_err-told : goal.returns-in_err-told
returns-in_err-told g c =
    let p = err_from_is_err_and c.from_residual.result c.from_residual.ensures.1 in
    rw (p.1, p.2) (plans_unseen g.D.Disk c.in_err-told.ensures.looks)

pub returns : goal.returns
returns g c = plans_seen g.D.Disk c.in_ok-told.told _ c.in_ok-told.ensures.looks (λ honest.
    c.room_plan.ensures
    ∙ makes_room c.args.bytes c.args.typed _ c.one_behind-place.result c.info_of.result _ c.args.store.now.desktop
    (c.min-count.ensures ∙ ap (λ n. min n 255) (c.word_length.ensures.value ∙ ap word_length c.as_bytes.ensures.value))
    c.one_behind-place.ensures c.info_of.ensures (c.in_ok-told.ensures.leads honest).exact)
