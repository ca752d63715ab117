use Rattle.std.proofs.lemmas.Result.{IfOk-weaker, err_from_is_err_and}
use Rattle.desk_past.proofs.Remembering.{leaves_more, leaves_more_then, post_keeps, post_moments}
use Rattle.desk_past.proofs.Ways.{acknowledged_then, either_then, never, not_reopen, not_worn, only_first, reopen_none, reopen_then}
use Rattle.desk_past.proofs.Ways.{ok_with, starved_then, worn_none, worn_then}
use Rattle.store_slots.specs.declared.error.Error.TheVariants.{MustReopen, Worn}
use Rattle.std.proofs.Common.{◌∙◌, inl, inr, rules}
use Rattle.sector_disk.proofs.Touching.{weakened}
use Rattle.desk_past.proofs.Over.{over_keeps, over_moments, over_then}
use Rattle.desk_past.proofs.Sparing.{only_then_within, uses_only}
use Rattle.desk_past.proofs.keeping.post.Goals as goal

pub returns-in_err-make_way-clause-any_moment : goal.returns-in_err-make_way-clause-any_moment
returns-in_err-make_way-clause-any_moment g c = only_first g.D.Disk c.args.event.now
    c.args.store.now c.make_way.new.store c.make_way.ensures.moments

pub returns-in_err-make_way-clause-nothing_forgotten : goal.returns-in_err-make_way-clause-nothing_forgotten
returns-in_err-make_way-clause-nothing_forgotten g c = record {
  within = λ honest start deeds desktop keeps can.
      leaves_more g.D.Disk c.args.store.now c.make_way.new.store c.args.event.now
      (c.make_way.ensures.any_moment honest start deeds desktop keeps can);
  over = λ honest start deeds desktop keeps can.
      weakened (c.make_way.ensures.none_forgotten honest start deeds desktop keeps (λ due. (can due).lies))
      (λ c x. elim x [
        | inl was ↦ inl was
        | inr on ↦ inr (inr (on.0, inl on.1))
      ]);
}

pub returns-clause-any_moment : goal.returns-clause-any_moment
returns-clause-any_moment g c = either_then g.D.Disk c.post.new.self c.in_ok-make_way.ensures.made c.args.event.now
    c.make_way.ensures.device.same c.make_way.ensures.moments c.post.ensures.any_moment

pub returns-clause-ok : goal.returns-clause-ok
returns-clause-ok g c = IfOk-weaker c.post.result _ _ (λ reply taken.
    acknowledged_then g.D.Disk c.post.new.self c.in_ok-make_way.ensures.made c.args.event.now reply
    c.make_way.ensures.device.same taken) c.post.ensures.ok

pub returns-clause-memory : goal.returns-clause-memory
returns-clause-memory g c = λ refused. starved_then g.D.Disk c.post.new.self c.in_ok-make_way.ensures.made
    c.make_way.ensures.device.same c.make_way.ensures.moments (c.post.ensures.memory refused).unrecorded

pub returns-clause-worn : goal.returns-clause-worn
returns-clause-worn g c = worn_then g.D.Disk c.post.new.self c.in_ok-make_way.ensures.made c.post.result
    c.post.ensures.worn

pub returns-clause-reopen : goal.returns-clause-reopen
returns-clause-reopen g c = reopen_then g.D.Disk c.post.new.self c.in_ok-make_way.ensures.made c.post.result
    c.post.ensures.behaves.reopen

pub returns-clause-nothing_forgotten : goal.returns-clause-nothing_forgotten
returns-clause-nothing_forgotten g c = record {
  within = λ honest start deeds desktop keeps can.
      let d = g.D.Disk in
      let mid = c.in_ok-make_way.ensures.ended honest start deeds desktop keeps can in
      let second = c.make_way.ensures.device.same.still honest in
      leaves_more_then d c.args.store.now c.make_way.new.store c.post.new.self c.args.event.now
      c.make_way.ensures.device.same
      (c.make_way.ensures.any_moment honest start deeds desktop keeps can)
      (post_moments d mid.0 second (c.shows_what_crashes_leave.ensures.quiet mid.0.usable second) c.post.new.self
      c.args.event.now mid.1 c.post.ensures.behaves.within c.post.ensures.added.moments);
  over = λ honest start deeds desktop keeps can.
      let d = g.D.Disk in
      let gone = c.in_ok-make_way.ensures.gone_over honest start deeds desktop keeps can in
      let second = c.make_way.ensures.device.same.still honest in
      over_then d c.args.store.now c.make_way.new.store c.post.new.self c.args.event.now
      c.make_way.ensures.device.same.as_large
      (c.make_way.ensures.none_forgotten honest start deeds desktop keeps (λ due. (can due).lies))
      (elim gone.0 [
        | inl mid ↦ inl (post_moments d mid second (c.shows_what_crashes_leave.ensures.quiet mid.usable second)
            c.post.new.self c.args.event.now gone.1 c.post.ensures.behaves.within c.post.ensures.added.moments)
        | inr begun ↦ inr (over_moments d begun second
            (c.shows_what_crashes_leave.ensures.quiet begun.keeps.usable second) c.post.new.self c.args.event.now gone.1
            c.post.ensures.behaves.within c.post.ensures.added.moments)
      ]);
}

pub returns-clause-kept : goal.returns-clause-kept
returns-clause-kept g c = ok_with c.post.result c.post.ensures.ok c.post.ensures.added.done
    (λ reply taken added. record {
      within = λ honest start deeds desktop keeps can.
          let d = g.D.Disk in
          let mid = c.in_ok-make_way.ensures.ended honest start deeds desktop keeps can in
          let second = c.make_way.ensures.device.same.still honest in
          post_keeps d mid.0 second (c.shows_what_crashes_leave.ensures.quiet mid.0.usable second) c.post.new.self
          c.args.event.now mid.1 c.post.ensures.behaves.within taken.usable
          (added.more second mid.1 mid.0.remembers.standing mid.0.remembers.past.stands);
      over = λ honest start deeds desktop keeps can.
          let d = g.D.Disk in
          let gone = c.in_ok-make_way.ensures.gone_over honest start deeds desktop keeps can in
          let second = c.make_way.ensures.device.same.still honest in
          elim gone.0 [
            | inl mid ↦ inl (post_keeps d mid second (c.shows_what_crashes_leave.ensures.quiet mid.usable second)
                c.post.new.self c.args.event.now gone.1 c.post.ensures.behaves.within taken.usable
                (added.more second gone.1 mid.remembers.standing mid.remembers.past.stands))
            | inr begun ↦ inr (over_keeps d begun second
                (c.shows_what_crashes_leave.ensures.quiet begun.keeps.usable second) c.post.new.self c.args.event.now gone.1
                c.post.ensures.behaves.within taken.usable
                (added.more second gone.1 begun.keeps.remembers.standing begun.keeps.remembers.past.stands))
          ];
    })

pub returns-in_err-make_way-clause-worn : goal.returns-in_err-make_way-clause-worn
returns-in_err-make_way-clause-worn g c =
    let p = err_from_is_err_and c.from_residual.result c.from_residual.ensures.1 in
    worn_none g.D.Disk c.make_way.new.store c.from_residual.result c.in_err-make_way.ensures.able (λ is.
    never c.make_way.result Worn c.make_way.ensures.device.faults.errors not_worn
    (cc (p.1, p.2, is, c.in_err-make_way.was)))

pub returns-in_err-make_way-clause-reopen : goal.returns-in_err-make_way-clause-reopen
returns-in_err-make_way-clause-reopen g c =
    let p = err_from_is_err_and c.from_residual.result c.from_residual.ensures.1 in
    reopen_none g.D.Disk c.make_way.new.store c.from_residual.result c.in_err-make_way.ensures.able (λ is.
    never c.make_way.result MustReopen c.make_way.ensures.device.faults.errors not_reopen
    (cc (p.1, p.2, is, c.in_err-make_way.was)))

pub returns-in_err-make_way-clause-device : goal.returns-in_err-make_way-clause-device
returns-in_err-make_way-clause-device g c = uses_only g.D.Disk (search rules) c.make_way.ensures.device.others

pub returns-clause-device : goal.returns-clause-device
returns-clause-device g c = uses_only g.D.Disk (search rules) (only_then_within g.D.Disk c.post.new.self
    c.make_way.ensures.device.same (λ usable. c.in_ok-make_way.ensures.made.usable ∙ usable)
    c.shows_what_crashes_leave.ensures.quiet c.make_way.ensures.device.others c.post.ensures.behaves.within)
