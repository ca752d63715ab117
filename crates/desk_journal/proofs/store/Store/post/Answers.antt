use Rattle.std.proofs.Common.{subst, inl}
use Rattle.std.proofs.lemmas.Result.{err_from_is_err_and, on_ok_weaker}
use Rattle.desk_journal.specs.Undoing.{IsAdded}
use Rattle.desk_journal.specs.Behind.{LeavesPosted}
use Rattle.desk_journal.proofs.Undoing.{added_behind}
use Rattle.desk_journal.specs.Posting.{LeavesEither, IsPosted, IsStarved, HasJournalRoom, RecordsDone}
use Rattle.desk_journal.proofs.Between.{checkpoints, done_first, no_need, put_posts, stopped_first}
use Rattle.desk_journal.proofs.Storing.{renewed_then, renewed_starved, renewed_recorded}
use Rattle.desk_journal.proofs.store.Store.post.Goals as goal
use Rattle.desk_journal.proofs.store.Store.post.Goals.{then-needs+in_ok-checkpoint}
use Rattle.desk_journal.proofs.store.Store.post.Goals.{else-needs}

pub returns-clause-any_moment : goal.returns-clause-any_moment
returns-clause-any_moment g c = elim c.if-needs.branch [
  | then-needs+in_ok-checkpoint w ↦
      let first = w.checkpoint.ensures in
      renewed_then g.D.Disk c.args.event.now c.args.self.now w.checkpoint.new.self c.put.new.self
      first.any_moment w.in_ok-checkpoint.ensures.ok first.behaves.device
      (subst (λ mid. LeavesEither g.D.Disk c.args.event.now mid c.put.new.self) w.self-is c.put.ensures.any_moment)
  | else-needs w ↦
      subst (λ mid. LeavesEither g.D.Disk c.args.event.now mid c.put.new.self) w.self-is c.put.ensures.any_moment
]

pub returns-clause-memory : goal.returns-clause-memory
returns-clause-memory g c = λ refused. elim c.if-needs.branch [
  | then-needs+in_ok-checkpoint w ↦
      let first = w.checkpoint.ensures in
      renewed_starved g.D.Disk c.args.event.now c.args.self.now w.checkpoint.new.self c.put.new.self
      first.any_moment w.in_ok-checkpoint.ensures.ok first.behaves.device
      (subst (λ mid. IsStarved g.D.Disk mid c.put.new.self) w.self-is (c.put.ensures.memory refused))
  | else-needs w ↦
      subst (λ mid. IsStarved g.D.Disk mid c.put.new.self) w.self-is (c.put.ensures.memory refused)
]

pub returns-clause-first : goal.returns-clause-first
returns-clause-first g c = λ usable due. elim c.if-needs.branch [
  | then-needs+in_ok-checkpoint w ↦
      let first = w.checkpoint.ensures in
      done_first g.D.Disk c.args.event.now c.put.result c.args.self.now w.checkpoint.new.self c.put.new.self
      w.in_ok-checkpoint.was
      (checkpoints g.D.Disk w.checkpoint.result _ _ first.any_moment first.ok first.fault first.worn
      first.behaves)
      (subst (λ mid. HasJournalRoom mid → IsPosted g.D.Disk c.args.event.now c.put.result mid c.put.new.self) w.self-is
      (λ room. put_posts g.D.Disk c.args.event.now c.put.result _ c.put.new.self room c.put.ensures.any_moment
      c.put.ensures.ok c.put.ensures.memory (λ is. (c.put.ensures.fault is).0) c.put.ensures.behaves))
  | else-needs w ↦ absurd (no_need c.args.self.now (c.needs.ensures.room w.if-needs.false) due)
]

pub returns-in_err-checkpoint-clause-first : goal.returns-in_err-checkpoint-clause-first
returns-in_err-checkpoint-clause-first g c = λ usable due.
    let first = c.checkpoint.ensures in
    let p = err_from_is_err_and c.from_residual.result c.from_residual.ensures.1 in
    stopped_first g.D.Disk c.args.event.now c.from_residual.result c.args.self.now c.checkpoint.new.self
    c.in_err-checkpoint.was
    (checkpoints g.D.Disk c.checkpoint.result _ _ first.any_moment first.ok first.fault first.worn
    first.behaves) (cc (p.1, p.2))

pub returns-clause-added : goal.returns-clause-added
returns-clause-added g c = record {
  moments = elim c.if-needs.branch [
    | then-needs+in_ok-checkpoint w ↦ λ room. absurd (no_need c.args.self.now room (c.needs.ensures.due.0 w.if-needs.true))
    | else-needs w ↦
        subst (λ mid. LeavesPosted g.D.Disk c.args.event.now mid c.put.new.self) w.self-is c.put.ensures.added.moments
  ];
  done = on_ok_weaker c.put.result (λ added. elim c.if-needs.branch [
    | then-needs+in_ok-checkpoint w ↦
        let first = w.checkpoint.ensures in
        added_behind g.D.Disk c.args.event.now c.args.self.now w.checkpoint.new.self c.put.new.self
        w.in_ok-checkpoint.ensures.ok first.behaves.device (c.needs.ensures.due.0 w.if-needs.true)
        (subst (λ mid. IsAdded g.D.Disk c.args.event.now mid c.put.new.self) w.self-is added)
    | else-needs w ↦
        subst (λ mid. IsAdded g.D.Disk c.args.event.now mid c.put.new.self) w.self-is added
  ]) c.put.ensures.added.done;
}

pub returns-clause-fault : goal.returns-clause-fault
returns-clause-fault g c = λ is. (
  (c.put.ensures.fault is).0,
  elim c.if-needs.branch [
    | then-needs+in_ok-checkpoint w ↦
        let first = w.checkpoint.ensures in
        renewed_recorded g.D.Disk c.args.event.now c.args.self.now w.checkpoint.new.self c.put.new.self
        first.any_moment w.in_ok-checkpoint.ensures.ok first.behaves.device
        (subst (λ mid. RecordsDone g.D.Disk c.args.event.now mid c.put.new.self) w.self-is (c.put.ensures.fault is).1)
    | else-needs w ↦
        subst (λ mid. RecordsDone g.D.Disk c.args.event.now mid c.put.new.self) w.self-is (c.put.ensures.fault is).1
  ],
)

pub returns-in_err-checkpoint-clause-fault : goal.returns-in_err-checkpoint-clause-fault
returns-in_err-checkpoint-clause-fault g c =
    let p = err_from_is_err_and c.from_residual.result c.from_residual.ensures.1 in
    λ is. (
      c.checkpoint.ensures.fault (cc (p.1, p.2, is, c.in_err-checkpoint.was)),
      λ usable honest. inl (c.checkpoint.ensures.any_moment usable honest),
    )
