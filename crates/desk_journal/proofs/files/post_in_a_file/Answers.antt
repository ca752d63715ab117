use Rattle.std.proofs.Common.{ap, subst}
use Rattle.std.proofs.lemmas.Result.{IfOk-weaker}
use Rattle.desktop_definitions.specs.Step.{Outcome}
use Rattle.store_layout.specs.Meaning.{Means}
use Rattle.sector_disk.proofs.FileLeaving.{file_leaves, file_leaves_only}
use Rattle.desk_journal.proofs.Passing.{shows_means}
use Rattle.desk_journal.proofs.Stepped.{stepped_newest}
use Rattle.desk_journal.proofs.files.post_in_a_file.Goals as goal

pub returns-clause-any_moment : goal.returns-clause-any_moment
returns-clause-any_moment g c = λ usable honest. file_leaves_only _ _ _ (c.post.ensures.any_moment usable honest)

pub returns-clause-ok : goal.returns-clause-ok
returns-clause-ok g c = IfOk-weaker c.post.result _ _ (λ reply acknowledged honest.
    let new = c.post.new.self in
    file_leaves _ _ (λ content image. subst (λ desktop. Means c.args.store.now.disk.sectors desktop content)
    (ap (λ (o : Outcome). o.desktop) (stepped_newest _ acknowledged honest))
    (subst (λ n. Means n new.desktop content) c.post.ensures.behaves.device.as_large
    (shows_means new.disk.sectors new.epoch new.events new.desktop content
    (acknowledged.durable (c.post.ensures.behaves.device.still honest) content image))))) c.post.ensures.ok
