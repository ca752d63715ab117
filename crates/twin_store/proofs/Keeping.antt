-- What leaves a prefix of events of a twin leaves it of the legs.
use Rattle.std.proofs.Common.{[], sym, subst}
use Rattle.sector_disk.specs.declared.disk.Disk.{Ghosts}
use Rattle.desk_journal.specs.Prefixes.{MeansPrefix}
use Rattle.twin_disk.specs.Survival.{twin_size}
use Rattle.twin_store.specs.Legs.{IsOfFirst}
use Rattle.twin_store.specs.OnTwins.{TwinsKeep}
use Rattle.twin_store.proofs.Below.{prefix_below}
use Rattle.twin_store.proofs.OnLegs.{legs_leave, legs_leave_only}

pub all_keep : {A B : Type 0} (a : Ghosts A) (b : Ghosts B) → TwinsKeep a b
all_keep a b desktop acknowledged events old new h h' run last = record {
  any_moment = λ on. legs_leave_only a b old.disk new.disk (MeansPrefix (twin_size old.disk) desktop [] events)
      (subst (λ n. IsOfFirst n (MeansPrefix (twin_size old.disk) desktop [] events)) (sym on.size)
      (prefix_below (twin_size old.disk) desktop [] events)) on h h' run;
  at_last = λ size. legs_leave a b new.disk (MeansPrefix (twin_size old.disk) desktop acknowledged events)
      (subst (λ n. IsOfFirst n (MeansPrefix (twin_size old.disk) desktop acknowledged events)) (sym size)
      (prefix_below (twin_size old.disk) desktop acknowledged events)) h' last;
}
