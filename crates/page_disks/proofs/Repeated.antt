-- Calls that are repeated after others.
use Rattle.std.proofs.Common.{◌≡◌, List, [], ◌∷◌, ◌++◌, length, take, refl, sym, ap, ◌∙◌}
use Rattle.std.proofs.Math.Seq.{take-length}
use Rattle.sector_disk.specs.declared.call.DiskCall.{DiskCall}
use Rattle.sector_disk.specs.Trail.{Moment, now}
use Rattle.sector_disk.specs.Memory.{moment_after, replayed, zero_moment}
use Rattle.page_disks.specs.Recording.{Recording, first_moment, trail_since}
use Rattle.page_disks.specs.Repeating.{BeginsAnew, RepeatsAll, RepeatsMoments}

pub in_two : (before since : List DiskCall) (m : Moment) → replayed (before ++ since) m
    ≡ replayed since (replayed before m)
in_two [] since m = refl
in_two (call ∷ before) since m = in_two before since (moment_after call m)

pub present : (d : Recording) → now (trail_since d) ≡ replayed d.since (first_moment d)
present d = ap (λ l. replayed l (first_moment d)) (take-length d.since)

pub moments : RepeatsMoments
moments d k le = refl

pub whole : RepeatsAll
whole d = sym (present d)

pub anew : BeginsAnew
anew d = in_two d.told d.since zero_moment ∙ sym (present d)
