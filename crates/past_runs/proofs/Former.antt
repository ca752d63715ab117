-- The former past stays over runs. `d` is what is known of a disk.
use Rattle.std.proofs.Common.{◌≡◌, ℕ, List, [], ◌∷◌, refl, sym, ap, arith, subst}
use Rattle.sector_disk.specs.declared.disk.Disk.{Ghosts}
use Rattle.sector_disk.specs.Trail.{Content, IsCrashImage, Leaves, LeavesOnly, Trail, now}
use Rattle.sector_disk.proofs.Touching.{at_last, chained, read_is_an_image}
use Rattle.desk_past.proofs.Former.{former_stays}
use Rattle.past_runs.specs.Calls.{HasPastBefore, LeadsPast, Past, PastCall, begins, brings, ends, looks, posts, posts_over, present, takes_back}
use Rattle.past_runs.specs.Calls.{turns, turns_to}
use Rattle.past_runs.specs.Runs.{BeginsNone, FormerStaysOverRuns}
use Rattle.past_runs.proofs.Calling.{led_by}

-- the past begins where it began
same_base : (call : PastCall) (past after : Past) → BeginsNone call → LeadsPast call past after
    → after.start.base ≡ past.start.base
same_base (posts event) past after none led = ap (λ (p : Past). p.start.base) led
same_base (posts_over event) past after none led = absurd none
same_base (brings documents) past after none led = ap (λ (p : Past). p.start.base) led
same_base (turns_to k to) past after none led = ap (λ (p : Past). p.start.base) led
same_base (turns k) past after none led = ap (λ (p : Past). p.start.base) led
same_base (takes_back count back) past after none led = ap (λ (p : Past). p.start.base) (sym led)
same_base ends past after none led = ap (λ (p : Past). p.start.base) led
same_base (begins base) past after none led = absurd none
same_base looks past after none led = ap (λ (p : Past). p.start.base) led

-- what a crash leaves now, no call leaves too
left_now : (t : Trail) {P : Content → Type 0} → Leaves (now t) P → LeavesOnly t t P
left_now t leaves = record {
  later = omega arith;
  kept = λ n le. refl;
  each = λ n above below c image.
      let same : n ≡ t.clock = omega (arith, above, below) in leaves c (subst (λ k. IsCrashImage (t.at k) c) same image);
}

module _ {D : Type 0} (d : Ghosts D) where
  pub former_over : FormerStaysOverRuns d
  former_over [] past former old new honest keeps run room none stay leaves =
      subst (λ store. LeavesOnly (d.trail old.disk) (d.trail store.disk)
      (HasPastBefore (d.size old.disk) past.start.base former)) (sym run) (left_now (d.trail old.disk) leaves)
  former_over (call ∷ calls) past former old new honest keeps run room none stay leaves =
      let mid = run.0 in
      let device = run.1.tries.device in
      let step = led_by d past old mid honest keeps call (room.0 keeps) device run.1.done in
      let first : LeavesOnly (d.trail old.disk) (d.trail mid.disk)
      (HasPastBefore (d.size old.disk) past.start.base former) =
      former_stays d past.start former.start past.deeds former.deeds (present past) (present former) old mid honest keeps
      (stay.0.lies keeps) stay.0.writes (leaves (now (d.trail old.disk)).reads (read_is_an_image (now (d.trail old.disk)))) in
      let base = same_base call past step.0 none.0 step.1 in
      let there = subst (λ n. Leaves (now (d.trail mid.disk)) (HasPastBefore n step.0.start.base former))
      (sym device.as_large)
      (subst (λ n. Leaves (now (d.trail mid.disk)) (HasPastBefore (d.size old.disk) n former)) (sym base) (at_last first)) in
      let rest = former_over calls step.0 former mid new (device.still honest) step.2 run.2 (room.1 step.0 step.1) none.1
      (stay.1 step.0 step.1) there in
      chained first (subst (λ n. LeavesOnly (d.trail mid.disk) (d.trail new.disk) (HasPastBefore (d.size old.disk) n former)) base
      (subst (λ n. LeavesOnly (d.trail mid.disk) (d.trail new.disk) (HasPastBefore n step.0.start.base former))
      device.as_large rest))
