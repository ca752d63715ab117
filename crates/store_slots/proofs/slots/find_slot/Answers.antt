use Rattle.std.proofs.Common.{◌≡◌, inr, subst, refl, arith, true}
use Rattle.std.proofs.lemmas.Result.{err_from_is_err_and}
use Rattle.sector_disk.specs.Trail.{now}
use Rattle.sector_disk.proofs.Touching.{still_all}
use Rattle.store_layout.specs.Layout.{is_open, slot_gate, head, IsGoodHead}
use Rattle.store_slots.proofs.Choosing.{found_in, good_in, found_used, chosen_good}
use Rattle.store_slots.proofs.slots.find_slot.Goals as goal

pub returns-in_err-second-clause-damaged : goal.returns-in_err-second-clause-damaged
returns-in_err-second-clause-damaged g c =
    let p = err_from_is_err_and c.from_residual-in_err-second.result c.from_residual-in_err-second.ensures.1 in
    λ n is honest.
    let start = (now (g.D.Disk.trail c.args.disk.now)).reads in
    let same = still_all (g.D.Disk.trail c.args.disk.now) (g.D.Disk.trail c.read_slot.new.disk)
    (c.read_slot.ensures.kept.moments honest) in
    let f = c.in_ok-first.ensures in
    let found = found_in start start 0 c.in_ok-first.first refl honest f.none f.some f.good in
    let bad = c.in_err-second.ensures.damaged n (cc (p.1, p.2, is)) (c.read_slot.ensures.kept.still honest) in
    inr (
      1,
      bad.0,
      record {
        two = omega arith;
        opened = subst (λ r. is_open (r (slot_gate 1)) ≡ true) same bad.1;
        bad = subst (λ r. IsGoodHead (head r 1) → ⊥) same bad.2;
        before = λ other low opened. let is : 0 ≡ other = omega (arith, low) in
            subst (λ k. is_open (start (slot_gate k)) ≡ true → IsGoodHead (head start k)) is
            (good_in start 0 c.in_ok-first.first found) opened;
      },
    )

pub returns-in-Some-clause-used : goal.returns-in-Some-clause-used
returns-in-Some-clause-used g c = λ honest.
    let start = (now (g.D.Disk.trail c.args.disk.now)).reads in
    let mid = (now (g.D.Disk.trail c.read_slot.new.disk)).reads in
    let same = still_all (g.D.Disk.trail c.args.disk.now) (g.D.Disk.trail c.read_slot.new.disk)
    (c.read_slot.ensures.kept.moments honest) in
    let f = c.in_ok-first.ensures in
    let s = c.in_ok-second.ensures in
    found_used start c.in_ok-first.first c.in_ok-second.second c.in-Some.chosen
    (found_in start start 0 c.in_ok-first.first refl honest f.none f.some f.good)
    (found_in start mid 1 c.in_ok-second.second same (c.read_slot.ensures.kept.still honest) s.none s.some s.good)
    c.in-Some.ensures

pub returns-in-Some-clause-good : goal.returns-in-Some-clause-good
returns-in-Some-clause-good g c =
    chosen_good c.in_ok-first.first c.in_ok-second.second c.in-Some.chosen c.in_ok-first.ensures.good
    c.in_ok-second.ensures.good c.in-Some.ensures
