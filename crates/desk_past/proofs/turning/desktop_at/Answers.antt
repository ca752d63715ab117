use Rattle.std.proofs.Common.{◌≡◌, ◌∙◌, ap, false, rules, sym}
use Rattle.store_layout.specs.declared.head.PastEnd.{PastEnd}
use Rattle.past_pages.proofs.StillReads.{still_both, still_looked, still_none}
use Rattle.desk_past.proofs.TurnedBack.{part_found, left_looked, left_twice, past_behind}
use Rattle.desk_past.proofs.turning.desktop_at.Goals as goal

-- ---- nothing is written

pub returns-in_err-told-clause-left : goal.returns-in_err-told-clause-left
returns-in_err-told-clause-left g c = left_looked g.D.Disk c.past.result c.past.ensures.looks

pub returns-in_default-clause-left : goal.returns-in_default-clause-left
returns-in_default-clause-left g c = left_looked g.D.Disk c.past.result c.past.ensures.looks

pub returns-in_err-shown-clause-left : goal.returns-in_err-shown-clause-left
returns-in_err-shown-clause-left g c = left_twice g.D.Disk
    (left_looked g.D.Disk c.past.result c.past.ensures.looks) c.moment.ensures.left

pub returns-in_default-2-clause-left : goal.returns-in_default-2-clause-left
returns-in_default-2-clause-left g c = left_twice g.D.Disk
    (left_looked g.D.Disk c.past.result c.past.ensures.looks) c.moment.ensures.left

pub returns-in_err-to-clause-left : goal.returns-in_err-to-clause-left
returns-in_err-to-clause-left g c = left_twice g.D.Disk
    (left_looked g.D.Disk c.past.result c.past.ensures.looks) c.moment.ensures.left

pub returns-clause-left : goal.returns-clause-left
returns-clause-left g c = left_twice g.D.Disk
    (left_looked g.D.Disk c.past.result c.past.ensures.looks) c.moment.ensures.left

pub returns-in_default-clause-still : goal.returns-in_default-clause-still
returns-in_default-clause-still g c =
    let usable : c.args.store.now.must_reopen ≡ false = search rules in
    still_looked g.D.Disk c.past.result (still_none g.D.Disk c.args.store.now usable) c.past.ensures.looks

pub returns-in_default-2-clause-still : goal.returns-in_default-2-clause-still
returns-in_default-2-clause-still g c =
    let usable : c.args.store.now.must_reopen ≡ false = search rules in
    still_both g.D.Disk
    (still_looked g.D.Disk c.past.result (still_none g.D.Disk c.args.store.now usable) c.past.ensures.looks)
    c.in_ok-shown.ensures.still

pub returns-clause-still : goal.returns-clause-still
returns-clause-still g c =
    let usable : c.args.store.now.must_reopen ≡ false = search rules in
    still_both g.D.Disk
    (still_looked g.D.Disk c.past.result (still_none g.D.Disk c.args.store.now usable) c.past.ensures.looks)
    c.in_ok-shown.ensures.still

-- ---- there is no such moment

pub returns-in_default-clause-none : goal.returns-in_default-clause-none
returns-in_default-clause-none g c = λ past lies there.
    let told = ap (λ (x : PastEnd). x.next)
    (c.in_ok-told.ensures.told past.honest past.keeps.remembers.standing past.keeps.remembers.past.stands) in
    absurd (part_found g.D.Disk past lies (c.sectors.ensures ∙ c.past.ensures.looks.disk.device.as_large) told
    c.in_default.ensures.all)

pub returns-in_default-2-clause-none : goal.returns-in_default-2-clause-none
returns-in_default-2-clause-none g c = λ past lies there.
    let d = g.D.Disk in
    let still = still_looked d c.past.result (still_none d c.args.store.now past.keeps.usable) c.past.ensures.looks in
    let told = ap (λ (x : PastEnd). x.next)
    (c.in_ok-told.ensures.told past.honest past.keeps.remembers.standing past.keeps.remembers.past.stands) in
    let found = part_found d past lies (c.sectors.ensures ∙ c.past.ensures.looks.disk.device.as_large) told
    c.in-Some.ensures.all in
    let later = past_behind d still c.shows_what_crashes_leave.ensures.quiet past in
    absurd ((rw c.in_default-2.is at c.in_ok-shown.ensures.comes_back) later.honest later.start later.deeds
    later.desktop
    later.keeps (sym found.0) there)

-- ---- this is what the desktop was

pub returns-clause-was : goal.returns-clause-was
returns-clause-was g c = λ past lies.
    let d = g.D.Disk in
    let still = still_looked d c.past.result (still_none d c.args.store.now past.keeps.usable) c.past.ensures.looks in
    let told = ap (λ (x : PastEnd). x.next)
    (c.in_ok-told.ensures.told past.honest past.keeps.remembers.standing past.keeps.remembers.past.stands) in
    let found = part_found d past lies (c.sectors.ensures ∙ c.past.ensures.looks.disk.device.as_large) told
    c.in-Some.ensures.all in
    let later = past_behind d still c.shows_what_crashes_leave.ensures.quiet past in
    let there = (rw c.in-Some-2.is at c.in_ok-shown.ensures.there) later.honest later.start later.deeds later.desktop
    later.keeps (sym found.0) in
    record {
      there = there;
      is = c.in_ok-to.ensures.same ∙ (rw c.in-Some-2.is at c.in_ok-shown.ensures.comes_back) later.honest
          later.start later.deeds later.desktop later.keeps (sym found.0) there;
    }
