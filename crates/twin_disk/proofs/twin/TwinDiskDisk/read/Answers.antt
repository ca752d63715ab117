use Rattle.std.proofs.Common.{◌<◌, ◌+◌, [], refl, sym, subst, arith}
use Rattle.sector_disk.specs.Trail.{Nowhere}
use Rattle.twin_disk.specs.Bounded.{within}
use Rattle.twin_disk.proofs.Seen.{calls_seen, read_seen}
use Rattle.twin_disk.proofs.Steps.{honest_on, honest_before, agrees_still}
use Rattle.twin_disk.proofs.Flagged.{flagged_after}
use Rattle.twin_disk.proofs.Opened.{calls_opened, stays_held, stays_open}
use Rattle.twin_disk.proofs.Followed.{read_followed}
use Rattle.twin_disk.proofs.Chosen.{append_nil, goes_nowhere, goes_on, where_left}
use Rattle.twin_disk.proofs.Calls.{gone, read_told, read_touches}
use Rattle.twin_disk.proofs.twin.TwinDiskDisk.read.Goals as goal

pub returns-clause-kept : goal.returns-clause-kept
returns-clause-kept g c =
    let was = c.args.self.now in
    let a = within was.beside.sector g.A.Disk in
    let b = within was.beside.sector g.B.Disk in
    let reads = read_seen g.A.Disk g.B.Disk was.beside.sector c.args.n c.read-done.new.buffer c.read-done.result was.legs
    c.read-done.new.self c.requires c.read-done.ensures in
    record {
      as_large = refl;
      still = honest_on a b reads.moves;
      already = honest_before a b reads.moves;
      moments = read_touches a b was.start.items was.calls.items was.legs was.lost c.if-self.false was.agree c.args.n
          c.read-done.new.buffer c.read-done.result c.read-done.new.self reads;
    }

pub returns-clause-bytes : goal.returns-clause-bytes
returns-clause-bytes g c =
    let was = c.args.self.now in
    let a = within was.beside.sector g.A.Disk in
    let b = within was.beside.sector g.B.Disk in
    let reads = read_seen g.A.Disk g.B.Disk was.beside.sector c.args.n c.read-done.new.buffer c.read-done.result was.legs
    c.read-done.new.self c.requires c.read-done.ensures in
    read_told a b was.start.items was.calls.items was.legs was.lost c.if-self.false was.agree c.args.n
    c.read-done.new.buffer c.read-done.result c.told.result c.read-done.new.self c.told.ensures.same reads

pub invariant_of-self-2 : goal.invariant_of-self-2
invariant_of-self-2 g c =
    let was = c.args.self.now in
    let at = was.beside.sector in
    let a = within at g.A.Disk in
    let b = within at g.B.Disk in
    let calls = c.read-done.ensures.calls in
    let moves = calls_seen g.A.Disk g.B.Disk at Nowhere c.read-done.result was.legs c.read-done.new.self calls in
    let followed = read_followed a b was.start.items was.calls.items was.legs was.lost c.if-self.false was.agree
    was.first_followed was.second_followed c.read-done.new.self moves in
    let opened = calls_opened g.A.Disk g.B.Disk at was.closed c.read-done.result was.legs c.read-done.new.self calls in
    record {
      first_size = subst (λ n. at + 1 < n) (sym calls.first.as_large) was.first_size;
      second_size = subst (λ n. at + 1 < n) (sym calls.second.as_large) was.second_size;
      agree = λ h. let before = honest_before a b moves h in
          agrees_still a b moves before c.if-self.false (was.agree before) c.told.new.lost;
      flagged = λ h. let before = honest_before a b moves h in
          flagged_after g.A.Disk g.B.Disk at Nowhere (λ none. none) was.legs c.read-done.new.self was.lost c.if-self.false
          before.first before.second (was.flagged before) c.read-done.result calls c.told.new.lost
          (gone c.read-done.result _ _ _ _ c.told.ensures.counted);
      first_open = stays_open g.A.Disk at opened.first calls.first.already was.first_open;
      second_open = stays_open g.B.Disk at opened.second calls.second.already was.second_open;
      held = stays_held g.A.Disk g.B.Disk at was.closed was.closed was.legs c.read-done.new.self opened calls.first.already
          calls.second.already was.first_open was.second_open was.held;
      first_followed = λ h. (followed h).first;
      second_followed = λ h. (followed h).second;
    }

pub returns-then-self-clause-goes_on : goal.returns-then-self-clause-goes_on
returns-then-self-clause-goes_on g c = goes_nowhere g.A.Disk g.B.Disk c.args.self.now _ refl refl (λ lost. lost) refl refl refl
    (λ h. record { later = omega arith; kept = λ t le. refl })

pub returns-clause-goes_on : goal.returns-clause-goes_on
returns-clause-goes_on g c =
    let was = c.args.self.now in
    let at = was.beside.sector in
    let calls = c.read-done.ensures.calls in
    let reads = read_seen g.A.Disk g.B.Disk at c.args.n c.read-done.new.buffer c.read-done.result was.legs
    c.read-done.new.self c.requires c.read-done.ensures in
    goes_on g.A.Disk g.B.Disk was _ Nowhere [] (λ none. none) (sym (append_nil was.calls.items)) refl refl
    (λ h. let run = read_touches (within at g.A.Disk) (within at g.B.Disk) was.start.items was.calls.items was.legs was.lost
    c.if-self.false was.agree c.args.n c.read-done.new.buffer c.read-done.result c.read-done.new.self reads h in
    record { later = run.later; kept = run.kept }) c.if-self.false calls.first calls.second calls.one
    calls.fewer (λ is left. where_left c.read-done.result c.told.new.lost
    (gone c.read-done.result _ _ _ _ c.told.ensures.counted) left calls.none is)
    (calls_opened g.A.Disk g.B.Disk at was.closed c.read-done.result was.legs c.read-done.new.self calls)
