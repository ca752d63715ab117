use Rattle.std.proofs.Common.{◌≡◌, ◌<◌, ◌+◌, ◌⊎◌, [], ◌∷◌, OnOk, refl, ◌∙◌, ap, sym, subst, arith}
use Rattle.std.specs.declared.option.Option.TheVariants.{Some}
use Rattle.twin_disk.specs.Bounded.{within}
use Rattle.sector_disk.specs.Confined.{IsConfined}
use Rattle.twin_disk.specs.Legs.{IsFewer, OrFlag}
use Rattle.twin_disk.specs.Marks.{OrMark}
use Rattle.twin_disk.specs.Twin.{IsFlagged, with_mark}
use Rattle.twin_disk.proofs.Seen.{write_seen}
use Rattle.twin_disk.proofs.Flagged.{flagged_after, flagged_marked}
use Rattle.twin_disk.proofs.Followed.{write_followed}
use Rattle.twin_disk.proofs.Opened.{no_flag_written, opened_from, stays_held, stays_open}
use Rattle.twin_disk.proofs.Chosen.{goes_nowhere, goes_on, where_left}
use Rattle.twin_disk.proofs.Calls.{write_told, write_touches, write_agrees, write_honest, write_was, gone}
use Rattle.twin_disk.proofs.twin.TwinDiskDisk.write.Goals as goal

pub invariant_of-self-2 : goal.invariant_of-self-2
invariant_of-self-2 g c =
    let was = c.args.self.now in
    let at = was.beside.sector in
    let a = within at g.A.Disk in
    let b = within at g.B.Disk in
    let legs = c.begin_write.new.legs in
    let calls = c.write-done.ensures.did.calls in
    let writes = write_seen g.A.Disk g.B.Disk at c.args.n c.args.bytes.now c.write-done.result legs c.write-done.new.self
    c.requires c.write-done.ensures.did in
    let followed = write_followed a b was.start.items was.calls.items was.legs was.lost c.if-self.false was.agree
    was.first_followed was.second_followed c.args.n c.args.bytes.now c.write-done.result legs
    c.write-done.new.self c.begin_write.new.calls.items c.begin_write.ensures.legs c.begin_write.ensures.calls
    writes in
    let lost = gone c.write-done.result _ _ _ _ c.told.ensures.counted in
    let opened = opened_from g.A.Disk g.B.Disk at (Some c.args.n) was.legs legs c.begin_write.ensures.legs
    c.write-done.ensures.marks in
    let back = subst (λ l. g.A.Disk.honest c.write-done.new.self.first → g.A.Disk.honest l.first) c.begin_write.ensures.legs
    calls.first.already in
    let back' = subst (λ l. g.B.Disk.honest c.write-done.new.self.second → g.B.Disk.honest l.second) c.begin_write.ensures.legs
    calls.second.already in
    record {
      first_open = stays_open g.A.Disk at opened.first back was.first_open;
      second_open = stays_open g.B.Disk at opened.second back' was.second_open;
      held = stays_held g.A.Disk g.B.Disk at was.closed c.write-done.new.closed was.legs c.write-done.new.self opened back back'
          was.first_open was.second_open was.held;
      first_size = subst (λ n. at + 1 < n) (sym (calls.first.as_large ∙ ap (λ l. g.A.Disk.size l.first) c.begin_write.ensures.legs))
          was.first_size;
      second_size = subst (λ n. at + 1 < n) (sym (calls.second.as_large ∙ ap (λ l. g.B.Disk.size l.second) c.begin_write.ensures.legs))
          was.second_size;
      agree = write_agrees a b was.start.items was.calls.items was.legs was.lost c.if-self.false was.agree
          c.args.n c.args.bytes.now c.write-done.result legs c.write-done.new.self
          c.begin_write.new.calls.items c.begin_write.ensures.legs c.begin_write.ensures.calls writes
          c.told.new.lost lost;
      flagged = λ h.
          let before = write_was a b c.args.n c.args.bytes.now c.write-done.result was.legs legs c.write-done.new.self
          c.begin_write.ensures.legs writes h in
          flagged_after g.A.Disk g.B.Disk at (OrMark at c.args.n) (no_flag_written at c.args.n c.requires) legs
          c.write-done.new.self was.lost c.if-self.false
          (subst (λ l. g.A.Disk.honest l.first) (sym c.begin_write.ensures.legs) before.first)
          (subst (λ l. g.B.Disk.honest l.second) (sym c.begin_write.ensures.legs) before.second)
          (subst (IsFlagged g.A.Disk g.B.Disk at was.lost) (sym c.begin_write.ensures.legs)
          (flagged_marked g.A.Disk g.B.Disk at (Some c.args.n) was.legs (was.flagged before)))
          c.write-done.result calls c.told.new.lost lost;
      first_followed = λ h. (followed h).first;
      second_followed = λ h. (followed h).second;
    }

pub returns-clause-kept : goal.returns-clause-kept
returns-clause-kept g c =
    let was = c.args.self.now in
    let at = was.beside.sector in
    let a = within at g.A.Disk in
    let b = within at g.B.Disk in
    let legs = c.begin_write.new.legs in
    let writes = write_seen g.A.Disk g.B.Disk at c.args.n c.args.bytes.now c.write-done.result legs c.write-done.new.self
    c.requires c.write-done.ensures.did in
    record {
      as_large = refl;
      still = write_honest a b c.args.n c.args.bytes.now c.write-done.result was.legs legs c.write-done.new.self
          c.begin_write.ensures.legs writes;
      already = write_was a b c.args.n c.args.bytes.now c.write-done.result was.legs legs c.write-done.new.self
          c.begin_write.ensures.legs writes;
      moments = write_touches a b was.start.items was.calls.items was.legs was.lost c.if-self.false was.agree c.args.n
          c.args.bytes.now c.write-done.result legs c.write-done.new.self c.begin_write.new.calls.items
          c.begin_write.ensures.legs c.begin_write.ensures.calls writes;
    }

pub returns-clause-written : goal.returns-clause-written
returns-clause-written g c =
    let was = c.args.self.now in
    let at = was.beside.sector in
    let legs = c.begin_write.new.legs in
    write_told (within at g.A.Disk) (within at g.B.Disk) was.start.items was.calls.items
    was.legs was.lost c.if-self.false was.agree c.args.n c.args.bytes.now
    c.write-done.result legs c.write-done.new.self c.begin_write.new.calls.items
    c.begin_write.ensures.legs c.begin_write.ensures.calls
    (write_seen g.A.Disk g.B.Disk at c.args.n c.args.bytes.now c.write-done.result legs c.write-done.new.self
    c.requires c.write-done.ensures.did) c.told.result c.told.ensures.same

pub returns-then-self-clause-goes_on : goal.returns-then-self-clause-goes_on
returns-then-self-clause-goes_on g c = goes_nowhere g.A.Disk g.B.Disk c.args.self.now _ refl refl (λ lost. lost) refl refl refl
    (λ h. record { later = omega arith; kept = λ t le. refl })

pub returns-clause-goes_on : goal.returns-clause-goes_on
returns-clause-goes_on g c =
    let was = c.args.self.now in
    let at = was.beside.sector in
    let legs = c.begin_write.new.legs in
    let new = c.write-done.new.self in
    let calls = c.write-done.ensures.did.calls in
    let area = OrMark at c.args.n in
    let writes = write_seen g.A.Disk g.B.Disk at c.args.n c.args.bytes.now c.write-done.result legs new
    c.requires c.write-done.ensures.did in
    goes_on g.A.Disk g.B.Disk was _ area (with_mark (Some c.args.n) was.legs ∷ [])
    (no_flag_written at c.args.n c.requires) c.begin_write.ensures.calls refl refl
    (λ h. let run = write_touches (within at g.A.Disk) (within at g.B.Disk) was.start.items was.calls.items was.legs was.lost
    c.if-self.false was.agree c.args.n c.args.bytes.now c.write-done.result legs new c.begin_write.new.calls.items
    c.begin_write.ensures.legs c.begin_write.ensures.calls writes h in
    record { later = run.later; kept = run.kept }) c.if-self.false
    (subst (λ l. IsConfined g.A.Disk.size g.A.Disk.honest g.A.Disk.trail (OrFlag l.left at area) l.first new.first)
    c.begin_write.ensures.legs calls.first)
    (subst (λ l. IsConfined g.B.Disk.size g.B.Disk.honest g.B.Disk.trail (OrFlag l.left at area) l.second new.second)
    c.begin_write.ensures.legs calls.second)
    (subst (λ l. IsConfined g.A.Disk.size g.A.Disk.honest g.A.Disk.trail area l.first new.first
    ⊎ IsConfined g.B.Disk.size g.B.Disk.honest g.B.Disk.trail area l.second new.second)
    c.begin_write.ensures.legs calls.one)
    (subst (λ l. IsFewer l.left new.left) c.begin_write.ensures.legs calls.fewer)
    (λ is left. where_left c.write-done.result c.told.new.lost
    (gone c.write-done.result _ _ _ _ c.told.ensures.counted) left
    (subst (λ l. OnOk c.write-done.result (new.left ≡ l.left
    → IsConfined g.A.Disk.size g.A.Disk.honest g.A.Disk.trail area l.first new.first
    × IsConfined g.B.Disk.size g.B.Disk.honest g.B.Disk.trail area l.second new.second))
    c.begin_write.ensures.legs calls.none) is)
    (opened_from g.A.Disk g.B.Disk at (Some c.args.n) was.legs legs c.begin_write.ensures.legs c.write-done.ensures.marks)
