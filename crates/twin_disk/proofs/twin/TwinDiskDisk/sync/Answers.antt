use Rattle.std.proofs.Common.{◌<◌, ◌+◌, inl, inr, [], ◌∷◌, if◌then◌else◌, arith, refl, ap, sym, ◌∙◌, subst}
use Rattle.sector_disk.specs.Trail.{Nowhere}
use Rattle.twin_disk.specs.Bounded.{within}
use Rattle.std.specs.declared.option.Option.TheVariants.{None}
use Rattle.sector_disk.specs.Confined.{IsConfined}
use Rattle.twin_disk.specs.Legs.{IsFewer, OrFlag}
use Rattle.twin_disk.specs.Twin.{IsFlagged, with_mark}
use Rattle.twin_disk.proofs.Seen.{sync_seen}
use Rattle.twin_disk.proofs.Flagged.{flagged_after, flagged_if}
use Rattle.twin_disk.proofs.Followed.{sync_followed}
use Rattle.twin_disk.proofs.Opened.{calls_opened, opened_as, stays_held, stays_open}
use Rattle.twin_disk.proofs.Chosen.{first_if, goes_nowhere, goes_on, left_if, second_if, synced_calls, where_left}
use Rattle.twin_disk.proofs.Calls.{gone, mark_size, sync_agrees, sync_told, sync_failed, sync_touches, sync_honest, sync_was}
use Rattle.twin_disk.proofs.twin.TwinDiskDisk.sync.Goals as goal

pub returns-clause-kept : goal.returns-clause-kept
returns-clause-kept g c =
    let was = c.args.self.now in
    let at = was.beside.sector in
    let a = within at g.A.Disk in
    let b = within at g.B.Disk in
    let mid = c.sync-done.new.self in
    let syncs = sync_seen g.A.Disk g.B.Disk at c.sync-done.result was.legs mid c.sync-done.ensures in
    record {
      as_large = refl;
      still = sync_honest a b c.sync-done.result c.is_ok.result was.legs mid c.end_sync.new.legs c.end_sync.ensures.legs syncs;
      already = sync_was a b c.sync-done.result c.is_ok.result was.legs mid c.end_sync.new.legs c.end_sync.ensures.legs syncs;
      moments = sync_touches a b was.start.items was.calls.items was.legs was.lost c.if-self.false was.agree c.is_ok.result
          mid c.end_sync.new.legs c.end_sync.new.calls.items c.end_sync.ensures.legs c.end_sync.ensures.calls
          c.sync-done.result c.is_ok.ensures.value syncs;
    }

pub returns-clause-settled : goal.returns-clause-settled
returns-clause-settled g c =
    let was = c.args.self.now in
    let at = was.beside.sector in
    let mid = c.sync-done.new.self in
    sync_told (within at g.A.Disk) (within at g.B.Disk) was.start.items was.calls.items was.legs was.lost c.if-self.false
    was.agree c.is_ok.result mid c.end_sync.new.legs c.end_sync.new.calls.items c.end_sync.ensures.legs
    c.end_sync.ensures.calls c.sync-done.result c.told.result c.is_ok.ensures.value
    (sync_seen g.A.Disk g.B.Disk at c.sync-done.result was.legs mid c.sync-done.ensures) c.told.ensures.same

pub returns-clause-unsettled : goal.returns-clause-unsettled
returns-clause-unsettled g c =
    let was = c.args.self.now in
    let at = was.beside.sector in
    let mid = c.sync-done.new.self in
    sync_failed (within at g.A.Disk) (within at g.B.Disk) was.start.items was.calls.items was.legs was.lost c.if-self.false
    was.agree c.is_ok.result mid c.end_sync.new.legs c.end_sync.new.calls.items c.end_sync.ensures.legs
    c.end_sync.ensures.calls c.sync-done.result c.told.result c.is_ok.ensures.value
    (sync_seen g.A.Disk g.B.Disk at c.sync-done.result was.legs mid c.sync-done.ensures) c.told.ensures.same

pub invariant_of-self-2 : goal.invariant_of-self-2
invariant_of-self-2 g c =
    let was = c.args.self.now in
    let at = was.beside.sector in
    let a = within at g.A.Disk in
    let b = within at g.B.Disk in
    let mid = c.sync-done.new.self in
    let calls = c.sync-done.ensures.calls in
    let syncs = sync_seen g.A.Disk g.B.Disk at c.sync-done.result was.legs mid c.sync-done.ensures in
    let followed = sync_followed a b was.start.items was.calls.items was.legs was.lost c.if-self.false was.agree
    was.first_followed was.second_followed c.is_ok.result mid c.end_sync.new.legs
    c.end_sync.new.calls.items c.end_sync.ensures.legs c.end_sync.ensures.calls syncs.moves in
    let first = ap (λ l. l.first) c.end_sync.ensures.legs ∙ first_if c.is_ok.result mid in
    let second = ap (λ l. l.second) c.end_sync.ensures.legs ∙ second_if c.is_ok.result mid in
    let back = (subst (IsConfined g.A.Disk.size g.A.Disk.honest g.A.Disk.trail (OrFlag was.legs.left at Nowhere) was.legs.first)
    (sym first) calls.first).already in
    let back' = (subst (IsConfined g.B.Disk.size g.B.Disk.honest g.B.Disk.trail (OrFlag was.legs.left at Nowhere) was.legs.second)
    (sym second) calls.second).already in
    let opened = opened_as g.A.Disk g.B.Disk at mid c.end_sync.new.legs first second
    (calls_opened g.A.Disk g.B.Disk at was.closed c.sync-done.result was.legs mid calls) in
    record {
      first_open = stays_open g.A.Disk at opened.first back was.first_open;
      second_open = stays_open g.B.Disk at opened.second back' was.second_open;
      held = stays_held g.A.Disk g.B.Disk at was.closed was.closed was.legs c.end_sync.new.legs opened back back' was.first_open
          was.second_open was.held;
      first_size = subst (λ n. at + 1 < n) (sym (ap (λ l. g.A.Disk.size l.first) c.end_sync.ensures.legs
          ∙ mark_size (λ l. g.A.Disk.size l.first) (λ l. refl) c.is_ok.result mid ∙ calls.first.as_large)) was.first_size;
      second_size = subst (λ n. at + 1 < n) (sym (ap (λ l. g.B.Disk.size l.second) c.end_sync.ensures.legs
          ∙ mark_size (λ l. g.B.Disk.size l.second) (λ l. refl) c.is_ok.result mid ∙ calls.second.as_large)) was.second_size;
      agree = sync_agrees a b was.start.items was.calls.items was.legs was.lost c.if-self.false was.agree
          c.is_ok.result mid c.end_sync.new.legs c.end_sync.new.calls.items c.end_sync.ensures.legs
          c.end_sync.ensures.calls c.sync-done.result c.is_ok.ensures.value syncs c.told.new.lost;
      flagged = λ h.
          let before = sync_was a b c.sync-done.result c.is_ok.result was.legs mid c.end_sync.new.legs
          c.end_sync.ensures.legs syncs h in
          subst (IsFlagged g.A.Disk g.B.Disk at c.told.new.lost) (sym c.end_sync.ensures.legs)
          (flagged_if g.A.Disk g.B.Disk at c.is_ok.result mid
          (flagged_after g.A.Disk g.B.Disk at Nowhere (λ none. none) was.legs mid was.lost c.if-self.false before.first
          before.second (was.flagged before) c.sync-done.result calls c.told.new.lost
          (gone c.sync-done.result _ _ _ _ c.told.ensures.counted)));
      first_followed = λ h. (followed h).first;
      second_followed = λ h. (followed h).second;
    }

pub returns-then-self-clause-goes_on : goal.returns-then-self-clause-goes_on
returns-then-self-clause-goes_on g c = goes_nowhere g.A.Disk g.B.Disk c.args.self.now _ refl refl (λ lost. lost) refl refl refl
    (λ h. record { later = omega arith; kept = λ t le. refl })

pub returns-clause-goes_on : goal.returns-clause-goes_on
returns-clause-goes_on g c =
    let was = c.args.self.now in
    let at = was.beside.sector in
    let a = g.A.Disk in
    let b = g.B.Disk in
    let mid = c.sync-done.new.self in
    let calls = c.sync-done.ensures.calls in
    let syncs = sync_seen a b at c.sync-done.result was.legs mid c.sync-done.ensures in
    let first = sym (ap (λ l. l.first) c.end_sync.ensures.legs ∙ first_if c.is_ok.result mid) in
    let second = sym (ap (λ l. l.second) c.end_sync.ensures.legs ∙ second_if c.is_ok.result mid) in
    let stays = sym (ap (λ l. l.left) c.end_sync.ensures.legs ∙ left_if c.is_ok.result mid) in
    goes_on a b was _ Nowhere (if c.is_ok.result then with_mark None mid ∷ [] else []) (λ none. none)
    (c.end_sync.ensures.calls ∙ synced_calls c.is_ok.result was.calls.items mid) refl refl
    (λ h. let run = sync_touches (within at a) (within at b) was.start.items was.calls.items was.legs was.lost
    c.if-self.false was.agree c.is_ok.result mid c.end_sync.new.legs c.end_sync.new.calls.items c.end_sync.ensures.legs
    c.end_sync.ensures.calls c.sync-done.result c.is_ok.ensures.value syncs h in
    record { later = run.later; kept = run.kept }) c.if-self.false
    (subst (IsConfined a.size a.honest a.trail (OrFlag was.legs.left at Nowhere) was.legs.first) first calls.first)
    (subst (IsConfined b.size b.honest b.trail (OrFlag was.legs.left at Nowhere) was.legs.second) second calls.second)
    (elim calls.one [
      | inl keeps ↦ inl (subst (IsConfined a.size a.honest a.trail Nowhere was.legs.first) first keeps)
      | inr keeps ↦ inr (subst (IsConfined b.size b.honest b.trail Nowhere was.legs.second) second keeps)
    ])
    (subst (IsFewer was.legs.left) stays calls.fewer)
    (λ is left. let kept = where_left c.sync-done.result c.told.new.lost
    (gone c.sync-done.result _ _ _ _ c.told.ensures.counted) left calls.none (stays ∙ is) in (
      subst (IsConfined a.size a.honest a.trail Nowhere was.legs.first) first kept.0,
      subst (IsConfined b.size b.honest b.trail Nowhere was.legs.second) second kept.1,
    ))
    (opened_as a b at mid c.end_sync.new.legs (sym first) (sym second)
    (calls_opened a b at was.closed c.sync-done.result was.legs mid calls))
