use Rattle.std.proofs.Common.{◌∙◌, ◌/◌, ap, sym, subst, inl, inr}
use Rattle.sector_disk.specs.declared.disk.TheConstants.{SECTOR_BYTES}
use Rattle.sector_disk.specs.Trail.{Content}
use Rattle.sector_disk.specs.Trail.{LeavesOnly}
use Rattle.sector_disk.proofs.Touching.{chained, still_all}
use Rattle.store_slots.specs.Beside.{StandsOneOf}
use Rattle.store_layout.specs.Layout.{head_of, slot_head}
use Rattle.store_layout.specs.Meaning.{full_sectors, and_then}
use Rattle.store_layout.specs.Kept.{IsSettled}
use Rattle.store_slots.proofs.Recording.{in_newest, read_only_at, kept_then, unrecorded, read_only, read_then, kept_after, head_stays, still_up}
use Rattle.store_slots.proofs.Staying.{shown_stays, answer_stays, live_stays, apart_record}
use Rattle.store_slots.proofs.records.record.Goals as goal
use Rattle.desktop_definitions.specs.Step.{Outcome}

pub returns-in_err-reply-clause-any_moment : goal.returns-in_err-reply-clause-any_moment
returns-in_err-reply-clause-any_moment g c = λ honest number kept.
    read_only g.D.Disk c.step.ensures.reads.confined honest kept c.args.event.now

pub returns-in_err-reply-clause-unrecorded : goal.returns-in_err-reply-clause-unrecorded
returns-in_err-reply-clause-unrecorded g c = λ refused honest number kept.
    unrecorded g.D.Disk c.step.ensures.reads.confined honest kept

pub returns-in_err-add_record-clause-any_moment : goal.returns-in_err-add_record-clause-any_moment
returns-in_err-add_record-clause-any_moment g c = λ honest number kept.
    let s = c.step.ensures.reads.confined in
    read_then g.D.Disk s honest kept c.args.event.now
    (c.add_record.ensures.any_moment (s.still honest) _ number _ (kept_then g.D.Disk s honest kept))

pub returns-clause-any_moment : goal.returns-clause-any_moment
returns-clause-any_moment g c = λ honest number kept.
    let s = c.step.ensures.reads.confined in
    read_then g.D.Disk s honest kept c.args.event.now
    (c.add_record.ensures.any_moment (s.still honest) _ number _ (kept_then g.D.Disk s honest kept))

pub returns-clause-recorded : goal.returns-clause-recorded
returns-clause-recorded g c =
    let s = c.step.ensures.reads.confined in
    let r = c.in_ok-reply.ensures in
    let apart = apart_record c.step.new.self.pages c.step.new.self.area c.args.slot c.args.k r.left.live.based
    c.requires.at.two c.requires.at.index in
    let shown = λ (honest : g.D.Disk.honest c.args.disk.now).
    shown_stays _ _ c.step.new.self (c.add_record.ensures.kept.moments (s.still honest)) apart in
    record {
      stepped = record {
        done = λ honest. answer_stays (shown honest) (r.stepped.done honest);
        unread = r.stepped.unread;
        known = r.stepped.known;
        refusal = r.stepped.refusal;
      };
      left = record {
        live = r.left.live;
        told = live_stays g.D.Disk c.step.new.self c.add_record.ensures.kept apart r.left.told;
        named = λ honest named.
            let head_now = head_stays _ _ c.args.slot c.args.k c.requires.at.two c.requires.at.index
            (c.add_record.ensures.kept.moments (s.still honest))
            ∙ ap (λ (r : Content). r (slot_head c.args.slot)) (still_all _ _ (s.moments honest)) in
            record {
              area_is = ap (λ b. (head_of b).area) head_now ∙ named.area_is ∙ sym c.step.ensures.area;
              named = λ not. ap (λ b. full_sectors (head_of b).written) head_now
                  ∙ named.named (c.step.ensures.reads.before not)
                  ∙ ap (λ n. n / SECTOR_BYTES) (sym (c.step.ensures.reads.counted not));
            };
      };
      added = λ honest number kept.
          kept_after g.D.Disk s honest kept c.args.event.now
          (shown honest ∙ ap (λ (o : Outcome). o.desktop) (r.stepped.done honest)
          ∙ ap (λ (o : Outcome). o.desktop) (in_newest _ c.args.event.now))
          (c.in_ok-add_record.ensures.added (s.still honest) _ number _ (kept_then g.D.Disk s honest kept));
      behind = λ honest x at.
          subst (λ n. IsSettled n (g.D.Disk.trail c.add_record.new.disk) (and_then x c.args.event.now)) s.as_large
          (c.in_ok-add_record.ensures.behind (s.still honest) x (still_up g.D.Disk at s honest));
    }

pub returns-in_err-reply-clause-broken : goal.returns-in_err-reply-clause-broken
returns-in_err-reply-clause-broken g c = λ fault honest number kept.
    inl (unrecorded g.D.Disk c.step.ensures.reads.confined honest kept)

pub returns-in_err-add_record-clause-broken : goal.returns-in_err-add_record-clause-broken
returns-in_err-add_record-clause-broken g c = λ fault honest number kept.
    let s = c.step.ensures.reads.confined in
    let live = c.in_ok-reply.ensures.left.live in
    inr (shown_stays _ _ c.step.new.self (c.add_record.ensures.kept.moments (s.still honest))
    (apart_record c.step.new.self.pages c.step.new.self.area c.args.slot c.args.k live.based c.requires.at.two
    c.requires.at.index)
    ∙ ap (λ (o : Outcome). o.desktop) (c.in_ok-reply.ensures.stepped.done honest)
    ∙ ap (λ (o : Outcome). o.desktop) (in_newest _ c.args.event.now))

pub returns-in_err-reply-clause-standings : goal.returns-in_err-reply-clause-standings
returns-in_err-reply-clause-standings g c = λ honest x at.
    read_only_at g.D.Disk at c.step.ensures.reads.confined honest (and_then x c.args.event.now)

pub returns-in_err-add_record-clause-standings : goal.returns-in_err-add_record-clause-standings
returns-in_err-add_record-clause-standings g c = λ honest x at.
    let s = c.step.ensures.reads.confined in
    chained (read_only_at g.D.Disk at s honest (and_then x c.args.event.now))
    (subst (λ n. LeavesOnly (g.D.Disk.trail c.step.new.disk) (g.D.Disk.trail c.add_record.new.disk)
    (StandsOneOf n x (and_then x c.args.event.now))) s.as_large
    (c.add_record.ensures.standings (s.still honest) x (still_up g.D.Disk at s honest)))

pub returns-clause-standings : goal.returns-clause-standings
returns-clause-standings g c = λ honest x at.
    let s = c.step.ensures.reads.confined in
    chained (read_only_at g.D.Disk at s honest (and_then x c.args.event.now))
    (subst (λ n. LeavesOnly (g.D.Disk.trail c.step.new.disk) (g.D.Disk.trail c.add_record.new.disk)
    (StandsOneOf n x (and_then x c.args.event.now))) s.as_large
    (c.add_record.ensures.standings (s.still honest) x (still_up g.D.Disk at s honest)))
