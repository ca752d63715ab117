use Rattle.std.proofs.Common.{◌∙◌, ◌+◌, ◌-◌, Ok, ap, sym, subst, refl, arith, rules, false}
use Rattle.sector_disk.specs.Trail.{now, LeavesOnly}
use Rattle.command_table.specs.Versions.{version_number}
use Rattle.desktop_definitions.specs.Step.{outcome_of}
use Rattle.document_filing.specs.Bringing.{brought_in, BringsUnread}
use Rattle.store_layout.specs.declared.layout.TheConstants.{LAYOUT}
use Rattle.store_layout.specs.Meaning.{MeansEither, Stands}
use Rattle.store_slots.specs.Live.{seen_live}
use Rattle.store_slots.proofs.Settling.{kept_shows}
use Rattle.desk_journal.specs.Behind.{ComesWith, LeavesNextWith, StandsWith, brought_from}
use Rattle.desk_journal.specs.Bringing.{AreBrought}
use Rattle.desk_journal.specs.View.{StoreView}
use Rattle.desk_journal.proofs.Storing.{goes_by}
use Rattle.desk_journal.proofs.Brought.{stays_shown, none_yet, refused_knows, refused_shown, all_or_none, brought_kept}
use Rattle.desk_journal.proofs.Brought.{brought_desktop, stands_beside}
use Rattle.desk_journal.proofs.Aside.{brought_former, brought_shows}
use Rattle.desk_journal.proofs.Coming.{brought_with, looked_with, still_with}
use Rattle.desk_journal.proofs.store.Store.bring_behind.Goals as goal

pub returns-then-self-2-clause-any_moment : goal.returns-then-self-2-clause-any_moment
returns-then-self-2-clause-any_moment g c = λ usable honest.
    let s = c.self.inside in
    let d = g.D.Disk in
    let documents = c.args.documents.now in
    subst (λ old. d.honest old.disk → LeavesOnly (d.trail old.disk) (d.trail old.disk)
    (MeansEither (d.size old.disk) old.desktop (brought_in old.desktop documents).desktop)) c.self.view_is
    (λ first. stays_shown d s.slot (version_number s.version) s.epoch s.events s.disk s.desktop
    (c.self.invariant c.if-self.false) _ first) honest

pub returns-in_err-reply-clause-any_moment : goal.returns-in_err-reply-clause-any_moment
returns-in_err-reply-clause-any_moment g c = λ usable honest.
    let s = c.self.inside in
    let d = g.D.Disk in
    let documents = c.args.documents.now in
    subst (λ old. d.honest old.disk → LeavesOnly (d.trail old.disk) (d.trail c.bring.new.disk)
    (MeansEither (d.size old.disk) old.desktop (brought_in old.desktop documents).desktop)) c.self.view_is
    (λ first. none_yet d s.slot (version_number s.version) s.epoch s.events s.disk c.bring.new.disk s.desktop
    c.bring.new.self (c.self.invariant c.if-self.false) c.bring.ensures.disk c.bring.ensures.named _ first) honest

pub returns-in-No-clause-any_moment : goal.returns-in-No-clause-any_moment
returns-in-No-clause-any_moment g c = λ usable honest.
    let s = c.self.inside in
    let d = g.D.Disk in
    let documents = c.args.documents.now in
    subst (λ old. d.honest old.disk → LeavesOnly (d.trail old.disk) (d.trail c.bring.new.disk)
    (MeansEither (d.size old.disk) old.desktop (brought_in old.desktop documents).desktop)) c.self.view_is
    (λ first. none_yet d s.slot (version_number s.version) s.epoch s.events s.disk c.bring.new.disk s.desktop
    c.bring.new.self (c.self.invariant c.if-self.false) c.bring.ensures.disk c.bring.ensures.named _ first) honest

pub invariant_of-self-in-No : goal.invariant_of-self-in-No
invariant_of-self-in-No g c = λ _.
    let s = c.self.inside in
    let r = c.in_ok-reply.ensures in
    refused_knows g.D.Disk s.slot (version_number s.version) s.epoch s.events s.disk c.bring.new.disk s.desktop
    c.bring.new.self (c.self.invariant c.if-self.false) c.bring.ensures.disk c.bring.ensures.named r.left.live r.left.told
    (λ honest. refused_shown c.args.documents.now c.in-No.is (r.brought.done honest))

pub returns-in-No-clause-ok : goal.returns-in-No-clause-ok
returns-in-No-clause-ok g c =
    let s = c.self.inside in
    let d = g.D.Disk in
    let r = c.in_ok-reply.ensures in
    let disk = c.bring.new.disk in
    let live = seen_live (now (d.trail disk)).reads c.bring.new.self in
    let store : StoreView g.row.D.Denot = record {
      disk = disk;
      desktop = live;
      kept = c.bring.new.self.desktop;
      layout = version_number s.version;
      epoch = s.epoch;
      events = s.events;
      must_reopen = false;
    } in
    let knows = refused_knows d s.slot (version_number s.version) s.epoch s.events s.disk disk s.desktop
    c.bring.new.self (c.self.invariant c.if-self.false) c.bring.ensures.disk c.bring.ensures.named r.left.live r.left.told
    (λ honest. refused_shown c.args.documents.now c.in-No.is (r.brought.done honest)) in
    subst (λ old. AreBrought d c.args.documents.now c.in_ok-reply.reply old store) c.self.view_is (record {
      brought = r.brought;
      durable = λ honest. kept_shows (d.size disk) (d.trail disk) s.slot (version_number s.version) s.epoch s.events
          live (knows.5 honest).0;
      usable = refl;
      done = λ is. absurd (cc (sym c.in-No.is ∙ is));
      refusal = λ code is. record {
        desktop = λ honest. refused_shown c.args.documents.now is (r.brought.done honest);
        kept = r.brought.refusal code is;
        layout = refl;
        epoch = refl;
        events = refl;
        unwritten = search rules;
      };
    })

pub returns-in_err-renew_behind-clause-any_moment : goal.returns-in_err-renew_behind-clause-any_moment
returns-in_err-renew_behind-clause-any_moment g c = λ usable honest.
    let s = c.self.inside in
    let d = g.D.Disk in
    let documents = c.args.documents.now in
    let was = c.self.invariant c.if-self.false in
    let r = c.in_ok-reply.ensures in
    subst (λ old. d.honest old.disk → LeavesOnly (d.trail old.disk) (d.trail c.renew_behind.new.disk)
    (MeansEither (d.size old.disk) old.desktop (brought_in old.desktop documents).desktop)) c.self.view_is
    (λ first. all_or_none d s.slot (version_number s.version) s.epoch s.events s.disk c.bring.new.disk s.desktop
    c.bring.new.self was c.bring.ensures.disk c.bring.ensures.named _ r.left.live (omega (arith, was.0)) refl
    (goes_by c.next_area.ensures.area c.saved.ensures) c.renew_behind.new.disk _ c.renew_behind.ensures.any_moment.shown first
    (brought_desktop _ documents (r.brought.done first))) honest

pub returns-clause-any_moment : goal.returns-clause-any_moment
returns-clause-any_moment g c = λ usable honest.
    let s = c.self.inside in
    let d = g.D.Disk in
    let documents = c.args.documents.now in
    let was = c.self.invariant c.if-self.false in
    let r = c.in_ok-reply.ensures in
    subst (λ old. d.honest old.disk → LeavesOnly (d.trail old.disk) (d.trail c.renew_behind.new.disk)
    (MeansEither (d.size old.disk) old.desktop (brought_in old.desktop documents).desktop)) c.self.view_is
    (λ first. all_or_none d s.slot (version_number s.version) s.epoch s.events s.disk c.bring.new.disk s.desktop
    c.bring.new.self was c.bring.ensures.disk c.bring.ensures.named _ r.left.live (omega (arith, was.0)) refl
    (goes_by c.next_area.ensures.area c.saved.ensures) c.renew_behind.new.disk _ c.renew_behind.ensures.any_moment.shown first
    (brought_desktop _ documents (r.brought.done first))) honest

pub invariant_of-self-2 : goal.invariant_of-self-2
invariant_of-self-2 g c = λ _.
    let s = c.self.inside in
    let d = g.D.Disk in
    let was = c.self.invariant c.if-self.false in
    let b = c.in_ok-reply.ensures in
    let r = c.in_ok-renew_behind.ensures in (
      omega (arith, was.0),
      omega arith,
      omega (arith, was.2, r.device.device.as_large, c.bring.ensures.disk.as_large),
      r.left.live,
      r.left.told b.left.told,
      λ honest. (
        brought_kept d s.slot (version_number s.version) s.epoch s.events s.disk c.bring.new.disk s.desktop
            c.bring.new.self was c.bring.ensures.disk c.bring.ensures.named _ b.left.live (omega (arith, was.0)) refl
            (goes_by c.next_area.ensures.area c.saved.ensures) c.renew_behind.new.disk _ r.device.device r.renewed.shown honest,
        r.left.named (r.device.device.already honest),
      ),
    )

pub returns-clause-ok : goal.returns-clause-ok
returns-clause-ok g c =
    let s = c.self.inside in
    let d = g.D.Disk in
    let was = c.self.invariant c.if-self.false in
    let b = c.in_ok-reply.ensures in
    let r = c.in_ok-renew_behind.ensures in
    let run = c.bring.ensures.disk in
    let after = c.renew_behind.new in
    let live = seen_live (now (d.trail after.disk)).reads after.desktop in
    let store : StoreView g.row.D.Denot = record {
      disk = after.disk;
      desktop = live;
      kept = after.desktop.desktop;
      layout = LAYOUT;
      epoch = s.epoch + 1;
      events = 0;
      must_reopen = false;
    } in
    subst (λ old. AreBrought d c.args.documents.now c.in_ok-reply.reply old store) c.self.view_is (record {
      brought = record {
        done = λ honest. ap (λ x. outcome_of x c.in_ok-reply.reply) (r.left.shown (run.still honest))
            ∙ b.brought.done honest;
        unread = subst (λ x. BringsUnread s.desktop.desktop x c.args.documents.now c.in_ok-reply.reply) (sym r.kept)
            b.brought.unread;
        known = b.brought.known;
        refusal = λ code is. absurd (c.in_default.not-No code is);
      };
      durable = λ honest.
          kept_shows (d.size after.disk) (d.trail after.disk) (1 - s.slot) LAYOUT (s.epoch + 1) 0 live
          (brought_kept d s.slot (version_number s.version) s.epoch s.events s.disk c.bring.new.disk s.desktop
          c.bring.new.self was run c.bring.ensures.named _ b.left.live (omega (arith, was.0)) refl
          (goes_by c.next_area.ensures.area c.saved.ensures) after.disk _ r.device.device r.renewed.shown honest);
      usable = refl;
      done = λ is. record { layout = refl; epoch = refl; events = refl };
      refusal = λ code is. absurd (c.in_default.not-No code is);
    })

pub returns-then-self-2-clause-comes : goal.returns-then-self-2-clause-comes
returns-then-self-2-clause-comes g c =
    let next = brought_from c.args.past c.args.documents.now in record {
      moments = subst (λ old. LeavesNextWith g.D.Disk next c.args.from c.args.bytes.now old old) c.self.view_is
          (λ usable honest x at. still_with g.D.Disk (c.self.invariant c.if-self.false) honest x at c.args.from
          c.args.bytes.now (next x));
      done = tt;
    }

pub returns-in_err-reply-clause-comes : goal.returns-in_err-reply-clause-comes
returns-in_err-reply-clause-comes g c =
    let d = g.D.Disk in
    let was = c.self.invariant c.if-self.false in
    let next = brought_from c.args.past c.args.documents.now in record {
      moments = λ usable honest x at.
          subst (λ old. d.honest old.disk → Stands (d.size old.disk) (now (d.trail old.disk)).reads x
          → LeavesOnly (d.trail old.disk) (d.trail c.bring.new.disk)
          (StandsWith (d.size old.disk) x (next x) c.args.from c.args.bytes.now)) c.self.view_is
          (λ first stands. looked_with d c.standing_law.ensures was first x stands c.bring.ensures.disk c.args.from
          c.args.bytes.now (next x)) honest at;
      done = search rules;
    }

pub returns-in-No-clause-comes : goal.returns-in-No-clause-comes
returns-in-No-clause-comes g c =
    let d = g.D.Disk in
    let was = c.self.invariant c.if-self.false in
    let next = brought_from c.args.past c.args.documents.now in record {
      moments = λ usable honest x at.
          subst (λ old. d.honest old.disk → Stands (d.size old.disk) (now (d.trail old.disk)).reads x
          → LeavesOnly (d.trail old.disk) (d.trail c.bring.new.disk)
          (StandsWith (d.size old.disk) x (next x) c.args.from c.args.bytes.now)) c.self.view_is
          (λ first stands. looked_with d c.standing_law.ensures was first x stands c.bring.ensures.disk c.args.from
          c.args.bytes.now (next x)) honest at;
      done = λ is. absurd (cc (sym c.in-No.is ∙ is));
    }

pub returns-in_err-renew_behind-clause-comes : goal.returns-in_err-renew_behind-clause-comes
returns-in_err-renew_behind-clause-comes g c =
    let s = c.self.inside in
    let d = g.D.Disk in
    let documents = c.args.documents.now in
    let was = c.self.invariant c.if-self.false in
    let run = c.bring.ensures.disk in
    let r = c.in_ok-reply.ensures in
    let next = brought_from c.args.past documents in record {
      moments = λ usable honest x at.
          subst (λ old. d.honest old.disk → Stands (d.size old.disk) (now (d.trail old.disk)).reads x
          → LeavesOnly (d.trail old.disk) (d.trail c.renew_behind.new.disk)
          (StandsWith (d.size old.disk) x (next x) c.args.from c.args.bytes.now)) c.self.view_is
          (λ first stands. brought_with d c.standing_law.ensures was first x stands run c.args.from c.args.bytes.now
          c.bring.new.self documents (brought_desktop _ documents (r.brought.done first)) _
          (stands_beside d s.slot (version_number s.version) s.epoch s.events s.disk c.bring.new.disk s.desktop
          c.bring.new.self was run c.bring.ensures.named _ r.left.live (omega (arith, was.0)) refl
          (goes_by c.next_area.ensures.area c.saved.ensures) first) refl c.renew_behind.ensures.any_moment.standings)
          honest at;
      done = search rules;
    }

pub returns-clause-comes : goal.returns-clause-comes
returns-clause-comes g c =
    let s = c.self.inside in
    let d = g.D.Disk in
    let documents = c.args.documents.now in
    let was = c.self.invariant c.if-self.false in
    let law = c.standing_law.ensures in
    let run = c.bring.ensures.disk in
    let r = c.in_ok-reply.ensures in
    let next = brought_from c.args.past documents in
    let after = c.renew_behind.new in
    let renewed = c.in_ok-renew_behind.ensures in
    let store : StoreView g.row.D.Denot = record {
      disk = after.disk;
      desktop = seen_live (now (d.trail after.disk)).reads after.desktop;
      kept = after.desktop.desktop;
      layout = LAYOUT;
      epoch = s.epoch + 1;
      events = 0;
      must_reopen = false;
    } in
    let beside_it = λ (first : d.honest s.disk).
    stands_beside d s.slot (version_number s.version) s.epoch s.events s.disk c.bring.new.disk s.desktop
    c.bring.new.self was run c.bring.ensures.named _ r.left.live (omega (arith, was.0)) refl
    (goes_by c.next_area.ensures.area c.saved.ensures) first in
    subst (λ old. ComesWith d next c.args.from c.args.bytes.now (Ok c.in_ok-reply.reply) old store) c.self.view_is (record {
      moments = λ usable first x stands.
          brought_with d law was first x stands run c.args.from c.args.bytes.now c.bring.new.self documents
          (brought_desktop _ documents (r.brought.done first)) _ (beside_it first) refl
          c.renew_behind.ensures.any_moment.standings;
      done = λ is. record {
        shows = λ first x stands. subst (λ n. Stands n (now (d.trail after.disk)).reads (next x))
            (sym renewed.device.device.as_large)
            (brought_shows d law was first x stands run c.bring.new.self documents
            (brought_desktop _ documents (r.brought.done first)) _ (beside_it first) refl renewed.renewed.stands);
        former = λ first x stands.
            brought_former d law was first x stands run c.bring.new.self documents
            (brought_desktop _ documents (r.brought.done first)) _ (beside_it first) refl renewed.renewed.beside;
        held = λ first. renewed.held (run.still first);
      };
    })
