use Rattle.std.proofs.Common.{◌≡◌, ◌∙◌, ◌+◌, ◌-◌, ap, sym, subst, refl, arith, rules, false}
use Rattle.sector_disk.specs.Trail.{now, LeavesOnly}
use Rattle.command_table.specs.Versions.{version_number}
use Rattle.desktop_definitions.specs.Step.{outcome_of}
use Rattle.document_filing.specs.Bringing.{brought_in, BringsUnread}
use Rattle.store_layout.specs.declared.layout.TheConstants.{LAYOUT}
use Rattle.desktop_definitions.specs.declared.reply.Reply.TheVariants.{Done}
use Rattle.store_layout.specs.Meaning.{MeansEither, Stands}
use Rattle.store_slots.specs.Beside.{StandsOneOf}
use Rattle.store_slots.specs.Live.{seen_live}
use Rattle.store_slots.proofs.Settling.{kept_shows}
use Rattle.desk_journal.specs.Behind.{GoesToNext, LeavesNext, brought_from}
use Rattle.desk_journal.specs.Bringing.{AreBrought}
use Rattle.desk_journal.specs.View.{StoreView}
use Rattle.desk_journal.proofs.Storing.{goes_by}
use Rattle.desk_journal.proofs.Brought.{stays_shown, none_yet, refused_knows, refused_shown, all_or_none, brought_kept}
use Rattle.desk_journal.proofs.Brought.{brought_desktop, stands_beside}
use Rattle.desk_journal.proofs.Aside.{brought_former, brought_shows, brought_standings, looked_standings, still_stands}
use Rattle.desk_journal.proofs.store.Store.bring_with.Goals as goal

pub returns-then-self-2-clause-any_moment : goal.returns-then-self-2-clause-any_moment
returns-then-self-2-clause-any_moment g c = λ usable honest.
    let s = c.self.inside in
    let d = g.D.Disk in
    let documents = c.args.documents.now in
    subst (λ old. d.honest old.disk → LeavesOnly (d.trail old.disk) (d.trail old.disk)
    (MeansEither (d.size old.disk) old.desktop (brought_in old.desktop documents).desktop)) c.self.view_is
    (λ first. stays_shown d s.slot (version_number s.version) s.epoch s.events s.disk s.desktop
    (c.self.invariant c.if-self.false) _ first) honest

pub returns-in_err-reply-clause-any_moment : goal.returns-in_err-reply-clause-any_moment
returns-in_err-reply-clause-any_moment g c = λ usable honest.
    let s = c.self.inside in
    let d = g.D.Disk in
    let documents = c.args.documents.now in
    subst (λ old. d.honest old.disk → LeavesOnly (d.trail old.disk) (d.trail c.bring.new.disk)
    (MeansEither (d.size old.disk) old.desktop (brought_in old.desktop documents).desktop)) c.self.view_is
    (λ first. none_yet d s.slot (version_number s.version) s.epoch s.events s.disk c.bring.new.disk s.desktop
    c.bring.new.self (c.self.invariant c.if-self.false) c.bring.ensures.disk c.bring.ensures.named _ first) honest

pub returns-in-No-clause-any_moment : goal.returns-in-No-clause-any_moment
returns-in-No-clause-any_moment g c = λ usable honest.
    let s = c.self.inside in
    let d = g.D.Disk in
    let documents = c.args.documents.now in
    subst (λ old. d.honest old.disk → LeavesOnly (d.trail old.disk) (d.trail c.bring.new.disk)
    (MeansEither (d.size old.disk) old.desktop (brought_in old.desktop documents).desktop)) c.self.view_is
    (λ first. none_yet d s.slot (version_number s.version) s.epoch s.events s.disk c.bring.new.disk s.desktop
    c.bring.new.self (c.self.invariant c.if-self.false) c.bring.ensures.disk c.bring.ensures.named _ first) honest

pub invariant_of-self-in-No : goal.invariant_of-self-in-No
invariant_of-self-in-No g c = λ _.
    let s = c.self.inside in
    let r = c.in_ok-reply.ensures in
    refused_knows g.D.Disk s.slot (version_number s.version) s.epoch s.events s.disk c.bring.new.disk s.desktop
    c.bring.new.self (c.self.invariant c.if-self.false) c.bring.ensures.disk c.bring.ensures.named r.left.live r.left.told
    (λ honest. refused_shown c.args.documents.now c.in-No.is (r.brought.done honest))

pub returns-in-No-clause-ok : goal.returns-in-No-clause-ok
returns-in-No-clause-ok g c =
    let s = c.self.inside in
    let d = g.D.Disk in
    let r = c.in_ok-reply.ensures in
    let disk = c.bring.new.disk in
    let live = seen_live (now (d.trail disk)).reads c.bring.new.self in
    let store : StoreView g.row.D.Denot = record {
      disk = disk;
      desktop = live;
      kept = c.bring.new.self.desktop;
      layout = version_number s.version;
      epoch = s.epoch;
      events = s.events;
      must_reopen = false;
    } in
    let knows = refused_knows d s.slot (version_number s.version) s.epoch s.events s.disk disk s.desktop
    c.bring.new.self (c.self.invariant c.if-self.false) c.bring.ensures.disk c.bring.ensures.named r.left.live r.left.told
    (λ honest. refused_shown c.args.documents.now c.in-No.is (r.brought.done honest)) in
    subst (λ old. AreBrought d c.args.documents.now c.in_ok-reply.reply old store) c.self.view_is (record {
      brought = r.brought;
      durable = λ honest. kept_shows (d.size disk) (d.trail disk) s.slot (version_number s.version) s.epoch s.events
          live (knows.5 honest).0;
      usable = refl;
      done = λ is. absurd (cc (sym c.in-No.is ∙ is));
      refusal = λ code is. record {
        desktop = λ honest. refused_shown c.args.documents.now is (r.brought.done honest);
        kept = r.brought.refusal code is;
        layout = refl;
        epoch = refl;
        events = refl;
        unwritten = search rules;
      };
    })

pub returns-in_err-renew-clause-any_moment : goal.returns-in_err-renew-clause-any_moment
returns-in_err-renew-clause-any_moment g c = λ usable honest.
    let s = c.self.inside in
    let d = g.D.Disk in
    let documents = c.args.documents.now in
    let was = c.self.invariant c.if-self.false in
    let r = c.in_ok-reply.ensures in
    subst (λ old. d.honest old.disk → LeavesOnly (d.trail old.disk) (d.trail c.renew.new.disk)
    (MeansEither (d.size old.disk) old.desktop (brought_in old.desktop documents).desktop)) c.self.view_is
    (λ first. all_or_none d s.slot (version_number s.version) s.epoch s.events s.disk c.bring.new.disk s.desktop
    c.bring.new.self was c.bring.ensures.disk c.bring.ensures.named _ r.left.live (omega (arith, was.0)) refl
    (goes_by c.next_area.ensures.area c.saved.ensures) c.renew.new.disk _ c.renew.ensures.any_moment.shown first
    (brought_desktop _ documents (r.brought.done first))) honest

pub returns-clause-any_moment : goal.returns-clause-any_moment
returns-clause-any_moment g c = λ usable honest.
    let s = c.self.inside in
    let d = g.D.Disk in
    let documents = c.args.documents.now in
    let was = c.self.invariant c.if-self.false in
    let r = c.in_ok-reply.ensures in
    subst (λ old. d.honest old.disk → LeavesOnly (d.trail old.disk) (d.trail c.renew.new.disk)
    (MeansEither (d.size old.disk) old.desktop (brought_in old.desktop documents).desktop)) c.self.view_is
    (λ first. all_or_none d s.slot (version_number s.version) s.epoch s.events s.disk c.bring.new.disk s.desktop
    c.bring.new.self was c.bring.ensures.disk c.bring.ensures.named _ r.left.live (omega (arith, was.0)) refl
    (goes_by c.next_area.ensures.area c.saved.ensures) c.renew.new.disk _ c.renew.ensures.any_moment.shown first
    (brought_desktop _ documents (r.brought.done first))) honest

pub invariant_of-self-2 : goal.invariant_of-self-2
invariant_of-self-2 g c = λ _.
    let s = c.self.inside in
    let d = g.D.Disk in
    let was = c.self.invariant c.if-self.false in
    let b = c.in_ok-reply.ensures in
    let r = c.in_ok-renew.ensures in (
      omega (arith, was.0),
      omega arith,
      omega (arith, was.2, r.device.as_large, c.bring.ensures.disk.as_large),
      r.left.live,
      r.left.told b.left.told,
      λ honest. (
        brought_kept d s.slot (version_number s.version) s.epoch s.events s.disk c.bring.new.disk s.desktop
            c.bring.new.self was c.bring.ensures.disk c.bring.ensures.named _ b.left.live (omega (arith, was.0)) refl
            (goes_by c.next_area.ensures.area c.saved.ensures) c.renew.new.disk _ r.device r.renewed.shown honest,
        r.left.named (r.device.already honest),
      ),
    )

pub returns-clause-ok : goal.returns-clause-ok
returns-clause-ok g c =
    let s = c.self.inside in
    let d = g.D.Disk in
    let was = c.self.invariant c.if-self.false in
    let b = c.in_ok-reply.ensures in
    let r = c.in_ok-renew.ensures in
    let run = c.bring.ensures.disk in
    let after = c.renew.new in
    let live = seen_live (now (d.trail after.disk)).reads after.desktop in
    let store : StoreView g.row.D.Denot = record {
      disk = after.disk;
      desktop = live;
      kept = after.desktop.desktop;
      layout = LAYOUT;
      epoch = s.epoch + 1;
      events = 0;
      must_reopen = false;
    } in
    subst (λ old. AreBrought d c.args.documents.now c.in_ok-reply.reply old store) c.self.view_is (record {
      brought = record {
        done = λ honest. ap (λ x. outcome_of x c.in_ok-reply.reply) (r.left.shown (run.still honest))
            ∙ b.brought.done honest;
        unread = subst (λ x. BringsUnread s.desktop.desktop x c.args.documents.now c.in_ok-reply.reply) (sym r.kept)
            b.brought.unread;
        known = b.brought.known;
        refusal = λ code is. absurd (c.in_default.not-No code is);
      };
      durable = λ honest.
          kept_shows (d.size after.disk) (d.trail after.disk) (1 - s.slot) LAYOUT (s.epoch + 1) 0 live
          (brought_kept d s.slot (version_number s.version) s.epoch s.events s.disk c.bring.new.disk s.desktop
          c.bring.new.self was run c.bring.ensures.named _ b.left.live (omega (arith, was.0)) refl
          (goes_by c.next_area.ensures.area c.saved.ensures) after.disk _ r.device r.renewed.shown honest);
      usable = refl;
      done = λ is. record { layout = refl; epoch = refl; events = refl };
      refusal = λ code is. absurd (c.in_default.not-No code is);
    })

pub returns-then-self-2-clause-standings : goal.returns-then-self-2-clause-standings
returns-then-self-2-clause-standings g c =
    subst (λ old. LeavesNext g.D.Disk (brought_from c.args.past c.args.documents.now) old old) c.self.view_is
    (λ usable honest x at. still_stands g.D.Disk c.standing_law.ensures (c.self.invariant c.if-self.false) honest x at
    (brought_from c.args.past c.args.documents.now x))

pub returns-in_err-reply-clause-standings : goal.returns-in_err-reply-clause-standings
returns-in_err-reply-clause-standings g c = λ usable honest x at.
    let s = c.self.inside in
    let d = g.D.Disk in
    let was = c.self.invariant c.if-self.false in
    let law = c.standing_law.ensures in
    let run = c.bring.ensures.disk in
    let documents = c.args.documents.now in
    let past = c.args.past in
    (subst (λ old. d.honest old.disk → Stands (d.size old.disk) (now (d.trail old.disk)).reads x
    → LeavesOnly (d.trail old.disk) (d.trail c.bring.new.disk)
    (StandsOneOf (d.size old.disk) x (brought_from past documents x)))
    c.self.view_is
    (λ first stands. looked_standings d law was first x stands run (brought_from past documents x))) honest at

pub returns-in-No-clause-standings : goal.returns-in-No-clause-standings
returns-in-No-clause-standings g c = λ usable honest x at.
    let s = c.self.inside in
    let d = g.D.Disk in
    let was = c.self.invariant c.if-self.false in
    let law = c.standing_law.ensures in
    let run = c.bring.ensures.disk in
    let documents = c.args.documents.now in
    let past = c.args.past in
    (subst (λ old. d.honest old.disk → Stands (d.size old.disk) (now (d.trail old.disk)).reads x
    → LeavesOnly (d.trail old.disk) (d.trail c.bring.new.disk)
    (StandsOneOf (d.size old.disk) x (brought_from past documents x)))
    c.self.view_is
    (λ first stands. looked_standings d law was first x stands run (brought_from past documents x))) honest at

pub returns-in_err-renew-clause-standings : goal.returns-in_err-renew-clause-standings
returns-in_err-renew-clause-standings g c = λ usable honest x at.
    let s = c.self.inside in
    let d = g.D.Disk in
    let was = c.self.invariant c.if-self.false in
    let law = c.standing_law.ensures in
    let run = c.bring.ensures.disk in
    let documents = c.args.documents.now in
    let past = c.args.past in
    (subst (λ old. d.honest old.disk → Stands (d.size old.disk) (now (d.trail old.disk)).reads x
    → LeavesOnly (d.trail old.disk) (d.trail c.renew.new.disk)
    (StandsOneOf (d.size old.disk) x (brought_from past documents x)))
    c.self.view_is
    (λ first stands. let r = c.in_ok-reply.ensures in
    let b = stands_beside d s.slot (version_number s.version) s.epoch s.events s.disk c.bring.new.disk s.desktop
    c.bring.new.self was run c.bring.ensures.named _ r.left.live (omega (arith, was.0)) refl
    (goes_by c.next_area.ensures.area c.saved.ensures) first in
    brought_standings d law was first x stands run c.bring.new.self documents
    (brought_desktop _ documents (r.brought.done first)) _ b refl
    c.renew.ensures.any_moment.standings)) honest at

pub returns-clause-standings : goal.returns-clause-standings
returns-clause-standings g c = λ usable honest x at.
    let s = c.self.inside in
    let d = g.D.Disk in
    let was = c.self.invariant c.if-self.false in
    let law = c.standing_law.ensures in
    let run = c.bring.ensures.disk in
    let documents = c.args.documents.now in
    let past = c.args.past in
    (subst (λ old. d.honest old.disk → Stands (d.size old.disk) (now (d.trail old.disk)).reads x
    → LeavesOnly (d.trail old.disk) (d.trail c.renew.new.disk)
    (StandsOneOf (d.size old.disk) x (brought_from past documents x)))
    c.self.view_is
    (λ first stands. let r = c.in_ok-reply.ensures in
    let b = stands_beside d s.slot (version_number s.version) s.epoch s.events s.disk c.bring.new.disk s.desktop
    c.bring.new.self was run c.bring.ensures.named _ r.left.live (omega (arith, was.0)) refl
    (goes_by c.next_area.ensures.area c.saved.ensures) first in
    brought_standings d law was first x stands run c.bring.new.self documents
    (brought_desktop _ documents (r.brought.done first)) _ b refl
    c.renew.ensures.any_moment.standings)) honest at

pub returns-clause-next : goal.returns-clause-next
returns-clause-next g c =
    let s = c.self.inside in
    let d = g.D.Disk in
    let was = c.self.invariant c.if-self.false in
    let law = c.standing_law.ensures in
    let run = c.bring.ensures.disk in
    let documents = c.args.documents.now in
    let past = c.args.past in
    let r = c.in_ok-reply.ensures in
    let after = c.renew.new in
    let store : StoreView g.row.D.Denot = record {
      disk = after.disk;
      desktop = seen_live (now (d.trail after.disk)).reads after.desktop;
      kept = after.desktop.desktop;
      layout = LAYOUT;
      epoch = s.epoch + 1;
      events = 0;
      must_reopen = false;
    } in
    let goes = goes_by c.next_area.ensures.area c.saved.ensures in
    let beside_it = λ (first : d.honest s.disk).
    stands_beside d s.slot (version_number s.version) s.epoch s.events s.disk c.bring.new.disk s.desktop
    c.bring.new.self was run c.bring.ensures.named _ r.left.live (omega (arith, was.0)) refl goes first in
    subst (λ old. c.in_ok-reply.reply ≡ Done → GoesToNext d (brought_from past documents) old store) c.self.view_is
    (λ is. record {
      shows = λ first x stands. subst (λ n. Stands n (now (d.trail after.disk)).reads (brought_from past documents x))
          (sym c.in_ok-renew.ensures.device.as_large)
          (brought_shows d law was first x stands run c.bring.new.self documents
          (brought_desktop _ documents (r.brought.done first)) _ (beside_it first) refl c.in_ok-renew.ensures.renewed.stands);
      former = λ first x stands.
          brought_former d law was first x stands run c.bring.new.self documents
          (brought_desktop _ documents (r.brought.done first)) _ (beside_it first) refl c.in_ok-renew.ensures.renewed.beside;
    })

pub returns-in-No-clause-next : goal.returns-in-No-clause-next
returns-in-No-clause-next g c = λ is. absurd (cc (sym c.in-No.is ∙ is))
