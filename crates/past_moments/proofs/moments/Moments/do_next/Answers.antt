use Rattle.std.proofs.Common.{◌-◌, ◌∙◌, ap, refl, slice_get, subst, sym}
use Rattle.std.proofs.lemmas.Result.{on_ok_weaker}
use Rattle.past_pages.proofs.StillReads.{still_both}
use Rattle.desk_past.specs.Deeds.{brought, posted}
use Rattle.past_moments.proofs.Carried.{deed_on, moment_on, moments_on}
use Rattle.past_moments.proofs.Kept.{found_both, found_then, whatever}
use Rattle.past_moments.proofs.Telling.{AreDocuments, AreEvents, IsTurned, deed_event, deed_import, deed_late, deed_words, get_some, moment_deed, turn_words}
use Rattle.past_moments.proofs.moments.Moments.do_next.Goals as goal

-- ---- the journal in use

pub returns-then-is_present-clause-shown : goal.returns-then-is_present-clause-shown
returns-then-is_present-clause-shown g c = found_then c.told_event.result (λ words fact. λ are is was.
    let d = g.D.Disk in
    let k = c.args.k in
    let place = c.args.mark.now.place in
    let one = get_some c.as_slice.result.now (k - 1 - place.k) fact.0 in
    moment_deed d k (posted one.0) c.args.mark.now.shown.desktop c.told_event.new.shown.desktop
    (deed_late d c.args.self.now.extent place k (k - 1 - place.k) one.0 are.extent is
    (c.is_present.ensures.yes c.if-is_present.true) c.requires.low refl (ap (λ l. slice_get l (k - 1 - place.k)) (sym c.as_slice.ensures.value) ∙ one.1)) was (fact.1 one.0 one.1))
    c.told_event.ensures.done

pub returns-then-is_present-clause-words : goal.returns-then-is_present-clause-words
returns-then-is_present-clause-words g c = found_both c.told_event.result (λ words done fact. λ are is was.
    let d = g.D.Disk in
    let k = c.args.k in
    let place = c.args.mark.now.place in
    let one = get_some c.as_slice.result.now (k - 1 - place.k) done.0 in
    deed_words d k (posted one.0) c.args.mark.now.shown.desktop words.items
    (deed_late d c.args.self.now.extent place k (k - 1 - place.k) one.0 are.extent is
    (c.is_present.ensures.yes c.if-is_present.true) c.requires.low refl (ap (λ l. slice_get l (k - 1 - place.k)) (sym c.as_slice.ensures.value) ∙ one.1)) was (fact one.0 one.1))
    c.told_event.ensures.done c.told_event.ensures.words

-- ---- a page of events

pub returns-in-Events-clause-shown : goal.returns-in-Events-clause-shown
returns-in-Events-clause-shown g c = found_then c.told_event-in-Events.result (λ words fact. λ are is was.
    let d = g.D.Disk in
    let k = c.args.k in
    let place = c.args.mark.now.place in
    let events = c.as_slice-in-Events.result.now in
    let so : AreEvents c.in-Some.deeds events =
    subst (λ x. AreEvents x events) (sym c.in-Events.is) (sym c.as_slice-in-Events.ensures.value) in
    let page = (rw c.in-Some.is at c.in_ok-page_at.ensures.page) are.extent is in
    let one = get_some events (k - 1 - place.k) fact.0 in
    moment_on d c.page_at.ensures.still c.requires.usable (c.shows_what_crashes_leave.ensures.quiet c.requires.usable) k
    c.told_event-in-Events.new.shown.desktop
    (moment_deed d k (posted one.0) c.args.mark.now.shown.desktop c.told_event-in-Events.new.shown.desktop
    (deed_event d place c.in-Some._next c.in-Some.deeds events k (k - 1 - place.k) one.0 so c.requires.low refl one.1 page) was (fact.1 one.0 one.1)))
    c.told_event-in-Events.ensures.done

pub returns-in-Events-clause-words : goal.returns-in-Events-clause-words
returns-in-Events-clause-words g c = found_both c.told_event-in-Events.result (λ words done fact. λ are is was.
    let d = g.D.Disk in
    let k = c.args.k in
    let place = c.args.mark.now.place in
    let events = c.as_slice-in-Events.result.now in
    let so : AreEvents c.in-Some.deeds events =
    subst (λ x. AreEvents x events) (sym c.in-Events.is) (sym c.as_slice-in-Events.ensures.value) in
    let page = (rw c.in-Some.is at c.in_ok-page_at.ensures.page) are.extent is in
    let one = get_some events (k - 1 - place.k) done.0 in
    deed_on d c.page_at.ensures.still c.requires.usable (c.shows_what_crashes_leave.ensures.quiet c.requires.usable) k
    words.items
    (deed_words d k (posted one.0) c.args.mark.now.shown.desktop words.items
    (deed_event d place c.in-Some._next c.in-Some.deeds events k (k - 1 - place.k) one.0 so c.requires.low refl one.1 page) was (fact one.0 one.1)))
    c.told_event-in-Events.ensures.done c.told_event-in-Events.ensures.words

pub returns-in-Events-clause-are : goal.returns-in-Events-clause-are
returns-in-Events-clause-are g c = whatever c.told_event-in-Events.result (λ are. moments_on g.D.Disk c.page_at.ensures.still
    c.requires.usable (c.shows_what_crashes_leave.ensures.quiet c.requires.usable) c.args.self.now are)

-- ---- an import

pub returns-in-Import-clause-shown : goal.returns-in-Import-clause-shown
returns-in-Import-clause-shown g c = found_then c.told_import.result (λ words fact. λ are is was.
    let d = g.D.Disk in
    let k = c.args.k in
    let place = c.args.mark.now.place in
    let documents = c.as_slice-in-Import.result.now in
    let so : AreDocuments c.in-Some.deeds documents =
    subst (λ x. AreDocuments x documents) (sym c.in-Import.is) (sym c.as_slice-in-Import.ensures.value) in
    let page = (rw c.in-Some.is at c.in_ok-page_at.ensures.page) are.extent is in
    moment_on d c.page_at.ensures.still c.requires.usable (c.shows_what_crashes_leave.ensures.quiet c.requires.usable) k
    c.told_import.new.shown.desktop
    (moment_deed d k (brought documents) c.args.mark.now.shown.desktop c.told_import.new.shown.desktop
    (deed_import d place c.in-Some._next documents c.in-Some.deeds k (k - 1 - place.k) so
    c.requires.low refl fact.0 page) was fact.1))
    c.told_import.ensures.done

pub returns-in-Import-clause-words : goal.returns-in-Import-clause-words
returns-in-Import-clause-words g c = found_both c.told_import.result (λ words done fact. λ are is was.
    let d = g.D.Disk in
    let k = c.args.k in
    let place = c.args.mark.now.place in
    let documents = c.as_slice-in-Import.result.now in
    let so : AreDocuments c.in-Some.deeds documents =
    subst (λ x. AreDocuments x documents) (sym c.in-Import.is) (sym c.as_slice-in-Import.ensures.value) in
    let page = (rw c.in-Some.is at c.in_ok-page_at.ensures.page) are.extent is in
    deed_on d c.page_at.ensures.still c.requires.usable (c.shows_what_crashes_leave.ensures.quiet c.requires.usable) k
    words.items
    (deed_words d k (brought documents) c.args.mark.now.shown.desktop words.items
    (deed_import d place c.in-Some._next documents c.in-Some.deeds k (k - 1 - place.k) so
    c.requires.low refl done.0 page) was fact))
    c.told_import.ensures.done c.told_import.ensures.words

pub returns-in-Import-clause-are : goal.returns-in-Import-clause-are
returns-in-Import-clause-are g c = whatever c.told_import.result (λ are. moments_on g.D.Disk c.page_at.ensures.still
    c.requires.usable (c.shows_what_crashes_leave.ensures.quiet c.requires.usable) c.args.self.now are)

-- ---- a turn

pub returns-in-FarTurn-clause-shown : goal.returns-in-FarTurn-clause-shown
returns-in-FarTurn-clause-shown g c = found_then c.come_back.result (λ words fact. λ are is was.
    fact (moments_on g.D.Disk c.page_at.ensures.still c.requires.usable
    (c.shows_what_crashes_leave.ensures.quiet c.requires.usable) c.args.self.now are)) c.come_back.ensures.shown

pub returns-in-FarTurn-clause-words : goal.returns-in-FarTurn-clause-words
returns-in-FarTurn-clause-words g c = found_both c.come_back.result (λ words first line. λ are is was.
    let d = g.D.Disk in
    let k = c.args.k in
    let place = c.args.mark.now.place in
    let turns : IsTurned c.in-Some.deeds = subst IsTurned (sym c.in-FarTurn.is) tt in
    let page = (rw c.in-Some.is at c.in_ok-page_at.ensures.page) are.extent is in
    deed_on d (still_both d c.page_at.ensures.still c.come_back.ensures.still) c.requires.usable
    (c.shows_what_crashes_leave.ensures.quiet c.requires.usable) k words.items
    (turn_words d place c.in-Some._next c.in-Some.deeds k (k - 1 - place.k) words.items turns
    c.requires.low refl first page line)) c.come_back.ensures.first c.come_back.ensures.words

pub returns-in-FarTurn-clause-are : goal.returns-in-FarTurn-clause-are
returns-in-FarTurn-clause-are g c = on_ok_weaker c.come_back.result (λ fact are. fact (moments_on g.D.Disk
    c.page_at.ensures.still c.requires.usable (c.shows_what_crashes_leave.ensures.quiet c.requires.usable)
    c.args.self.now are)) c.come_back.ensures.are

pub returns-in-FarTurn-clause-still : goal.returns-in-FarTurn-clause-still
returns-in-FarTurn-clause-still g c = still_both g.D.Disk c.page_at.ensures.still c.come_back.ensures.still

pub returns-clause-shown : goal.returns-clause-shown
returns-clause-shown g c = found_then c.come_back-in-Turn.result (λ words fact. λ are is was.
    fact (moments_on g.D.Disk c.page_at.ensures.still c.requires.usable
    (c.shows_what_crashes_leave.ensures.quiet c.requires.usable) c.args.self.now are)) c.come_back-in-Turn.ensures.shown

pub returns-clause-words : goal.returns-clause-words
returns-clause-words g c = found_both c.come_back-in-Turn.result (λ words first line. λ are is was.
    let d = g.D.Disk in
    let k = c.args.k in
    let place = c.args.mark.now.place in
    let turns : IsTurned c.in-Some.deeds = subst IsTurned (sym c.in-Turn.is) tt in
    let page = (rw c.in-Some.is at c.in_ok-page_at.ensures.page) are.extent is in
    deed_on d (still_both d c.page_at.ensures.still c.come_back-in-Turn.ensures.still) c.requires.usable
    (c.shows_what_crashes_leave.ensures.quiet c.requires.usable) k words.items
    (turn_words d place c.in-Some._next c.in-Some.deeds k (k - 1 - place.k) words.items turns
    c.requires.low refl first page line)) c.come_back-in-Turn.ensures.first c.come_back-in-Turn.ensures.words

pub returns-clause-are : goal.returns-clause-are
returns-clause-are g c = on_ok_weaker c.come_back-in-Turn.result (λ fact are. fact (moments_on g.D.Disk
    c.page_at.ensures.still c.requires.usable (c.shows_what_crashes_leave.ensures.quiet c.requires.usable)
    c.args.self.now are)) c.come_back-in-Turn.ensures.are

pub returns-clause-still : goal.returns-clause-still
returns-clause-still g c = still_both g.D.Disk c.page_at.ensures.still c.come_back-in-Turn.ensures.still

-- ---- a mark

pub returns-in-Mark-clause-are : goal.returns-in-Mark-clause-are
returns-in-Mark-clause-are g c = λ are. moments_on g.D.Disk c.page_at.ensures.still
    c.requires.usable (c.shows_what_crashes_leave.ensures.quiet c.requires.usable) c.args.self.now are

-- ---- no page

pub returns-in-None-clause-are : goal.returns-in-None-clause-are
returns-in-None-clause-are g c = λ are. moments_on g.D.Disk c.page_at.ensures.still
    c.requires.usable (c.shows_what_crashes_leave.ensures.quiet c.requires.usable) c.args.self.now are
