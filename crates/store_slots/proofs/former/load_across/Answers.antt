use Rattle.std.proofs.Common.{◌-◌, ◌∙◌, subst, sym}
use Rattle.std.proofs.lemmas.Result.{err_from_is_err_and}
use Rattle.sector_disk.specs.Trail.{now}
use Rattle.sector_disk.proofs.Touching.{still_all}
use Rattle.store_slots.specs.Beside.{HasEvents, IsEarlier, IsLoadedUpTo}
use Rattle.store_slots.proofs.Formers.{earlier_there, former_events, former_image}
use Rattle.store_slots.proofs.Staying.{apart_nowhere, live_stays}
use Rattle.store_slots.proofs.TakingBack.{events_of}
use Rattle.store_slots.proofs.former.load_across.Goals as goal

pub returns-in_err-loaded-clause-damaged : goal.returns-in_err-loaded-clause-damaged
returns-in_err-loaded-clause-damaged g c =
    let p = err_from_is_err_and c.from_residual.result c.from_residual.ensures.1 in
    λ n bad honest s at has.
    c.in_err-loaded.ensures.damaged n (cc (p.1, p.2, bad)) honest has.head_is has.former.start has.former.events
    (former_image at c.standing_law.ensures has) (former_events at c.standing_law.ensures has).journal

pub returns-in_err-events-clause-damaged : goal.returns-in_err-events-clause-damaged
returns-in_err-events-clause-damaged g c =
    let p = err_from_is_err_and c.from_residual-in_err-events.result c.from_residual-in_err-events.ensures.1 in
    λ n bad honest s at has.
    let run = c.load_of.ensures.kept in
    let same = sym (still_all _ _ (run.moments honest)) in
    c.in_err-events.ensures.damaged n (cc (p.1, p.2, bad)) (run.still honest) has.former.events s.events
    (subst (λ r. HasEvents r (1 - c.args.slot) c.args.former.events has.former.events) same
    (former_events at c.standing_law.ensures has))
    (subst (λ r. HasEvents r c.args.slot c.args.end s.events) same (events_of g.D.Disk at run honest))

pub returns-clause-left : goal.returns-clause-left
returns-clause-left g c = record {
  live = c.in_ok-loaded.ensures.left.live;
  told = live_stays g.D.Disk c.in_ok-loaded.loaded.desktop c.read_across.ensures.kept
      (apart_nowhere c.in_ok-loaded.loaded.desktop.pages) c.in_ok-loaded.ensures.left.told;
}

pub returns-clause-shown : goal.returns-clause-shown
returns-clause-shown g c = λ honest s at has.
    let d = g.D.Disk in
    let run = c.load_of.ensures.kept in
    let more = c.read_across.ensures.kept in
    let h = c.args.former.head in
    let live = c.in_ok-loaded.loaded.desktop in
    let one = still_all (d.trail c.args.disk.now) (d.trail c.load_of.new.disk) (run.moments honest) in
    let two = still_all (d.trail c.load_of.new.disk) (d.trail c.read_across.new.disk) (more.moments (run.still honest)) in
    let loaded = subst (λ r. IsLoadedUpTo (now (d.trail c.args.disk.now)).reads (1 - c.args.slot) h.version c.args.k
    c.in_ok-loaded.loaded.events r live) one (c.in_ok-loaded.ensures.shown honest has.head_is) in
    let others = c.in_ok-events.ensures.others (run.still honest) has.former.events s.events
    (subst (λ r. HasEvents r (1 - c.args.slot) c.args.former.events has.former.events) (sym one)
    (former_events at c.standing_law.ensures has))
    (subst (λ r. HasEvents r c.args.slot c.args.end s.events) (sym one) (events_of d at run honest)) in
    subst (λ r. IsEarlier r (1 - c.args.slot) h.epoch c.args.k s live c.in_ok-events.events.items) (sym (two ∙ one))
    (earlier_there at c.standing_law.ensures has c.at_most_one_begins.ensures c.one_desktop.ensures
    c.requires.more.some live loaded
    others)
