use Rattle.std.proofs.Common.{◌≡◌, ◌++◌, ◌∙◌, ap, sym}
use Rattle.std.specs.Prelude.{Err}
use Rattle.std.proofs.lemmas.Result.{err_from_is_err_and}
use Rattle.past_pages.proofs.Failing.{none_failed}
use Rattle.past_pages.proofs.StillReads.{still_both, still_left, still_shows}
use Rattle.desk_past.specs.Deeds.{after_deeds, all_posted}
use Rattle.desk_past.specs.Past.{all_deeds}
use Rattle.desk_past.proofs.TurnedBack.{past_behind}
use Rattle.told_pasts.specs.Words.{told_lines}
use Rattle.told_pasts.proofs.Lines.{lines_both}
use Rattle.told_pasts.proofs.Stops.{stops_first, stops_later, stops_none}
use Rattle.told_pasts.proofs.telling.tell_all.Goals as goal

pub returns-in_err-add_pages-clause-stops : goal.returns-in_err-add_pages-clause-stops
returns-in_err-add_pages-clause-stops g c =
    let p = err_from_is_err_and c.from_residual.result c.from_residual.ensures.1 in
    let failed : c.add_pages.result ≡ Err p.0 = cc (p.2, c.in_err-add_pages.was) in
    stops_first g.D.Disk c.add_pages.ensures.stops (λ known. (known.0, known.1)) failed p.1

pub returns-in_err-turn_if_due-clause-stops : goal.returns-in_err-turn_if_due-clause-stops
returns-in_err-turn_if_due-clause-stops g c =
    let p = err_from_is_err_and c.from_residual-in_err-turn_if_due.result
    c.from_residual-in_err-turn_if_due.ensures.1 in
    let failed : c.turn_if_due.result ≡ Err p.0 = cc (p.2, c.in_err-turn_if_due.was) in
    let one = c.in_ok-add_pages.ensures.still in
    stops_later g.D.Disk one.usable (none_failed c.in_ok-add_pages.ensures.stops.faults) c.turn_if_due.ensures.stops
    (λ known. let h = known.0 in record {
      past = past_behind g.D.Disk one c.shows_what_crashes_leave.ensures.quiet h.past;
      at = sym h.numbers.base;
      here = after_deeds h.past.start.desktop (all_deeds h.past.keeps.remembers.pages);
      shows = (c.in_ok-add_pages.ensures.told h known.1).shows;
    }) failed p.1

pub returns-in_err-add_journal-clause-stops : goal.returns-in_err-add_journal-clause-stops
returns-in_err-add_journal-clause-stops g c =
    let p = err_from_is_err_and c.from_residual-in_err-add_journal.result
    c.from_residual-in_err-add_journal.ensures.1 in
    let failed : c.add_journal.result ≡ Err p.0 = cc (p.2, c.in_err-add_journal.was) in
    let two = still_both g.D.Disk c.in_ok-add_pages.ensures.still c.in_ok-turn_if_due.ensures.still in
    stops_later g.D.Disk two.usable
    (none_failed c.in_ok-turn_if_due.ensures.stops.faults ∙ none_failed c.in_ok-add_pages.ensures.stops.faults)
    c.add_journal.ensures.stops (λ known. (two.left.disk.device.still known.0.past.honest, two.usable)) failed p.1

pub returns-clause-told : goal.returns-clause-told
returns-clause-told g c = λ h is.
    let d = g.D.Disk in
    let r = h.past.keeps.remembers in
    let one = c.in_ok-add_pages.ensures.still in
    let two = still_both d one c.in_ok-turn_if_due.ensures.still in
    let quiet = c.shows_what_crashes_leave.ensures.quiet in
    let pages = c.in_ok-add_pages.ensures.told h is in
    let shown = c.in_ok-turn_if_due.ensures.shown (record {
      past = past_behind d one quiet h.past;
      at = sym h.numbers.base;
      here = after_deeds h.past.start.desktop (all_deeds r.pages);
      shows = pages.shows;
    }) in
    let journal = c.in_ok-add_journal.ensures.told (two.left.disk.device.still h.past.honest) r.standing
    (still_shows d two (quiet h.past.keeps.usable h.past.honest) h.past.honest r.standing r.past.stands)
    h.numbers.journal in
    journal.lines tt
    ∙ (λ i. pages.lines i ++ told_lines (shown i) (all_posted r.standing.events))
    ∙ ap (λ l. (l ++ told_lines h.past.start.desktop (all_deeds r.pages))
    ++ told_lines (after_deeds h.past.start.desktop (all_deeds r.pages)) (all_posted r.standing.events))
    c.new-lines.ensures.items
    ∙ sym (lines_both h.past.start.desktop (all_deeds r.pages) (all_posted r.standing.events))
    ∙ ap (told_lines h.past.start.desktop) r.all

pub returns-clause-still : goal.returns-clause-still
returns-clause-still g c = still_left g.D.Disk
    (still_both g.D.Disk c.in_ok-add_pages.ensures.still c.in_ok-turn_if_due.ensures.still) c.add_journal.ensures.left
    c.add_journal.ensures.usable

pub returns-clause-stops : goal.returns-clause-stops
returns-clause-stops g c = stops_none g.D.Disk
    (none_failed c.in_ok-add_journal.ensures.stops.faults ∙ none_failed c.in_ok-turn_if_due.ensures.stops.faults
    ∙ none_failed c.in_ok-add_pages.ensures.stops.faults)
