use Rattle.std.proofs.Common.{◌≡◌, sym, ◌∙◌, ap, subst}
use Rattle.event_bytes.specs.Spelling.{BeginsWithEvent}
use Rattle.sector_disk.specs.Trail.{now}
use Rattle.sector_disk.proofs.Touching.{still_reads}
use Rattle.store_layout.specs.Layout.{is_open, body}
use Rattle.store_slots.proofs.loaded.read_event.Goals as goal

pub returns-in-None-clause-damaged : goal.returns-in-None-clause-damaged
returns-in-None-clause-damaged g c = λ n is honest.
    let here : body c.args.slot c.args.k ≡ n = cc (c.body-at.ensures, is) in
    let second = c.is_open_at.ensures.kept.still honest in
    let same = still_reads (g.D.Disk.trail c.args.disk.now) (g.D.Disk.trail c.is_open_at.new.disk)
    (c.is_open_at.ensures.kept.moments honest) (body c.args.slot c.args.k) (λ none. none) in
    let read : c.read.new.buffer ≡ (now (g.D.Disk.trail c.args.disk.now)).reads
    (body c.args.slot c.args.k) = c.in_ok-read.ensures.bytes second
    ∙ ap (now (g.D.Disk.trail c.is_open_at.new.disk)).reads c.body-at.ensures ∙ same in (
      sym here,
      ap (λ j. is_open ((now (g.D.Disk.trail c.args.disk.now)).reads j)) (sym c.gate.ensures)
          ∙ sym (c.in_ok-is_open_at.ensures.opened honest) ∙ c.if-not-branch.false,
      λ event begins.
          let found = c.in-None.ensures.only event (subst (λ b. BeginsWithEvent b event) (sym read) begins) in
          absurd cc,
    )
