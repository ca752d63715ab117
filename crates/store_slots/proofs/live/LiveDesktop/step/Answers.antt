use Rattle.std.proofs.Common.{◌∙◌, ap, sym, subst}
use Rattle.sector_disk.specs.Trail.{now}
use Rattle.command_table.specs.Versions.{version_number}
use Rattle.desktop_definitions.specs.Desktop.{Desktop}
use Rattle.desktop_definitions.specs.Viewers.{text_of}
use Rattle.desktop_definitions.specs.Step.{Outcome}
use Rattle.screen_cells.specs.Lines.{AreLinesOf}
use Rattle.store_slots.specs.Live.{live_characters}
use Rattle.store_slots.proofs.Settled.{over_all}
use Rattle.store_slots.proofs.live.LiveDesktop.step.Goals as goal

pub returns-clause-left : goal.returns-clause-left
returns-clause-left g c = record {
  live = record {
    over = over_all c.step_over.new.pages c.step_over.new.desktop (now (g.D.Disk.trail c.step_over.new.disk)).reads
        c.in_ok-step_over.ensures.over;
    low = c.requires.on.live.low;
    based = c.step_over.ensures.reads.base ∙ c.requires.on.live.based;
  };
  told = record {
    pages = c.step_over.ensures.reads.told;
    lines = λ honest.
        let before = c.step_over.ensures.reads.confined.already honest in
        let content = (now (g.D.Disk.trail c.args.disk.now)).reads in
        subst (λ (d : Desktop). AreLinesOf (text_of d) c.step_over.new.lines)
        (sym (ap (λ (o : Outcome). o.desktop) (c.in_ok-step_over.ensures.stepped.done before)))
        (c.step_over.ensures.lines (version_number c.args.version) (live_characters content c.args.self.now)
        (c.requires.on.live.over content) (c.requires.on.told.lines before));
  };
}
