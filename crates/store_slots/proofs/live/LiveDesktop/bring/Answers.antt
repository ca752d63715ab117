use Rattle.std.proofs.Common.{◌∙◌, ◌/◌, ap, sym}
use Rattle.sector_disk.specs.declared.disk.TheConstants.{SECTOR_BYTES}
use Rattle.sector_disk.specs.Trail.{Content, now}
use Rattle.sector_disk.proofs.Touching.{still_all}
use Rattle.store_layout.specs.Layout.{head}
use Rattle.store_layout.specs.Meaning.{full_sectors}
use Rattle.store_slots.specs.Live.{live_characters, seen_live}
use Rattle.store_slots.proofs.Brought.{lines_left}
use Rattle.store_slots.proofs.Settled.{over_all}
use Rattle.store_slots.proofs.live.LiveDesktop.bring.Goals as goal

pub returns-clause-left : goal.returns-clause-left
returns-clause-left g c = record {
  live = record {
    over = over_all c.bring_over.new.pages c.bring_over.new.desktop (now (g.D.Disk.trail c.bring_over.new.disk)).reads
        c.in_ok-bring_over.ensures.over;
    low = c.requires.on.live.low;
    based = c.bring_over.ensures.reads.base ∙ c.requires.on.live.based;
  };
  told = record {
    pages = c.bring_over.ensures.reads.told;
    lines = λ honest.
        let before = c.bring_over.ensures.reads.confined.already honest in
        let content = (now (g.D.Disk.trail c.args.disk.now)).reads in
        lines_left (seen_live content c.args.self.now) _ c.args.documents.now _ c.args.self.now.lines
        ((c.requires.on.live.over content).whole.sound (live_characters content c.args.self.now))
        (c.in_ok-bring_over.ensures.brought.done before) (c.requires.on.told.lines before);
  };
}

pub returns-clause-named : goal.returns-clause-named
returns-clause-named g c = λ slot honest named.
    let d = g.D.Disk in
    let reads = c.bring_over.ensures.reads in
    let same = still_all (d.trail c.args.disk.now) (d.trail c.bring_over.new.disk) (reads.confined.moments honest) in
    record {
      area_is = ap (λ (r : Content). (head r slot).area) same ∙ named.area_is;
      named = λ not. ap (λ (r : Content). full_sectors (head r slot).written) same ∙ named.named (reads.before not)
          ∙ ap (λ n. n / SECTOR_BYTES) (sym (reads.counted not));
    }
