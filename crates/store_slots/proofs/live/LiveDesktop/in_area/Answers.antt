use Rattle.std.proofs.Common.{◌∙◌, ◌+◌, ap, arith, length}
use Rattle.desktop_definitions.specs.Seen.{seen}
use Rattle.store_slots.proofs.Gathered.{paged_same, rest_kept}
use Rattle.store_slots.proofs.Settled.{still_over}
use Rattle.store_slots.proofs.live.LiveDesktop.in_area.Goals as goal

pub returns-clause-gathered : goal.returns-clause-gathered
returns-clause-gathered c =
    let was = c.requires.gathered in
    let done = c.settle.ensures in
    let p = c.args.self.pages in
    let q = c.settle.new.self in
    record {
      live = record {
        over = still_over p q c.args.self.desktop was.live.over
            (omega (arith, was.none_saved, done.saved, ap length (rest_kept p q was.none_saved done.rest)));
        low = c.requires.low;
        based = done.base ∙ c.area_start.ensures;
      };
      none_saved = done.saved;
      here = done.renewed;
      empty = record {
        told = λ content. done.read.told content (was.empty.told content);
        lines = was.empty.lines;
      };
    }

pub returns-clause-shown : goal.returns-clause-shown
returns-clause-shown c = λ content.
    let was = c.requires.gathered in
    let done = c.settle.ensures in
    let p = c.args.self.pages in
    let q = c.settle.new.self in
    ap (λ l. seen l c.args.self.desktop)
    (paged_same content p q was.none_saved done.saved (rest_kept p q was.none_saved done.rest))
