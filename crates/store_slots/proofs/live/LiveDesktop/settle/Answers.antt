use Rattle.std.proofs.Common.{rules, ◌≡◌, ◌-◌, ◌*◌, ◌/◌, length, drop, ap, sym, ◌∙◌, arith}
use Rattle.std.proofs.lemmas.List.{length-drop}
use Rattle.sector_disk.specs.declared.disk.TheConstants.{SECTOR_BYTES}
use Rattle.store_layout.specs.Layout.{area_start}
use Rattle.store_layout.specs.Meaning.{full_sectors}
use Rattle.store_slots.proofs.Settled.{IsCounted, counted, still_over, settled_same}
use Rattle.store_slots.proofs.live.LiveDesktop.settle.Goals as goal

pub settle-requires-clause-place : goal.settle-requires-clause-place
settle-requires-clause-place c = λ some.
    c.area_start.ensures ∙ ap (λ k. area_start k) (c.requires.place some) ∙ sym c.requires.live.based

pub settle-requires-clause-more : goal.settle-requires-clause-more
settle-requires-clause-more c =
    let p = c.args.self.now.pages in
    let n : IsCounted p c.args.self.now.desktop c.written.result =
    counted p c.args.self.now.desktop c.written.result c.requires.live.over c.written.ensures in
    (omega (arith, n.long, p.whole), omega (arith, n.long))

pub returns-clause-live : goal.returns-clause-live
returns-clause-live c =
    let p = c.args.self.now.pages in
    let q = c.settle.new.self in
    let n : IsCounted p c.args.self.now.desktop c.written.result =
    counted p c.args.self.now.desktop c.written.result c.requires.live.over c.written.ensures in
    let left : length q.rest.items ≡ length p.rest.items - (c.written.result / 1024 * 1024 - p.saved) =
    ap length c.settle.ensures.rest ∙ length-drop (c.written.result / 1024 * 1024 - p.saved) p.rest.items in
    record {
      over = still_over p q c.args.self.now.desktop c.requires.live.over
          (omega (arith, left, n.long, p.whole, c.settle.ensures.saved));
      low = c.requires.low;
      based = c.settle.ensures.base ∙ c.area_start.ensures;
    }

pub returns-clause-saved : goal.returns-clause-saved
returns-clause-saved c =
    let n : IsCounted c.args.self.now.pages c.args.self.now.desktop c.written.result =
    counted c.args.self.now.pages c.args.self.now.desktop c.written.result c.requires.live.over c.written.ensures in
    record {
      area = search rules;
      renewed = search rules;
      counted = omega (arith, n.written, c.settle.ensures.saved);
    }

pub returns-clause-same : goal.returns-clause-same
returns-clause-same c = λ content front.
    let p = c.args.self.now.pages in
    let q = c.settle.new.self in
    let n : IsCounted p c.args.self.now.desktop c.written.result =
    counted p c.args.self.now.desktop c.written.result c.requires.live.over c.written.ensures in
    let full : q.saved ≡ SECTOR_BYTES * full_sectors c.args.self.now.desktop.written =
    omega (arith, n.written, c.settle.ensures.saved) in
    let rest : q.rest.items ≡ drop (q.saved - p.saved) p.rest.items =
    c.settle.ensures.rest ∙ ap (λ k. drop (k - p.saved) p.rest.items) (sym c.settle.ensures.saved) in
    settled_same content p q c.args.area (full_sectors c.args.self.now.desktop.written)
    (λ some. c.requires.live.based ∙ ap (λ k. area_start k) (sym (c.requires.place some)))
    (c.settle.ensures.base ∙ c.area_start.ensures)
    full rest (omega (arith, n.long, p.whole, c.settle.ensures.saved)) front
