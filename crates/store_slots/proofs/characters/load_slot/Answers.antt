use Rattle.std.proofs.Common.{drop, subst}
use Rattle.sector_disk.specs.Trail.{now}
use Rattle.sector_disk.specs.Stored.{stored}
use Rattle.image_format.specs.Image.{Spells}
use Rattle.store_layout.specs.Layout.{image_at}
use Rattle.store_layout.specs.Meaning.{left_over}
use Rattle.sector_disk.proofs.Touching.{still_all}
use Rattle.store_slots.proofs.Starting.{shown_by}
use Rattle.store_slots.proofs.characters.load_slot.Goals as goal

pub returns-in_ok-with_pages-in-Ok-clause-left : goal.returns-in_ok-with_pages-in-Ok-clause-left
returns-in_ok-with_pages-in-Ok-clause-left g c =
    let p = c.in_ok-with_pages-in-Ok.ensures in
    record {
      live = p.live;
      told = record {
        pages = λ honest. p.empty.told _;
        lines = λ honest. p.empty.lines _;
      };
    }

pub returns-in_ok-with_pages-in-Ok-clause-image : goal.returns-in_ok-with_pages-in-Ok-clause-image
returns-in_ok-with_pages-in-Ok-clause-image g c = λ honest is.
    let s = c.in-Ok.ensures.start in
    let p = c.in_ok-with_pages-in-Ok.ensures in
    let content = (now (g.D.Disk.trail c.args.disk.now)).reads in
    let h = c.args.head.now in
    shown_by content _ c.args.slot h
    (still_all _ _ (c.load_start.ensures.kept.moments honest)) is _ c.in-Ok.desktop
    c.in_ok-with_pages-in-Ok.field-0 p.desktop (p.characters content)
    (s.front honest) (s.enough honest)
    (subst (λ n. Spells n h.written (drop (left_over h.written) (stored content (image_at c.args.slot) h.extent))
    c.in-Ok.desktop) c.requires.head.version (s.spelled honest))
