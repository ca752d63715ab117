use Rattle.std.proofs.Common.{◌≡◌, ◌+◌, ◌<◌, ◌≤◌, ◌∙◌, arith, false, true, refl, subst, sym}
use Rattle.std.proofs.lemmas.Bool.{false≢true}
use Rattle.sector_disk.specs.Trail.{now}
use Rattle.store_layout.specs.declared.layout.TheConstants.{STORE_SECTORS}
use Rattle.past_pages.specs.Parts.{IsPastPart}
use Rattle.past_pages.proofs.StillReads.{still_none}
use Rattle.desk_past.proofs.Apart.{part_room}
use Rattle.desk_past.proofs.Found.{at_part}
use Rattle.desk_past.proofs.going_on.can_go_on.Goals as goal

pub start_epoch-requires : goal.start_epoch-requires
start_epoch-requires g c =
    let room = part_room c.sectors.result c.in-Some.part.base c.in-Some.part.end (omega arith) c.in-Some.ensures.is in
    let end = room.room in
    record {
      usable = c.requires;
      numbered = room.numbered;
      there = omega (arith, end, c.sectors.ensures);
    }

pub returns-in_default-clause-is : goal.returns-in_default-clause-is
returns-in_default-clause-is g c = λ honest. (
  λ is. absurd (false≢true is),
  λ can. absurd (c.in_default.ensures.all can.at.base can.at.end
      (subst (λ n. IsPastPart n can.at.base can.at.end) (sym c.sectors.ensures) can.at.part) can.at.low can.at.high),
)

pub returns-in_default-clause-still : goal.returns-in_default-clause-still
returns-in_default-clause-still g c = still_none g.D.Disk c.args.store.now c.requires

pub returns-clause-is : goal.returns-clause-is
returns-clause-is g c = λ honest.
    let d = g.D.Disk in
    let size = d.size c.args.store.now.disk in
    let reads = (now (d.trail c.args.store.now.disk)).reads in
    let epoch = c.in_ok-epoch.ensures.epoch honest in (
      λ yes. let can = c.has_room.ensures.0 yes in record {
        at = record {
          base = c.in-Some.part.base;
          end = c.in-Some.part.end;
          part = subst (λ n. IsPastPart n c.in-Some.part.base c.in-Some.part.end) c.sectors.ensures
              c.in-Some.ensures.is;
          low = c.in-Some.ensures.within.0;
          high = c.in-Some.ensures.within.1;
        };
        start = subst (λ n. 0 < n) epoch can.0;
        room = can.1;
      },
      λ can.
          let found = c.in-Some.ensures.all can.at.base can.at.end
          (subst (λ n. IsPastPart n can.at.base can.at.end) (sym c.sectors.ensures) can.at.part) can.at.low
          can.at.high in
          c.has_room.ensures.1 (at_part size c.args.next c.in-Some.part.base c.in-Some.part.end c.in_ok-epoch.epoch
          reads can
          found.0 found.1 epoch),
    )
