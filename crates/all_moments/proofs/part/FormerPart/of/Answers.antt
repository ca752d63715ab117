use Rattle.std.proofs.Common.{◌≡◌, false, refl, rules}
use Rattle.std.proofs.lemmas.Result.{IfOk-at_ok}
use Rattle.sector_disk.specs.contracts.memory.MemoryDiskDisk.TheImpl.{ghosts as in_memory}
use Rattle.former_stores.proofs.Kept.{whole_on}
use Rattle.all_moments.proofs.part.FormerPart.of.Goals as goal

pub returns : goal.returns
returns c =
    let usable : c.args.former.must_reopen ≡ false = search rules in
    let found = IfOk-at_ok _ c.in_ok-moments.ensures c.of.ensures.are in record {
      is = record {
        keeps = λ start deeds desktop whole.
            whole_on in_memory c.of.ensures.still tt (c.shows_what_crashes_leave.ensures.quiet usable tt) whole;
        moments = (rw c.in-Some.is at found);
        base = refl;
        first = refl;
        last = refl;
        order = (c.reaches.ensures c.if-not-reaches.false).1;
      };
    }
