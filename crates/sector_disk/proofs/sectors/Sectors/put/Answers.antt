use Rattle.std.proofs.Common.{rules, ◌≡◌, Some, sym, ◌∙◌, ap}
use Rattle.std.specs.BTreeMap.{get, Updates}
use Rattle.std.specs.Ordering.{nat_cmp}
use Rattle.sector_disk.proofs.Keeping.{no_room_settled, overwritten, in_any_case}
use Rattle.sector_disk.proofs.sectors.Sectors.put.Goals as goal

pub returns-in_err-overwrite-in-Some-clause-refused : goal.returns-in_err-overwrite-in-Some-clause-refused
returns-in_err-overwrite-in-Some-clause-refused c =
    let was : get nat_cmp c.args.self.now.latest c.args.n ≡ Some c.in-Some.sector.now = search rules in
    let put : Updates nat_cmp c.args.self.now.latest (c.get_mut.follows.lender c.overwrite.new.sector) c.args.n
    (Some c.overwrite.new.sector) = search rules in
    in_any_case _ _ (no_room_settled c.args.self.now (record {
      alloc = c.args.self.now.alloc;
      latest = c.get_mut.follows.lender c.overwrite.new.sector;
      settled = c.overwrite.new.settled;
    }) c.args.n c.overwrite.new.sector
    (was ∙ ap (λ s. Some s) (sym c.in_err-overwrite-in-Some.ensures.left))
    c.in_err-overwrite-in-Some.ensures.refused put)

pub returns-in_ok-overwrite-in-Some-clause-written : goal.returns-in_ok-overwrite-in-Some-clause-written
returns-in_ok-overwrite-in-Some-clause-written c = λ is.
    let was : get nat_cmp c.args.self.now.latest c.args.n ≡ Some c.in-Some.sector.now = search rules in
    let put : Updates nat_cmp c.args.self.now.latest (c.get_mut.follows.lender c.overwrite.new.sector) c.args.n
    (Some c.overwrite.new.sector) = search rules in
    let done = c.in_ok-overwrite-in-Some.ensures in
    overwritten c.args.self.now (record {
      alloc = c.args.self.now.alloc;
      latest = c.get_mut.follows.lender c.overwrite.new.sector;
      settled = c.overwrite.new.settled;
    }) c.args.n c.args.bytes.now c.in-Some.sector.now c.overwrite.new.sector was put done.put done.kept done.keeps
