use Rattle.std.proofs.Common.{◌≡◌, ◌∷◌, ◌++◌, sym, ◌∙◌, ap, append-nil}
use Rattle.std.specs.BTreeMap.{keys}
use Rattle.std.specs.List.{filter}
use Rattle.std.specs.Ordering.{nat_cmp, eq_by_cmp}
use Rattle.std.specs.Set.{is_member}
use Rattle.std.specs.Map.Iter.{deref}
use Rattle.std.proofs.lemmas.Map.Iter.{rest_more}
use Rattle.sector_disk.specs.Sectors.{moment_of}
use Rattle.sector_disk.proofs.PendingLists.{looked_at, rising, which}
use Rattle.sector_disk.proofs.sectors.Sectors.pending_sectors.Goals as goal

pub loop-n-init : goal.loop-n-init
loop-n-init c =
    ap (λ l. l ++ filter (moment_of c.args.self.now).pending c.into_iter-n-iterator.result) c.new-found.ensures.items
    ∙ ap (filter (moment_of c.args.self.now).pending)
    (c.into_iter-n-iterator.ensures.into_iter_gives ∙ c.keys-n-items.ensures.rest)

pub loop-n-preserved : goal.loop-n-preserved
loop-n-preserved c =
    let rest : c.loop-n.n-iterator ≡ c.in-Some.n.now ∷ c.next.new.self =
    rest_more deref _ _ _ _ c.in-Some.is c.next.ensures.steps in
    ap (λ l. l ++ filter (moment_of c.args.self.now).pending c.next.new.self) c.in_ok-note_if.ensures
    ∙ looked_at (moment_of c.args.self.now).pending c.loop-n.found.items c.next.new.self _ c.in-Some.n.now
    c.is_pending.result c.is_pending.ensures
    (ap (λ l. c.loop-n.found.items ++ filter (moment_of c.args.self.now).pending l) (sym rest) ∙ c.loop-n.invariant)

pub returns-clause-rising : goal.returns-clause-rising
returns-clause-rising c =
    let found = c.loop-n.found.items in
    let all : found ≡ filter (moment_of c.args.self.now).pending (keys c.args.self.now.latest) =
    sym (append-nil found)
    ∙ ap (λ l. found ++ filter (moment_of c.args.self.now).pending l) (sym c.in-None.ensures.steps.0)
    ∙ c.loop-n.invariant in
    rising c.args.self.now found all c.keys-n-items.ensures.ordered

pub returns-clause-which : goal.returns-clause-which
returns-clause-which c =
    let found = c.loop-n.found.items in
    let all : found ≡ filter (moment_of c.args.self.now).pending (keys c.args.self.now.latest) =
    sym (append-nil found)
    ∙ ap (λ l. found ++ filter (moment_of c.args.self.now).pending l) (sym c.in-None.ensures.steps.0)
    ∙ c.loop-n.invariant in
    which c.args.self.now found all
    (λ q. c.keys-n-items.ensures.has q ∙ ap (λ l. is_member (eq_by_cmp nat_cmp) l q) c.keys-n-items.ensures.rest)
