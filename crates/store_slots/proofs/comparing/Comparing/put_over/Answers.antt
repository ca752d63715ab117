use Rattle.std.proofs.Common.{rules, ◌∙◌, ◌++◌, [], ◌∷◌, subst, sym, ap, arith, take, append_assoc}
use Rattle.std.specs.Prelude.{get_or}
use Rattle.std.proofs.lemmas.List.{append-nil, take_all, take_more}
use Rattle.sector_disk.specs.Trail.{now}
use Rattle.sector_disk.proofs.Confinement.{joined}
use Rattle.store_slots.specs.Comparing.{HasAgreed}
use Rattle.store_slots.proofs.comparing.Comparing.put_over.Goals as goal

pub take-requires : goal.take-requires
take-requires g c = λ i low.
    let l = c.loop-i.invariant in
    let was = c.requires i (omega (arith, low, l.extent)) in
    omega (arith, was, l.from, l.kept.as_large)

pub loop-i-init : goal.loop-i-init
loop-i-init g c = record {
  kept = search rules;
  calm = search rules;
  from = search rules;
  extent = search rules;
  agreed = λ honest before was. subst (HasAgreed (now (g.D.Disk.trail c.args.disk.now)).reads c.args.self.now)
      (sym (append-nil before)) was;
}

pub loop-i-preserved : goal.loop-i-preserved
loop-i-preserved g c =
    let l = c.loop-i.invariant in
    let t = c.take.ensures in
    record {
      kept = joined g.D.Disk.size g.D.Disk.honest g.D.Disk.trail l.kept t.kept;
      calm = search rules;
      from = t.from ∙ l.from;
      extent = t.extent ∙ l.extent;
      agreed = λ honest before was.
          let bytes = c.args.bytes.now in
          let i = c.loop-i.i in
          subst (HasAgreed (now (g.D.Disk.trail c.take.new.disk)).reads c.take.new.self)
          (append_assoc before (take i bytes) (get_or bytes i 0 ∷ [])
          ∙ ap (λ l. before ++ l) (sym (take_more bytes i 0 (omega (arith, c.loop-i-test.true)))))
          (c.in_ok-take.ensures.agreed (l.kept.still honest) (before ++ take i bytes) (l.agreed honest before was));
    }

pub returns-clause-agreed : goal.returns-clause-agreed
returns-clause-agreed g c = λ honest before was.
    let l = c.loop-i in
    subst (λ bytes. HasAgreed (now (g.D.Disk.trail l.disk)).reads l.self (before ++ bytes))
    (take_all l.i c.args.bytes.now (omega (arith, c.loop-i-test.false))) (l.invariant.agreed honest before was)
