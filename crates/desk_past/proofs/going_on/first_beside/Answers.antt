use Rattle.std.proofs.Common.{◌≡◌, ◌+◌, ◌∙◌, arith, false, true, subst, sym}
use Rattle.std.proofs.lemmas.Bool.{false≢true}
use Rattle.past_pages.specs.Parts.{IsPartBeside, GoesOnIn, part_base}
use Rattle.past_pages.specs.declared.parts.TheConstants.{PART_SECTORS}
use Rattle.desk_past.proofs.Apart.{at_place, second_beside, two_parts}
use Rattle.desk_past.proofs.going_on.first_beside.Goals as goal

pub part_base-first-requires : goal.part_base-first-requires
part_base-first-requires c = let two = two_parts c.args.sectors c.requires in omega (arith, two)

pub part_base-requires : goal.part_base-requires
part_base-requires c = two_parts c.args.sectors c.requires

pub returns-then-goes_on_in : goal.returns-then-goes_on_in
returns-then-goes_on_in c = subst (IsPartBeside c.args.sectors c.args.next) (sym c.part_base.ensures.value)
    (second_beside c.args.sectors c.args.next c.requires
    (subst (λ n. GoesOnIn n (n + PART_SECTORS) c.args.next) c.part_base-first.ensures.value
    (c.goes_on_in.ensures.0 c.if-goes_on_in.true)))

pub returns-else-goes_on_in : goal.returns-else-goes_on_in
returns-else-goes_on_in c = record {
  part = c.part_base-first.ensures.is;
  beside = λ goes. false≢true (sym c.if-goes_on_in.false ∙ c.goes_on_in.ensures.1 goes);
}
