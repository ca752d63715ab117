use Rattle.std.proofs.Common.{◌≡◌, ◌+◌, ◌==◌, ◌∙◌, length, count_by, slice_range, sym, ap, arith}
use Rattle.std.proofs.lemmas.Bool.Decides.{nat_tests}
use Rattle.char_pages.specs.Occurrences.{is_between}
use Rattle.char_pages.proofs.Occurring.{counted_part, none_among}
use Rattle.char_pages.proofs.occurrences.Occurrences.count.Goals as goal

pub count_between-requires : goal.count_between-requires
count_between-requires c = let few = c.in_ok-indices.ensures.few.all in omega (arith, few)

pub returns-then-is_empty-clause-count : goal.returns-then-is_empty-clause-count
returns-then-is_empty-clause-count c = λ content base found.
    let part = c.args.part in
    let are = c.in_ok-indices.ensures.found content base found in
    let none : length c.in_ok-indices.indices.now ≡ 0 =
    grind (arith, nat_tests, c.is_empty.ensures, c.if-is_empty.true) in
    record {
      whole = are.whole;
      exact = none_among (is_between part.at (part.at + part.few)) c.in_ok-indices.indices.now none
          ∙ counted_part part.at part.few are
          ∙ ap (λ w. count_by (λ b. b == w) (slice_range (content (base + c.args.n)) part.at (part.at + part.few)))
          (sym c.if-part-self.false);
    }

pub returns-clause-count : goal.returns-clause-count
returns-clause-count c = λ content base found.
    let part = c.args.part in
    let are = c.in_ok-indices.ensures.found content base found in
    record {
      whole = are.whole;
      exact = c.count_between.ensures ∙ counted_part part.at part.few are
          ∙ ap (λ w. count_by (λ b. b == w) (slice_range (content (base + c.args.n)) part.at (part.at + part.few)))
          (sym c.if-part-self.false);
    }

pub returns-clause-most : goal.returns-clause-most
returns-clause-most c =
    let part = c.args.part in
    let most = c.in_ok-indices.ensures.few.part part.at part.few part.within in
    let is = c.count_between.ensures in omega (arith, most, is)
