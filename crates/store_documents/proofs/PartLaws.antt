-- Sectors by the parts in which they stand.
use Rattle.std.proofs.Common.{refl, arith}
use Rattle.std.proofs.lemmas.Bool.Decides.{nat_tests}
use Rattle.store_documents.specs.Examining.{ArePartsOfLayout}

pub parts : ArePartsOfLayout
parts = record {
  label = refl;
  gates = λ slot less. grind (arith, nat_tests);
  heads = λ slot less. grind (arith, nat_tests);
  journals = λ slot k less few. (grind (arith, nat_tests), grind (arith, nat_tests));
  images = λ slot k less few. grind (arith, nat_tests);
  areas = λ area k less few. grind (arith, nat_tests);
}
