use Rattle.std.proofs.Common.{◌+◌, ◌++◌, drop, ◌∙◌, ap, arith}
use Rattle.char_pages.specs.Occurrences.{occurrences_from}
use Rattle.char_pages.proofs.Occurring.{byte_passed, all_passed}
use Rattle.char_pages.proofs.occurrences.occurrences_in.Goals as goal

pub loop-at-preserved : goal.loop-at-preserved
loop-at-preserved c = record {
  so_far = ap (λ l. l ++ occurrences_from c.args.wanted (c.loop-at.at + 1) (drop (c.loop-at.at + 1) c.args.sector.now))
      c.in_ok-note_if.ensures
      ∙ byte_passed c.args.wanted c.loop-at.at c.args.sector.now c.loop-at.found.items
      (let less = c.loop-at-test.true in let long = c.told-sector in omega (arith, less, long))
      ∙ c.loop-at.invariant.so_far;
}

pub returns : goal.returns
returns c = record {
  whole = c.told-sector;
  all = all_passed c.args.wanted c.loop-at.at c.args.sector.now c.loop-at.found.items
      (let past = c.loop-at-test.false in let long = c.told-sector in omega (arith, past, long))
      c.loop-at.invariant.so_far;
}
