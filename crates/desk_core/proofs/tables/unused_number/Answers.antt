use Rattle.std.proofs.Common.{ℕ, not, unwrap_or, is_some, ap, ◌∙◌, arith, rules, tests}
use Rattle.std.specs.List.{position_or_len, range_with_len}
use Rattle.std.specs.Map.{lookup}
use Rattle.std.specs.Ordering.{nat_cmp}
use Rattle.std.specs.BTreeMap.{is_at}
use Rattle.std.proofs.lemmas.Iterator.{YieldsList-from_range}
use Rattle.std.proofs.lemmas.Iterator.Search.{position_from_yields_List}
use Rattle.desk_core.proofs.GoneLemmas.{place_in_range, unused_by_number}
use Rattle.desk_core.proofs.tables.unused_number.Goals as goal

pub returns : goal.returns
returns c =
    let texts = c.args.texts.now.entries in
    let count = c.len-len.result in
    let free = λ (n : ℕ). not (is_some (lookup (is_at (nat_cmp n)) texts)) in
    let found = position_from_yields_List free _ _ c.position.result c.position.ensures.ran
    (YieldsList-from_range 0 count count (cc) (omega arith)) (λ x b q k. search (rules, tests)) in
    c.unwrap_or.ensures ∙ ap (λ o. unwrap_or o count) found ∙ place_in_range free count
    ∙ ap (λ m. position_or_len free (range_with_len 0 m)) c.len-len.ensures.len
    ∙ unused_by_number texts
