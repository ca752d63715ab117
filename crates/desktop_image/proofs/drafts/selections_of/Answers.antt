use Rattle.std.proofs.Common.{◌≡◌, ◌∙◌, ◌+◌, ◌++◌, sym, ap, arith, List, length, min}
use Rattle.std.specs.Option.{option_to_list}
use Rattle.std.specs.List.{filter_map, range_with_len}
use Rattle.desktop_definitions.specs.declared.viewer.Selection.{Selection}
use Rattle.desktop_image.specs.Images.{most_ranks, selected_as, selections_of}
use Rattle.desktop_image.proofs.DraftLemmas.{range_gives}
use Rattle.desktop_image.proofs.drafts.selections_of.Goals as goal

pub loop-at-preserved : goal.loop-at-preserved
loop-at-preserved c =
    let ps = c.args.pictures.now in
    let at = c.loop-at.at in
    let here : at + 1 ≡ 1 + at = omega arith in
    record {
      items = c.in_ok-add_ranked.ensures.items
          ∙ ap (λ (l : List Selection). l ++ option_to_list (selected_as ps (at + 1))) c.loop-at.invariant.items
          ∙ ap (λ n. filter_map (selected_as ps) (range_with_len 1 at) ++ option_to_list (selected_as ps n)) here
          ∙ sym (range_gives (selected_as ps) 1 at);
      few = (let grown = c.in_ok-add_ranked.ensures.few in let before = c.loop-at.invariant.few in
          omega (arith, grown, before));
    }

pub returns-clause-items : goal.returns-clause-items
unfolding selections_of
returns-clause-items c =
    let end = c.loop-at.auto.at-end in
    let past = c.loop-at-test.false in
    let all : c.loop-at.at ≡ min (length c.args.pictures.now) most_ranks = omega (arith, end, past) in
    c.loop-at.invariant.items ∙ ap (λ n. filter_map (selected_as c.args.pictures.now) (range_with_len 1 n)) all
