use Rattle.std.proofs.Common.{◌∙◌, sym, rules, tests}
use Rattle.std.proofs.lemmas.Iterator.{YieldsList-from_slice}
use Rattle.std.proofs.lemmas.Iterator.Search.{all_from_yields_List}
use Rattle.std.proofs.lemmas.List.Folds.{list_all-map}
use Rattle.image_format.specs.Pictures.{entry_of_stretch}
use Rattle.desktop_image.specs.Images.{has_id}
use Rattle.desktop_image.proofs.parts.are_viewers.Goals as goal

pub returns : goal.returns
returns c =
    let viewers = c.args.viewers.now.items in
    let stretches = c.args.stretches.now in
    all_from_yields_List (λ s. has_id viewers s.viewer) _ _ c.all.result c.all.ensures.ran
    (YieldsList-from_slice stretches cc) (λ x b q k. search (rules, tests))
    ∙ sym (list_all-map (λ e. has_id viewers e.viewer) entry_of_stretch stretches)
