use Rattle.std.proofs.Common.{◌∙◌, sym, rules, tests}
use Rattle.std.proofs.lemmas.Iterator.{YieldsList-from_slice}
use Rattle.std.proofs.lemmas.Iterator.Search.{all_from_yields_List}
use Rattle.std.proofs.lemmas.List.Folds.{list_all-map}
use Rattle.std.specs.List.{list_all}
use Rattle.image_format.specs.Pictures.{track_of_stretches}
use Rattle.desktop_image.specs.Images.{has_id}
use Rattle.desktop_image.proofs.parts.are_known.Goals as goal

pub returns : goal.returns
returns c =
    let viewers = c.args.viewers.now.items in
    let stack = c.args.stack.now in
    all_from_yields_List (λ t. list_all (λ e. has_id viewers e.viewer) (track_of_stretches t)) _ _ c.all.result c.all.ensures.ran
    (YieldsList-from_slice stack cc) (λ x b q k. search (rules, tests))
    ∙ sym (list_all-map (list_all (λ e. has_id viewers e.viewer)) track_of_stretches stack)
